-- The commands of some example arguments, by the definition.
use Rattle.std.proofs.Common.{◌≡◌, List, [], ◌∷◌, codes, true, false, Some, None, refl}
use Rattle.std.specs.Prelude.{⊤}
use Rattle.clap.specs.Words.{Text}
use Rattle.clap.proofs.OnLiterals.{clap_on_literals}
use Rattle.registry_arguments.specs.Commands.{accepts, apply_app, asked_by, bare_app, check_app, chosen, command_of, export_app, found_app, head_app, import_app, is_verbose, lookup_app, number_in, history_app, replay_app, report_app, serve_app, share_app, trial_app, verbose_by}
use Rattle.registry_arguments.specs.declared.command.Command.TheVariants as command

-- unfolded by a proof to compute the command of literal arguments
unfoldable on_literals : ⊤
unfolding clap_on_literals bare_app trial_app found_app apply_app import_app replay_app share_app serve_app export_app report_app history_app head_app check_app lookup_app asked_by chosen number_in accepts verbose_by
on_literals = tt

abbrev usbreg : List Text → List Text
usbreg words = codes "usbreg" ∷ words

pub no_words : command_of (usbreg []) ≡ Some command.Trial
unfolding on_literals
no_words = refl

pub founds : command_of (usbreg (codes "found" ∷ codes "s" ∷ codes "f" ∷ [])) ≡ Some (command.Found (codes "s") (codes "f"))
unfolding on_literals
founds = refl

pub checks_a_founding : command_of (usbreg (codes "found" ∷ codes "s" ∷ codes "f" ∷ codes "--check" ∷ [])) ≡ Some (command.CheckFounding (codes "f"))
unfolding on_literals
checks_a_founding = refl

pub applies : command_of (usbreg (codes "apply" ∷ codes "s" ∷ codes "f" ∷ [])) ≡ Some (command.Apply (codes "s") (codes "f") 0)
unfolding on_literals
applies = refl

pub applies_from : command_of (usbreg (codes "apply" ∷ codes "s" ∷ codes "--answered" ∷ codes "12" ∷ codes "f" ∷ [])) ≡ Some (command.Apply (codes "s") (codes "f") 12)
unfolding on_literals
applies_from = refl

pub applies_over_a_log : command_of (usbreg (codes "apply" ∷ codes "s" ∷ codes "f" ∷ codes "--log" ∷ codes "u" ∷ [])) ≡ Some (command.ApplyShared (codes "s") (codes "f") 0 (codes "u"))
unfolding on_literals
applies_over_a_log = refl

pub imports : command_of (usbreg (codes "import" ∷ codes "s" ∷ codes "l" ∷ codes "--org=-o" ∷ codes "--key" ∷ codes "k" ∷ codes "--caller" ∷ codes "c" ∷ []))
    ≡ Some (command.Import (codes "s") (codes "l") (codes "c") (codes "k") (codes "-o") None)
unfolding on_literals
imports = refl

pub imports_over_a_log : command_of (usbreg (codes "import" ∷ codes "s" ∷ codes "l" ∷ codes "--org=o" ∷ codes "--key=k" ∷ codes "--caller=c" ∷ codes "--log=u" ∷ []))
    ≡ Some (command.ImportShared (codes "s") (codes "l") (codes "c") (codes "k") (codes "o") None (codes "u"))
unfolding on_literals
imports_over_a_log = refl

pub replays : command_of (usbreg (codes "replay" ∷ codes "s" ∷ codes "-" ∷ [])) ≡ Some (command.Replay (codes "s") (codes "-"))
unfolding on_literals
replays = refl

pub replays_a_path : command_of (usbreg (codes "replay" ∷ codes "s" ∷ codes "http://h:1/n" ∷ [])) ≡ Some (command.Replay (codes "s") (codes "http://h:1/n"))
unfolding on_literals
replays_a_path = refl

pub replays_a_log : command_of (usbreg (codes "replay" ∷ codes "s" ∷ codes "--log" ∷ codes "u" ∷ [])) ≡ Some (command.ReplayShared (codes "s") (codes "u"))
unfolding on_literals
replays_a_log = refl

pub replays_a_log_or_a_record : accepts (usbreg (codes "replay" ∷ codes "s" ∷ codes "r" ∷ codes "--log=u" ∷ [])) ≡ false
unfolding on_literals
replays_a_log_or_a_record = refl

pub replays_something : accepts (usbreg (codes "replay" ∷ codes "s" ∷ [])) ≡ false
unfolding on_literals
replays_something = refl

pub serves : command_of (usbreg (codes "serve" ∷ codes "s" ∷ codes "--port" ∷ codes "80" ∷ codes "--count=0" ∷ [])) ≡ Some (command.Serve (codes "s") 80 (Some 0))
unfolding on_literals
serves = refl

pub serves_over_a_log : command_of (usbreg (codes "serve" ∷ codes "s" ∷ codes "--port" ∷ codes "80" ∷ codes "--log" ∷ codes "u" ∷ [])) ≡ Some (command.ServeShared (codes "s") 80 None (codes "u"))
unfolding on_literals
serves_over_a_log = refl

pub shares : command_of (usbreg (codes "share" ∷ codes "s" ∷ codes "--log=u" ∷ [])) ≡ Some (command.Share (codes "s") (codes "u"))
unfolding on_literals
shares = refl

pub shares_into_no_log : accepts (usbreg (codes "share" ∷ codes "s" ∷ [])) ≡ false
unfolding on_literals
shares_into_no_log = refl

pub exports : command_of (usbreg (codes "export" ∷ codes "s" ∷ codes "--stamp" ∷ codes "t" ∷ [])) ≡ Some (command.Export (codes "s") (Some (codes "t")))
unfolding on_literals
exports = refl

pub reports : command_of (usbreg (codes "report" ∷ codes "s" ∷ codes "n" ∷ [])) ≡ Some (command.Report (codes "s") (codes "n"))
unfolding on_literals
reports = refl

pub records : command_of (usbreg (codes "history" ∷ codes "s" ∷ [])) ≡ Some (command.History (codes "s") None)
unfolding on_literals
records = refl

pub records_from : command_of (usbreg (codes "history" ∷ codes "--after" ∷ codes "0" ∷ codes "s" ∷ [])) ≡ Some (command.History (codes "s") (Some 0))
unfolding on_literals
records_from = refl

pub heads : command_of (usbreg (codes "head" ∷ codes "s" ∷ [])) ≡ Some (command.Head (codes "s"))
unfolding on_literals
heads = refl

pub checks : command_of (usbreg (codes "check" ∷ codes "s" ∷ [])) ≡ Some (command.Check (codes "s"))
unfolding on_literals
checks = refl

pub looks_up : command_of (usbreg (codes "lookup" ∷ codes "l" ∷ codes "1209" ∷ codes "0011" ∷ [])) ≡ Some (command.Lookup (codes "l") (codes "1209") (codes "0011"))
unfolding on_literals
looks_up = refl

pub verbose : is_verbose (usbreg (codes "serve" ∷ codes "s" ∷ codes "--verbose" ∷ codes "--port" ∷ codes "80" ∷ [])) ≡ true
unfolding on_literals
verbose = refl

pub not_verbose : is_verbose (usbreg (codes "serve" ∷ codes "s" ∷ codes "--port" ∷ codes "80" ∷ [])) ≡ false
unfolding on_literals
not_verbose = refl

pub tries_verbosely : command_of (usbreg (codes "trial" ∷ codes "--verbose" ∷ [])) ≡ Some command.Trial
unfolding on_literals
tries_verbosely = refl

pub accepted : accepts (usbreg (codes "apply" ∷ codes "s" ∷ codes "f" ∷ codes "--answered" ∷ codes "18446744073709551615" ∷ [])) ≡ true
unfolding on_literals
accepted = refl

pub too_great : accepts (usbreg (codes "apply" ∷ codes "s" ∷ codes "f" ∷ codes "--answered" ∷ codes "18446744073709551616" ∷ [])) ≡ false
unfolding on_literals
too_great = refl

pub no_number : accepts (usbreg (codes "serve" ∷ codes "s" ∷ codes "--port" ∷ codes "0" ∷ [])) ≡ false
unfolding on_literals
no_number = refl

pub no_file : accepts (usbreg (codes "apply" ∷ codes "s" ∷ [])) ≡ false
unfolding on_literals
no_file = refl

pub no_command : accepts (usbreg (codes "grant" ∷ [])) ≡ false
unfolding on_literals
no_command = refl
