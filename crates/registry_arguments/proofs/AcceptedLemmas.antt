-- The arguments are accepted if and only if they have no fault.
use Rattle.std.proofs.Common.{◌≡◌, ◌∙◌, ◌∷◌, List, [], true, ap, arith, length, refl, sym}
use Rattle.std.proofs.lemmas.Bool.{ne_eqb}
use Rattle.std.specs.Prelude.{◌↔◌}
use Rattle.clap.specs.Walk.{is_empty, nothing_held}
use Rattle.clap.specs.Simple.{argument_words, built}
use Rattle.clap.specs.Words.{Kinds, Text, fault_of}
use Rattle.clap.proofs.OnLiterals.{clap_on_literals}
use Rattle.registry_arguments.specs.Commands.{accepts, apply_app, bare_app, check_app, chosen, export_app, faults_of, found_app, head_app, import_app, lookup_app, history_app, replay_app, replay_faults, report_app, serve_app, share_app, trial_app, usbreg_app}
use Rattle.registry_arguments.proofs.ClapAcceptLemmas.{both_same, built_same, no_kind, no_kind_nil}

empty_same : (kinds : Kinds) → no_kind kinds ≡ is_empty kinds
empty_same [] = refl
empty_same (k ∷ ks) = sym (ne_eqb (length (k ∷ ks)) 0 (λ e. omega arith))

same : (words : List Text) → no_kind (faults_of words) ≡ accepts words
unfolding accepts faults_of clap_on_literals bare_app trial_app found_app apply_app import_app replay_app share_app serve_app export_app report_app history_app head_app check_app lookup_app
same words =
    both_same (fault_of usbreg_app words) (replay_faults (chosen words)) _ _
    (built_same (built usbreg_app) nothing_held (argument_words usbreg_app words) refl refl) (empty_same (replay_faults (chosen words)))

pub accepted : (words : List Text) → (accepts words ≡ true) ↔ (faults_of words ≡ [])
accepted words = (λ takes. no_kind_nil (faults_of words) (same words ∙ takes), λ none. sym (same words) ∙ ap no_kind none)
