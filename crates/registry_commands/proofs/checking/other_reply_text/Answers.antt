use Rattle.std.proofs.Common.{◌∙◌, ◌++◌, List, ℕ, sym, ap, codes, string_bytes}
use Rattle.std.specs.Fmt.{decimal}
use Rattle.registry_commands.specs.Checks.{unsound_reply_text}
use Rattle.registry_commands.proofs.CheckLemmas.{four_texts}
use Rattle.registry_commands.proofs.checking.other_reply_text.Goals as goal

pub returns : goal.returns
unfolding unsound_reply_text
returns c =
    c.in_ok-format.ensures.ok ∙ (sym (four_texts (codes "unsound: request ") (decimal c.args.number) (codes ": another reply: ") (string_bytes c.in_ok-line.line))
    ∙ ap (λ (line : List ℕ). ((codes "unsound: request " ++ decimal c.args.number) ++ codes ": another reply: ") ++ line) c.in_ok-line.ensures)
