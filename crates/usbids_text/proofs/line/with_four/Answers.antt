use Rattle.std.proofs.Common.{◌≡◌, ℕ, List, Option, sym, ap, subst, ◌∙◌}
use Rattle.std.specs.Prelude.{Result, Ok, Err, MatchResult}
use Rattle.usbids_text.specs.declared.line.Why.{Why}
use Rattle.usbids_text.specs.Words.{past_separators}
use Rattle.usbids_text.specs.Entries.{EntryLine}
use Rattle.usbids_text.specs.Lines.{entry_lines}
use Rattle.usbids_text.proofs.FourLemmas.{four_entry}
use Rattle.usbids_text.proofs.line.with_four.Goals as goal

pub returns : goal.returns
returns c =
    let same = four_entry c.args.depth c.args.bytes.now c.args.code c.past_separators.result.now c.requires (c.past_separators.ensures ∙ ap (λ (l : List ℕ). past_separators l) c.past_four.ensures) in
    subst (λ (x : Result (Option EntryLine) Why). MatchResult c.short_enough.result (λ o. x ≡ Ok (entry_lines o)) (λ e. x ≡ Err e)) (sym same) c.short_enough.ensures
