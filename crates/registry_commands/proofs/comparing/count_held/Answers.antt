use Rattle.std.proofs.Common.{◌≡◌, ◌∙◌, ◌+◌, ℕ, cond, List, ap, sym, arith, refl, Bool, true, false}
use Rattle.std.proofs.lemmas.List.{take_all}
use Rattle.std.specs.List.{count_by}
use Rattle.usbnum_core.specs.declared.number.Number.{Number}
use Rattle.registry_rules.specs.declared.record.Entry.{Entry}
use Rattle.registry_reports.proofs.CensusLemmas.{count_one_more}
use Rattle.registry_commands.specs.Checks.{is_held_entry}
use Rattle.registry_commands.proofs.CheckLemmas.{at_most_one}
use Rattle.registry_commands.proofs.comparing.count_held.Goals as goal

pub loop-pair-init : goal.loop-pair-init
loop-pair-init c = record { is = refl; small = omega arith }

pub loop-pair-preserved : goal.loop-pair-preserved
loop-pair-preserved c =
    let so_far = c.loop-pair.invariant in
    let x = c.pair-item.result in
    let one = at_most_one x.1.held in
    record {
      is = c.one_more-held.ensures ∙ ap (λ (n : ℕ). n + cond x.1.held 1 0) so_far.is ∙ sym (count_one_more is_held_entry c.args.numbers.now c.loop-pair.pair-index x (omega arith) c.pair-item.is);
      small = let is = c.one_more-held.ensures in let less = so_far.small in omega (arith, is, less, one);
    }

pub returns : goal.returns
returns c = c.loop-pair.invariant.is ∙ ap (λ (l : List (Number × Entry)). count_by is_held_entry l) (take_all c.loop-pair.pair-index c.args.numbers.now (omega arith))
