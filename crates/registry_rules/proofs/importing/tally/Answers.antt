-- No count is above the number of items.
use Rattle.std.proofs.Common.{sym, subst, drop, arith}
use Rattle.std.proofs.lemmas.List.{length-drop}
use Rattle.registry_rules.specs.Import.{IsTallyWithin}
use Rattle.registry_rules.proofs.ItemLemmas.{tally_below}
use Rattle.registry_rules.specs.declared.limits.TheConstants.{MOST_ITEMS}
use Rattle.registry_rules.proofs.importing.tally.Goals as goal

pub count-tally-requires : goal.count-tally-requires
count-tally-requires c =
    subst (λ t. IsTallyWithin t MOST_ITEMS) (sym c.loop-left.invariant.1)
    (tally_below (drop c.loop-left.left c.args.classes.now) MOST_ITEMS (let few = c.requires in omega (arith, length-drop c.loop-left.left c.args.classes.now)))
