-- One more item adds its class and its flag.
use Rattle.std.proofs.Common.{◌∙◌, ap, sym, subst, length, take, drop, [], ◌∷◌, ◌++◌, ◌+◌}
use Rattle.registry_rules.specs.Import.{AreSeen, classes_from}
use Rattle.registry_rules.specs.OnFacts.{standing_in_sets}
use Rattle.registry_rules.proofs.ItemLemmas.{classes_step, flags_step, classes_all}
use Rattle.registry_rules.proofs.importing.classes.Goals as goal

pub class_by-requires : goal.class_by-requires
class_by-requires c = ap length c.deref.ensures.value ∙ c.loop-item.invariant.0

pub mark-requires : goal.mark-requires
mark-requires c = c.loop-item.invariant.0

pub loop-item-init : goal.loop-item-init
loop-item-init c = (
  c.in_ok-seen.ensures.counted,
  c.in_ok-seen.ensures.none,
  ap (λ done. done ++ classes_from (standing_in_sets c.args.facts.now.taken.now c.args.facts.now.reserved.now c.args.vid) [] c.args.items.now) (sym c.new-classes.ensures.items),
)

pub loop-item-preserved : goal.loop-item-preserved
loop-item-preserved c =
    let standing = standing_in_sets c.args.facts.now.taken.now c.args.facts.now.reserved.now c.args.vid in
    let items = c.args.items.now in
    let i = c.loop-item.item-index in
    let item = c.item-item.result in
    let class = c.class_by.ensures (take i items) (subst (λ list. AreSeen list (take i items)) (sym c.deref.ensures.value) c.loop-item.invariant.1) in (
      c.mark.ensures.counted,
      subst (AreSeen c.mark.new.seen.items) (flags_step items i item c.loop-item-test.true c.item-item.is) (c.mark.ensures.marked (take i items) c.loop-item.invariant.1),
      classes_step standing items i item c.loop-item.classes.items (classes_from standing [] items) c.loop-item-test.true c.item-item.is c.loop-item.invariant.2
          ∙ ap (λ done. done ++ classes_from standing (take (i + 1) items) (drop (i + 1) items)) (ap (λ one. c.loop-item.classes.items ++ one ∷ []) (sym class) ∙ sym c.in_ok-push.ensures.items),
    )

pub returns : goal.returns
returns c = classes_all (standing_in_sets c.args.facts.now.taken.now c.args.facts.now.reserved.now c.args.vid) c.args.items.now c.loop-item.item-index c.loop-item.classes.items c.loop-item-test.false c.loop-item.invariant.2
