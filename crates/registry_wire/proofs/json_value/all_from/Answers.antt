use Rattle.std.proofs.Common.{◌≡◌, ◌+◌, Some, None, sym, ◌∙◌, arith, drop, ap}
use Rattle.serde_json.specs.View.{view, items_view}
use Rattle.registry_wire.specs.Record.{all_from}
use Rattle.registry_wire.proofs.ItemLemmas.{with_front}
use Rattle.registry_wire.proofs.ValueLemmas.{value_step, all_from_more, all_from_none, all_from_end}
use Rattle.registry_wire.proofs.json_value.all_from.Goals as goal

pub returns-in-None : goal.returns-in-None
returns-in-None g c =
    let kind = g.T.FromJson.kind in
    let values = c.args.values.now in
    let i = c.loop-value.value-index in
    let front = c.loop-value.list.items in
    let value = c.value-item.result in
    let read : None ≡ kind (view value) = sym c.in-None.is ∙ c.in_ok-read.ensures in
    sym (all_from_none kind front (view value) (items_view (drop (i + 1) values)) read)
    ∙ (sym (ap (λ items. with_front front (all_from kind items)) (value_step values i value c.loop-value-test.true c.value-item.is)) ∙ c.loop-value.invariant)

pub loop-value-preserved : goal.loop-value-preserved
loop-value-preserved g c =
    let kind = g.T.FromJson.kind in
    let values = c.args.values.now in
    let i = c.loop-value.value-index in
    let front = c.loop-value.list.items in
    let value = c.value-item.result in
    let read : Some c.in-Some.read ≡ kind (view value) = sym c.in-Some.is ∙ c.in_ok-read.ensures in
    rw c.in_ok-push-in-Some.ensures.items
    (sym (all_from_more kind front c.in-Some.read (view value) (items_view (drop (i + 1) values)) read)
    ∙ (sym (ap (λ items. with_front front (all_from kind items)) (value_step values i value c.loop-value-test.true c.value-item.is)) ∙ c.loop-value.invariant))

pub returns : goal.returns
returns g c = sym (all_from_end g.T.FromJson.kind c.loop-value.list.items c.args.values.now c.loop-value.value-index (omega arith)) ∙ c.loop-value.invariant
