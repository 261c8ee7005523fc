use Rattle.std.proofs.Common.{◌≡◌, ◌∙◌, sym, ap, true, Some, ℕ}
use Rattle.std.specs.Prelude.{option_map}
use Rattle.std.specs.List.{list_any}
use Rattle.serde_json.specs.View.{view, items_view}
use Rattle.usbnum_core.specs.Spans.{span_has, spans_have}
use Rattle.registry_wire.specs.Record.{span_from, is_spread, all_from}
use Rattle.registry_wire.proofs.OrderedLemmas.{spans_read}
use Rattle.registry_wire.proofs.founding_reader.SpansFromJson.read.Goals as goal

pub returns-then-is_spread : goal.returns-then-is_spread
returns-then-is_spread c =
    let given = c.in-Some-2.spans.items in
    let made = c.in_ok-spans_of.field-0 in
    let items = items_view c.in-Some.array.now.items in
    let all : Some given ≡ all_from span_from items = ap (option_map (λ list. list.items)) (sym c.in-Some-2.is) ∙ (c.in_ok-spans.ensures ∙ ap (λ l. all_from span_from (items_view l)) c.deref.ensures.value) in
    let spreads : is_spread 1 given ≡ true = ap (is_spread 1) (sym c.deref-2.ensures.value) ∙ (sym c.is_spread.ensures ∙ c.if-is_spread.true) in
    let same : (n : ℕ) → spans_have made n ≡ list_any (λ span. span_has span n) given = λ n. c.in_ok-spans_of.ensures.numbers n ∙ ap (list_any (λ span. span_has span n)) c.deref-then-is_spread.ensures.value in
    spans_read (view c.args.value.now) items given made c.in-Some.ensures all spreads c.in_ok-spans_of.ensures.spread same
