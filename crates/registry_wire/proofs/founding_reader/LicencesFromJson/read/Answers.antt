use Rattle.std.proofs.Common.{◌≡◌, ◌∙◌, sym, ap, true, Some}
use Rattle.std.specs.Prelude.{option_map}
use Rattle.serde_json.specs.View.{view, items_view}
use Rattle.registry_rules.specs.Limits.{most_licences}
use Rattle.registry_wire.specs.Reading.{title_from}
use Rattle.registry_wire.specs.Record.{is_ascending, all_from}
use Rattle.registry_wire.proofs.OrderedLemmas.{texts_read}
use Rattle.registry_wire.proofs.founding_reader.LicencesFromJson.read.Goals as goal

pub returns-then-is_ascending : goal.returns-then-is_ascending
returns-then-is_ascending c =
    let given = c.in-Some-2.titles.items in
    let items = items_view c.in-Some.array.now.items in
    let all : Some given ≡ all_from title_from items = ap (option_map (λ list. list.items)) (sym c.in-Some-2.is) ∙ (c.in_ok-titles.ensures ∙ ap (λ l. all_from title_from (items_view l)) c.deref.ensures.value) in
    let rises : is_ascending given ≡ true = ap is_ascending (sym c.deref-2.ensures.value) ∙ (sym c.is_ascending.ensures ∙ c.if-is_ascending.true) in
    texts_read title_from most_licences (view c.args.value.now) items given c.new.result c.in-Some.ensures all rises c.new.ensures.counted c.new.ensures.same
