use Rattle.std.proofs.Common.{sym}
use Rattle.registry_rows.specs.Rows.{IsEntry}
use Rattle.registry_rows.proofs.GivenLemmas.{part_given, all_terms}
use Rattle.usbnum_core.specs.declared.number.Number.{Number}
use Rattle.registry_rules.specs.declared.record.Entry.{Entry}
use Rattle.registry_rows.proofs.PutLemmas.{puts_entry}
use Rattle.registry_rows.proofs.StepLemmas.{changed}
use Rattle.registry_rows.proofs.entries.replace_entry.Goals as goal

pub returns : goal.returns
returns g c =
    let e = c.args.entry.now in
    let x : Number × Entry = (c.args.number.now, e) in
    let valid : IsEntry x = record { vid = rw (sym c.get.ensures.number) c.get.ensures.valid; pid = rw (sym c.get-2.ensures.number) c.get-2.ensures.valid; org = c.as_str.ensures.valid; title = c.as_str-2.ensures.valid; terms = all_terms e.card.terms c.licence_of.ensures.valid c.site_of.ensures.valid c.source_of.ensures.valid } in
    record { writes = changed c.execute.ensures.same_reference c.execute.ensures.survives _ _ _ (λ clean inside. rw (c.params-to_sql.ensures, c.params-to_sql-2.ensures, c.params-to_sql-3.ensures, c.params-to_sql-4.ensures, c.params-to_sql-5.ensures, c.params-to_sql-6.ensures, c.params-to_sql-7.ensures, c.params-to_sql-8.ensures, part_given (λ t. t.licence) e.card.terms c.licence_of.result c.licence_of.ensures.value, part_given (λ t. t.site) e.card.terms c.site_of.result c.site_of.ensures.value, part_given (λ t. t.source) e.card.terms c.source_of.result c.source_of.ensures.value, c.as_str.ensures.text, c.as_str-2.ensures.text, c.from.ensures, c.from-2.ensures, c.get.ensures.number, c.get-2.ensures.number) at (c.in_ok-execute.ensures.runs clean inside)) (puts_entry _ _ x _ valid) }
