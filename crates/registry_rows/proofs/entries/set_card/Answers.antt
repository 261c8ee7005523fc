use Rattle.registry_rows.proofs.GivenLemmas.{part_given, all_terms}
use Rattle.registry_rows.proofs.UpdateLemmas.{sets_card}
use Rattle.registry_rows.proofs.StepLemmas.{changed}
use Rattle.registry_rows.proofs.entries.set_card.Goals as goal

pub returns : goal.returns
returns g c =
    let card = c.args.card.now in
    record { writes = changed c.execute.ensures.same_reference c.execute.ensures.survives _ _ _ (λ clean inside. rw (c.params-to_sql.ensures, c.params-to_sql-2.ensures, c.params-to_sql-3.ensures, c.params-to_sql-4.ensures, c.params-to_sql-5.ensures, c.params-to_sql-6.ensures, part_given (λ t. t.licence) card.terms c.licence_of.result c.licence_of.ensures.value, part_given (λ t. t.site) card.terms c.site_of.result c.site_of.ensures.value, part_given (λ t. t.source) card.terms c.source_of.result c.source_of.ensures.value, c.as_str.ensures.text, c.from.ensures, c.from-2.ensures, c.get.ensures.number, c.get-2.ensures.number) at (c.in_ok-execute.ensures.runs clean inside)) (sets_card _ _ c.args.number card _ c.as_str.ensures.valid (all_terms card.terms c.licence_of.ensures.valid c.site_of.ensures.valid c.source_of.ensures.valid)) }
