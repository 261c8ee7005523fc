use Rattle.std.proofs.Common.{ℕ, sym, arith}
use Rattle.registry_rows.proofs.GivenLemmas.{whole_given}
use Rattle.registry_rules.specs.Orders.{IsTerms}
use Rattle.registry_rows.specs.Rows.{IsPetition}
use Rattle.registry_rules.specs.declared.record.Petition.{Petition}
use Rattle.registry_rows.proofs.PutLemmas.{opens_petition}
use Rattle.registry_rows.proofs.StepLemmas.{changed}
use Rattle.registry_rows.proofs.petitions.open_petition.Goals as goal

pub returns : goal.returns
returns g c =
    let p = c.args.petition.now in
    let x : ℕ × Petition = (c.args.id, p) in
    let terms : IsTerms p.terms = record { licence = c.as_str-3.ensures.valid; site = c.as_str-4.ensures.valid; source = c.as_str-5.ensures.valid } in
    let valid : IsPetition x = record { id = omega arith; vid = rw (sym c.get.ensures.number) c.get.ensures.valid; org = c.as_str.ensures.valid; want = c.or_null.ensures.valid; title = c.as_str-2.ensures.valid; terms = terms; granted = rw c.granted_of.ensures at c.or_null-2.ensures.valid } in
    record { writes = changed c.execute.ensures.same_reference c.execute.ensures.survives _ _ _ (λ clean inside. rw (c.params-to_sql.ensures, c.params-to_sql-2.ensures, c.params-to_sql-3.ensures, c.params-to_sql-4.ensures, c.params-to_sql-5.ensures, c.params-to_sql-6.ensures, c.params-to_sql-7.ensures, c.params-to_sql-8.ensures, c.params-to_sql-9.ensures, c.params-to_sql-10.ensures, c.from.ensures, c.get.ensures.number, c.as_str.ensures.text, c.as_str-2.ensures.text, c.as_str-3.ensures.text, c.as_str-4.ensures.text, c.as_str-5.ensures.text, whole_given c.or_null.result, whole_given c.or_null-2.result, c.or_null.ensures.value, c.or_null-2.ensures.value, c.code_of.ensures, c.granted_of.ensures) at (c.in_ok-execute.ensures.runs clean inside)) (opens_petition _ _ x _ valid) }
