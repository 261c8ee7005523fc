use Rattle.registry_rows.specs.Rows.{IsOrg}
use Rattle.registry_rows.proofs.PutLemmas.{puts_org}
use Rattle.registry_rows.proofs.StepLemmas.{changed}
use Rattle.registry_rows.proofs.orgs.replace_org.Goals as goal

pub returns : goal.returns
returns g c =
    let valid : IsOrg c.args.org.now = record { slug = c.as_str.ensures.valid; title = c.as_str-2.ensures.valid; site = c.as_str-3.ensures.valid; keeper = c.as_str-4.ensures.valid } in
    record { writes = changed c.execute.ensures.same_reference c.execute.ensures.survives _ _ _ (λ clean inside. rw (c.params-to_sql.ensures, c.params-to_sql-2.ensures, c.params-to_sql-3.ensures, c.params-to_sql-4.ensures, c.as_str.ensures.text, c.as_str-2.ensures.text, c.as_str-3.ensures.text, c.as_str-4.ensures.text) at (c.in_ok-execute.ensures.runs clean inside)) (puts_org _ _ c.args.org.now _ valid) }
