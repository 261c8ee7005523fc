use Rattle.registry_rows.specs.Rows.{IsOrg}
use Rattle.registry_rows.proofs.PutLemmas.{adds_org}
use Rattle.registry_rows.proofs.StepLemmas.{inserts}
use Rattle.registry_rows.proofs.orgs.add_org.Goals as goal

pub returns : goal.returns
returns g c =
    let valid : IsOrg c.args.org.now = record { slug = c.as_str.ensures.valid; title = c.as_str-2.ensures.valid; site = c.as_str-3.ensures.valid; keeper = c.as_str-4.ensures.valid } in
    record { writes = inserts c.execute.ensures.same_reference c.execute.ensures.survives _ _ c.execute.result c.inserted.result c.inserted.ensures (λ clean inside. rw (c.params-to_sql.ensures, c.params-to_sql-2.ensures, c.params-to_sql-3.ensures, c.params-to_sql-4.ensures, c.as_str.ensures.text, c.as_str-2.ensures.text, c.as_str-3.ensures.text, c.as_str-4.ensures.text) at (c.execute.ensures.runs clean inside)) (λ count. adds_org _ _ c.args.org.now count valid) }
