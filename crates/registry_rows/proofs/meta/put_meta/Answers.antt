use Rattle.std.proofs.Common.{sym, arith}
use Rattle.registry_rows.specs.Rows.{IsMeta}
use Rattle.registry_rows.specs.declared.meta.Meta.{Meta}
use Rattle.registry_rows.proofs.PutLemmas.{puts_meta}
use Rattle.registry_rows.proofs.StepLemmas.{changed}
use Rattle.registry_rows.proofs.meta.put_meta.Goals as goal

pub returns : goal.returns
returns g c =
    let x : Meta = record { version = c.args.version; vendor = c.args.vendor; name = c.args.name.now } in
    let valid : IsMeta x = record { version = omega arith; vendor = rw (sym c.get.ensures.number) c.get.ensures.valid; name = c.as_str.ensures.valid } in
    record { writes = changed c.execute.ensures.same_reference c.execute.ensures.survives _ _ _ (λ clean inside. rw (c.params-to_sql.ensures, c.params-to_sql-2.ensures, c.params-to_sql-3.ensures, c.from.ensures, c.get.ensures.number, c.as_str.ensures.text) at (c.in_ok-execute.ensures.runs clean inside)) (puts_meta _ _ x _ valid) }
