use Rattle.std.proofs.Common.{sym, arith}
use Rattle.registry_rows.specs.Rows.{IsMeta}
use Rattle.registry_rows.specs.declared.meta.Meta.{Meta}
use Rattle.sqlite.specs.Held.{state}
use Rattle.registry_old_rows.proofs.SecondLemmas.{puts_old_meta}
use Rattle.registry_rows.proofs.StepLemmas.{wrote}
use Rattle.registry_old_rows.proofs.second.put_old_meta.Goals as goal

pub returns : goal.returns
returns g c = record {
  writes = wrote c.execute.ensures.same_reference c.execute.ensures.survives (λ clean inside vid.
      let ran = c.in_ok-execute.ensures.runs clean inside in
      let x : Meta = record { version = c.args.version; vendor = c.args.vendor; name = c.args.name.now } in
      let valid : IsMeta x = record { version = omega arith; vendor = rw (sym c.get.ensures.number) c.get.ensures.valid; name = c.as_str.ensures.valid } in
      let given = rw (c.params-to_sql.ensures, c.params-to_sql-2.ensures, c.params-to_sql-3.ensures, c.from.ensures, c.get.ensures.number, c.as_str.ensures.text) at ran.0 in
      (ran.1, λ t numbers has. puts_old_meta vid (state g.S.Store c.args.tx.now.conn.now) (state g.S.Store c.execute.new.self.conn.now) x c.in_ok-execute.field-0 valid given t numbers has));
}
