use Rattle.std.proofs.Common.{refl}
use Rattle.sqlite.specs.Held.{state}
use Rattle.registry_old_rows.specs.Old.{IsSpanOf}
use Rattle.registry_old_rows.proofs.SecondLemmas.{puts_old_span}
use Rattle.registry_rows.proofs.StepLemmas.{wrote}
use Rattle.registry_old_rows.proofs.second.put_old_span.Goals as goal

pub returns : goal.returns
returns g c = record {
  writes = wrote c.execute.ensures.same_reference c.execute.ensures.survives (λ clean inside vid own.
      let ran = c.in_ok-execute.ensures.runs clean inside in
      let valid : IsSpanOf vid (vid, c.args.span) = record {
        valid = record { vid = own; span = record { first = rw (c.get.ensures.number, c.first.ensures) at c.get.ensures.valid; last = rw (c.get-2.ensures.number, c.last.ensures.last) at c.get-2.ensures.valid } };
        own = refl;
      } in
      let given = rw (c.params-to_sql.ensures, c.params-to_sql-2.ensures, c.from.ensures, c.from-2.ensures, c.get.ensures.number, c.get-2.ensures.number, c.first.ensures, c.last.ensures.last) at ran.0 in
      (ran.1, λ t numbers has. puts_old_span vid (state g.S.Store c.args.tx.now.conn.now) (state g.S.Store c.execute.new.self.conn.now) c.args.span c.in_ok-execute.field-0 valid given t numbers has));
}
