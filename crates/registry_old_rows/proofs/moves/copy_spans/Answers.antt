use Rattle.sqlite.specs.Held.{state}
use Rattle.registry_old_rows.proofs.MoveLemmas.{copies_spans}
use Rattle.registry_rows.proofs.StepLemmas.{wrote}
use Rattle.registry_old_rows.proofs.moves.copy_spans.Goals as goal

pub returns : goal.returns
returns g c = record {
  writes = wrote c.execute.ensures.same_reference c.execute.ensures.survives (λ clean inside.
      let ran = c.in_ok-execute.ensures.runs clean inside in
      let given = rw (c.params-to_sql.ensures, c.from.ensures, c.get.ensures.number) at ran.0 in
      (ran.1, λ o t has. copies_spans c.args.vid (state g.S.Store c.args.tx.now.conn.now) (state g.S.Store c.execute.new.self.conn.now) c.in_ok-execute.field-0 given o t has));
}
