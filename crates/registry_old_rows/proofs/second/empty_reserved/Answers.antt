use Rattle.sqlite.specs.Held.{state}
use Rattle.registry_old_rows.proofs.SecondLemmas.{empties_reserved}
use Rattle.registry_rows.proofs.StepLemmas.{wrote}
use Rattle.registry_old_rows.proofs.second.empty_reserved.Goals as goal

pub returns : goal.returns
returns g c = record {
  writes = wrote c.execute.ensures.same_reference c.execute.ensures.survives (λ clean inside vid.
      let ran = c.in_ok-execute.ensures.runs clean inside in
      (ran.1, λ t numbers has. empties_reserved vid (state g.S.Store c.args.tx.now.conn.now) (state g.S.Store c.execute.new.self.conn.now) c.in_ok-execute.field-0 ran.0 t numbers has));
}
