use Rattle.std.proofs.Common.{◌∙◌, arith}
use Rattle.sqlite.specs.State.{HasCleanDisk}
use Rattle.sqlite.specs.Held.{state}
use Rattle.std.proofs.lemmas.Result.{on_ok_weaker}
use Rattle.table_laws.proofs.InsideLemmas.{goes_then}
use Rattle.registry_tables.proofs.ReadLemmas.{quiet_then}
use Rattle.registry_tables.proofs.times.put_times.Goals as goal

pub returns : goal.returns
returns g c =
    let a = state g.S.Store c.args.tx.now.conn.now in
    let b = state g.S.Store c.put_opening.new.tx.conn.now in
    let d = state g.S.Store c.put_closing.new.tx.conn.now in
    record {
      writes = record {
        same_reference = c.put_closing.ensures.writes.same_reference ∙ c.in_ok-put_opening.ensures.writes.same_reference;
        done = λ clean inside is_open.
            (let early : HasCleanDisk b = omega (arith, clean, c.put_closing.ensures.writes.survives.clean) in
            let one = c.in_ok-put_opening.ensures.writes.done early inside is_open in
            on_ok_weaker c.put_closing.result (λ two. (goes_then a b d one.0 two.0, λ t had. two.1 _ (one.1 t had))) (c.put_closing.ensures.writes.done clean one.0.mode one.0.is_open));
        fault = c.put_closing.ensures.writes.fault;
        survives = quiet_then a b d c.in_ok-put_opening.ensures.writes.survives c.put_closing.ensures.writes.survives;
      };
    }
