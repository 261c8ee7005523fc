use Rattle.std.proofs.Common.{arith, refl, rules}
use Rattle.sqlite.specs.State.{HasCleanDisk}
use Rattle.sqlite.specs.Held.{state}
use Rattle.table_laws.proofs.InsideLemmas.{goes_then}
use Rattle.registry_tables.proofs.third.move_rows.Goals as goal

pub returns : goal.returns
returns g c = record {
  writes = record {
    same_reference = search rules;
    fault = search rules;
    survives = search rules;
    done = λ clean inside.
        let vid = c.args.vid in
        let a = state g.S.Store c.args.tx.now.conn.now in
        let s1 = state g.S.Store c.copy_spans.new.tx.conn.now in
        let s2 = state g.S.Store c.copy_entries.new.tx.conn.now in
        let s3 = state g.S.Store c.copy_petitions.new.tx.conn.now in
        let s4 = state g.S.Store c.empty_spans.new.tx.conn.now in
        let s5 = state g.S.Store c.empty_entries.new.tx.conn.now in
        let s6 = state g.S.Store c.empty_petitions.new.tx.conn.now in
        let c5 : HasCleanDisk s5 = omega (arith, c.empty_petitions.ensures.writes.survives.clean) in
        let c4 : HasCleanDisk s4 = omega (arith, c.empty_entries.ensures.writes.survives.clean) in
        let c3 : HasCleanDisk s3 = omega (arith, c.empty_spans.ensures.writes.survives.clean) in
        let c2 : HasCleanDisk s2 = omega (arith, c.copy_petitions.ensures.writes.survives.clean) in
        let c1 : HasCleanDisk s1 = omega (arith, c.copy_entries.ensures.writes.survives.clean) in
        let one = c.in_ok-copy_spans.ensures.writes.done c1 inside in
        let two = c.in_ok-copy_entries.ensures.writes.done c2 one.0.mode in
        let three = c.in_ok-copy_petitions.ensures.writes.done c3 two.0.mode in
        let four = c.in_ok-empty_spans.ensures.writes.done c4 three.0.mode vid in
        let five = c.in_ok-empty_entries.ensures.writes.done c5 four.0.mode vid in
        let six = c.in_ok-empty_petitions.ensures.writes.done clean five.0.mode vid in (
          goes_then a s5 s6 (goes_then a s4 s5 (goes_then a s3 s4 (goes_then a s2 s3 (goes_then a s1 s2 one.0 two.0) three.0) four.0) five.0) six.0,
          λ o has. six.1 _ _ (five.1 _ _ (four.1 _ _ (three.1 _ _ (two.1 _ _ (one.1 _ _ has)) refl))),
        );
  };
}
