use Rattle.std.proofs.Common.{◌≡◌, length, Err, refl, sym, ◌∙◌, arith, rules}
use Rattle.sqlite.specs.State.{HasCleanDisk}
use Rattle.sqlite.specs.Held.{state}
use Rattle.registry_tables.proofs.FillLemmas.{pages_begin, pages_more, pages_end, pages_refused, none_there}
use Rattle.registry_tables.proofs.ReadLemmas.{quiet_then}
use Rattle.registry_tables.proofs.digests.put_pages.Goals as goal

pub loop-init : goal.loop-init
loop-init g c = record {
  same_reference = refl;
  done = λ clean inside is_open. pages_begin (state g.S.Store c.args.tx.now.conn.now) c.args.head (search rules);
  fault = λ never. absurd cc;
  survives = search rules;
}

pub loop-preserved : goal.loop-preserved
loop-preserved g c =
    let a = state g.S.Store c.args.tx.now.conn.now in
    let b = state g.S.Store c.loop.tx.conn.now in
    let s1 = state g.S.Store c.kept_after.new.tx.conn.now in
    let s2 = state g.S.Store c.put_page.new.tx.conn.now in
    record {
      same_reference = c.put_page.ensures.same_reference ∙ c.kept_after.ensures.reads.same_reference ∙ c.loop.invariant.same_reference;
      done = λ clean inside is_open.
          (let c1 : HasCleanDisk s1 = omega (arith, clean, c.put_page.ensures.survives.clean) in
          let c0 : HasCleanDisk b = omega (arith, c1, c.kept_after.ensures.reads.survives.clean) in
          let so_far = c.loop.invariant.done c0 inside is_open in
          let read = c.in_ok-rows.ensures.reads.told c1 so_far.0.mode in
          let page = rw c.deref.ensures.value at (c.in_ok-reached.ensures.filled clean read.0.mode read.0.is_open) in
          pages_more a b s1 c.args.head c.loop.reached 64 c.in_ok-rows.rows.items so_far read s2 c.in_ok-reached.reached page);
      fault = λ never. absurd cc;
      survives = quiet_then a s1 s2 (quiet_then a b s1 c.loop.invariant.survives c.kept_after.ensures.reads.survives) c.put_page.ensures.survives;
    }

pub returns-then-is_empty-clause-filled : goal.returns-then-is_empty-clause-filled
returns-then-is_empty-clause-filled g c clean inside is_open =
    let a = state g.S.Store c.args.tx.now.conn.now in
    let b = state g.S.Store c.loop.tx.conn.now in
    let s1 = state g.S.Store c.kept_after.new.tx.conn.now in
    let c0 : HasCleanDisk b = omega (arith, clean, c.kept_after.ensures.reads.survives.clean) in
    let so_far = c.loop.invariant.done c0 inside is_open in
    let none : length c.in_ok-rows.rows.items ≡ 0 = search rules in
    pages_end a b s1 c.args.head c.loop.reached 64 c.in_ok-rows.rows.items so_far (c.in_ok-rows.ensures.reads.told clean so_far.0.mode) (omega arith) (none_there c.in_ok-rows.rows.items none)

pub returns-in_err-rows-clause-foreign : goal.returns-in_err-rows-clause-foreign
returns-in_err-rows-clause-foreign g c clean inside is_open foreign =
    let a = state g.S.Store c.args.tx.now.conn.now in
    let b = state g.S.Store c.loop.tx.conn.now in
    let s1 = state g.S.Store c.kept_after.new.tx.conn.now in
    let c0 : HasCleanDisk b = omega (arith, clean, c.kept_after.ensures.reads.survives.clean) in
    let so_far = c.loop.invariant.done c0 inside is_open in
    let is : c.from_residual.result ≡ Err c.in_err-rows.field-0.0 = search rules in
    pages_refused a b s1 c.args.head c.loop.reached c.in_err-rows.field-0.0 so_far (c.in_err-rows.ensures.reads.told clean so_far.0.mode).0 (let both = sym is ∙ foreign in cc)
