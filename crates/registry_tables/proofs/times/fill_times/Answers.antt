use Rattle.std.proofs.Common.{◌≡◌, length, Err, refl, sym, ◌∙◌, arith, rules}
use Rattle.sqlite.specs.State.{HasCleanDisk}
use Rattle.sqlite.specs.Held.{state}
use Rattle.registry_tables.proofs.FillLemmas.{none_there}
use Rattle.registry_tables.proofs.ReadLemmas.{quiet_then}
use Rattle.registry_tables.proofs.TimeLemmas.{read_begins, read_more, read_ends, read_refused}
use Rattle.registry_tables.proofs.times.fill_times.Goals as goal

pub loop-init : goal.loop-init
loop-init g c = record {
  same_reference = refl;
  done = λ clean inside is_open. read_begins (state g.S.Store c.args.tx.now.conn.now) (search rules);
  fault = λ never. absurd cc;
  survives = search rules;
}

pub loop-preserved : goal.loop-preserved
loop-preserved g c =
    let a = state g.S.Store c.args.tx.now.conn.now in
    let b = state g.S.Store c.loop.tx.conn.now in
    let s1 = state g.S.Store c.read_page.new.tx.conn.now in
    let s2 = state g.S.Store c.put_page.new.tx.conn.now in
    record {
      same_reference = c.put_page.ensures.same_reference ∙ c.read_page.ensures.same_reference ∙ c.loop.invariant.same_reference;
      done = λ clean inside is_open.
          (let c1 : HasCleanDisk s1 = omega (arith, clean, c.put_page.ensures.survives.clean) in
          let c0 : HasCleanDisk b = omega (arith, c1, c.read_page.ensures.survives.clean) in
          let so_far = c.loop.invariant.done c0 inside is_open in
          let read = c.in_ok-page.ensures.read c1 so_far.puts.goes_on.mode in
          let page = rw c.deref.ensures.value at (c.in_ok-place.ensures.put clean read.0.mode read.0.is_open) in
          read_more a b s1 c.loop.place 64 c.in_ok-page.page.items so_far read s2 c.in_ok-place.place page);
      fault = λ never. absurd cc;
      survives = quiet_then a s1 s2 (quiet_then a b s1 c.loop.invariant.survives c.read_page.ensures.survives) c.put_page.ensures.survives;
    }

pub returns-then-is_empty-clause-filled : goal.returns-then-is_empty-clause-filled
returns-then-is_empty-clause-filled g c clean inside is_open =
    let a = state g.S.Store c.args.tx.now.conn.now in
    let b = state g.S.Store c.loop.tx.conn.now in
    let s1 = state g.S.Store c.read_page.new.tx.conn.now in
    let c0 : HasCleanDisk b = omega (arith, clean, c.read_page.ensures.survives.clean) in
    let so_far = c.loop.invariant.done c0 inside is_open in
    let none : length c.in_ok-page.page.items ≡ 0 = search rules in
    read_ends a b s1 c.loop.place 64 c.in_ok-page.page.items so_far (c.in_ok-page.ensures.read clean so_far.puts.goes_on.mode) (omega arith) (none_there c.in_ok-page.page.items none)

pub returns-in_err-page-clause-foreign : goal.returns-in_err-page-clause-foreign
returns-in_err-page-clause-foreign g c clean inside is_open foreign =
    let a = state g.S.Store c.args.tx.now.conn.now in
    let b = state g.S.Store c.loop.tx.conn.now in
    let s1 = state g.S.Store c.read_page.new.tx.conn.now in
    let c0 : HasCleanDisk b = omega (arith, clean, c.read_page.ensures.survives.clean) in
    let so_far = c.loop.invariant.done c0 inside is_open in
    let is : c.from_residual.result ≡ Err c.in_err-page.field-0.0 = search rules in
    read_refused a b c.loop.place so_far (c.in_err-page.ensures.foreign clean so_far.puts.goes_on.mode (let both = sym is ∙ foreign in cc))
