use Rattle.std.proofs.Common.{◌≡◌, nat_eq, Err, ap, sym, subst, arith, rules, map, ◌∙◌}
use Rattle.sqlite.specs.State.{HasCleanDisk}
use Rattle.sqlite.specs.Held.{state}
use Rattle.table_laws.proofs.InsideLemmas.{goes_then}
use Rattle.std.specs.List.{list_any}
use Rattle.usbnum_core.specs.Spans.{spans_have}
use Rattle.registry_old_rows.specs.declared.second.Reserved.{Reserved}
use Rattle.registry_tables.specs.Raising.{Raises}
use Rattle.registry_tables.proofs.SpreadLemmas.{one_id}
use Rattle.registry_tables.proofs.SecondLemmas.{first_raised, first_refused, numbers_refused, second_begins, unspanned}
use Rattle.registry_tables.proofs.second.raise_second.Goals as goal

pub returns-in_err-meta-clause-raised : goal.returns-in_err-meta-clause-raised
returns-in_err-meta-clause-raised g c clean inside =
    let a = state g.S.Store c.args.tx.now.conn.now in
    let s1 = state g.S.Store c.add_second.new.tx.conn.now in
    let new = state g.S.Store c.old_meta.new.tx.conn.now in
    let c1 : HasCleanDisk s1 = omega (arith, c.old_meta.ensures.reads.survives.clean) in
    let one = c.in_ok-add_second.ensures.writes.done c1 inside in
    let is : c.from_residual-in_err-meta.result ≡ Err c.in_err-meta.field-0.0 = search rules in
    subst (λ r. Raises 1 a new r) (sym is) (first_refused a s1 one.1 new c.in_err-meta.field-0.0 one.0.was_open (c.in_err-meta.ensures.reads.told clean one.0.mode))

pub returns-in_err-numbers-clause-raised : goal.returns-in_err-numbers-clause-raised
returns-in_err-numbers-clause-raised g c clean inside =
    let a = state g.S.Store c.args.tx.now.conn.now in
    let s1 = state g.S.Store c.add_second.new.tx.conn.now in
    let s2 = state g.S.Store c.old_meta.new.tx.conn.now in
    let new = state g.S.Store c.list_reserved.new.tx.conn.now in
    let c2 : HasCleanDisk s2 = omega (arith, c.list_reserved.ensures.reads.survives.clean) in
    let c1 : HasCleanDisk s1 = omega (arith, c.old_meta.ensures.reads.survives.clean) in
    let one = c.in_ok-add_second.ensures.writes.done c1 inside in
    let two = c.in_ok-meta.ensures.reads.told c2 one.0.mode in
    let is : c.from_residual-in_err-numbers.result ≡ Err c.in_err-numbers.field-0.0 = search rules in
    let told = c.in_err-numbers.ensures.reads.told clean two.0.mode in
    subst (λ r. Raises 1 a new r) (sym is) (numbers_refused a s1 one.1 s2 c.in_ok-meta.meta two.1 new c.in_err-numbers.field-0.0 one.0.was_open (told.0, told.1))

pub returns-clause-raised : goal.returns-clause-raised
returns-clause-raised g c clean inside =
    let a = state g.S.Store c.args.tx.now.conn.now in
    let s1 = state g.S.Store c.add_second.new.tx.conn.now in
    let s2 = state g.S.Store c.old_meta.new.tx.conn.now in
    let s3 = state g.S.Store c.list_reserved.new.tx.conn.now in
    let s4 = state g.S.Store c.put_spans.new.tx.conn.now in
    let s5 = state g.S.Store c.empty_reserved.new.tx.conn.now in
    let s6 = state g.S.Store c.put_old_meta.new.tx.conn.now in
    let c5 : HasCleanDisk s5 = omega (arith, c.put_old_meta.ensures.writes.survives.clean) in
    let c4 : HasCleanDisk s4 = omega (arith, c.empty_reserved.ensures.writes.survives.clean) in
    let c3 : HasCleanDisk s3 = omega (arith, c.put_spans.ensures.writes.survives.clean) in
    let c2 : HasCleanDisk s2 = omega (arith, c.list_reserved.ensures.reads.survives.clean) in
    let c1 : HasCleanDisk s1 = omega (arith, c.old_meta.ensures.reads.survives.clean) in
    let one = c.in_ok-add_second.ensures.writes.done c1 inside in
    let two = c.in_ok-meta.ensures.reads.told c2 one.0.mode in
    let three = c.in_ok-numbers.ensures.reads.told c3 two.0.mode in
    let four = c.in_ok-put_spans.ensures.writes.done c4 three.0.mode three.0.is_open 1 one_id in
    let five = c.in_ok-empty_reserved.ensures.writes.done c5 four.0.mode 1 in
    let six = c.in_ok-put_old_meta.ensures.writes.done clean five.0.mode 1 in (
      goes_then a s5 s6 (goes_then a s4 s5 (goes_then a s3 s4 (goes_then a s2 s3 (goes_then a s1 s2 one.0 two.0) three.0) four.0) five.0) six.0,
      first_raised a s1 one.1 s2 c.in_ok-meta.meta two.1 s3 s4 s5 s6 (map (λ (one : Reserved). one.pid) c.in_ok-numbers.numbers.items) c.parts.result.now (λ x held. (let it = three.1 x held in (it.0, it.1))) c.parts.ensures.spread
          (λ n. ap (λ l. spans_have l n) c.parts.ensures.parts ∙ c.in_ok-set.ensures.same n ∙ ap (λ l. list_any (nat_eq n) (map (λ (one : Reserved). one.pid) l)) c.deref.ensures.value)
          (λ vid own. (c.in_ok-put_spans.ensures.writes.done c4 three.0.mode three.0.is_open vid own).1) (λ vid. (c.in_ok-empty_reserved.ensures.writes.done c5 four.0.mode vid).1) (λ vid. (c.in_ok-put_old_meta.ensures.writes.done clean five.0.mode vid).1),
    )

pub returns-clause-named : goal.returns-clause-named
returns-clause-named g c clean inside vid t numbers has =
    let a = state g.S.Store c.args.tx.now.conn.now in
    let s1 = state g.S.Store c.add_second.new.tx.conn.now in
    let s2 = state g.S.Store c.old_meta.new.tx.conn.now in
    let c2 : HasCleanDisk s2 = omega (arith, clean, c.list_reserved.ensures.reads.survives.clean, c.put_spans.ensures.writes.survives.clean, c.empty_reserved.ensures.writes.survives.clean, c.put_old_meta.ensures.writes.survives.clean) in
    let c1 : HasCleanDisk s1 = omega (arith, c.old_meta.ensures.reads.survives.clean) in
    let one = c.in_ok-add_second.ensures.writes.done c1 inside in
    c.in_ok-meta.ensures.named c2 one.0.mode (record { vid = vid; tables = unspanned t; numbers = numbers }) (second_begins vid a.now s1.now t numbers (one.1 has.schema) has)
