use Rattle.std.proofs.Common.{arith}
use Rattle.sqlite.specs.Held.{state}
use Rattle.sqlite.specs.State.{HasCleanDisk}
use Rattle.table_laws.proofs.InsideLemmas.{goes_then}
use Rattle.registry_tables.proofs.DigestLemmas.{head_after}
use Rattle.registry_tables.proofs.KeptLemmas.{kept_now}
use Rattle.registry_tables.proofs.kept.keep_reply.Goals as goal

pub returns-clause-goes_on : goal.returns-clause-goes_on
returns-clause-goes_on g c clean inside =
    let old = state g.S.Store c.args.tx.now.conn.now in
    let mid = state g.S.Store c.put_kept.new.tx.conn.now in
    let late = state g.S.Store c.put_digest.new.tx.conn.now in
    let new = state g.S.Store c.put_act_times.new.tx.conn.now in
    let c2 : HasCleanDisk late = omega (arith, clean, c.put_act_times.ensures.writes.survives.clean) in
    let early : HasCleanDisk mid = omega (arith, c2, c.put_digest.ensures.writes.survives.clean) in
    let one = c.in_ok-put_kept.ensures.writes.done early inside in
    let two = c.in_ok-put_digest.ensures.writes.done c2 one.0.mode in
    goes_then old late new (goes_then old mid late one.0 two.0) (c.in_ok-put_act_times.ensures.writes.done clean two.0.mode two.0.is_open).0

pub returns-clause-rows : goal.returns-clause-rows
returns-clause-rows g c clean inside h deed legal keeps acts is_head had =
    let old = state g.S.Store c.args.tx.now.conn.now in
    let mid = state g.S.Store c.put_kept.new.tx.conn.now in
    let late = state g.S.Store c.put_digest.new.tx.conn.now in
    let new = state g.S.Store c.put_act_times.new.tx.conn.now in
    let c2 : HasCleanDisk late = omega (arith, clean, c.put_act_times.ensures.writes.survives.clean) in
    let early : HasCleanDisk mid = omega (arith, c2, c.put_digest.ensures.writes.survives.clean) in
    let one = c.in_ok-put_kept.ensures.writes.done early inside in
    let two = c.in_ok-put_digest.ensures.writes.done c2 one.0.mode in
    let three = c.in_ok-put_act_times.ensures.writes.done clean two.0.mode two.0.is_open in
    let next = c.in_ok-next.ensures.next in
    kept_now h deed legal c.args.request.now c.args.reply.now keeps c.in-Ok.order c.in-Ok.ensures old new c.args.act.now acts c.args.head.now c.in_ok-next.next is_head next.0 next.1 (λ t has. three.1 _ (two.1 _ (one.1 t has))) had

pub returns-clause-head : goal.returns-clause-head
returns-clause-head g c h deed keeps is_head =
    let next = c.in_ok-next.ensures.next in
    head_after h deed c.args.request.now c.args.reply.now c.args.head.now c.in_ok-next.next keeps next.0 next.1 c.in_ok-next.ensures.time is_head
