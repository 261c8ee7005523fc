use Rattle.std.proofs.Common.{◌≡◌, List, subst, arith, take, refl}
use Rattle.std.proofs.lemmas.List.{take_all}
use Rattle.std.proofs.lemmas.Result.{err_from_is_err_and}
use Rattle.registry_rules.specs.declared.accepted.Accepted.{Accepted}
use Rattle.registry_commands.proofs.CheckLemmas.{LeadsSoFar, memory_fails, one_more_leads, other_reply}
use Rattle.registry_commands.proofs.EndLemmas.{memory_is_clean}
use Rattle.registry_commands.proofs.checking.follow_piece.Goals as goal

pub loop-accepted-init : goal.loop-accepted-init
loop-accepted-init c now stands = (now, stands, λ list h is. is)

pub loop-accepted-preserved : goal.loop-accepted-preserved
loop-accepted-preserved c now stands =
    let so_far = c.loop-accepted.invariant now stands in
    let did = c.in_ok-reply.ensures.replied so_far.0 so_far.1 (memory_is_clean c.follow.new.registry) in
    (_, did.0, one_more_leads now so_far.0 c.args.piece.now c.loop-accepted.accepted-index c.accepted-item.result (omega arith) c.accepted-item.is so_far.2)

pub returns-in-Some : goal.returns-in-Some
returns-in-Some c now stands =
    let so_far = c.loop-accepted.invariant now stands in
    let did = rw c.in-Some.is at (c.in_ok-reply.ensures.replied so_far.0 so_far.1 (memory_is_clean c.follow.new.registry)) in
    other_reply now so_far.0 c.args.piece.now c.loop-accepted.accepted-index c.accepted-item.result c.in-Some.reply (omega arith) c.accepted-item.is so_far.2 did.1
    (c.in_ok-reply.ensures.other c.in-Some.reply c.in-Some.is)

pub returns-in_err-reply : goal.returns-in_err-reply
returns-in_err-reply c now stands =
    let p = err_from_is_err_and c.from_residual.result c.from_residual.ensures.1 in
    let so_far = c.loop-accepted.invariant now stands in
    rw (p.1, p.2) (memory_fails c.loop-accepted.replayed c.follow.new.registry so_far.0 so_far.1 c.in_err-reply.field-0.0 c.in_err-reply.ensures.failure)

pub returns : goal.returns
returns c now stands =
    let so_far = c.loop-accepted.invariant now stands in
    (so_far.0, so_far.1, λ list h is. so_far.2 list h (rw (take_all c.loop-accepted.accepted-index c.args.piece.now (omega arith)) is))
