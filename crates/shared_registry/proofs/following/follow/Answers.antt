use Rattle.std.proofs.Common.{None, arith}
use Rattle.std.proofs.lemmas.Result.{err_from_is_err_and}
use Rattle.registry_store.specs.Promise.{state_of}
use Rattle.registry_store.proofs.IsQueryLemmas.{notes_then}
use Rattle.shared_registry.proofs.FollowLemmas.{all_followed, gone_on, left_later}
use Rattle.shared_registry.proofs.LineLemmas.{clean_first, endures_then}
use Rattle.shared_registry.specs.Asks.{AppendsNothing}
use Rattle.shared_registry.specs.Lines.{fault_of_stop}
use Rattle.shared_registry.proofs.AskLemmas.{asked_then}
use Rattle.shared_registry.proofs.following.follow.Goals as goal

pub loop-smaller : goal.loop-smaller
loop-smaller g c = let passed = c.in_ok-read_and_follow.ensures.passes.1 c.if-branch.true in let small = c.in_ok-read_and_follow.ensures.small in omega (arith, passed, small)

pub loop-preserved : goal.loop-preserved
loop-preserved g c = record {
  so_far = λ lines kept h follows clean.
      let so_far = c.loop.invariant.so_far lines kept h follows (clean_first (state_of c.loop.registry) (state_of c.read_and_follow.new.registry) c.in_ok-read_and_follow.ensures.endures clean) in
      gone_on g.L.Log lines c.args.cursor.now c.loop.cursor c.loop.registry c.read_and_follow.new.registry c.read_and_follow.new.cursor h c.in_ok-read_and_follow.field-0 so_far (c.in_ok-read_and_follow.ensures.ok lines kept so_far.now so_far.follows clean);
  asks = asked_then g.L.Log AppendsNothing c.args.cursor.now.log c.loop.cursor.log c.read_and_follow.new.cursor.log c.loop.invariant.asks c.in_ok-read_and_follow.ensures.asks;
  notes = notes_then c.args.registry.now c.loop.registry c.read_and_follow.new.registry None c.loop.invariant.notes c.in_ok-read_and_follow.ensures.notes;
  endures = endures_then (state_of c.args.registry.now) (state_of c.loop.registry) (state_of c.read_and_follow.new.registry) c.loop.invariant.endures c.in_ok-read_and_follow.ensures.endures;
}

pub returns-clause-ok : goal.returns-clause-ok
returns-clause-ok g c lines kept h follows clean =
    let so_far = c.loop.invariant.so_far lines kept h follows (clean_first (state_of c.loop.registry) (state_of c.read_and_follow.new.registry) c.in_ok-read_and_follow.ensures.endures clean) in
    all_followed g.L.Log lines c.args.cursor.now c.loop.cursor c.loop.registry c.read_and_follow.new.registry c.read_and_follow.new.cursor h so_far (rw c.if-branch.false at (c.in_ok-read_and_follow.ensures.ok lines kept so_far.now so_far.follows clean))

pub returns-in_err-read_and_follow-clause-err : goal.returns-in_err-read_and_follow-clause-err
returns-in_err-read_and_follow-clause-err g c lines kept h follows clean =
    let p = err_from_is_err_and c.from_residual.result c.from_residual.ensures.1 in
    let so_far = c.loop.invariant.so_far lines kept h follows (clean_first (state_of c.loop.registry) (state_of c.read_and_follow.new.registry) c.in_err-read_and_follow.ensures.endures clean) in
    rw (p.1, p.2) (left_later g.L.Log lines c.args.cursor.now c.loop.cursor c.loop.registry c.read_and_follow.new.registry c.read_and_follow.new.cursor h so_far c.in_err-read_and_follow.field-0.0 (c.in_err-read_and_follow.ensures.err lines kept so_far.now so_far.follows clean))

pub returns-in_err-read_and_follow-clause-asks : goal.returns-in_err-read_and_follow-clause-asks
returns-in_err-read_and_follow-clause-asks g c = asked_then g.L.Log AppendsNothing c.args.cursor.now.log c.loop.cursor.log c.read_and_follow.new.cursor.log c.loop.invariant.asks c.in_err-read_and_follow.ensures.asks

pub returns-clause-asks : goal.returns-clause-asks
returns-clause-asks g c = asked_then g.L.Log AppendsNothing c.args.cursor.now.log c.loop.cursor.log c.read_and_follow.new.cursor.log c.loop.invariant.asks c.in_ok-read_and_follow.ensures.asks

pub returns-in_err-read_and_follow-clause-notes : goal.returns-in_err-read_and_follow-clause-notes
returns-in_err-read_and_follow-clause-notes g c =
    let p = err_from_is_err_and c.from_residual.result c.from_residual.ensures.1 in
    rw (p.1, p.2) (notes_then c.args.registry.now c.loop.registry c.read_and_follow.new.registry (fault_of_stop c.in_err-read_and_follow.field-0.0) c.loop.invariant.notes c.in_err-read_and_follow.ensures.notes)
