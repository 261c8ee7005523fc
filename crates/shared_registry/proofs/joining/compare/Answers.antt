use Rattle.std.proofs.Common.{None}
use Rattle.std.proofs.lemmas.Result.{err_from_is_err_and}
use Rattle.registry_store.proofs.IsQueryLemmas.{notes_then}
use Rattle.shared_registry.proofs.FollowLemmas.{grows_on}
use Rattle.shared_registry.proofs.JoinLemmas.{clean_before, unshared_since, untouched_then}
use Rattle.shared_registry.specs.Asks.{AppendsNothing}
use Rattle.shared_registry.proofs.AskLemmas.{asked_then}
use Rattle.shared_registry.proofs.joining.compare.Goals as goal

pub loop-preserved : goal.loop-preserved
loop-preserved g c = record {
  so_far = λ lines kept h stands valid passed clean.
      let so_far = c.loop.invariant.so_far lines kept h stands valid passed (clean_before c.loop.registry c.compare_part.new.registry c.in_ok-compare_part.ensures.untouched clean) in
      let more = c.in_ok-compare_part.ensures.ok lines kept h (c.loop.invariant.untouched.stays h stands) valid so_far.0 clean in
      (more.0, grows_on (lines c.args.cursor.now.log) (lines c.loop.cursor.log) (lines c.compare_part.new.cursor.log) so_far.1 more.1);
  asks = asked_then g.L.Log AppendsNothing c.args.cursor.now.log c.loop.cursor.log c.compare_part.new.cursor.log c.loop.invariant.asks c.in_ok-compare_part.ensures.asks;
  untouched = untouched_then c.args.registry.now c.loop.registry c.compare_part.new.registry c.loop.invariant.untouched c.in_ok-compare_part.ensures.untouched;
  notes = notes_then c.args.registry.now c.loop.registry c.compare_part.new.registry None c.loop.invariant.notes c.in_ok-compare_part.ensures.notes;
}

pub returns-clause-ok : goal.returns-clause-ok
returns-clause-ok g c lines kept h stands valid passed clean =
    let so_far = c.loop.invariant.so_far lines kept h stands valid passed (clean_before c.loop.registry c.compare_part.new.registry c.in_ok-compare_part.ensures.untouched clean) in
    let more = c.in_ok-compare_part.ensures.ok lines kept h (c.loop.invariant.untouched.stays h stands) valid so_far.0 clean in
    (more.0, more.2 c.if-branch.false)

pub returns-in_err-compare_part-clause-err : goal.returns-in_err-compare_part-clause-err
returns-in_err-compare_part-clause-err g c lines kept h stands valid passed clean =
    let p = err_from_is_err_and c.from_residual.result c.from_residual.ensures.1 in
    let so_far = c.loop.invariant.so_far lines kept h stands valid passed (clean_before c.loop.registry c.compare_part.new.registry c.in_err-compare_part.ensures.untouched clean) in
    rw (p.1, p.2) (unshared_since g.L.Log lines h c.args.cursor.now.log c.loop.cursor.log c.compare_part.new.cursor.log so_far.1 c.in_err-compare_part.field-0.0 (c.in_err-compare_part.ensures.err lines kept h (c.loop.invariant.untouched.stays h stands) valid so_far.0 clean))

pub returns-in_err-compare_part-clause-asks : goal.returns-in_err-compare_part-clause-asks
returns-in_err-compare_part-clause-asks g c = asked_then g.L.Log AppendsNothing c.args.cursor.now.log c.loop.cursor.log c.compare_part.new.cursor.log c.loop.invariant.asks c.in_err-compare_part.ensures.asks

pub returns-clause-asks : goal.returns-clause-asks
returns-clause-asks g c = asked_then g.L.Log AppendsNothing c.args.cursor.now.log c.loop.cursor.log c.compare_part.new.cursor.log c.loop.invariant.asks c.in_ok-compare_part.ensures.asks
