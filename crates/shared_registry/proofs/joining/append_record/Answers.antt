use Rattle.std.proofs.Common.{◌∙◌, None}
use Rattle.std.proofs.lemmas.Result.{err_from_is_err_and}
use Rattle.registry_store.proofs.IsQueryLemmas.{notes_then}
use Rattle.shared_registry.specs.Lines.{fault_of_stop}
use Rattle.shared_registry.proofs.FollowLemmas.{grows_on}
use Rattle.shared_registry.proofs.JoinLemmas.{clean_before, unshared_since, untouched_then}
use Rattle.shared_registry.specs.Asks.{AppendsRecord}
use Rattle.shared_registry.proofs.AskLemmas.{asked_then}
use Rattle.shared_registry.proofs.joining.append_record.Goals as goal

pub loop-preserved : goal.loop-preserved
loop-preserved g c = record {
  so_far = λ lines kept h stands valid passed clean.
      let so_far = c.loop.invariant.so_far lines kept h stands valid passed (clean_before c.loop.registry c.append_part.new.registry c.in_ok-append_part.ensures.untouched clean) in
      let more = c.in_ok-append_part.ensures.ok lines kept h (c.loop.invariant.untouched.stays h stands) valid so_far.0 clean in
      (more.0, grows_on (lines c.args.cursor.now.log) (lines c.loop.cursor.log) (lines c.append_part.new.cursor.log) so_far.1 more.1);
  asks = λ h stands valid clean.
      let mid = clean_before c.loop.registry c.append_part.new.registry c.in_ok-append_part.ensures.untouched clean in
      asked_then g.L.Log (AppendsRecord h) c.args.cursor.now.log c.loop.cursor.log c.append_part.new.cursor.log (c.loop.invariant.asks h stands valid mid)
      (c.in_ok-append_part.ensures.asks h (c.loop.invariant.untouched.stays h stands) valid clean);
  untouched = untouched_then c.args.registry.now c.loop.registry c.append_part.new.registry c.loop.invariant.untouched c.in_ok-append_part.ensures.untouched;
  notes = notes_then c.args.registry.now c.loop.registry c.append_part.new.registry None c.loop.invariant.notes c.in_ok-append_part.ensures.notes;
}

pub returns-clause-ok : goal.returns-clause-ok
returns-clause-ok g c lines kept h stands valid passed clean =
    let so_far = c.loop.invariant.so_far lines kept h stands valid passed (clean_before c.loop.registry c.append_part.new.registry c.in_ok-append_part.ensures.untouched clean) in
    let more = c.in_ok-append_part.ensures.ok lines kept h (c.loop.invariant.untouched.stays h stands) valid so_far.0 clean in
    (more.0, more.2 c.if-branch.false)

pub returns-in_err-append_part-clause-err : goal.returns-in_err-append_part-clause-err
returns-in_err-append_part-clause-err g c lines kept h stands valid passed clean =
    let p = err_from_is_err_and c.from_residual.result c.from_residual.ensures.1 in
    let so_far = c.loop.invariant.so_far lines kept h stands valid passed (clean_before c.loop.registry c.append_part.new.registry c.in_err-append_part.ensures.untouched clean) in
    rw (p.1, p.2) (unshared_since g.L.Log lines h c.args.cursor.now.log c.loop.cursor.log c.append_part.new.cursor.log so_far.1 c.in_err-append_part.field-0.0 (c.in_err-append_part.ensures.err lines kept h (c.loop.invariant.untouched.stays h stands) valid so_far.0 clean))

pub returns-in_err-append_part-clause-asks : goal.returns-in_err-append_part-clause-asks
returns-in_err-append_part-clause-asks g c h stands valid clean =
    let mid = clean_before c.loop.registry c.append_part.new.registry c.in_err-append_part.ensures.untouched clean in
    asked_then g.L.Log (AppendsRecord h) c.args.cursor.now.log c.loop.cursor.log c.append_part.new.cursor.log (c.loop.invariant.asks h stands valid mid)
    (c.in_err-append_part.ensures.asks h (c.loop.invariant.untouched.stays h stands) valid clean)

pub returns-clause-asks : goal.returns-clause-asks
returns-clause-asks g c h stands valid clean =
    let mid = clean_before c.loop.registry c.append_part.new.registry c.in_ok-append_part.ensures.untouched clean in
    asked_then g.L.Log (AppendsRecord h) c.args.cursor.now.log c.loop.cursor.log c.append_part.new.cursor.log (c.loop.invariant.asks h stands valid mid)
    (c.in_ok-append_part.ensures.asks h (c.loop.invariant.untouched.stays h stands) valid clean)

pub returns-in_err-append_part-clause-when_poisoned : goal.returns-in_err-append_part-clause-when_poisoned
returns-in_err-append_part-clause-when_poisoned g c =
    let p = err_from_is_err_and c.from_residual.result c.from_residual.ensures.1 in
    rw (p.1, p.2) (λ spent. let failed = c.in_err-append_part.ensures.when_poisoned (c.loop.invariant.untouched.poisons_nothing ∙ spent) in cc)

pub returns-in_err-append_part-clause-notes : goal.returns-in_err-append_part-clause-notes
returns-in_err-append_part-clause-notes g c =
    let p = err_from_is_err_and c.from_residual.result c.from_residual.ensures.1 in
    rw (p.1, p.2) (notes_then c.args.registry.now c.loop.registry c.append_part.new.registry (fault_of_stop c.in_err-append_part.field-0.0) c.loop.invariant.notes c.in_err-append_part.ensures.notes)

pub returns-in_err-append_part-clause-never_ahead : goal.returns-in_err-append_part-clause-never_ahead
returns-in_err-append_part-clause-never_ahead g c =
    let p = err_from_is_err_and c.from_residual.result c.from_residual.ensures.1 in
    rw (p.1, p.2) (λ is. c.in_err-append_part.ensures.never_ahead cc)
