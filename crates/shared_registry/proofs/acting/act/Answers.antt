use Rattle.std.proofs.Common.{None}
use Rattle.std.proofs.lemmas.Result.{err_from_is_err_and}
use Rattle.registry_store.specs.Promise.{state_of}
use Rattle.registry_store.proofs.IsQueryLemmas.{notes_then}
use Rattle.shared_registry.specs.Lines.{fault_of_stop}
use Rattle.shared_registry.proofs.ActLemmas.{answered_later, gone_further}
use Rattle.shared_registry.proofs.FollowLemmas.{left_later}
use Rattle.shared_registry.proofs.LineLemmas.{clean_first, endures_then}
use Rattle.shared_registry.proofs.AskLemmas.{asked_later}
use Rattle.shared_registry.proofs.acting.act.Goals as goal

pub returns-in-Some-clause-ok : goal.returns-in-Some-clause-ok
returns-in-Some-clause-ok g c lines kept h follows clean =
    let so_far = c.loop-reply.invariant.so_far lines kept h follows (clean_first (state_of c.loop-reply.registry) (state_of c.act_and_look.new.registry) c.in_ok-reply.ensures.endures clean) in
    answered_later g.L.Log lines c.args.cursor.now c.loop-reply.registry c.loop-reply.cursor c.act_and_look.new.registry c.act_and_look.new.cursor h c.args.request.now c.in-Some.reply so_far
    (rw c.in-Some.is at (c.in_ok-reply.ensures.ok lines kept so_far.now so_far.follows clean))

pub returns-in_err-reply-clause-err : goal.returns-in_err-reply-clause-err
returns-in_err-reply-clause-err g c lines kept h follows clean =
    let p = err_from_is_err_and c.from_residual.result c.from_residual.ensures.1 in
    let so_far = c.loop-reply.invariant.so_far lines kept h follows (clean_first (state_of c.loop-reply.registry) (state_of c.act_and_look.new.registry) c.in_err-reply.ensures.endures clean) in
    rw (p.1, p.2) (left_later g.L.Log lines c.args.cursor.now c.loop-reply.cursor c.loop-reply.registry c.act_and_look.new.registry c.act_and_look.new.cursor h so_far c.in_err-reply.field-0.0 (c.in_err-reply.ensures.err lines kept so_far.now so_far.follows clean))

pub loop-reply-preserved : goal.loop-reply-preserved
loop-reply-preserved g c = record {
  so_far = λ lines kept h follows clean.
      let so_far = c.loop-reply.invariant.so_far lines kept h follows (clean_first (state_of c.loop-reply.registry) (state_of c.act_and_look.new.registry) c.in_ok-reply.ensures.endures clean) in
      gone_further g.L.Log lines c.args.cursor.now c.loop-reply.registry c.loop-reply.cursor c.act_and_look.new.registry c.act_and_look.new.cursor h so_far
      (rw c.in_default.is at (c.in_ok-reply.ensures.ok lines kept so_far.now so_far.follows clean));
  asks = λ lines kept h follows clean.
      let first = clean_first (state_of c.loop-reply.registry) (state_of c.act_and_look.new.registry) c.in_ok-reply.ensures.endures clean in
      let so_far = c.loop-reply.invariant.so_far lines kept h follows first in
      asked_later g.L.Log lines kept h so_far.now c.args.request.now c.args.cursor.now.log c.loop-reply.cursor.log c.act_and_look.new.cursor.log so_far.leads (c.loop-reply.invariant.asks lines kept h follows first)
      (c.in_ok-reply.ensures.asks lines kept so_far.now so_far.follows clean);
  notes = notes_then c.args.registry.now c.loop-reply.registry c.act_and_look.new.registry None c.loop-reply.invariant.notes c.in_ok-reply.ensures.notes;
  endures = endures_then (state_of c.args.registry.now) (state_of c.loop-reply.registry) (state_of c.act_and_look.new.registry) c.loop-reply.invariant.endures c.in_ok-reply.ensures.endures;
}

pub returns-in-Some-clause-asks : goal.returns-in-Some-clause-asks
returns-in-Some-clause-asks g c lines kept h follows clean =
    let first = clean_first (state_of c.loop-reply.registry) (state_of c.act_and_look.new.registry) c.in_ok-reply.ensures.endures clean in
    let so_far = c.loop-reply.invariant.so_far lines kept h follows first in
    asked_later g.L.Log lines kept h so_far.now c.args.request.now c.args.cursor.now.log c.loop-reply.cursor.log c.act_and_look.new.cursor.log so_far.leads (c.loop-reply.invariant.asks lines kept h follows first)
    (c.in_ok-reply.ensures.asks lines kept so_far.now so_far.follows clean)

pub returns-in_err-reply-clause-asks : goal.returns-in_err-reply-clause-asks
returns-in_err-reply-clause-asks g c lines kept h follows clean =
    let first = clean_first (state_of c.loop-reply.registry) (state_of c.act_and_look.new.registry) c.in_err-reply.ensures.endures clean in
    let so_far = c.loop-reply.invariant.so_far lines kept h follows first in
    asked_later g.L.Log lines kept h so_far.now c.args.request.now c.args.cursor.now.log c.loop-reply.cursor.log c.act_and_look.new.cursor.log so_far.leads (c.loop-reply.invariant.asks lines kept h follows first)
    (c.in_err-reply.ensures.asks lines kept so_far.now so_far.follows clean)

pub returns-in_err-reply-clause-notes : goal.returns-in_err-reply-clause-notes
returns-in_err-reply-clause-notes g c =
    let p = err_from_is_err_and c.from_residual.result c.from_residual.ensures.1 in
    rw (p.1, p.2) (notes_then c.args.registry.now c.loop-reply.registry c.act_and_look.new.registry (fault_of_stop c.in_err-reply.field-0.0) c.loop-reply.invariant.notes c.in_err-reply.ensures.notes)
