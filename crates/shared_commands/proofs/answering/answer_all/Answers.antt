use Rattle.std.proofs.Common.{◌≡◌, ◌∙◌, ℕ, None, refl, ap, subst, take, arith, rules, List}
use Rattle.std.specs.Prelude.{Err}
use Rattle.std.proofs.lemmas.List.{take_all}
use Rattle.registry_rules.specs.declared.order.Request.{Request}
use Rattle.registry_store.specs.declared.fault.Fault.TheVariants as faults
use Rattle.registry_store.specs.Promise.{is_poisoned, state_of}
use Rattle.registry_store.proofs.IsQueryLemmas.{notes_then}
use Rattle.registry_commands.specs.Ends.{Sunk, output_of, sunk}
use Rattle.registry_commands.proofs.ApplyLemmas.{endures_itself}
use Rattle.shared_registry.specs.declared.stop.ShareStop.TheVariants as shares
use Rattle.shared_commands.specs.declared.answering.AnswerStop.TheVariants as stops
use Rattle.shared_registry.proofs.LineLemmas.{clean_first, endures_then}
use Rattle.shared_commands.specs.Answered.{HasAnsweredAll, TellsWrites}
use Rattle.shared_commands.proofs.AnswerLemmas.{none_answered, one_answered, some_answered}
use Rattle.shared_commands.proofs.answering.answer_all.Goals as goal

pub loop-request-init : goal.loop-request-init
loop-request-init g c = record {
  so_far = λ lines kept h follows clean. none_answered g.L.Log lines c.args.registry.now c.args.cursor.now h (sunk g.W.Sink c.args.output.now) follows;
  when_poisoned = λ e. (refl, refl, refl);
  kept = refl;
  notes = refl;
  endures = endures_itself (state_of c.args.registry.now);
}

pub loop-request-preserved : goal.loop-request-preserved
loop-request-preserved g c = record {
  so_far = λ lines kept h follows clean.
      let so_far = c.loop-request.invariant.so_far lines kept h follows (clean_first (state_of c.loop-request.registry) (state_of c.answer.new.registry) c.in_ok-answer.ensures.endures clean) in
      one_answered g.L.Log lines c.args.cursor.now h c.args.requests.now c.loop-request.request-index c.request-item.result c.loop-request-test.true c.request-item.is c.loop-request.registry c.loop-request.cursor
      (sunk g.W.Sink c.args.output.now) (sunk g.W.Sink c.loop-request.output) (sunk g.W.Sink c.answer.new.output) so_far c.answer.new.registry c.answer.new.cursor (c.in_ok-answer.ensures.asks lines kept so_far.next so_far.follows clean) c.in_ok-answer.field-0
      (c.in_ok-answer.ensures.ok lines kept so_far.next so_far.follows clean);
  when_poisoned = λ e. let before = c.loop-request.invariant.when_poisoned e in absurd (let failed = c.in_ok-answer.ensures.when_poisoned (ap is_poisoned before.0 ∙ e) in cc failed.0);
  kept = c.in_ok-answer.ensures.kept ∙ c.loop-request.invariant.kept;
  notes = notes_then c.args.registry.now c.loop-request.registry c.answer.new.registry None c.loop-request.invariant.notes c.in_ok-answer.ensures.notes;
  endures = endures_then (state_of c.args.registry.now) (state_of c.loop-request.registry) (state_of c.answer.new.registry) c.loop-request.invariant.endures c.in_ok-answer.ensures.endures;
}

pub returns-clause-ok : goal.returns-clause-ok
returns-clause-ok g c lines kept h follows clean =
    let end = c.loop-request-test.false in
    let all : take c.loop-request.request-index c.args.requests.now ≡ c.args.requests.now = take_all c.loop-request.request-index c.args.requests.now (omega (arith, end)) in
    subst (λ (rs : List Request). HasAnsweredAll g.L.Log lines c.loop-request.registry c.loop-request.cursor c.args.cursor.now h rs (output_of g.W.Sink c.args.output.now c.loop-request.output)) all
    (c.loop-request.invariant.so_far lines kept h follows clean)

pub returns-in_err-answer-clause-err : goal.returns-in_err-answer-clause-err
returns-in_err-answer-clause-err g c lines kept h follows clean =
    let is : c.from_residual.result ≡ Err c.in_err-answer.field-0.0 = search rules in
    let so_far = c.loop-request.invariant.so_far lines kept h follows (clean_first (state_of c.loop-request.registry) (state_of c.answer.new.registry) c.in_err-answer.ensures.endures clean) in
    rw is (some_answered g.L.Log lines c.args.cursor.now h c.args.requests.now c.loop-request.request-index c.request-item.result c.loop-request-test.true c.request-item.is c.loop-request.registry c.loop-request.cursor
    (sunk g.W.Sink c.args.output.now) (sunk g.W.Sink c.loop-request.output) (sunk g.W.Sink c.answer.new.output) so_far c.answer.new.registry c.answer.new.cursor (c.in_err-answer.ensures.asks lines kept so_far.next so_far.follows clean) c.in_err-answer.field-0.0
    (c.in_err-answer.ensures.err lines kept so_far.next so_far.follows clean))

pub returns-in_err-answer-clause-writes : goal.returns-in_err-answer-clause-writes
returns-in_err-answer-clause-writes g c =
    let is : c.from_residual.result ≡ Err c.in_err-answer.field-0.0 = search rules in
    rw is (subst (λ (n : ℕ). TellsWrites n (g.W.Sink.failures c.answer.new.output) c.in_err-answer.field-0.0) c.loop-request.invariant.kept c.in_err-answer.ensures.writes)

pub returns-in_err-answer-clause-notes : goal.returns-in_err-answer-clause-notes
returns-in_err-answer-clause-notes g c =
    let is : c.from_residual.result ≡ Err c.in_err-answer.field-0.0 = search rules in
    rw is (notes_then c.args.registry.now c.loop-request.registry c.answer.new.registry _ c.loop-request.invariant.notes c.in_err-answer.ensures.notes)

pub returns-in_err-answer-clause-endures : goal.returns-in_err-answer-clause-endures
returns-in_err-answer-clause-endures g c = endures_then (state_of c.args.registry.now) (state_of c.loop-request.registry) (state_of c.answer.new.registry) c.loop-request.invariant.endures c.in_err-answer.ensures.endures

pub returns-in_err-answer-clause-when_poisoned : goal.returns-in_err-answer-clause-when_poisoned
returns-in_err-answer-clause-when_poisoned g c = λ e.
    let before = c.loop-request.invariant.when_poisoned e in
    let failed = c.in_err-answer.ensures.when_poisoned (ap is_poisoned before.0 ∙ e) in
    let stop : c.in_err-answer.field-0.0 ≡ stops.Share (shares.Registry faults.Poisoned) = cc failed.0 in
    let silent = rw stop at c.in_err-answer.ensures.silent in
    (failed.1 ∙ before.0, failed.2 ∙ before.1, ap (λ (out : Sunk). out.contents) silent ∙ before.2)
