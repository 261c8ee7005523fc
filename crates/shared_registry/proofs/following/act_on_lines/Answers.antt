use Rattle.std.proofs.Common.{◌≡◌, None, subst, take, arith}
use Rattle.std.proofs.lemmas.List.{take_all}
use Rattle.std.proofs.lemmas.Result.{err_from_is_err_and}
use Rattle.registry_store.specs.Promise.{state_of}
use Rattle.registry_store.proofs.IsQueryLemmas.{notes_then}
use Rattle.shared_log.specs.Calls.{LogLines}
use Rattle.shared_registry.specs.Lines.{LeadsToLines}
use Rattle.shared_registry.proofs.LineLemmas.{before_line, clean_first, endures_then, one_more, stopped_in}
use Rattle.shared_registry.proofs.following.act_on_lines.Goals as goal

pub returns-in_default-clause-stopped : goal.returns-in_default-clause-stopped
returns-in_default-clause-stopped g c h stands clean =
    let so_far = c.loop-line.invariant.leads h stands clean in
    stopped_in c.loop-line.registry h so_far.0 c.args.lines.now c.loop-line.line-index c.line-item.result c.args.next.now c.loop-line.next c.loop-line-test.true c.line-item.is c.loop-line.invariant.counted so_far.1 _
    (λ others. (so_far.2, omega (arith, c.in_default.ensures)))

pub returns-in_err-act_on_line-clause-stopped : goal.returns-in_err-act_on_line-clause-stopped
returns-in_err-act_on_line-clause-stopped g c h stands clean =
    let p = err_from_is_err_and c.from_residual.result c.from_residual.ensures.1 in
    let so_far = c.loop-line.invariant.leads h stands (clean_first (state_of c.loop-line.registry) (state_of c.act_on_line.new.registry) c.in_err-act_on_line.ensures.endures clean) in
    rw (p.1, p.2) (stopped_in c.act_on_line.new.registry h so_far.0 c.args.lines.now c.loop-line.line-index c.line-item.result c.args.next.now c.loop-line.next c.loop-line-test.true c.line-item.is c.loop-line.invariant.counted so_far.1 c.in_err-act_on_line.field-0.0
    (λ others. before_line c.act_on_line.new.registry so_far.0 c.line-item.result others c.loop-line.next c.in_err-act_on_line.field-0.0 (c.in_err-act_on_line.ensures.stopped so_far.0 so_far.2 clean)))

pub loop-line-preserved : goal.loop-line-preserved
loop-line-preserved g c = record {
  leads = λ h stands clean.
      let so_far = c.loop-line.invariant.leads h stands (clean_first (state_of c.loop-line.registry) (state_of c.act_on_line.new.registry) c.in_ok-act_on_line.ensures.endures clean) in
      let next = c.in_ok-act_on_line.ensures.goes_on so_far.0 so_far.2 clean in
      (next.0, one_more h so_far.0 next.0 c.args.lines.now c.loop-line.line-index c.line-item.result c.loop-line-test.true c.line-item.is so_far.1 next.1, next.2);
  counted = (let passed = c.in-Some.ensures.1 in let counted = c.loop-line.invariant.counted in omega (arith, passed, counted));
  small = (let passed = c.in-Some.ensures.1 in let fits = c.in-Some.ensures.0 in omega (arith, passed, fits));
  notes = notes_then c.args.registry.now c.loop-line.registry c.act_on_line.new.registry None c.loop-line.invariant.notes c.in_ok-act_on_line.ensures.notes;
  endures = endures_then (state_of c.args.registry.now) (state_of c.loop-line.registry) (state_of c.act_on_line.new.registry) c.loop-line.invariant.endures c.in_ok-act_on_line.ensures.endures;
}

pub returns-clause-goes_on : goal.returns-clause-goes_on
returns-clause-goes_on g c h stands clean =
    let end = c.loop-line-test.false in
    let all : take c.loop-line.line-index c.args.lines.now ≡ c.args.lines.now = take_all c.loop-line.line-index c.args.lines.now (omega (arith, end)) in
    subst (λ (l : LogLines). LeadsToLines c.loop-line.registry h l) all (c.loop-line.invariant.leads h stands clean)
