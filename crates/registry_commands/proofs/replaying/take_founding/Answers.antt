use Rattle.std.proofs.Common.{◌≡◌, ◌⊎◌, ◌∙◌, ◌+◌, ◌-◌, ◌^◌, ℕ, refl, sym, ap, subst, inl, inr, arith}
use Rattle.std.specs.Prelude.{Err}
use Rattle.std.proofs.lemmas.Bool.{cases_lt}
use Rattle.std.proofs.lemmas.Result.{err_from_is_err_and}
use Rattle.byte_streams.specs.Streams.{FailsOnce}
use Rattle.registry_commands.specs.declared.entries.Entry.TheVariants as says
use Rattle.registry_commands.specs.declared.following.ReplayStop.TheVariants as stop
use Rattle.registry_commands.specs.declared.input.ReadAllFault.TheVariants as inputs
use Rattle.registry_commands.specs.declared.messages.Failure.{Failure}
use Rattle.registry_commands.specs.RecordLines.{ahead}
use Rattle.registry_commands.proofs.BeginLemmas.{begins_founding, begins_later, begins_refused, file_input, kept_unless_file, nothing_passed, of_record_input, one_passed}
use Rattle.registry_commands.proofs.RecordLineLemmas.{may_have, read_on}
use Rattle.registry_commands.proofs.replaying.take_founding.Goals as goal

pub loop-entry-init : goal.loop-entry-init
loop-entry-init g c = record { so_far = nothing_passed _ _; kept = refl }

pub loop-entry-preserved : goal.loop-entry-preserved
loop-entry-preserved g c =
    let found = rw c.in-Blank.is at c.in_ok-entry.ensures.found in
    record {
      so_far = one_passed _ _ _ _ c.loop-entry.invariant.so_far _ _ (rw c.pass.ensures.rest (found.passed tt)) (c.pass.ensures.lines ∙ ap (λ (n : ℕ). n + 1) c.in_ok-entry.ensures.lines);
      kept = c.in_ok-entry.ensures.kept ∙ c.loop-entry.invariant.kept;
    }

pub returns-in-Founding-clause-begins : goal.returns-in-Founding-clause-begins
returns-in-Founding-clause-begins g c =
    let found = rw c.in-Founding.is at c.in_ok-entry.ensures.found in
    begins_founding _ _ _ _ c.loop-entry.invariant.so_far (g.R.Source.failures c.args.source.now) (g.R.Source.failures c.peek.new.source) _ _ c.in-Founding.founding (rw c.pass-in-Founding.ensures.rest (found.passed tt)) (c.pass-in-Founding.ensures.lines ∙ ap (λ (n : ℕ). n + 1) c.in_ok-entry.ensures.lines)

pub returns-in-Bad-clause-begins : goal.returns-in-Bad-clause-begins
returns-in-Bad-clause-begins g c =
    let found = rw c.in-Bad.is at c.in_ok-entry.ensures.found in
    begins_refused _ _ _ _ c.loop-entry.invariant.so_far (g.R.Source.failures c.args.source.now) (g.R.Source.failures c.peek.new.source)
    (ahead (g.R.Source.remaining c.peek.new.source) c.peek.new.unread) c.peek.new.unread.lines _ c.in-Bad.refusal found.next (ap (λ (n : ℕ). n + 1) (c.lines.ensures ∙ c.in_ok-entry.ensures.lines))

pub returns-in-Accepted-clause-begins : goal.returns-in-Accepted-clause-begins
returns-in-Accepted-clause-begins g c =
    begins_later _ _ _ _ c.loop-entry.invariant.so_far (g.R.Source.failures c.args.source.now) (g.R.Source.failures c.peek.new.source) _ _ c.in_ok-entry.entry c.in_ok-entry.ensures.same c.in_ok-entry.ensures.found.next (rw c.in-Accepted.is refl) c.in_ok-entry.ensures.lines

pub returns-in-End-clause-begins : goal.returns-in-End-clause-begins
returns-in-End-clause-begins g c =
    begins_later _ _ _ _ c.loop-entry.invariant.so_far (g.R.Source.failures c.args.source.now) (g.R.Source.failures c.peek.new.source) _ _ c.in_ok-entry.entry c.in_ok-entry.ensures.same c.in_ok-entry.ensures.found.next (rw c.in-End.is refl) c.in_ok-entry.ensures.lines

pub returns-in_err-entry-clause-begins : goal.returns-in_err-entry-clause-begins
returns-in_err-entry-clause-begins g c =
    let p = err_from_is_err_and c.from_residual.result c.from_residual.ensures.1 in
    let before = g.R.Source.failures c.args.source.now in
    let after = g.R.Source.failures c.peek.new.source in
    let failed : c.in_err-entry.field-0.0 ≡ inputs.File → FailsOnce before after ⊎ (c.peek.new.unread.lines ≡ 2 ^ 64 - 1) = λ is.
    elim (c.in_err-entry.ensures.file (ap Err is)) [
      | inl source ↦ inl (subst (λ (n : ℕ). FailsOnce n after) c.loop-entry.invariant.kept source)
      | inr full ↦ inr (c.in_err-entry.ensures.lines ∙ full)
    ] in
    let so_far = c.loop-entry.invariant.so_far in
    let rest = may_have (ahead (g.R.Source.remaining c.loop-entry.source) c.loop-entry.unread) in
    rw (p.1, p.2) (
      so_far.lines,
      so_far.blank,
      c.in_err-entry.ensures.lines ∙ so_far.counted,
      (rest.0, so_far.passes rest.0 rest.1),
      of_record_input c.peek.new.unread.lines before after c.in_err-entry.field-0.0 failed (λ is. c.in_err-entry.ensures.memory (ap Err is) ∙ c.loop-entry.invariant.kept),
    )

pub returns-in_err-entry-clause-kept : goal.returns-in_err-entry-clause-kept
returns-in_err-entry-clause-kept g c = λ other.
    let p = err_from_is_err_and c.from_residual.result c.from_residual.ensures.1 in
    kept_unless_file c.in_err-entry.field-0.0 _ _ _ (λ is. other (p.1 ∙ ap Err p.2 ∙ ap (λ (f : Failure). Err (stop.Failure f)) is))
    (λ is. c.in_err-entry.ensures.memory (ap Err is)) c.loop-entry.invariant.kept

pub returns-in_err-entry-clause-waits : goal.returns-in_err-entry-clause-waits
returns-in_err-entry-clause-waits g c = λ told.
    let p = err_from_is_err_and c.from_residual.result c.from_residual.ensures.1 in
    let so_far = c.loop-entry.invariant.so_far in
    let is : c.in_err-entry.field-0.0 ≡ inputs.File = file_input c.in_err-entry.field-0.0 (cc (p.1, p.2, told)) in
    let rest = may_have (ahead (g.R.Source.remaining c.loop-entry.source) c.loop-entry.unread) in
    elim (cases_lt c.loop-entry.unread.lines (2 ^ 64 - 1)) [
      | inl few ↦ inr (so_far.lines, so_far.blank, read_on _ _ _ so_far.lines c.peek.new.unread so_far.passes (c.in_err-entry.ensures.waits (ap Err is) few))
      | inr full ↦ inl (so_far.lines, rest.0, so_far.passes rest.0 rest.1, c.in_err-entry.ensures.lines ∙ so_far.counted, omega (arith, full, c.in_err-entry.ensures.lines))
    ]
