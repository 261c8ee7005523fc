use Rattle.std.proofs.Common.{◌≡◌, ◌<◌, ◌++◌, List, ℕ, length, ◌∙◌, inl, inr, ap, refl, Err, arith, length-append}
use Rattle.std.proofs.lemmas.Result.{err_from_is_err_and}
use Rattle.byte_streams.specs.Streams.{FailsOnce, most_bytes}
use Rattle.byte_streams.proofs.StreamLemmas.{all_of}
use Rattle.registry_commands.specs.declared.input.ReadAllFault.{ReadAllFault}
use Rattle.registry_commands.specs.declared.input.ReadAllFault.TheVariants as inputs
use Rattle.registry_commands.specs.Failures.{IsOfInput}
use Rattle.registry_commands.specs.Messages.{input_failure}
use Rattle.registry_commands.proofs.input.read_all.Goals as goal

-- the fault of an input
told : (before after : ℕ) (bytes : List ℕ) (fault : ReadAllFault) → (fault ≡ inputs.File → FailsOnce before after) → (fault ≡ inputs.NoMemory → after ≡ before)
    → IsOfInput before after bytes (input_failure fault)
told before after bytes inputs.File failed kept = inl (failed refl)
told before after bytes inputs.NoMemory failed kept = kept refl

pub returns-clause-err : goal.returns-clause-err
returns-clause-err g c =
    let bytes = c.loop-source.bytes.items in
    let all = all_of _ _ bytes c.loop-source.invariant.read in
    let long : most_bytes < length (bytes ++ all.0) = omega (arith, length-append bytes all.0) in
    (bytes ++ all.0, all.1, inr (long, c.loop-source.invariant.same_failures))

pub returns-in_err-count-clause-err : goal.returns-in_err-count-clause-err
returns-in_err-count-clause-err g c =
    let p = err_from_is_err_and c.from_residual.result c.from_residual.ensures.1 in
    let fault = c.in_err-count.field-0.0 in
    let bytes = c.loop-source.bytes.items in
    let all = all_of _ _ bytes c.loop-source.invariant.read in
    let before = g.R.Source.failures c.args.source.now in
    let after = g.R.Source.failures c.take_more.new.source in
    let failed : (fault ≡ inputs.File) → FailsOnce before after = λ e. rw (← c.loop-source.invariant.same_failures) (c.in_err-count.ensures.file (ap Err e)) in
    let kept : (fault ≡ inputs.NoMemory) → after ≡ before = λ e. c.in_err-count.ensures.memory (ap Err e) ∙ c.loop-source.invariant.same_failures in
    rw (p.1, p.2) (bytes ++ all.0, all.1, told before after (bytes ++ all.0) fault failed kept)
