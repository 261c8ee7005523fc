use Rattle.std.proofs.Common.{inl, inr, sym, subst}
use Rattle.registry_commands.specs.declared.messages.Failure.{Failure}
use Rattle.registry_commands.specs.Ends.{output_of}
use Rattle.registry_commands.specs.Failures.{IsOfInput, IsOfMemory, PrintsFailure}
use Rattle.registry_commands.proofs.FailureLemmas.{memory_of_input, not_too_long, tells_input}
use Rattle.registry_commands.proofs.KeyLemmas.{checks_more}
use Rattle.registry_commands.proofs.founding_check.check_founding.Goals as goal

pub returns-in-Ok : goal.returns-in-Ok
returns-in-Ok g c =
    let bytes = c.as_slice.result.now in
    let before = g.R.Source.failures c.args.source.now in
    let after = g.R.Source.failures c.read_all.new.source in (
      bytes,
      rw c.as_slice.ensures.value c.in-Ok.ensures.ok.0,
      checks_more IsOfMemory (IsOfInput before after bytes) (memory_of_input before after bytes c.in-Ok.ensures.kept)
          bytes (output_of g.E.Sink c.args.errors.now c.check_bytes.new.errors) c.check_bytes.result c.check_bytes.ensures,
      λ long. absurd (not_too_long bytes (rw c.as_slice.ensures.value c.in-Ok.ensures.ok.1) long),
      inl c.in-Ok.ensures.kept,
    )

pub returns-in-Err : goal.returns-in-Err
returns-in-Err g c =
    let bytes = c.in-Err.ensures.err.0 in
    let OfInput = IsOfInput (g.R.Source.failures c.args.source.now) (g.R.Source.failures c.read_all.new.source) bytes in
    let may = subst (λ (failure : Failure). OfInput failure) (sym c.input_failure.ensures) c.in-Err.ensures.err.2 in
    let told : PrintsFailure OfInput _ = (c.input_failure.result, may, c.fail.ensures.told) in (
      bytes,
      c.in-Err.ensures.err.1,
      inr (c.fail.ensures.status, told),
      λ long. (c.fail.ensures.status, told),
      tells_input _ (output_of g.E.Sink c.args.errors.now c.fail.new.errors) (g.R.Source.failures c.args.source.now) (g.R.Source.failures c.read_all.new.source) bytes c.in-Err.fault c.fail.ensures.status (rw (← c.input_failure.ensures) c.fail.ensures.told) c.in-Err.ensures.err.2,
    )
