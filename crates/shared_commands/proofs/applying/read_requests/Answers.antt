use Rattle.std.proofs.Common.{inl, subst, sym, ap}
use Rattle.std.specs.Prelude.{Err}
use Rattle.registry_commands.specs.declared.messages.Failure.{Failure}
use Rattle.registry_commands.specs.Ends.{output_of}
use Rattle.registry_commands.specs.Failures.{IsOfInput, IsOfMemory, PrintsFailure}
use Rattle.registry_commands.specs.Lines.{requests_in}
use Rattle.registry_commands.proofs.FailureLemmas.{if_err, memory_of_input, not_too_long, tells_input}
use Rattle.shared_commands.specs.Applied.{IsNoInput}
use Rattle.shared_commands.proofs.InputLemmas.{failed_input, no_input_more}
use Rattle.shared_commands.proofs.applying.read_requests.Goals as goal

pub returns-in-Ok : goal.returns-in-Ok
returns-in-Ok g c =
    let bytes = c.as_slice.result.now in
    let before = g.R.Source.failures c.args.source.now in
    let after = g.R.Source.failures c.read_all.new.source in
    let errors = output_of g.E.Sink c.args.errors.now c.requests_of.new.errors in (
      bytes,
      rw c.as_slice.ensures.value c.in-Ok.ensures.ok.0,
      c.requests_of.ensures.ok,
      if_err (IsNoInput IsOfMemory (requests_in bytes) c.args.answered errors) (IsNoInput (IsOfInput before after bytes) (requests_in bytes) c.args.answered errors) c.requests_of.result
          (no_input_more IsOfMemory (IsOfInput before after bytes) (memory_of_input before after bytes c.in-Ok.ensures.kept) (requests_in bytes) c.args.answered errors) c.requests_of.ensures.err,
      λ long. absurd (not_too_long bytes (rw c.as_slice.ensures.value c.in-Ok.ensures.ok.1) long),
      inl c.in-Ok.ensures.kept,
    )

pub returns-in-Err : goal.returns-in-Err
returns-in-Err g c =
    let bytes = c.in-Err.ensures.err.0 in
    let OfInput = IsOfInput (g.R.Source.failures c.args.source.now) (g.R.Source.failures c.read_all.new.source) bytes in
    let errors = output_of g.E.Sink c.args.errors.now c.fail.new.errors in
    let may = subst (λ (failure : Failure). OfInput failure) (sym c.input_failure.ensures) c.in-Err.ensures.err.2 in
    let told : PrintsFailure OfInput errors = (c.input_failure.result, may, c.fail.ensures.told) in (
      bytes,
      c.in-Err.ensures.err.1,
      tt,
      failed_input OfInput (requests_in bytes) c.args.answered errors c.fail.result c.fail.ensures.status told,
      λ long. ap Err c.fail.ensures.status,
      tells_input _ errors (g.R.Source.failures c.args.source.now) (g.R.Source.failures c.read_all.new.source) bytes c.in-Err.fault (ap Err c.fail.ensures.status) (rw (← c.input_failure.ensures) c.fail.ensures.told) c.in-Err.ensures.err.2,
    )
