use Rattle.std.proofs.Common.{refl}
use Rattle.registry_commands.specs.declared.messages.Failure.TheVariants.{Memory}
use Rattle.registry_commands.specs.Ends.{output_of}
use Rattle.registry_commands.specs.Failures.{IsOfMemory}
use Rattle.registry_commands.specs.Lines.{requests_in}
use Rattle.shared_commands.proofs.InputLemmas.{failed_input, rejected_input}
use Rattle.shared_commands.proofs.applying.requests_of.Goals as goal

pub returns-in-Err-Refused-clause-err : goal.returns-in-Err-Refused-clause-err
returns-in-Err-Refused-clause-err g c =
    rejected_input c.in-Err-Refused.bad (requests_in c.args.bytes.now) c.args.answered (output_of g.E.Sink c.args.errors.now c.reject_line.new.errors) c.reject_line.result (rw c.in-Err-Refused.field-0-is at c.in-Err-Refused.ensures) c.reject_line.ensures

pub returns-in-Err-NoMemory-clause-err : goal.returns-in-Err-NoMemory-clause-err
returns-in-Err-NoMemory-clause-err g c =
    failed_input IsOfMemory (requests_in c.args.bytes.now) c.args.answered (output_of g.E.Sink c.args.errors.now c.fail.new.errors) c.fail.result c.fail.ensures.status (Memory, refl, c.fail.ensures.told)
