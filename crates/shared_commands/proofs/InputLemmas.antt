-- Inputs that are no requests.
use Rattle.std.proofs.Common.{◌≡◌, ◌⊎◌, inl, inr, ℕ, List}
use Rattle.std.specs.Prelude.{Result, Err}
use Rattle.registry_rules.specs.declared.order.Request.{Request}
use Rattle.registry_commands.specs.declared.lines.BadLine.{BadLine}
use Rattle.registry_commands.specs.declared.messages.Failure.{Failure}
use Rattle.registry_commands.specs.declared.status.ExitStatus.{ExitStatus}
use Rattle.registry_commands.specs.declared.status.ExitStatus.TheVariants.{Success, Failed, Rejected}
use Rattle.registry_commands.specs.Ends.{Output}
use Rattle.registry_commands.specs.Failures.{IsOfMemory, Prints, PrintsFailure}
use Rattle.registry_commands.specs.Messages.{bad_line_text}
use Rattle.registry_commands.proofs.FailureLemmas.{tells_more}
use Rattle.shared_commands.specs.Applied.{IsNoInput}

-- memory ran out, or the input failed
pub failed_input : (OfInput : Failure → Type 0) (read : Result (List Request) BadLine) (a : ℕ) (errors : Output) (status : ExitStatus) → status ≡ Failed → PrintsFailure OfInput errors → IsNoInput OfInput read a errors status
failed_input OfInput read a errors status failed told = rw failed told

-- a line is not a request, or memory ran out for its text
pub rejected_input : (bad : BadLine) (read : Result (List Request) BadLine) (a : ℕ) (errors : Output) (status : ExitStatus) → read ≡ Err bad
    → ((status ≡ Rejected) × Prints errors (bad_line_text bad)) ⊎ ((status ≡ Failed) × PrintsFailure IsOfMemory errors) → IsNoInput IsOfMemory read a errors status
rejected_input bad read a errors status is (inl told) = rw told.0 (inl (bad, is, told.1))
rejected_input bad read a errors status is (inr told) = rw told.0 told.1

pub no_input_more : (Narrow Wide : Failure → Type 0) → ((failure : Failure) → Narrow failure → Wide failure) → (read : Result (List Request) BadLine) (a : ℕ) (errors : Output) (status : ExitStatus)
    → IsNoInput Narrow read a errors status → IsNoInput Wide read a errors status
no_input_more Narrow Wide more read a errors Success it = it
no_input_more Narrow Wide more read a errors Failed it = tells_more Narrow Wide errors more it
no_input_more Narrow Wide more read a errors Rejected it = it
