-- What a command on request lines does over a log.
use Rattle.std.specs.Prelude.{◌≡◌, ◌⊎◌, ◌<◌, ◌≤◌, ℕ, true, List, length, drop, Result, Ok, Err}
use Rattle.sqlite.specs.Store.{Ghosts}
use Rattle.sqlite.specs.State.{HasCleanDisk}
use Rattle.byte_streams.specs.declared.streams.Sink as sink
use Rattle.registry_rules.specs.declared.order.Request.{Request}
use Rattle.registry_rules.specs.History.{History}
use Rattle.registry_store.specs.declared.registry.Registry.{Registry}
use Rattle.registry_store.specs.Promise.{Endures, NotesForeign, is_poisoned, state_of}
use Rattle.registry_commands.specs.declared.lines.BadLine.{BadLine}
use Rattle.registry_commands.specs.declared.messages.Failure.{Failure}
use Rattle.registry_commands.specs.declared.status.ExitStatus.{ExitStatus}
use Rattle.registry_commands.specs.declared.status.ExitStatus.TheVariants.{Success, Failed, Rejected}
use Rattle.registry_commands.specs.Ends.{Output, output_of}
use Rattle.registry_commands.specs.Failures.{Prints, PrintsFailure}
use Rattle.registry_commands.specs.Messages.{bad_line_text, exceeds_text, failure_line}
use Rattle.shared_log.specs.Calls.{KeepsLines, LogLines}
use Rattle.shared_log.specs.declared.log.Log.{Ghosts as LogGhosts}
use Rattle.shared_registry.specs.Follows.{Follows}
use Rattle.shared_registry.specs.Lines.{fault_in_call}
use Rattle.shared_registry.specs.declared.cursor.Cursor.{Cursor}
use Rattle.shared_registry.specs.declared.stop.ShareStop.{ShareStop}
use Rattle.shared_commands.specs.declared.answering.AnswerStop.TheVariants as stops
use Rattle.shared_commands.specs.Answered.{HasAnsweredAll, HasAnsweredSome, TellsWrites}

-- what a command over a log did: its registry, its place in the log and its outputs before it and after it, and how it ended
pub record Did (S : Type 0) (g : Ghosts S) (L : Type 0) : Type 0 where
  pub old : Registry S g
  pub new : Registry S g
  pub from : Cursor L
  pub to : Cursor L
  pub out : Output
  pub errors : Output
  pub end : Result ExitStatus ShareStop

abbrev pub did : {S L W E : Type 0} {g : Ghosts S} → sink.Ghosts W → sink.Ghosts E → Registry S g → Registry S g → Cursor L → Cursor L → W → W → E → E → Result ExitStatus ShareStop → Did S g L
did w e old new from to out out_new errors errors_new end = record { old = old; new = new; from = from; to = to; out = output_of w out out_new; errors = output_of e errors errors_new; end = end }

-- why no requests were read: a line is not a request, or more were answered than there are; or the input failed, or memory ran out
abbrev pub IsNoInput : (Failure → Type 0) → Result (List Request) BadLine → ℕ → Output → ExitStatus → Type 0
IsNoInput OfInput read a errors Success = ⊥
IsNoInput OfInput read a errors Failed = PrintsFailure OfInput errors
IsNoInput OfInput read a errors Rejected =
    ((bad : BadLine) × (read ≡ Err bad) × Prints errors (bad_line_text bad)) ⊎ ((rs : List Request) × (read ≡ Ok rs) × (length rs < a) × Prints errors exceeds_text)

module _ {S : Type 0} {g : Ghosts S} {L : Type 0} (l : LogGhosts L) (it : Did S g L) where
  -- nothing was acted on, no call of the log was made, and nothing was written but this on the error output
  pub record DidNothing (Told : Output → ExitStatus → Type 0) : Type 0 where
    pub status : ExitStatus
    pub end_is : it.end ≡ Ok status
    pub same : it.new ≡ it.old
    pub same_place : it.to ≡ it.from
    pub silent : it.out.new ≡ it.out.old
    pub told : Told it.errors status

  -- this holds of each history that the registry followed the log with
  abbrev pub FollowedWith : ((L → LogLines) → History → Type 0) → Type 0
  FollowedWith Then = (lines : L → LogLines) → KeepsLines l lines → (h : History) → Follows l lines it.old it.from h → HasCleanDisk (state_of it.new) → Then lines h

  -- how requests were answered: all of them; up to one whose line was cut, which is printed; or up to one that was stopped, which is not
  abbrev pub EndsRunOverLog : List Request → Result ExitStatus ShareStop → Type 0
  EndsRunOverLog rs (Ok Success) = (it.errors.new ≡ it.errors.old) × (it.out.new.failures ≡ it.out.old.failures) × FollowedWith (λ lines h. HasAnsweredAll l lines it.new it.to it.from h rs it.out)
  EndsRunOverLog rs (Ok Failed) = (failure : Failure) × TellsWrites it.out.old.failures it.out.new.failures (stops.Output failure) × Prints it.errors (failure_line failure)
      × FollowedWith (λ lines h. HasAnsweredSome l lines it.new it.to it.from h rs it.out (stops.Output failure))
  EndsRunOverLog rs (Ok Rejected) = ⊥
  EndsRunOverLog rs (Err stop) = (it.errors.new ≡ it.errors.old) × (it.out.new.failures ≡ it.out.old.failures)
      × FollowedWith (λ lines h. HasAnsweredSome l lines it.new it.to it.from h rs it.out (stops.Share stop))

  -- These requests were answered, or some of them. A poisoned registry acts on none.
  pub record DidRun (rs : List Request) : Type 0 where
    pub ends : EndsRunOverLog rs it.end
    pub when_poisoned : is_poisoned it.old ≡ true → (it.new ≡ it.old) × (it.to ≡ it.from) × (it.out.new.contents ≡ it.out.old.contents)
    pub notes : NotesForeign it.old it.new (fault_in_call it.end)
    pub endures : Endures (state_of it.old) (state_of it.new)

  -- what a command on request lines did: those after the first a were answered, or no requests were read
  abbrev pub DidApply : (Failure → Type 0) → Result (List Request) BadLine → ℕ → Type 0
  DidApply OfInput read a = DidNothing (IsNoInput OfInput read a) ⊎ ((rs : List Request) × (read ≡ Ok rs) × (a ≤ length rs) × DidRun (drop a rs))
