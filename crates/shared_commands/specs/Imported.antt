-- What an import does over a log.
use Rattle.std.specs.Prelude.{◌≡◌, ◌⊎◌, ◌≤◌, ℕ, true, List, length, Result, Ok, Err}
use Rattle.sqlite.specs.Store.{Ghosts}
use Rattle.byte_streams.specs.Streams.{most_bytes}
use Rattle.usbids_text.specs.declared.fault.ReadFault.{ReadFault}
use Rattle.usbids_text.specs.Entries.{TopEntry}
use Rattle.usbids_text.specs.Reading.{ReadsAs}
use Rattle.registry_rules.specs.declared.order.Request.{Request}
use Rattle.registry_rules.specs.History.{History}
use Rattle.registry_store.specs.Promise.{Endures, NotesForeign, Represents, is_poisoned, state_of}
use Rattle.registry_commands.specs.declared.importing.Import.{Import}
use Rattle.registry_commands.specs.declared.messages.Failure.{Failure}
use Rattle.registry_commands.specs.declared.status.ExitStatus.{ExitStatus}
use Rattle.registry_commands.specs.declared.status.ExitStatus.TheVariants.{Failed}
use Rattle.registry_commands.specs.Ends.{Output}
use Rattle.registry_commands.specs.Failures.{Prints, PrintsFailure}
use Rattle.registry_commands.specs.Imports.{request_of_import}
use Rattle.registry_commands.specs.LookUp.{IsListRefused}
use Rattle.registry_commands.specs.Messages.{failure_line}
use Rattle.shared_log.specs.declared.log.Log.{Ghosts as LogGhosts}
use Rattle.shared_registry.specs.Asks.{AppendsRequest, IsLogAsked}
use Rattle.shared_registry.specs.Lines.{fault_in_call}
use Rattle.shared_registry.specs.declared.stop.ShareStop.{ShareStop}
use Rattle.shared_commands.specs.declared.answering.AnswerStop.TheVariants as stops
use Rattle.shared_commands.specs.Answered.{HasReplied, IsCutOverLog, TellsWrites}
use Rattle.shared_commands.specs.Applied.{Did, DidNothing, FollowedWith}

-- why no list was read, in these bytes: they are not one; or the input failed, or memory ran out
abbrev pub IsNoList : (Failure → Type 0) → List ℕ → Output → ExitStatus → Type 0
IsNoList OfInput bytes errors status =
    ((status ≡ Failed) × PrintsFailure OfInput errors) ⊎ ((fault : ReadFault) × (length bytes ≤ most_bytes) × ReadsAs bytes (Err fault) × IsListRefused fault errors status)

module _ {S : Type 0} {g : Ghosts S} {L : Type 0} (l : LogGhosts L) (it : Did S g L) where
  -- how one request was answered, with the status for its reply; or its line was cut, which is printed; or it was stopped, which is not
  abbrev pub EndsOne : Request → Result ExitStatus ShareStop → Type 0
  EndsOne r (Ok status) =
      ((it.errors.new ≡ it.errors.old) × (it.out.new.failures ≡ it.out.old.failures) × FollowedWith l it (λ lines h. HasReplied l lines it.new it.to it.from h r it.out status))
      ⊎ ((status ≡ Failed) × (failure : Failure) × TellsWrites it.out.old.failures it.out.new.failures (stops.Output failure) × Prints it.errors (failure_line failure)
      × FollowedWith l it (λ lines h. IsCutOverLog l lines it.new it.to it.from h r it.out.old.contents it.out.new.contents (stops.Output failure)))
  EndsOne r (Err stop) = (it.errors.new ≡ it.errors.old) × (it.out.new ≡ it.out.old)
      × FollowedWith l it (λ lines h. IsCutOverLog l lines it.new it.to it.from h r it.out.old.contents it.out.new.contents (stops.Share stop))

  -- This request was answered, or not. A poisoned registry does not act on it.
  pub record DidOne (r : Request) : Type 0 where
    pub ends : EndsOne r it.end
    pub asks : FollowedWith l it (λ lines h. IsLogAsked l (AppendsRequest (lines it.to.log) h r) it.from.log it.to.log)
    pub when_poisoned : is_poisoned it.old ≡ true → (it.new ≡ it.old) × (it.to ≡ it.from) × (it.out.new ≡ it.out.old)
    pub notes : NotesForeign it.old it.new (fault_in_call it.end)
    pub endures : Endures (state_of it.old) (state_of it.new)

  -- what an import did: the request of the list in these bytes was answered, or no list was read
  abbrev pub DidImport : (Failure → Type 0) → Import → List ℕ → Type 0
  DidImport OfInput import bytes =
      DidNothing l it (IsNoList OfInput bytes)
      ⊎ ((doc : List TopEntry) × (r : Request) × (length bytes ≤ most_bytes) × ReadsAs bytes (Ok doc)
      × ((h : History) → Represents it.old h → r ≡ request_of_import import h.founding.vendor doc) × DidOne r)
