-- Which failures a command may print, and when.
use Rattle.std.specs.Prelude.{◌≡◌, ◌≢◌, ◌⊎◌, ◌<◌, ℕ, List, length, ⊤}
use Rattle.sqlite.specs.declared.error.Error.{Error}
use Rattle.sqlite.specs.declared.error.Error.TheVariants.{SqliteFailure}
use Rattle.sqlite.specs.declared.error.ErrorCode.TheVariants.{OutOfMemory}
use Rattle.byte_streams.specs.Streams.{FailsOnce, most_bytes}
use Rattle.registry_commands.specs.declared.messages.Failure.{Failure}
use Rattle.registry_commands.specs.declared.messages.Failure.TheVariants.{File, Memory, Poisoned, Store, Taken}
use Rattle.registry_commands.specs.Ends.{Receives, ReceivesNothing, ReceivesPrefix, Output}
use Rattle.registry_commands.specs.Messages.{failure_line}

-- the text was written: all of it; or a prefix, and then one write failed
abbrev pub Prints : Output → List ℕ → Type 0
Prints errors text = ReceivesPrefix errors text × (FailsOnce errors.old.failures errors.new.failures ⊎ Receives errors text)

-- nothing was written, and the error output did not fail
abbrev pub PrintsNothing : Output → Type 0
PrintsNothing errors = ReceivesNothing errors

-- the message of one of these failures was written: all of it, or a prefix if the error output failed
abbrev pub PrintsFailure : (Failure → Type 0) → Output → Type 0
PrintsFailure May errors = (failure : Failure) × May failure × Prints errors (failure_line failure)

-- more bytes than an input may have
abbrev pub IsTooLong : List ℕ → Type 0
IsTooLong bytes = most_bytes < length bytes

-- the store failed or was out of memory
abbrev pub IsOfStore : Failure → Type 0
IsOfStore failure = (failure ≡ Store) ⊎ (failure ≡ Memory)

-- a failure to open a registry, or to found one where there is none: Store, Memory or Foreign
abbrev pub IsOfOpening : Failure → Type 0
IsOfOpening File = ⊥
IsOfOpening Taken = ⊥
IsOfOpening Poisoned = ⊥
IsOfOpening _ = ⊤

-- The failures of closing a store, by the errors that it may have. Memory: that it is out of memory may be its error. Store: another
-- one may be. That the close had this error is not said.
abbrev pub IsOfClosing : (Error → Type 0) → Failure → Type 0
IsOfClosing May Store = (error : Error) × (error ≢ SqliteFailure OutOfMemory) × May error
IsOfClosing May Memory = May (SqliteFailure OutOfMemory)
IsOfClosing May _ = ⊥

-- out of memory
abbrev pub IsOfMemory : Failure → Type 0
IsOfMemory failure = failure ≡ Memory

-- File: one read of the input failed between these two counts of failures; or none did, and it gives more than 4,294,967,295
-- bytes. Memory: out of memory, and the input did not fail.
abbrev pub IsOfInput : ℕ → ℕ → List ℕ → Failure → Type 0
IsOfInput old new bytes File = FailsOnce old new ⊎ (IsTooLong bytes × (new ≡ old))
IsOfInput old new bytes Memory = new ≡ old
IsOfInput old new bytes _ = ⊥

-- File: one write to the output failed between these two counts of failures. Any other failure: none did.
abbrev pub IsOfOutput : ℕ → ℕ → Failure → Type 0
IsOfOutput old new File = FailsOnce old new
IsOfOutput old new _ = new ≡ old

-- No read of these bytes failed; or the command failed, which is this, and the error output says that the input did.
abbrev pub TellsFailedReads : Type 0 → Output → ℕ → ℕ → List ℕ → Type 0
TellsFailedReads HasFailed errors old new bytes = (new ≡ old) ⊎ (HasFailed × Prints errors (failure_line File) × IsOfInput old new bytes File)

-- a failure over a sound registry and a clean disk: neither Foreign nor Taken nor Poisoned
abbrev pub IsOfSoundRun : Failure → Type 0
IsOfSoundRun Store = ⊤
IsOfSoundRun Memory = ⊤
IsOfSoundRun File = ⊤
IsOfSoundRun _ = ⊥
