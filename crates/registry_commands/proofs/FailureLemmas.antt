-- Which failure is printed, from the step that failed up to the whole command.
use Rattle.std.proofs.Common.{◌≡◌, ◌⊎◌, inl, inr, ℕ, ◌≤◌, List, length, refl, sym, subst, arith}
use Rattle.std.specs.Prelude.{◌≢◌, Bool, Some, None, Result, Ok, Err, IfErr, true, false}
use Rattle.sqlite.specs.declared.error.Error.{Error}
use Rattle.sqlite.specs.Store.{Ghosts}
use Rattle.sqlite.specs.State.{HasCleanDisk}
use Rattle.byte_streams.specs.Streams.{most_bytes}
use Rattle.registry_rules.specs.History.{History}
use Rattle.registry_store.specs.declared.fault.Fault.{Fault}
use Rattle.registry_store.specs.declared.fault.Fault.TheVariants as faults
use Rattle.registry_store.specs.declared.registry.Registry.{Registry}
use Rattle.registry_store.specs.Promise.{NotesForeign, is_poisoned, poisoned_by, state_of}
use Rattle.registry_commands.specs.declared.input.ReadAllFault.{ReadAllFault}
use Rattle.registry_commands.specs.declared.input.ReadAllFault.TheVariants as inputs
use Rattle.registry_commands.specs.declared.messages.Failure.{Failure}
use Rattle.registry_commands.specs.declared.messages.Failure.TheVariants.{Store, Memory, Foreign, Taken, Poisoned, File}
use Rattle.registry_commands.specs.Ends.{Output}
use Rattle.registry_commands.specs.Failures.{IsOfClosing, IsOfInput, IsOfMemory, IsOfOutput, IsOfSoundRun, IsOfStore, IsTooLong, Prints, PrintsFailure, TellsFailedReads}
use Rattle.registry_commands.specs.Messages.{failure_line, failure_of, input_failure}
use Rattle.registry_commands.specs.Apply.{IsOfRun}

pub if_err : {A E : Type 0} (P Q : E → Type 0) (r : Result A E) → ((e : E) → P e → Q e) → IfErr r P → IfErr r Q
if_err P Q (Ok x) f p = tt
if_err P Q (Err e) f p = f e p

-- a failure of fewer kinds is one of more kinds
pub tells_more : (Narrow Wide : Failure → Type 0) (errors : Output) → ((failure : Failure) → Narrow failure → Wide failure)
    → PrintsFailure Narrow errors → PrintsFailure Wide errors
tells_more Narrow Wide errors more told = (told.0, more told.0 told.1, told.2)

-- the failures of closing are of the store or of memory
pub of_store : (May : Error → Type 0) (failure : Failure) → IsOfClosing May failure → IsOfStore failure
of_store May Store why = inl refl
of_store May Memory why = inr refl
of_store May Foreign never = absurd never
of_store May Taken never = absurd never
of_store May Poisoned never = absurd never
of_store May File never = absurd never

-- what was read is not too long
pub not_too_long : (bytes : List ℕ) → length bytes ≤ most_bytes → ¬ IsTooLong bytes
not_too_long bytes most long = omega (arith, most, long)

-- the failure of an input is told as it is
pub tells_input : (HasFailed : Type 0) (errors : Output) (old new : ℕ) (bytes : List ℕ) (fault : ReadAllFault) → HasFailed → Prints errors (failure_line (input_failure fault))
    → IsOfInput old new bytes (input_failure fault) → TellsFailedReads HasFailed errors old new bytes
tells_input HasFailed errors old new bytes inputs.File failed told is = inr (failed, told, is)
tells_input HasFailed errors old new bytes inputs.NoMemory failed told same = inl same

-- out of memory, and the input did not fail
pub memory_of_input : (old new : ℕ) (bytes : List ℕ) → new ≡ old → (failure : Failure) → IsOfMemory failure → IsOfInput old new bytes failure
memory_of_input old new bytes same failure is = subst (λ (f : Failure). IsOfInput old new bytes f) (sym is) same

-- a fault of the registry is not a failure of the output
pub not_of_output : (old new : ℕ) → new ≡ old → (fault : Fault) → IsOfOutput old new (failure_of fault)
not_of_output old new same faults.Store = same
not_of_output old new same faults.NoMemory = same
not_of_output old new same faults.Foreign = same
not_of_output old new same faults.Taken = same
not_of_output old new same faults.Poisoned = same

module _ {S : Type 0} {g : Ghosts S} where
  -- a reply that is not written stops a run, over a registry that is not poisoned
  pub of_reply : (it new : Registry S g) (These : History → Type 0) (failure : Failure) → is_poisoned new ≡ false → NotesForeign it new None → (failure ≡ Memory) ⊎ (failure ≡ File)
      → IsOfRun it new These failure
  of_reply it new These failure on notes (inl is) = subst (λ (f : Failure). IsOfRun it new These f) (sym is) (inr on, notes)
  of_reply it new These failure on notes (inr is) = subst (λ (f : Failure). IsOfRun it new These f) (sym is) (on, notes)

  -- the registry keeps a fault that is its first
  keeps_fault : (it new : Registry S g) (fault : Fault) → (is_poisoned it ≡ true → fault ≡ faults.Poisoned) → (is_poisoned it ≡ false → poisoned_by new ≡ Some fault) → fault ≢ faults.Poisoned
      → poisoned_by new ≡ Some fault
  keeps_fault it new fault spent keeps first = go (is_poisoned it) refl
    where
      go : (b : Bool) → is_poisoned it ≡ b → poisoned_by new ≡ Some fault
      go true is = absurd (first (spent is))
      go false is = keeps is

  -- a fault of the registry stops a run
  pub of_fault : (it new : Registry S g) (These : History → Type 0) (fault : Fault) → (fault ≡ faults.Poisoned → is_poisoned it ≡ true) → (is_poisoned it ≡ true → fault ≡ faults.Poisoned)
      → (is_poisoned it ≡ false → poisoned_by new ≡ Some fault) → NotesForeign it new (Some fault) → (fault ≡ faults.Taken → ⊥)
      → ((h : History) → These h → HasCleanDisk (state_of new) → (fault ≡ faults.Store) ⊎ (fault ≡ faults.NoMemory)) → IsOfRun it new These (failure_of fault)
  of_fault it new These faults.Store poisoned spent keeps notes never kind = (keeps_fault it new faults.Store spent keeps (λ e. absurd cc), notes)
  of_fault it new These faults.NoMemory poisoned spent keeps notes never kind = (inl (keeps_fault it new faults.NoMemory spent keeps (λ e. absurd cc)), notes)
  of_fault it new These faults.Foreign poisoned spent keeps notes never kind =
      (keeps_fault it new faults.Foreign spent keeps (λ e. absurd cc), λ at. elim (kind at.0 at.1 at.2) [ inl e ↦ absurd cc | inr e ↦ absurd cc ])
  of_fault it new These faults.Taken poisoned spent keeps notes never kind = never refl
  of_fault it new These faults.Poisoned poisoned spent keeps notes never kind = poisoned refl

  -- a sound registry over a clean disk
  pub of_sound_run : (it new : Registry S g) (These : History → Type 0) (h : History) → These h → is_poisoned it ≡ false → HasCleanDisk (state_of new)
      → (failure : Failure) → IsOfRun it new These failure → IsOfSoundRun failure
  of_sound_run it new These h here not_poisoned clean Poisoned poisoned = absurd cc
  of_sound_run it new These h here not_poisoned clean Foreign none = absurd (none.1 (h, here, clean))
  of_sound_run it new These h here not_poisoned clean Taken never = absurd never
  of_sound_run it new These h here not_poisoned clean Store is = tt
  of_sound_run it new These h here not_poisoned clean Memory is = tt
  of_sound_run it new These h here not_poisoned clean File is = tt
