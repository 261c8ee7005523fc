-- How a founding, a trial and the use of a store end.
use Rattle.std.proofs.Common.{◌≡◌, ◌⊎◌, inl, inr, ℕ, IsTrue, List, refl, sym, subst, arith}
use Rattle.std.specs.Prelude.{◌≢◌, Result, Ok, Err}
use Rattle.sqlite.specs.declared.error.Error.{Error}
use Rattle.sqlite.specs.declared.error.Error.TheVariants.{SqliteFailure}
use Rattle.sqlite.specs.declared.error.ErrorCode.TheVariants.{OutOfMemory}
use Rattle.sqlite.specs.Store.{Ghosts}
use Rattle.sqlite.specs.State.{HasCleanDisk}
use Rattle.sqlite.specs.Held.{Held, state}
use Rattle.sqlite.specs.Steps.{over_memory}
use Rattle.sqlite_trees.specs.declared.memory.MemStore.{MemStore}
use Rattle.sqlite_trees.specs.View.{doubt}
use Rattle.registry_rules.specs.declared.founding.Founding.{Founding}
use Rattle.registry_rules.specs.declared.order.Request.{Request}
use Rattle.registry_rules.specs.History.{founded}
use Rattle.registry_tables.specs.Calls.{HasNoMeta}
use Rattle.registry_store.specs.declared.fault.Fault.{Fault}
use Rattle.registry_store.specs.declared.fault.Fault.TheVariants as faults
use Rattle.registry_store.specs.declared.registry.Registry.{Registry}
use Rattle.registry_store.specs.Promise.{Represents, state_of}
use Rattle.registry_store.specs.Run.{HasAnsweredNone}
use Rattle.registry_wire.specs.declared.refusal.WireRefusal.{WireRefusal}
use Rattle.registry_wire.specs.Founding.{Listed}
use Rattle.registry_commands.specs.declared.lines.BadLine.{BadLine}
use Rattle.registry_commands.specs.declared.messages.Failure.{Failure}
use Rattle.registry_commands.specs.declared.messages.Failure.TheVariants.{Store, Memory}
use Rattle.registry_commands.specs.declared.status.ExitStatus.{ExitStatus}
use Rattle.registry_commands.specs.declared.status.ExitStatus.TheVariants.{Failed}
use Rattle.registry_commands.specs.Ends.{Effect, Output, Sunk}
use Rattle.registry_commands.specs.Failures.{IsOfClosing, IsOfInput, IsOfSoundRun, PrintsFailure}
use Rattle.registry_commands.specs.Messages.{failure_of}
use Rattle.registry_commands.specs.Apply.{IsApplied, IsOfReplies, IsOfRun}
use Rattle.registry_commands.specs.Found.{IsOfFounding, ReadsFounding}
use Rattle.registry_commands.specs.Trial.{IsOfStart, IsTrial, IsTrialOf}
use Rattle.registry_commands.proofs.ApplyLemmas.{keeps_same, silent}
use Rattle.registry_commands.proofs.FailureLemmas.{memory_of_input, of_sound_run, tells_more}

-- the founding file was read from an input, which may fail too
pub reads_more : (OfMemory OfInput : Failure → Type 0) → ((failure : Failure) → OfMemory failure → OfInput failure)
    → (listed : Result Listed WireRefusal) (errors : Output) (read : Result Founding ExitStatus) → ReadsFounding OfMemory listed errors read → ReadsFounding OfInput listed errors read
reads_more OfMemory OfInput more listed errors (Ok founding) is = is
reads_more OfMemory OfInput more listed errors (Err status) is =
    elim is [ inl said ↦ inl said | inr failed ↦ inr (failed.0, tells_more OfMemory OfInput errors more failed.1) ]

-- the fault of a founding is one of its failures
pub of_founding : {S : Type 0} (g : Ghosts S) (conn new : Held S) (fault : Fault)
    → (fault ≢ faults.Taken → HasNoMeta (state g conn).now ⊎ IsTrue conn.in_transaction)
    → (fault ≡ faults.Taken → (new ≡ conn) × ¬ HasNoMeta (state g conn).now) → (fault ≢ faults.Poisoned) × (fault ≢ faults.Foreign)
    → IsOfFounding g conn new (failure_of fault)
of_founding g conn new faults.Store untaken taken kind = untaken (λ e. absurd cc)
of_founding g conn new faults.NoMemory untaken taken kind = untaken (λ e. absurd cc)
of_founding g conn new faults.Taken untaken taken kind = taken refl
of_founding g conn new faults.Poisoned untaken taken kind = absurd (kind.0 refl)
of_founding g conn new faults.Foreign untaken taken kind = absurd (kind.1 refl)

-- an error of closing is one of its failures
pub of_closing : (Left : Error → Type 0) (error : Error) (failure : Failure)
    → ((failure ≡ Memory) × (error ≡ SqliteFailure OutOfMemory)) ⊎ ((failure ≡ Store) × (error ≢ SqliteFailure OutOfMemory))
    → Left error → IsOfClosing Left failure
of_closing Left error failure (inl memory) why = subst (λ (f : Failure). IsOfClosing Left f) (sym memory.0) (subst Left memory.1 why)
of_closing Left error failure (inr store) why = subst (λ (f : Failure). IsOfClosing Left f) (sym store.0) (error, store.1, why)

-- a failure before any line is acted on
pub trial_fails : (OfInput : Failure → Type 0) (read : Result (List Request) BadLine) (out : Sunk) (errors : Output) (status : ExitStatus)
    → status ≡ Failed → PrintsFailure (IsOfStart OfInput) errors → IsTrialOf OfInput read (record { out = silent out; errors = errors; status = status })
trial_fails OfInput (Err bad) out errors status failed told = ((keeps_same out.contents, refl), inr (failed, told))
trial_fails OfInput (Ok rs) out errors status failed told = inr (inl (failed, (keeps_same out.contents, refl), told))

-- a founding that fails before the input is read
pub of_start : (n : ℕ) (bytes : List ℕ) (failure : Failure) → (failure ≡ Store) ⊎ (failure ≡ Memory) → IsOfStart (IsOfInput n n bytes) failure
of_start n bytes failure (inl store) = inl store
of_start n bytes failure (inr memory) = inr (memory_of_input n n bytes refl failure memory)

-- a store in memory has a clean disk
pub memory_is_clean : (it : Registry MemStore over_memory) → HasCleanDisk (state_of it)
unfolding doubt
memory_is_clean it = refl

pub tried : (OfInput : Failure → Type 0) (did : Effect MemStore over_memory) (founding : Founding) → IsTrial founding → Represents did.old (founded founding) → (read : Result (List Request) BadLine)
    → IsApplied OfInput did read 0 → IsTrialOf OfInput read did.ends
tried OfInput did founding trial stands (Err bad) applied =
    (applied.silent, elim applied.told [ inl said ↦ inl said | inr failed ↦ inr (failed.0, tells_more OfInput (IsOfStart OfInput) did.ends.errors (λ failure is. inr is) failed.1) ])
tried OfInput did founding trial stands (Ok rs) applied =
    let run = applied.1 (omega arith) in
    let OfOutput = IsOfReplies did.ends.out in
    elim run.statuses [
      | inl success ↦
          let through = run.through success (founded founding) (inl stands) (memory_is_clean did.new) in
          inl (success, record { founding = founding; trial = trial; gained = through.gained }, run.quiet success)
      | inr failed ↦ elim (run.told failed) [
        | inl unread ↦ inr (inl (failed, unread.silent, tells_more OfInput (IsOfStart OfInput) did.ends.errors (λ failure is. inr is) unread.told))
        | inr told ↦ inr (inr (
          failed,
          (
              let at = run.stopped failed (founded founding) (inl stands) (memory_is_clean did.new) in
              record { founding = founding; trial = trial; n = at.n; within = at.within; middle = at.gained.0; whole = at.gained.1; cut = at.gained.2 }
              ),
          tells_more (λ failure. IsOfRun did.old did.new (λ h. HasAnsweredNone did.old h rs) failure × OfOutput failure) (λ failure. IsOfSoundRun failure × OfOutput failure) did.ends.errors
              (λ failure is. (of_sound_run did.old did.new (λ h. HasAnsweredNone did.old h rs) (founded founding) (inl stands) stands.not_poisoned (memory_is_clean did.new) failure is.0, is.1)) told,
        ))
      ]
    ]
