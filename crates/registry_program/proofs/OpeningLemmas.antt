-- The failures of opening a registry, what a connection shows of its files, and what closing a store does.
use Rattle.std.proofs.Common.{◌≡◌, ◌≢◌, ◌⊎◌, ℕ, inl, inr, refl, subst, sym, ap}
use Rattle.byte_streams.specs.declared.streams.Sink as sink
use Rattle.sqlite_disk.specs.declared.Disk as disk
use Rattle.sqlite_disk.specs.declared.Files.{Files}
use Rattle.sqlite_store.specs.declared.store.FileStore.{FileStore}
use Rattle.sqlite.specs.Closing.{IsCopied}
use Rattle.sqlite.specs.Effect.{Database}
use Rattle.sqlite.specs.Files.{HoldsDatabase, file_state, image_of}
use Rattle.sqlite.specs.Held.{Held}
use Rattle.sqlite.specs.State.{HasCleanDisk}
use Rattle.sqlite.specs.Tree.{Trees}
use Rattle.sqlite.specs.WalReads.{AreClean}
use Rattle.registry_rules.specs.History.{History}
use Rattle.registry_tables.specs.Rows.{Rows}
use Rattle.registry_store.specs.declared.fault.Fault.{Fault}
use Rattle.registry_store.specs.declared.fault.Fault.TheVariants as faults
use Rattle.registry_store.specs.Promise.{LeavesFrom}
use Rattle.registry_store.specs.Files.{AreClosed, HoldEither, IsEither, IsUncopied}
use Rattle.registry_commands.specs.declared.messages.Failure.{Failure}
use Rattle.registry_commands.specs.declared.messages.Failure.TheVariants.{Foreign}
use Rattle.registry_commands.specs.declared.status.ExitStatus.{ExitStatus}
use Rattle.registry_commands.specs.declared.status.ExitStatus.TheVariants.{Success, Failed}
use Rattle.registry_commands.specs.Ends.{output_of, sunk}
use Rattle.registry_commands.specs.Failures.{IsOfClosing, IsOfOpening, IsOfStore, PrintsFailure}
use Rattle.registry_commands.specs.Messages.{failure_of}
use Rattle.registry_program.specs.declared.host.Host as host
use Rattle.registry_program.specs.Opening.{IsConnectedTo}
use Rattle.registry_program.specs.Stores.{ClosesStore}

-- the fault of opening a registry is one of its failures
pub of_opening : (fault : Fault) → (fault ≢ faults.Poisoned) × (fault ≢ faults.Taken) → IsOfOpening (failure_of fault)
of_opening faults.Store kind = tt
of_opening faults.NoMemory kind = tt
of_opening faults.Foreign kind = tt
of_opening faults.Taken kind = absurd (kind.1 refl)
of_opening faults.Poisoned kind = absurd (kind.0 refl)

-- it is Foreign only for that fault
pub foreign_fault : (fault : Fault) → failure_of fault ≡ Foreign → fault ≡ faults.Foreign
foreign_fault faults.Foreign told = refl
foreign_fault faults.Store told = absurd (cc told)
foreign_fault faults.NoMemory told = absurd (cc told)
foreign_fault faults.Taken told = absurd (cc told)
foreign_fault faults.Poisoned told = absurd (cc told)

-- that of opening its store is not Foreign
pub not_foreign : (failure : Failure) → IsOfStore failure → failure ≢ Foreign
not_foreign failure is told = elim is [ inl store ↦ absurd (cc (store, told)) | inr memory ↦ absurd (cc (memory, told)) ]

-- a connection over clean disks shows the rows that its files held
pub shows_held : {D : Type 0} (d : disk.Ghosts D) (files : Files D) (conn : Held (FileStore D d)) → IsConnectedTo d files conn → HasCleanDisk (file_state conn)
    → (version : ℕ) (db : Trees) (h : History) → HoldsDatabase (image_of d files) db → Rows version db h → Rows version (file_state conn).now.trees h
shows_held d files conn connected clean version db h held rows =
    let it = connected clean in
    subst (λ (x : Database). Rows version x.trees h) (sym it.0.0.clean) (subst (λ (trees : Trees). Rows version trees h) (sym (it.1.holds db held)) rows)

-- what closing a store does, by what its error output has taken
pub closes_store : {H F I E : Type 0} (m : host.Ghosts H F I) (d : disk.Ghosts F) (s : sink.Ghosts E)
    (conn : Held (FileStore F d)) (files : Files F) (e e_new : E) (before status : ExitStatus)
    → (before ≢ Success → (status ≡ before) × (e_new ≡ e))
    → (before ≡ Success → ((status ≡ Success) × (e_new ≡ e)) ⊎ ((status ≡ Failed) × PrintsFailure (IsOfClosing (IsUncopied conn files)) (output_of s e e_new)))
    → AreClosed conn files
    → (before ≡ Success → status ≡ Success → AreClean d files.log files.db → IsCopied conn files)
    → (status ≡ before → (from : ℕ) (h next : History) → (HasCleanDisk (file_state conn) → LeavesFrom from (file_state conn) (IsEither h next)) → AreClean d files.log files.db → HoldEither d from files h next)
    → ClosesStore m d conn files (sunk s e) (sunk s e_new) before status
closes_store m d s conn files e e_new before status kept well closed copied holds = record {
  kept = λ bad. ((kept bad).0, ap (sunk s) (kept bad).1);
  well = λ good. elim (well good) [ inl same ↦ inl (same.0, ap (sunk s) same.1) | inr failed ↦ inr failed ];
  closed = closed;
  copied = copied;
  holds = holds;
}
