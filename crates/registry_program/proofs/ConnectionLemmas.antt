-- What the files of a store hold after a registry was founded on the connection to it, or the one that is there opened.
use Rattle.std.proofs.Common.{◌≡◌, inl, ℕ, ◌≤◌, true, List, refl, sym, subst, ◌∙◌}
use Rattle.std.proofs.Math.Logic.{∥∥₁_map, ∥∥₁_elim}
use Rattle.sqlite_disk.specs.declared.Disk as disk
use Rattle.sqlite_store.specs.declared.store.FileStore.{FileStore}
use Rattle.sqlite.specs.Files.{HoldsDatabase, file_state, over_files}
use Rattle.sqlite.specs.Held.{Held}
use Rattle.sqlite.specs.State.{HasCleanDisk, IsLive}
use Rattle.registry_rules.specs.declared.founding.Founding.{Founding}
use Rattle.registry_rules.specs.History.{History}
use Rattle.registry_rules.specs.Run.{Legal}
use Rattle.registry_tables.specs.Rows.{Rows, newest}
use Rattle.registry_store.specs.Files.{FilesHoldEither, IsEither}
use Rattle.registry_store.specs.Promise.{IsFreshAt, Leaves, Represents, connection_of, state_of}
use Rattle.registry_store.proofs.CrashLemmas.{closed_clean, in_newest, later_from}
use Rattle.registry_commands.specs.declared.messages.Failure.{Failure}
use Rattle.registry_commands.specs.declared.status.ExitStatus.{ExitStatus}
use Rattle.registry_commands.specs.declared.status.ExitStatus.TheVariants.{Failed}
use Rattle.registry_commands.specs.Ends.{Ends, Sunk}
use Rattle.registry_commands.specs.Failures.{Prints}
use Rattle.registry_commands.specs.Messages.{failure_line}
use Rattle.registry_commands.specs.Replayed.{IsFoundOrOpen, IsLeftFound}
use Rattle.registry_program.specs.declared.host.Host as host
use Rattle.registry_program.specs.Outputs.{IsFailure, earlier}
use Rattle.registry_program.specs.Stores.{Closes, IsConnected, TheRegistry}
use Rattle.registry_program.specs.Whole.{IsUnreplayed, IsUsed, LeadsFilesTo}
use Rattle.registry_program.proofs.LeavesLemmas.{LeavesSome, same_of_either}
use Rattle.registry_program.proofs.OpeningLemmas.{shows_held}

module _ {H F I : Type 0} (m : host.Ghosts H F I) (d : disk.Ghosts F) (old opened : H) (path : List ℕ) (conn : Held (FileStore F d)) (connected : IsConnected m d old opened path conn) where
  -- what the connection shows of a history that the files held
  shown : (h : History) → Legal h → (from : ℕ) → FilesHoldEither from (m.holds old path) h h → HasCleanDisk (file_state conn)
      → ∥ ((v : ℕ) × (from ≤ v) × IsLive (file_state conn) × IsFreshAt v (file_state conn) h) ∥₁
  shown h legal from held was =
      let it = connected.connected was in
      ∥∥₁_map (subst (λ i. FilesHoldEither from i h h) (sym connected.opens.found) held) (λ found. (
        found.4,
        found.5,
        it.0.1,
        subst (IsFreshAt found.4 (file_state conn)) (same_of_either h found.2 found.3)
            (λ _. (it.0.0.is_open, it.0.0.clean, subst (λ db. Rows found.4 db found.2) (sym (it.1.holds found.0 found.1)) found.6)),
      ))

  module _ (done new : H) (last : Held (FileStore F d)) (errors errors_new : Sunk) (before status : ExitStatus) (closes : Closes m d done new last errors errors_new before status) where
    pub used_in : IsUsed m d old new path true closes.files
    used_in = record { opened = opened; first = connected.files; opens = connected.opens; done = done; lets_go = closes.lets_go }

    module _ (founding : Founding) where
      -- the closed files hold what the registry left
      pub carried_in : status ≡ before → (it after : TheRegistry m d) → IsFoundOrOpen over_files conn founding it → last ≡ connection_of after → (HasCleanDisk (state_of after) → HasCleanDisk (state_of it))
          → (h : History) (After : History → History → Type 0) → (Represents it h → HasCleanDisk (state_of after) → LeavesSome after After) → LeadsFilesTo m d old path closes.files h h After
      carried_in same it after is_there is_of was_clean h After leads legal _ from held honest =
          let clean_last : HasCleanDisk (file_state last) = closed_clean last closes.files closes.closed.closed honest in
          let clean : HasCleanDisk (state_of after) = subst (λ c. HasCleanDisk (file_state c)) is_of clean_last in
          let was = was_clean clean in
          ∥∥₁_map (shown h legal from held (is_there.clean was)) (λ fresh.
          let left = leads (is_there.opened fresh.2 fresh.0 h legal fresh.3 was) clean in
          let leaves : Leaves newest (file_state last) (IsEither left.0 left.1) = subst (λ c. Leaves newest (file_state c) (IsEither left.0 left.1)) (sym is_of) left.3 in (
            left.0,
            left.1,
            left.2,
            closes.closed.holds same newest left.0 left.1 (in_newest (file_state last) (IsEither left.0 left.1) (λ _. leaves)) honest,
          ))

      -- neither could be done: what the files held is left
      pub unreplayed_in : status ≡ before → before ≡ Failed → (failure : Failure) → IsLeftFound over_files conn founding failure last
          → (ends : Ends) → ends.status ≡ status → ends.errors.new ≡ errors_new → IsFailure failure (earlier ends errors before) → IsUnreplayed m d old new path ends
      unreplayed_in same failed failure left ends status_is errors_are fails = record {
        files = closes.files;
        used = used_in;
        failure = failure;
        kind = left.kind;
        fails = (
          fails.0,
          status_is ∙ same ∙ failed,
          subst (λ (told : Sunk). Prints (record { old = ends.errors.old; new = told }) (failure_line failure))
              (sym (errors_are ∙ (closes.closed.kept (λ success. absurd (cc (failed, success)))).1)) fails.2,
        );
        foreign = λ told honest version db h held legal rows.
            let clean : HasCleanDisk (file_state last) = closed_clean last closes.files closes.closed.closed honest in
            let found = subst (λ i. HoldsDatabase i db) (sym connected.opens.found) held in
            left.foreign told clean version h legal (shows_held d connected.files conn connected.connected (left.clean clean) version db h found rows);
        holds = λ h legal from held honest.
            let clean : HasCleanDisk (file_state last) = closed_clean last closes.files closes.closed.closed honest in
            let there = ∥∥₁_map (shown h legal from held (left.clean clean)) (λ fresh. later_from from fresh.0 (file_state last) h h h (inl refl) fresh.1 (left.leaves fresh.2 fresh.0 h legal fresh.3 clean)) in
            record {
              now = ∥∥₁_elim there squash₁ (λ all. (closes.closed.holds same from h h (λ _. all) honest).now);
              crash = λ image may. ∥∥₁_elim there squash₁ (λ all. (closes.closed.holds same from h h (λ _. all) honest).crash image may);
            };
      }
