-- What the files of a store hold after the record in a log was replayed.
use Rattle.std.proofs.Common.{◌≡◌, inl, inr, ℕ, List, None, refl, sym, ap, subst, arith}
use Rattle.std.specs.Prelude.{Result, Ok, Err, IfErr, OnOk}
use Rattle.sqlite_disk.specs.declared.Disk as disk
use Rattle.sqlite_store.specs.declared.store.FileStore.{FileStore}
use Rattle.sqlite.specs.Files.{file_state, over_files}
use Rattle.sqlite.specs.Held.{Held}
use Rattle.sqlite.specs.State.{HasCleanDisk}
use Rattle.sqlite.specs.Store.{Ghosts}
use Rattle.registry_rules.specs.declared.founding.Founding.{Founding}
use Rattle.registry_rules.specs.History.{History, founded}
use Rattle.registry_laws.specs.Machines.{HasValidFields}
use Rattle.registry_tables.specs.Calls.{HasNoMeta}
use Rattle.registry_tables.specs.Rows.{newest}
use Rattle.registry_store.specs.declared.registry.Registry.{Registry}
use Rattle.registry_store.specs.Files.{IsEither}
use Rattle.registry_store.specs.Promise.{Leaves, Represents, connection_of, state_of}
use Rattle.registry_store.specs.Queries.{IsUntouched}
use Rattle.registry_store.proofs.CrashLemmas.{closed_clean, in_newest}
use Rattle.registry_store.proofs.IsQueryLemmas.{untouched_itself}
use Rattle.registry_commands.specs.Ends.{Ends}
use Rattle.registry_commands.specs.Replayed.{IsFoundOrOpen, IsLeftFound, connection_left}
use Rattle.shared_log.specs.Calls.{KeepsLines, LogLines}
use Rattle.shared_log.specs.declared.log.Log as log
use Rattle.shared_registry.specs.Cursors.{log_of}
use Rattle.shared_registry.specs.Follows.{HasFollowed, IsLeft}
use Rattle.shared_registry.specs.Lines.{fault_in_call}
use Rattle.shared_registry.specs.declared.cursor.Cursor.{Cursor}
use Rattle.shared_registry.specs.declared.stop.ShareStop.{ShareStop}
use Rattle.registry_program.specs.declared.host.Host as host
use Rattle.registry_program.specs.declared.logs.Logs as logs
use Rattle.registry_program.specs.Outputs.{earlier}
use Rattle.registry_program.specs.SharedReplay.{IsReplayedShared, ReplaysJoined, ReplaysShared, ReplaysSharedOn, ReplaysSharedTo}
use Rattle.registry_program.specs.SharedWhole.{AreMadeOver, IsLeftBehind, IsLeftOver, IsReplayedWholly, LeadsFilesOver, ReplaysSharedWholly, ReplaysSharedWhollyTo}
use Rattle.registry_program.specs.Sharing.{IsFollowed, IsNotFollowed}
use Rattle.registry_program.specs.Stores.{TheRegistry}
use Rattle.registry_program.specs.Whole.{LeadsFilesTo, Stays}
use Rattle.registry_program.proofs.ConnectionLemmas.{carried_in, unreplayed_in, used_in}
use Rattle.registry_program.proofs.LeavesLemmas.{LeavesSome, leaves_itself}
use Rattle.registry_program.proofs.SharedWholeLemmas.{LeavesOver, following_over, left_over}
use Rattle.registry_program.proofs.WholeLemmas.{kept_unless_failed}

-- what a registry leaves that acted on the lines of a log
replayed_over : {S L : Type 0} {g : Ghosts S} (l : log.Ghosts L) (lines : L → LogLines) (c : Cursor L) (it_new : Registry S g) (c_new : Cursor L) (clean : HasCleanDisk (state_of it_new)) (h : History) (end : Result (Unit {0}) ShareStop)
    → OnOk end (HasFollowed l lines c it_new c_new h) → IfErr end (IsLeft l lines c it_new c_new h) → LeavesOver l lines it_new c_new clean (fault_in_call end) h
replayed_over l lines c it_new c_new clean h (Ok done) whole stopped = following_over l lines it_new c_new clean h None (whole.now, whole.leads, whole.follows)
replayed_over l lines c it_new c_new clean h (Err stop) whole stopped = left_over l lines it_new c_new clean c h stop stopped

module _ {H F I K : Type 0} (m : host.Ghosts H F I) (d : disk.Ghosts F) (k : logs.Ghosts H K) (l : log.Ghosts K) (founding : Founding) (address : List ℕ) where
  module _ (old new : H) (path : List ℕ) (ends : Ends) (on : IsReplayedShared m d k l founding address old new path ends) where
    abbrev last : Held (FileStore F d)
    last = connection_left over_files on.left

    module _ (same : ends.status ≡ on.before) (it after : TheRegistry m d) (is_there : IsFoundOrOpen over_files on.conn founding it) (left_is : on.left ≡ Ok after) where
      is_of : last ≡ connection_of after
      is_of = ap (connection_left over_files) left_is

      goes_to : (HasCleanDisk (state_of after) → HasCleanDisk (state_of it)) → (h : History) (After : History → History → Type 0)
          → (Represents it h → HasCleanDisk (state_of after) → LeavesSome after After) → LeadsFilesTo m d old path on.closes.files h h After
      goes_to = carried_in m d old on.opened path on.conn on.connected on.done new last on.errors ends.errors.new on.before ends.status on.closes founding same it after is_there is_of

      left_behind : IsUntouched it after → IsLeftBehind m d k l founding address old new path ends
      left_behind left = record {
        files = on.closes.files;
        used = used_in m d old on.opened path on.conn on.connected on.done new last on.errors ends.errors.new on.before ends.status on.closes;
        holds = λ h. goes_to (λ clean. omega (arith, left.survives.clean, clean)) h (Stays h) (λ stands clean. (h, h, (refl, refl), leaves_itself after h (left.stays h stands) clean));
      }

      behind : IsNotFollowed k l address on.opened on.done it after (earlier ends on.errors on.before) → IsLeftBehind m d k l founding address old new path ends
      behind (inl none) = left_behind (subst (λ (x : TheRegistry m d). IsUntouched it x) (sym none.2) (untouched_itself it))
      behind (inr not) = left_behind not.3.joins.untouched

      module _ (followed : IsFollowed k l address (ReplaysJoined k l) on.opened on.done it after (earlier ends on.errors on.before)) where
        was_clean : HasCleanDisk (state_of after) → HasCleanDisk (state_of it)
        was_clean clean = omega (arith, followed.taken.joins.untouched.survives.clean, followed.does.replays.endures.clean, clean)

        later : (lines : K → LogLines) → KeepsLines l lines → (h : History) → HasValidFields h → Represents it h → (clean : HasCleanDisk (state_of after))
            → LeavesOver l lines after followed.does.left clean (fault_in_call followed.does.end) h
        later lines kept h valid stands clean =
            let did = followed.does.replays in
            let mid : HasCleanDisk (state_of followed.middle) = omega (arith, did.endures.clean, clean) in
            let begins = followed.taken.joins.follows lines kept h stands valid mid in
            replayed_over l lines followed.cursor after followed.does.left clean h followed.does.end (did.whole lines kept h begins clean) (did.stopped lines kept h begins clean)

        held : LeadsFilesOver m d l old path on.closes.files followed.does.left (fault_in_call followed.does.end)
        held lines kept h valid = goes_to was_clean h (IsLeftOver (lines (log_of followed.does.left)) (fault_in_call followed.does.end) h) (λ stands clean. later lines kept h valid stands clean)

        made : HasNoMeta (file_state on.conn).now → AreMadeOver m d k l founding address old new path ends on.closes.files followed.does.left (fault_in_call followed.does.end)
        made none lines kept valid honest =
            let clean_last : HasCleanDisk (file_state last) = closed_clean last on.closes.files on.closes.closed.closed honest in
            let clean : HasCleanDisk (state_of after) = subst (λ c. HasCleanDisk (file_state c)) is_of clean_last in
            let now = later lines kept (founded founding) valid (is_there.founds none (was_clean clean)) clean in
            let leaves : Leaves newest (file_state last) (IsEither now.0 now.1) = subst (λ c. Leaves newest (file_state c) (IsEither now.0 now.1)) (sym is_of) now.3 in
            (now.0, now.1, now.2, on.closes.closed.holds same newest now.0 now.1 (in_newest (file_state last) (IsEither now.0 now.1) (λ _. leaves)) honest)

        wholly : IsReplayedWholly m d k l founding address old new path ends
        wholly = record { on = on; it = it; after = after; left_is = left_is; followed = followed; holds = held; made = made }

    -- what was done is carried into the files, unless closing them failed
    carried_over : ends.status ≡ on.before → (left : Result (TheRegistry m d) (Held (FileStore F d))) → on.left ≡ left
        → ReplaysSharedOn m d k l founding address on.opened on.done on.conn left (earlier ends on.errors on.before) → ReplaysSharedWhollyTo m d k l founding address old new path ends
    carried_over same (Ok after) is did = elim did.2 [
      | inl not ↦ inr (inr (inr (inl (behind same did.0 after did.1 is not))))
      | inr followed ↦ inr (inr (inr (inr (wholly same did.0 after did.1 is followed))))
    ]
    carried_over same (Err conn) is not =
        let held_by : last ≡ conn = ap (connection_left over_files) is in
        inr (inr (inl (unreplayed_in m d old on.opened path on.conn on.connected on.done new last on.errors ends.errors.new on.before ends.status on.closes founding same not.3.1 not.0
        (subst (IsLeftFound over_files on.conn founding not.0) (sym held_by) not.1) ends refl refl not.3)))

    in_whole : ReplaysSharedWhollyTo m d k l founding address old new path ends
    in_whole = elim (kept_unless_failed m d last on.closes.files on.errors ends.errors.new on.before ends.status on.closes.closed) [
      | inl failed ↦ inr (inl (on, failed.0, failed.1))
      | inr same ↦ carried_over same on.left refl on.replays
    ]

  to_whole : (old new : H) (path : List ℕ) (ends : Ends) → ReplaysSharedTo m d k l founding address old new path ends → ReplaysSharedWhollyTo m d k l founding address old new path ends
  to_whole old new path ends is = elim is [ inl not ↦ inl not | inr on ↦ in_whole old new path ends on ]

pub replays_shared_whole : {H F I K : Type 0} (m : host.Ghosts H F I) (d : disk.Ghosts F) (k : logs.Ghosts H K) (l : log.Ghosts K) (old new : H) (path address : List ℕ) (ends : Ends)
    → ReplaysShared m d k l old new path address ends → ReplaysSharedWholly m d k l old new path address ends
replays_shared_whole m d k l old new path address ends is = elim is [
  | inl not ↦ inl not
  | inr read ↦ inr (read.0, read.1, read.2, to_whole m d k l read.0 address read.1 new path ends read.3)
]
