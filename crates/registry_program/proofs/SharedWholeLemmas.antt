-- What the files of a store hold after the commands over a log.
use Rattle.std.proofs.Common.{◌≡◌, ◌⊎◌, inl, inr, ℕ, List, [], ◌∷◌, Option, Some, None, refl, sym, subst, arith}
use Rattle.std.specs.Prelude.{Result, Ok, Err}
use Rattle.sqlite_disk.specs.declared.Disk as disk
use Rattle.sqlite.specs.State.{HasCleanDisk}
use Rattle.sqlite.specs.Store.{Ghosts}
use Rattle.byte_streams.specs.declared.streams.Sink as sink
use Rattle.byte_streams.specs.declared.streams.Source as source
use Rattle.registry_rules.specs.History.{History}
use Rattle.registry_laws.specs.Machines.{LeadsToLater}
use Rattle.registry_store.specs.Promise.{Represents, state_of}
use Rattle.registry_store.specs.Queries.{IsUntouched}
use Rattle.registry_store.specs.declared.fault.Fault.{Fault}
use Rattle.registry_store.specs.declared.registry.Registry.{Registry}
use Rattle.registry_commands.specs.Ends.{Ends}
use Rattle.registry_desk.specs.Server.{Visit}
use Rattle.registry_desk.specs.declared.server.Connections as connections
use Rattle.shared_log.specs.Calls.{KeepsLines, LogLines}
use Rattle.shared_log.specs.declared.log.Log as log
use Rattle.shared_registry.specs.Cursors.{log_of}
use Rattle.shared_registry.specs.Follows.{Follows, FollowsLater, IsLeft}
use Rattle.shared_registry.specs.Lines.{fault_of_stop}
use Rattle.shared_registry.specs.declared.cursor.Cursor.{Cursor}
use Rattle.shared_registry.specs.declared.stop.ShareStop.{ShareStop}
use Rattle.shared_registry.specs.declared.stop.ShareStop.TheVariants as stops
use Rattle.shared_registry.proofs.LineLemmas.{leads_on}
use Rattle.shared_desk.specs.Refusals.{fault_behind_stop}
use Rattle.shared_desk.specs.Server.{EndsOver, stop_in_server}
use Rattle.shared_desk.specs.Serving.{IsUnserved}
use Rattle.shared_desk.proofs.TurnLemmas.{turns_lead}
use Rattle.registry_program.specs.declared.host.Host as host
use Rattle.registry_program.specs.declared.logs.Logs as logs
use Rattle.registry_program.specs.Outputs.{earlier}
use Rattle.registry_program.specs.Sharing.{IsFollowed, IsNotFollowed, IsServedOver, IsTakenUp, ServesJoined, ServesOver, ServesShared, Shares, SharesInto}
use Rattle.registry_program.specs.SharedWhole.{IsLeftOver, IsServedFrom, LeadsFilesOver, ServesSharedWholly, SharesWholly}
use Rattle.registry_program.specs.Stores.{IsRunOver, TheRegistry}
use Rattle.registry_program.specs.Whole.{IsCarriedOn, Stays}
use Rattle.registry_program.proofs.LeavesLemmas.{LeavesSome, leaves_itself, same_of_either, stayed}
use Rattle.registry_program.proofs.WholeLemmas.{carried, files_lead_to, runs_whole}

-- ---- what a registry leaves over a log

module _ {S : Type 0} {g : Ghosts S} {L : Type 0} (l : log.Ghosts L) (lines : L → LogLines) (it_new : Registry S g) (c_new : Cursor L) (clean : HasCleanDisk (state_of it_new)) where
  -- such histories are left in the store
  abbrev pub LeavesOver : Option Fault → History → Type 0
  LeavesOver fault h = LeavesSome it_new (IsLeftOver (lines (log_of c_new)) fault h)

  -- a registry that still follows its log
  pub following_over : (h : History) (fault : Option Fault) → FollowsLater l lines it_new c_new h → LeavesOver fault h
  following_over h None it = (it.0, it.0, (it.1, refl, it.2.of_machine, it.2.of_machine), leaves_itself it_new it.0 it.2.represents clean)
  following_over h (Some fault) it = (it.0, it.0, (it.1, inl refl, it.2.of_machine, it.2.of_machine), leaves_itself it_new it.0 it.2.represents clean)

  pub over_earlier : (h x : History) (fault : Option Fault) → LeadsToLater h x → LeavesOver fault x → LeavesOver fault h
  over_earlier h x fault leads it = (it.0, it.1, (leads_on h x it.0 leads it.2.0, it.2.1, it.2.2, it.2.3), it.3)

  pub left_over : (c : Cursor L) (h : History) (stop : ShareStop) → IsLeft l lines c it_new c_new h stop → LeavesOver (fault_of_stop stop) h
  left_over c h (stops.Registry fault) it = let two = it.1 in (two.last, two.next, (two.leads, two.goes_on, two.last_of, two.next_of), two.leaves)
  left_over c h (stops.Log fault) it = following_over h None it.0
  left_over c h (stops.OtherRecord n) it = following_over h None (it.0, it.1, it.2)
  left_over c h stops.Ahead it = absurd it
  left_over c h stops.Empty it = absurd it
  left_over c h stops.Full it = following_over h None it.0
  left_over c h stops.NoMemory it = following_over h None it

  unserved_over : (c : Cursor L) (h : History) (bytes : List ℕ) (stop : ShareStop) → IsUnserved l lines c it_new c_new h bytes stop → LeavesOver (fault_of_stop stop) h
  unserved_over c h bytes stop it = elim it [ inl left ↦ left_over c h stop left.0 | inr failed ↦ following_over h (fault_of_stop stop) (failed.2.now, failed.2.leads, failed.2.follows) ]

  ends_over : (c : Cursor L) (h : History) (visits : List Visit) (stop : Option ShareStop) → EndsOver l lines c it_new c_new h visits stop → LeavesOver (fault_behind_stop stop) h
  ends_over c h visits None it = following_over h None (it.0, turns_lead l lines c h visits c_new it.0 it.1, it.2)
  ends_over c h visits (Some stop) it =
      over_earlier h it.middle (fault_of_stop stop) (turns_lead l lines c h it.before it.place it.middle it.turns) (unserved_over it.place it.middle it.last.bytes stop it.left)

-- ---- a command over a log

module _ {H F I K : Type 0} (m : host.Ghosts H F I) (d : disk.Ghosts F) (k : logs.Ghosts H K) (l : log.Ghosts K) (old new : H) (path address : List ℕ) (ends : Ends)
    (Does : H → H → TheRegistry m d → TheRegistry m d → Ends → Type 0) (over : IsRunOver m d old new path ends Does) (same : ends.status ≡ over.before) where
  -- the registry was looked into, and nothing else was done
  untouched_over : IsUntouched over.it over.after → IsCarriedOn m d old new path Stays
  untouched_over left = carried m d old new path ends Does over same (λ clean. omega (arith, left.survives.clean, clean)) Stays
      (λ h stands clean. (h, h, (refl, refl), leaves_itself over.after h (left.stays h stands) clean))

  -- nothing was done to it
  stays_over : over.after ≡ over.it → IsCarriedOn m d old new path Stays
  stays_over kept = carried m d old new path ends Does over same (λ clean. subst (λ (x : TheRegistry m d). HasCleanDisk (state_of x)) kept clean) Stays
      (λ h stands clean. stayed over.it over.after h kept stands clean)

  -- the same after the log was taken up
  pub stays_joined : (middle : TheRegistry m d) → IsUntouched over.it middle → over.after ≡ middle → IsCarriedOn m d old new path Stays
  stays_joined middle left kept = untouched_over (subst (IsUntouched over.it) (sym kept) left)

  pub not_followed : IsNotFollowed k l address over.opened over.done over.it over.after (earlier ends over.errors over.before) → IsCarriedOn m d old new path Stays
  not_followed (inl none) = stays_over none.2
  not_followed (inr it) = untouched_over it.3.joins.untouched

  -- what was done over the log that the registry followed leads to later histories
  pub leads_over : (found : H) (middle : TheRegistry m d) (cursor left : Cursor K) (fault : Option Fault) → IsTakenUp k l address over.opened found over.it middle (Ok cursor) → (HasCleanDisk (state_of over.after) → HasCleanDisk (state_of middle))
      → ((lines : K → LogLines) → KeepsLines l lines → (h : History) → Follows l lines middle cursor h → (clean : HasCleanDisk (state_of over.after)) → LeavesOver l lines over.after left clean fault h)
      → LeadsFilesOver m d l old path over.closes.files left fault
  leads_over found middle cursor left fault taken endures later lines kept h valid =
      let before : HasCleanDisk (state_of over.after) → HasCleanDisk (state_of over.it) = λ clean. omega (arith, taken.joins.untouched.survives.clean, endures clean) in
      files_lead_to m d old new path ends Does over same before h h (IsLeftOver (lines (log_of left)) fault h) (λ x is stands clean.
      let here : Represents over.it h = subst (λ (y : History). Represents over.it y) (same_of_either h x is) stands in
      later lines kept h (taken.joins.follows lines kept h here valid (endures clean)) clean)

-- ---- the commands

module _ {H F I K : Type 0} (m : host.Ghosts H F I) (d : disk.Ghosts F) (k : logs.Ghosts H K) (l : log.Ghosts K) where
  pub shares_whole : (old new : H) (path address : List ℕ) (ends : Ends) → Shares m d k l old new path address ends → SharesWholly m d k l old new path address ends
  shares_whole old new path address ends = runs_whole m d old new path ends (SharesInto k l address) (IsCarriedOn m d old new path Stays) (λ over same. elim over.does [
    | inl shared ↦ untouched_over m d k l old new path address ends (SharesInto k l address) over same shared.shares.untouched
    | inr none ↦ stays_over m d k l old new path address ends (SharesInto k l address) over same none.2
  ])

module _ {H F I R W K : Type 0} (m : host.Ghosts H F I) (d : disk.Ghosts F) (c : connections.Ghosts H R W) (r : source.Ghosts R) (w : sink.Ghosts W) (k : logs.Ghosts H K) (l : log.Ghosts K)
    (old new : H) (path : List ℕ) (port limit : ℕ) (address : List ℕ) (ends : Ends) where
  abbrev Does : H → H → TheRegistry m d → TheRegistry m d → Ends → Type 0
  Does = ServesOver m c r w k l port limit address

  abbrev Whole : Type 0
  Whole = IsServedFrom m d c r w k l old new path port limit address ends ⊎ IsCarriedOn m d old new path Stays

  module _ (over : IsRunOver m d old new path ends Does) (same : ends.status ≡ over.before)
      (followed : IsFollowed k l address (ServesJoined m c r w k l port limit) over.opened over.done over.it over.after (earlier ends over.errors over.before)) where
    served_whole : IsServedOver m c r w k l port limit followed.found over.done followed.middle over.after followed.cursor (earlier ends over.errors over.before) → IsServedFrom m d c r w k l old new path port limit address ends
    served_whole served =
        let all = served.served in
        record {
          over = over;
          followed = followed;
          served = served;
          holds = leads_over m d k l old new path address ends Does over same followed.found followed.middle followed.cursor served.left (fault_behind_stop (stop_in_server served.end)) followed.taken (λ clean. omega (arith, all.endures.clean, clean))
              (λ lines kept h follows clean. ends_over l lines over.after served.left clean followed.cursor h all.served.0 (stop_in_server served.end) (all.served.7 lines kept h follows clean));
        }

    followed_whole : Whole
    followed_whole = elim followed.does [
      | inl served ↦ inl (served_whole served)
      | inr not ↦ inr (stays_joined m d k l old new path address ends Does over same followed.middle followed.taken.joins.untouched not.3)
    ]

  pub serves_shared_whole : ServesShared m d c r w k l old new path port limit address ends → ServesSharedWholly m d c r w k l old new path port limit address ends
  serves_shared_whole = runs_whole m d old new path ends Does Whole (λ over same. elim over.does [
    | inl not ↦ inr (not_followed m d k l old new path address ends Does over same not)
    | inr followed ↦ followed_whole over same followed
  ])
