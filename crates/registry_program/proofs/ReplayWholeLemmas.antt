-- What the files of a store hold after a record was replayed.
use Rattle.std.proofs.Common.{◌≡◌, ◌⊎◌, inl, inr, ℕ, true, false, List, [], ◌∷◌, ◌++◌, Option, Some, None, refl, sym, ap, subst, ◌∙◌, arith}
use Rattle.std.specs.Prelude.{◌≢◌, Result, Ok, Err}
use Rattle.sqlite_disk.specs.declared.Disk as disk
use Rattle.sqlite_store.specs.declared.store.FileStore.{FileStore}
use Rattle.sqlite.specs.Files.{over_files}
use Rattle.sqlite.specs.Held.{Held}
use Rattle.sqlite.specs.State.{HasCleanDisk}
use Rattle.sqlite.specs.Store.{Ghosts}
use Rattle.byte_streams.specs.declared.streams.Source as source
use Rattle.registry_rules.specs.declared.accepted.Accepted.{Accepted}
use Rattle.registry_rules.specs.declared.founding.Founding.{Founding}
use Rattle.registry_rules.specs.History.{History}
use Rattle.registry_rules.specs.Run.{after_one}
use Rattle.registry_tables.specs.Rows.{newest}
use Rattle.registry_store.specs.declared.registry.Registry.{Registry}
use Rattle.registry_store.specs.Promise.{Represents, connection_of, state_of}
use Rattle.registry_store.specs.Files.{IsEither}
use Rattle.registry_store.proofs.RunLemmas.{leaves_weaker}
use Rattle.registry_commands.specs.declared.entries.Entry.{Entry}
use Rattle.registry_commands.specs.declared.entries.Entry.TheVariants as says
use Rattle.registry_commands.specs.declared.following.ReplayStop.{ReplayStop}
use Rattle.registry_commands.specs.declared.following.ReplayStop.TheVariants as stop
use Rattle.registry_commands.specs.declared.messages.Failure.{Failure}
use Rattle.registry_commands.specs.declared.status.ExitStatus.{ExitStatus}
use Rattle.registry_commands.specs.declared.status.ExitStatus.TheVariants.{Success, Failed}
use Rattle.registry_commands.specs.declared.unread.Unread.{Unread}
use Rattle.registry_commands.specs.Ends.{Ends, Output}
use Rattle.registry_commands.specs.Entries.{entry_in}
use Rattle.registry_commands.specs.Failures.{Prints}
use Rattle.registry_commands.specs.Messages.{failure_line}
use Rattle.registry_commands.specs.RecordLines.{MayHaveLines, ahead, unread_of}
use Rattle.registry_commands.specs.Replayed.{AreBeginning, Begins, HasAllLines, HasReadBlank, HasReplayed, IsFoundOrOpen, IsLeftFound, IsReplayOf, IsReplayed, IsReplayedOn, ThenReplays, after_lines, connection_left}
use Rattle.registry_commands.specs.Stops.{TellsStop}
use Rattle.registry_commands.proofs.RecordLineLemmas.{may_have}
use Rattle.registry_program.specs.declared.host.Host as host
use Rattle.registry_program.specs.Outputs.{earlier}
use Rattle.registry_program.specs.Replaying.{BeginsReplay, IsReplayedIn, ReplaysFrom, ReplaysLines, ReplaysOver, ReplaysRecord}
use Rattle.registry_program.specs.Whole.{IsAfterRecord, IsNear, IsReplayedTo, IsUnreplayed, ReplaysWholly, ReplaysWhollyFrom}
use Rattle.registry_program.proofs.ConnectionLemmas.{carried_in, unreplayed_in, used_in}
use Rattle.registry_program.proofs.LeavesLemmas.{LeavesSome, leaves_itself}
use Rattle.registry_program.proofs.WholeLemmas.{carried, kept_unless_failed, runs_whole}

-- before anything is read all is to come from the source
ahead_fresh : (o : Option (List ℕ)) (it : Unread) → unread_of it ≡ [] → ahead o it ≡ o
ahead_fresh None it none = refl
ahead_fresh (Some bytes) it none = ap (λ (front : List ℕ). Some (front ++ bytes)) none

pub begun_fresh : (o now : Option (List ℕ)) (fresh : Unread) (count failures failures_new : ℕ) (first : Result (Option Founding) ReplayStop) → unread_of fresh ≡ [] → fresh.lines ≡ 0
    → Begins (ahead o fresh) now fresh.lines count failures failures_new first → Begins o now 0 count failures failures_new first
begun_fresh o now fresh count failures failures_new first none start begins =
    subst (λ (n : ℕ). Begins o now n count failures failures_new first) start
    (subst (λ (a : Option (List ℕ)). Begins a now fresh.lines count failures failures_new first) (ahead_fresh o fresh none) begins)

pub blank_fresh : (o now : Option (List ℕ)) (fresh it : Unread) → unread_of fresh ≡ [] → fresh.lines ≡ 0 → HasAllLines fresh.lines (ahead o fresh) it ⊎ HasReadBlank (ahead o fresh) now it
    → HasAllLines 0 o it ⊎ HasReadBlank o now it
blank_fresh o now fresh it none start read =
    subst (λ (n : ℕ). HasAllLines n o it ⊎ HasReadBlank o now it) start
    (subst (λ (a : Option (List ℕ)). HasAllLines fresh.lines a it ⊎ HasReadBlank a now it) (ahead_fresh o fresh none) read)

-- ---- what a registry leaves

-- only a replay of all lines ends with the status Success
all_told : (result : Result (Unit {0}) ReplayStop) (errors : Output) (status : ExitStatus) → TellsStop result errors status → status ≡ Success → result ≡ Ok tt
all_told (Ok done) errors status told success = refl
all_told (Err (stop.Line number why)) errors status told success = elim told [ inl said ↦ absurd (cc (said.0, success)) | inr failed ↦ absurd (cc (failed.0, success)) ]
all_told (Err (stop.Reply number reply)) errors status told success = elim told [ inl said ↦ absurd (cc (said.0, success)) | inr failed ↦ absurd (cc (failed.0, success)) ]
all_told (Err (stop.Digest number)) errors status told success = elim told [ inl said ↦ absurd (cc (said.0, success)) | inr failed ↦ absurd (cc (failed.0, success)) ]
all_told (Err (stop.Failure failure)) errors status told success = absurd (cc (told.0, success))

-- the history after the request of the next line, if that is one
record HasNext (h : History) (front rest : List (List ℕ)) : Type 0 where
  pub y : History
  pub near : IsNear h front rest y
  pub other : (x : History) → IsNear h front rest x → IsEither (after_lines h front) y x

next_history : (h : History) (front rest : List (List ℕ)) → HasNext h front rest
next_history h front [] = record {
  y = after_lines h front;
  near = inl refl;
  other = λ x. elim [ inl e ↦ inl e | inr one ↦ absurd (cc one.1.1) ];
}
next_history h front (line ∷ later) = go (entry_in line) refl
  where
    none : (e : Entry) → entry_in line ≡ e → ((a : Accepted) (d : Option (List ℕ)) → e ≢ says.Accepted a d) → HasNext h front (line ∷ later)
    none e is not = record {
      y = after_lines h front;
      near = inl refl;
      other = λ x. elim [ inl same ↦ inl same | inr one ↦ absurd (not one.0 one.1.0 (sym is ∙ one.1.1)) ];
    }

    go : (e : Entry) → entry_in line ≡ e → HasNext h front (line ∷ later)
    go (says.Accepted a d) is = record {
      y = after_one (after_lines h front) a.request;
      near = inr (a, (d, is), refl);
      other = λ x. elim [ inl same ↦ inl same | inr one ↦ let is_a : one.0 ≡ a = cc (is, one.1.1) in inr (one.2 ∙ ap (λ (b : Accepted). after_one (after_lines h front) b.request) is_a) ];
    }
    go says.End is = none says.End is (λ a d e. cc)
    go says.Blank is = none says.Blank is (λ a d e. cc)
    go (says.Founding f) is = none (says.Founding f) is (λ a d e. cc)
    go (says.Bad r) is = none (says.Bad r) is (λ a d e. cc)

module _ {S : Type 0} {g : Ghosts S} where
  replay_leaves : (lines : List (List ℕ)) (before failures failures_new : ℕ) (it new : Registry S g) (result : Result (Unit {0}) ReplayStop) (errors : Output) (status : ExitStatus)
      → HasReplayed lines before failures failures_new it new result → TellsStop result errors status
      → (h : History) → Represents it h → HasCleanDisk (state_of new) → LeavesSome new (IsAfterRecord lines status h)
  replay_leaves lines before failures failures_new it new (Ok done) errors status did told h stands clean =
      let left = did.replied h stands clean in
      let x = after_lines h did.front in (
        x,
        x,
        record { front = did.front; rest = did.rest; split = did.split; replied = left.0; continued = left.2; whole = λ _. did.stops; x_is = inl refl; y_is = inl refl },
        leaves_itself new x left.1 clean,
      )
  replay_leaves lines before failures failures_new it new (Err (stop.Line number why)) errors status did told h stands clean =
      let left = did.replied h stands clean in
      let x = after_lines h did.front in (
        x,
        x,
        record { front = did.front; rest = did.rest; split = did.split; replied = left.0; continued = left.2; whole = λ success. absurd (cc (all_told (Err (stop.Line number why)) errors status told success)); x_is = inl refl; y_is = inl refl },
        leaves_itself new x left.1 clean,
      )
  replay_leaves lines before failures failures_new it new (Err (stop.Reply number reply)) errors status did told h stands clean =
      let left = did.replied h stands clean in
      let x = after_one (after_lines h did.front) left.1.0.request in
      let near : IsNear h did.front did.rest x = inr (left.1.0, left.1.1, refl) in (
        x,
        x,
        record { front = did.front; rest = did.rest; split = did.split; replied = left.0; continued = left.2; whole = λ success. absurd (cc (all_told (Err (stop.Reply number reply)) errors status told success)); x_is = near; y_is = near },
        leaves_itself new x left.1.3 clean,
      )
  replay_leaves lines before failures failures_new it new (Err (stop.Digest number)) errors status did told h stands clean =
      let left = did.replied h stands clean in
      let x = after_one (after_lines h did.front) left.1.0.request in
      let near : IsNear h did.front did.rest x = inr (left.1.0, (left.1.1, left.1.2), refl) in (
        x,
        x,
        record { front = did.front; rest = did.rest; split = did.split; replied = left.0; continued = left.2; whole = λ success. absurd (cc (all_told (Err (stop.Digest number)) errors status told success)); x_is = near; y_is = near },
        leaves_itself new x left.1.5 clean,
      )
  replay_leaves lines before failures failures_new it new (Err (stop.Failure failure)) errors status did told h stands clean =
      let left = did.replied h stands clean in
      let next = next_history h did.front did.rest in (
        after_lines h did.front,
        next.y,
        record { front = did.front; rest = did.rest; split = did.split; replied = left.0; continued = left.2; whole = λ success. absurd (cc (all_told (Err (stop.Failure failure)) errors status told success)); x_is = inl refl; y_is = next.near },
        leaves_weaker newest (state_of new) (IsNear h did.front did.rest) (IsEither (after_lines h did.front) next.y) next.other left.1,
      )

  -- the lines that were replayed, and what is left for each history
  record Follows (to_come : Option (List ℕ)) (it new : Registry S g) (status : ExitStatus) : Type 0 where
    pub lines : List (List ℕ)
    pub come : MayHaveLines to_come lines
    pub leaves : (h : History) → Represents it h → HasCleanDisk (state_of new) → LeavesSome new (IsAfterRecord lines status h)
    pub was_clean : HasCleanDisk (state_of new) → HasCleanDisk (state_of it)

  of_replay : (to_come : Option (List ℕ)) (before failures failures_new : ℕ) (it new : Registry S g) (result : Result (Unit {0}) ReplayStop) (errors : Output) (status : ExitStatus)
      → IsReplayOf to_come before failures failures_new it new result → TellsStop result errors status → Follows to_come it new status
  of_replay to_come before failures failures_new it new result errors status is told = record {
    lines = is.lines;
    come = is.come;
    leaves = replay_leaves is.lines before failures failures_new it new result errors status is.replayed told;
    was_clean = λ clean. omega (arith, is.endures.clean, clean);
  }

  then_follows : (founding : Founding) (to_come now : Option (List ℕ)) (unread : Unread) (before failures failures_new : ℕ) (it mid new : Registry S g) (checked result : Result (Unit {0}) ReplayStop) (errors : Output) (status : ExitStatus)
      → (HasCleanDisk (state_of mid) → HasCleanDisk (state_of it)) → ((h : History) → Represents it h → Represents mid h)
      → ThenReplays to_come now unread before failures failures_new mid new checked result → TellsStop result errors status → Follows to_come it new status
  then_follows founding to_come now unread before failures failures_new it mid new (Ok done) result errors status was stays then told =
      let rest = of_replay to_come before failures failures_new mid new result errors status then.0 told in
      record {
        lines = rest.lines;
        come = rest.come;
        leaves = λ h stands clean. rest.leaves h (stays h stands) clean;
        was_clean = λ clean. was (rest.was_clean clean);
      }
  then_follows founding to_come now unread before failures failures_new it mid new (Err why) result errors status was stays then told =
      let lines = may_have to_come in
      record {
        lines = lines.0;
        come = lines.1;
        leaves = λ h stands clean. (
          h,
          h,
          record { front = []; rest = lines.0; split = refl; replied = refl; continued = tt; whole = λ success. absurd (cc (then.1, all_told result errors status told success)); x_is = inl refl; y_is = inl refl },
          leaves_itself new h (subst (λ (x : Registry S g). Represents x h) (sym then.0) (stays h stands)) clean,
        );
        was_clean = λ clean. was (subst (λ (x : Registry S g). HasCleanDisk (state_of x)) then.0 clean);
      }

  follows : (founding : Option Founding) (to_come now : Option (List ℕ)) (unread : Unread) (before failures failures_new : ℕ) (it new : Registry S g) (errors : Output) (status : ExitStatus)
      → IsReplayed founding to_come now unread before failures failures_new it new errors status → Follows to_come it new status
  follows None to_come now unread before failures failures_new it new errors status is = of_replay to_come before failures failures_new it new is.0 errors status is.1.0 is.2
  follows (Some founding) to_come now unread before failures failures_new it new errors status is =
      let from = is.1 in
      then_follows founding to_come now unread before failures failures_new it from.1 new from.0 is.0 errors status
      (λ clean. omega (arith, from.2.left.survives.clean, clean)) from.2.left.stays from.3 is.2

-- ---- what the files hold

module _ {H F I : Type 0} (m : host.Ghosts H F I) (d : disk.Ghosts F) where
  module _ {R : Type 0} (r : source.Ghosts R) (source middle source_new : R) (begun : Unread) (blank : List (List ℕ)) (begins : AreBeginning blank) where
    over_whole : (old new : H) (path : List ℕ) (ends : Ends) → ((lines : List (List ℕ)) → MayHaveLines (ahead (r.remaining middle) begun) lines → MayHaveLines (r.remaining source) (blank ++ lines))
        → ReplaysOver m d r middle source_new begun old new path ends → ReplaysWhollyFrom m d r source old new path ends
    over_whole old new path ends passes is =
        let Does = ReplaysLines r middle source_new begun in
        elim (runs_whole m d old new path ends Does (IsReplayedTo m d r source old new path false ends) (λ over same.
        let told = follows None _ _ _ _ _ _ over.it over.after _ over.before over.does.3 in
        let on = carried m d old new path ends Does over same told.was_clean (IsAfterRecord told.lines ends.status)
        (λ h stands clean. subst (λ (status : ExitStatus). LeavesSome over.after (IsAfterRecord told.lines status h)) (sym same) (told.leaves h stands clean)) in
        record { before = blank; begins = begins; lines = told.lines; come = passes told.lines told.come; files = on.files; used = on.used; holds = on.holds }) (elim is [ inl not ↦ inl (not.0, not.1, not.2) | inr over ↦ inr over ])) [
          | inl not ↦ inr (inl (not.0, inl not.1, not.2))
          | inr more ↦ elim more [
            | inl failed ↦ inr (inr (inl (middle, source_new, begun, inl failed)))
            | inr done ↦ inr (inr (inr (inr (false, done))))
          ]
        ]

    -- ---- on a connection

    module _ (founding : Founding) (old new : H) (path : List ℕ) (ends : Ends) (passes : (lines : List (List ℕ)) → MayHaveLines (ahead (r.remaining middle) begun) lines → MayHaveLines (r.remaining source) (blank ++ lines))
        (on : IsReplayedIn m d r founding middle source_new begun old new path ends) where
      abbrev last : Held (FileStore F d)
      last = connection_left over_files on.left

      replayed : ends.status ≡ on.before → (it after : Registry (FileStore F d) over_files) → IsFoundOrOpen over_files on.conn founding it → last ≡ connection_of after
          → IsReplayed (Some founding) (ahead (r.remaining middle) begun) (ahead (r.remaining source_new) on.ended) on.ended begun.lines (r.failures middle) (r.failures source_new) it after (earlier ends on.errors on.before).errors on.before
          → IsReplayedTo m d r source old new path true ends
      replayed same it after opened is_of did =
          let told = follows (Some founding) _ _ _ _ _ _ it after _ on.before did in
          record {
            before = blank;
            begins = begins;
            lines = told.lines;
            come = passes told.lines told.come;
            files = on.closes.files;
            used = used_in m d old on.opened path on.conn on.connected on.opened new last on.errors ends.errors.new on.before ends.status on.closes;
            holds = λ h.
                carried_in m d old on.opened path on.conn on.connected on.opened new last on.errors ends.errors.new on.before ends.status on.closes founding same it after opened is_of told.was_clean h
                (IsAfterRecord told.lines ends.status h)
                (λ stands clean. subst (λ (status : ExitStatus). LeavesSome after (IsAfterRecord told.lines status h)) (sym same) (told.leaves h stands clean));
          }

      unreplayed : ends.status ≡ on.before → on.before ≡ Failed → (failure : Failure) → IsLeftFound over_files on.conn founding failure last
          → Prints (earlier ends on.errors on.before).errors (failure_line failure) → IsUnreplayed m d old new path ends
      unreplayed same failed failure left prints =
          unreplayed_in m d old on.opened path on.conn on.connected on.opened new last on.errors ends.errors.new on.before ends.status on.closes founding same failed failure left
          ends refl refl (on.silent, failed, prints)

      -- what was replayed is carried into the files, unless closing them failed
      done : ends.status ≡ on.before → (left : Result (Registry (FileStore F d) over_files) (Held (FileStore F d))) → on.left ≡ left
          → IsReplayedOn over_files founding (ahead (r.remaining middle) begun) (ahead (r.remaining source_new) on.ended) on.ended begun.lines (r.failures middle) (r.failures source_new)
          on.conn left (earlier ends on.errors on.before).errors on.before
          → ReplaysWhollyFrom m d r source old new path ends
      done same (Ok after) is did = inr (inr (inr (inr (true, replayed same did.0 after did.1 (ap (connection_left over_files) is) did.2))))
      done same (Err conn) is not =
          let held : last ≡ conn = ap (connection_left over_files) is in
          inr (inr (inr (inl (unreplayed same not.2 not.0 (subst (IsLeftFound over_files on.conn founding not.0) (sym held) not.1) not.3))))

      in_whole : ReplaysWhollyFrom m d r source old new path ends
      in_whole = elim (kept_unless_failed m d last on.closes.files on.errors ends.errors.new on.before ends.status on.closes.closed) [
        | inl failed ↦ inr (inr (inl (middle, source_new, begun, inr (founding, on, failed.0, failed.1))))
        | inr same ↦ done same on.left refl on.replays
      ]

  module _ {R : Type 0} (r : source.Ghosts R) (source source_new : R) (old new : H) (path : List ℕ) (ends : Ends) where
    replays_whole : ReplaysFrom m d r source source_new old new path ends → ReplaysWhollyFrom m d r source old new path ends
    replays_whole is = go is.first is.begins is.goes_on
      where
        go : (first : Result (Option Founding) ReplayStop) → Begins (r.remaining source) (ahead (r.remaining is.middle) is.begun) 0 is.begun.lines (r.failures source) (r.failures is.middle) first
            → BeginsReplay m d r first is.middle source_new is.begun old new path ends → ReplaysWhollyFrom m d r source old new path ends
        go (Ok (Some founding)) begins goes_on = elim goes_on [
          | inl not ↦ inr (inl (not.0, inr not.1, not.2))
          | inr on ↦ in_whole r source is.middle source_new is.begun (begins.0 ++ begins.1 ∷ []) (inr (begins.0, begins.1, founding, refl, begins.2, begins.3)) founding old new path ends begins.4 on
        ]
        go (Ok None) begins goes_on = over_whole r source is.middle source_new is.begun begins.0 (inl begins.1) old new path ends begins.2 goes_on
        go (Err why) begins goes_on = inl goes_on.0

  pub replays_wholly : (s : source.Ghosts I) {IN : Type 0} (i : source.Ghosts IN) (input input_new : IN) (old new : H) (path file : List ℕ) (ends : Ends)
      → ReplaysRecord m d s i input input_new old new path file ends → ReplaysWholly m d s i input old new path file ends
  replays_wholly s i input input_new old new path file ends is = (
    λ standard. replays_whole i input input_new old new path ends (is.standard standard),
    λ named. elim (is.named named).1 [
      | inl read ↦ inl (read.0, read.1, read.3, replays_whole s read.1 read.2 read.0 new path ends read.4)
      | inr not ↦ inr not
    ],
  )
