-- What the files of a store hold after a command.
use Rattle.std.proofs.Common.{◌≡◌, ◌⊎◌, inl, inr, ℕ, false, List, take, drop, Option, Some, None, refl, sym, subst, ◌∙◌, arith}
use Rattle.std.specs.Prelude.{Result, Ok, Err}
use Rattle.std.proofs.Math.Logic.{∥∥₁_map}
use Rattle.sqlite_disk.specs.declared.Disk as disk
use Rattle.sqlite_disk.specs.declared.Files.{Files}
use Rattle.sqlite_store.specs.declared.store.FileStore.{FileStore}
use Rattle.sqlite.specs.Files.{file_state}
use Rattle.sqlite.specs.Held.{Held}
use Rattle.sqlite.specs.State.{HasCleanDisk}
use Rattle.byte_streams.specs.declared.streams.Sink as sink
use Rattle.byte_streams.specs.declared.streams.Source as source
use Rattle.byte_streams.specs.Streams.{MayGive, most_bytes}
use Rattle.usbids_text.specs.Moments.{Moment}
use Rattle.registry_rules.specs.Accepted.{AreValid}
use Rattle.registry_rules.specs.History.{History, founded}
use Rattle.registry_rules.specs.Run.{after}
use Rattle.registry_tables.specs.Rows.{newest}
use Rattle.registry_wire.specs.Founding.{FoundsAs, founding_listed}
use Rattle.registry_rules.specs.declared.founding.Founding.{Founding}
use Rattle.registry_rules.specs.declared.rejection.Rejection.{Rejection}
use Rattle.registry_rules.specs.declared.rejection.Rejection.TheVariants.{Refused, NoMemory}
use Rattle.registry_store.specs.Promise.{Leaves, Represents, connection_of, state_of}
use Rattle.registry_store.specs.Queries.{IsUntouched}
use Rattle.registry_store.specs.Files.{FilesHoldEither, IsEither}
use Rattle.registry_store.proofs.CrashLemmas.{closed_clean, in_newest}
use Rattle.registry_store.proofs.IsQueryLemmas.{untouched_itself}
use Rattle.registry_store.proofs.RunLemmas.{leaves_weaker}
use Rattle.registry_store.proofs.RunToLemmas.{at_place}
use Rattle.registry_commands.specs.declared.arguments.BadArgument.{BadArgument}
use Rattle.registry_commands.specs.declared.importing.Import.{Import}
use Rattle.registry_reports.specs.declared.kinds.ReportKind.{ReportKind}
use Rattle.registry_commands.specs.declared.status.ExitStatus.{ExitStatus}
use Rattle.registry_commands.specs.declared.status.ExitStatus.TheVariants.{Success, Failed}
use Rattle.registry_commands.specs.Ends.{Ends, Receives, Sunk, effect}
use Rattle.registry_commands.specs.Heads.{head_line_of}
use Rattle.registry_commands.specs.Recorded.{record_text}
use Rattle.registry_commands.proofs.ApplyLemmas.{applied_endures}
use Rattle.registry_desk.specs.declared.server.Connections as connections
use Rattle.registry_desk.specs.Server.{fault_in_server}
use Rattle.registry_program.specs.declared.host.Host as host
use Rattle.registry_program.specs.Commands.{ActsOnFile, ActsOnLines, Applies, ExportsAs, FoundsBy, FoundsIn, ImportsAs, ImportsFile, ImportsList, IsFoundedOn, ReadsFoundingAt, ReportsAs, RunsReading, WritesHead, WritesList, WritesRecord, WritesReport}
use Rattle.registry_program.specs.DryRuns.{TriesFile, TriesImportAs, TriesList}
use Rattle.registry_program.specs.Outputs.{earlier, later}
use Rattle.registry_program.specs.Serving.{Serves, ServesOn}
use Rattle.registry_program.specs.Stores.{ClosesStore, IsRunOver, Runs, TheRegistry}
use Rattle.registry_program.specs.Whole.{AppliesWholly, AreLeftAfter, ExportsWhollyAs, ForetellsWhollyAs, Foretells, FoundsWholly, ImportsWhollyAs, IsAfterImport, IsAfterLines, IsAppliedTo, IsCarriedOn, IsForetoldOf, IsForetoldTo, IsFoundedWholly, IsGivenBy, IsHeadOn, IsImportedTo, IsListed, IsRecordedOn, IsReportedOn, IsServedTo, IsUnbegun, IsUsed, LeadsFilesTo, ReportsWholly, ServesWholly, Stays, UnlessStopped}
use Rattle.registry_program.proofs.ForetoldLemmas.{import_said}
use Rattle.registry_program.proofs.LeavesLemmas.{success_or, same_of_either, LeavesSome, leaves_itself, stayed, applied, unacted, LeavesImport, imported, import_endures, served}

module _ {H F I : Type 0} (m : host.Ghosts H F I) (d : disk.Ghosts F) where
  -- unless closing failed after the status Success, the status is the one before
  pub kept_unless_failed : (conn : Held (FileStore F d)) (files : Files F) (errors errors_new : Sunk) (before status : ExitStatus) → ClosesStore m d conn files errors errors_new before status
      → ((before ≡ Success) × (status ≡ Failed)) ⊎ (status ≡ before)
  kept_unless_failed conn files errors errors_new before status is = elim (success_or before) [
    | inl success ↦ elim (is.well success) [ inl same ↦ inr (same.0 ∙ sym success) | inr failed ↦ inl (success, failed.0) ]
    | inr other ↦ inr (is.kept other).0
  ]

  pub runs_whole : (old new : H) (path : List ℕ) (ends : Ends) (Does : H → H → TheRegistry m d → TheRegistry m d → Ends → Type 0) (P : Type 0)
      → ((over : IsRunOver m d old new path ends Does) → ends.status ≡ over.before → P) → Runs m d old new path ends Does → UnlessStopped m d old new path ends Does P
  runs_whole old new path ends Does P follows run = elim run [
    | inl not ↦ inl not
    | inr over ↦ elim (kept_unless_failed (connection_of over.after) over.closes.files over.errors ends.errors.new over.before ends.status over.closes.closed) [
      | inl failed ↦ inr (inl (over, failed.0, failed.1))
      | inr same ↦ inr (inr (follows over same))
    ]
  ]

  -- the store was opened and closed
  used : (old new : H) (path : List ℕ) (ends : Ends) (Does : H → H → TheRegistry m d → TheRegistry m d → Ends → Type 0) (over : IsRunOver m d old new path ends Does)
      → IsUsed m d old new path false over.closes.files
  used old new path ends Does over = record {
    opened = over.opened;
    first = over.takes.files;
    opens = over.takes.opens;
    done = over.done;
    lets_go = over.closes.lets_go;
  }

  module _ (old new : H) (path : List ℕ) (ends : Ends) (Does : H → H → TheRegistry m d → TheRegistry m d → Ends → Type 0)
      (over : IsRunOver m d old new path ends Does) (same : ends.status ≡ over.before) (endures : HasCleanDisk (state_of over.after) → HasCleanDisk (state_of over.it)) where
    -- the closed files hold what the registry left
    pub files_lead_to : (h next : History) (After : History → History → Type 0)
        → ((x : History) → IsEither h next x → Represents over.it x → HasCleanDisk (state_of over.after) → LeavesSome over.after After)
        → LeadsFilesTo m d old path over.closes.files h next After
    files_lead_to h next After does legal legal_next from held honest =
        let clean : HasCleanDisk (state_of over.after) = closed_clean (connection_of over.after) over.closes.files over.closes.closed.closed honest in
        let found = over.takes.opens_files.represents from h next legal legal_next (λ _. subst (λ i. FilesHoldEither from i h next) (sym over.takes.opens.found) held) (endures clean) in
        ∥∥₁_map found (λ it.
        let left = does it.0 it.1 it.2 clean in
        (left.0, left.1, left.2, over.closes.closed.holds same newest left.0 left.1 (in_newest (state_of over.after) (IsEither left.0 left.1) (λ _. left.3)) honest))

    pub carried : (After : History → History → History → Type 0)
        → ((h : History) → Represents over.it h → HasCleanDisk (state_of over.after) → LeavesSome over.after (After h)) → IsCarriedOn m d old new path After
    carried After does = record {
      files = over.closes.files;
      used = used old new path ends Does over;
      holds = λ h. files_lead_to h h (After h) (λ x is stands clean. does h (subst (Represents over.it) (same_of_either h x is) stands) clean);
    }

  unread : (old new : H) (path : List ℕ) (ends : Ends) (Does : H → H → TheRegistry m d → TheRegistry m d → Ends → Type 0)
      (over : IsRunOver m d old new path ends Does) → ends.status ≡ over.before → over.after ≡ over.it → over.before ≡ Failed → ends.out.new ≡ ends.out.old → IsUnbegun m d old new path ends
  unread old new path ends Does over same kept one silent = (
    same ∙ one,
    silent,
    carried old new path ends Does over same (λ clean. subst (λ (x : TheRegistry m d). HasCleanDisk (state_of x)) kept clean) Stays (λ h stands clean. stayed over.it over.after h kept stands clean),
  )

  -- a command that only shows something of the history, and only at the status Success
  show_whole : (old new : H) (path : List ℕ) (ends : Ends) (Does : H → H → TheRegistry m d → TheRegistry m d → Ends → Type 0) (Shown : History → Type 0)
      → ((over : IsRunOver m d old new path ends Does) → IsUntouched over.it over.after × ((h : History) → Represents over.it h → HasCleanDisk (state_of over.after) → over.before ≡ Success → Shown h))
      → Runs m d old new path ends Does → UnlessStopped m d old new path ends Does (IsCarriedOn m d old new path (λ h x y. Stays h x y × (ends.status ≡ Success → Shown h)))
  show_whole old new path ends Does Shown shows = runs_whole old new path ends Does (IsCarriedOn m d old new path (λ h x y. Stays h x y × (ends.status ≡ Success → Shown h))) (λ over same.
      let left = (shows over).0 in
      carried old new path ends Does over same (λ clean. omega (arith, left.survives.clean, clean)) (λ h x y. Stays h x y × (ends.status ≡ Success → Shown h))
      (λ h stands clean. (h, h, ((refl, refl), λ success. (shows over).1 h stands clean (sym same ∙ success)), leaves_itself over.after h (left.stays h stands) clean)))

  list_whole : (old new : H) (path : List ℕ) (stamp : Option Moment) (ends : Ends) → Runs m d old new path ends (WritesList stamp) → UnlessStopped m d old new path ends (WritesList stamp) (IsCarriedOn m d old new path (IsListed stamp ends))
  list_whole old new path stamp ends = show_whole old new path ends (WritesList stamp) _ (λ over. let is = over.does.1 in (
    is.left,
    λ h stands clean success. elim is.shown [
      | inl all ↦ (all.0, all.2 h stands clean, all.3, elim all.4 [ inl whole ↦ whole.1 | inr cut ↦ absurd (cc (cut.0, success)) ])
      | inr none ↦ absurd (cc (none.0, success))
    ],
  ))

  report_whole : (old new : H) (path : List ℕ) (name : ReportKind) (ends : Ends) → Runs m d old new path ends (WritesReport name) → UnlessStopped m d old new path ends (WritesReport name) (IsCarriedOn m d old new path (IsReportedOn name ends))
  report_whole old new path name ends = show_whole old new path ends (WritesReport name) _ (λ over. let is = over.does.1 in (
    is.left,
    λ h stands clean success. elim is.shown [
      | inl all ↦ (all.0, all.2 h stands clean, elim all.3 [ inl whole ↦ whole.1 | inr cut ↦ absurd (cc (cut.0, success)) ])
      | inr none ↦ absurd (cc (none.0, success))
    ],
  ))

  pub record_whole : (old new : H) (path : List ℕ) (from : Option ℕ) (ends : Ends) → Runs m d old new path ends (WritesRecord from) → UnlessStopped m d old new path ends (WritesRecord from) (IsCarriedOn m d old new path (IsRecordedOn from ends))
  record_whole old new path from ends = show_whole old new path ends (WritesRecord from) (λ h. AreValid h.deeds → Receives ends.out (record_text h from)) (λ over.
      let is = over.does.1 in (is.left, λ h stands clean success. is.whole success h stands clean))

  pub head_whole : (old new : H) (path : List ℕ) (ends : Ends) → Runs m d old new path ends WritesHead → UnlessStopped m d old new path ends WritesHead (IsCarriedOn m d old new path (IsHeadOn ends))
  head_whole old new path ends = show_whole old new path ends WritesHead (λ h. AreValid h.deeds → Receives ends.out (head_line_of h)) (λ over.
      let is = over.does in (
        subst (λ (x : TheRegistry m d). IsUntouched over.it x) (sym is.1) (untouched_itself over.it),
        λ h stands clean success valid. elim is.2.shown [
          | inl all ↦
              let received : Receives ends.out all.0 = elim all.2 [ inl whole ↦ whole.1 | inr cut ↦ absurd (cc (cut.0, success)) ] in
              subst (Receives ends.out) (all.1 h stands valid) received
          | inr none ↦ absurd (cc (none.0, success))
        ],
      ))

  module _ (s : source.Ghosts I) where
    module _ {R : Type 0} (r : source.Ghosts R) (input input_new : R) where
      -- the same without what became of the standard input
      reading_or : (old new : H) (path : List ℕ) (ends : Ends) (Does : H → H → TheRegistry m d → TheRegistry m d → Ends → Type 0) → RunsReading m d s r input input_new old new path ends Does → Runs m d old new path ends Does
      reading_or old new path ends Does is = elim is [ inl not ↦ inl (not.0, not.1, not.2) | inr over ↦ inr over ]

      -- the lines that this source gave were acted on
      acted_on : {X : Type 0} (x : source.Ghosts X) (first last : X) (old new : H) (path file : List ℕ) (a : ℕ) (ends : Ends) (over : IsRunOver m d old new path ends (ActsOnFile m s r file a input input_new))
          → ends.status ≡ over.before → (did : ActsOnLines x first last a over.it over.after (earlier ends over.errors over.before)) → IsGivenBy m d s r input file did.0 → IsAppliedTo m d s r input old new path file a ends
      acted_on x first last old new path file a ends over same lines given =
          let did = effect over.it over.after (earlier ends over.errors over.before) in
          let was_clean : HasCleanDisk (state_of over.after) → HasCleanDisk (state_of over.it) = λ clean. omega (arith, (applied_endures _ did _ a lines.2).clean, clean) in
          record {
            bytes = lines.0;
            read = given;
            files = over.closes.files;
            used = used old new path ends (ActsOnFile m s r file a input input_new) over;
            holds = λ h rs parsed within.
                files_lead_to old new path ends (ActsOnFile m s r file a input input_new) over same was_clean h (after h (take 1 (drop a rs))) (IsAfterLines h (drop a rs) ends.out ends.status)
                (λ x is stands clean. subst (λ (status : ExitStatus). LeavesSome over.after (IsAfterLines h (drop a rs) ends.out status)) (sym same)
                (applied _ did _ a lines.2 h rs parsed within (at_place over.it h (drop a rs) 0 x is stands) clean));
            stays = λ none h.
                files_lead_to old new path ends (ActsOnFile m s r file a input input_new) over same was_clean h h (Stays h)
                (λ x is stands clean. stayed over.it over.after h (unacted _ did _ a lines.2 none) (subst (Represents over.it) (same_of_either h x is) stands) clean);
          }

      pub apply_whole : (old new : H) (path file : List ℕ) (a : ℕ) (ends : Ends) → Applies m d s r input input_new old new path file a ends → AppliesWholly m d s r input input_new old new path file a ends
      apply_whole old new path file a ends is = runs_whole old new path ends (ActsOnFile m s r file a input input_new) (IsAppliedTo m d s r input old new path file a ends ⊎ IsUnbegun m d old new path ends) (λ over same. elim over.does [
        | inl standard ↦ inl (acted_on r input input_new old new path file a ends over same standard.2 (inl (standard.0, standard.2.1)))
        | inr named ↦ elim named.2 [
          | inl read ↦ inl (acted_on s read.0 read.1 old new path file a ends over same read.3
              (inr (named.0, record { reading = over.opened; read = over.done; input = read.0; reads = read.2; gives = read.3.1 })))
          | inr not ↦ inr (unread old new path ends (ActsOnFile m s r file a input input_new) over same not.2.0 not.2.1.1 not.2.1.0)
        ]
      ]) (reading_or old new path ends (ActsOnFile m s r file a input input_new) is)

      -- the list that this source gave was imported
      imported_by : {X : Type 0} (x : source.Ghosts X) (first last : X) (old new : H) (path list : List ℕ) (import : Import) (ends : Ends) (over : IsRunOver m d old new path ends (ImportsFile m s r list import input input_new))
          → ends.status ≡ over.before → (did : ImportsList x first last import over.it over.after (earlier ends over.errors over.before)) → IsGivenBy m d s r input list did.0 → IsImportedTo m d s r input old new path list import ends
      imported_by x first last old new path list import ends over same read given =
          let did = effect over.it over.after (earlier ends over.errors over.before) in
          let was_clean : HasCleanDisk (state_of over.after) → HasCleanDisk (state_of over.it) = λ clean. omega (arith, (import_endures _ did import read.0 read.2).clean, clean) in
          record {
            bytes = read.0;
            read = given;
            carried = carried old new path ends (ImportsFile m s r list import input input_new) over same was_clean
                (λ h x y. Stays h x y ⊎ IsAfterImport read.0 import ends.out ends.status h x y)
                (λ h stands clean. subst (λ (status : ExitStatus). LeavesImport over.after read.0 import ends.out status h) (sym same)
                (imported _ did import read.0 read.2 h stands clean));
          }

      import_whole : (old new : H) (path list : List ℕ) (import : Import) (ends : Ends) → RunsReading m d s r input input_new old new path ends (ImportsFile m s r list import input input_new)
          → UnlessStopped m d old new path ends (ImportsFile m s r list import input input_new) (IsImportedTo m d s r input old new path list import ends ⊎ IsUnbegun m d old new path ends)
      import_whole old new path list import ends is = runs_whole old new path ends (ImportsFile m s r list import input input_new) (IsImportedTo m d s r input old new path list import ends ⊎ IsUnbegun m d old new path ends) (λ over same. elim over.does [
        | inl standard ↦ inl (imported_by r input input_new old new path list import ends over same standard.2 (inl (standard.0, standard.2.1)))
        | inr named ↦ elim named.2 [
          | inl read ↦ inl (imported_by s read.0 read.1 old new path list import ends over same read.3
              (inr (named.0, record { reading = over.opened; read = over.done; input = read.0; reads = read.2; gives = read.3.1 })))
          | inr not ↦ inr (unread old new path ends (ImportsFile m s r list import input input_new) over same not.2.0 not.2.1.1 not.2.1.0)
        ]
      ]) (reading_or old new path ends (ImportsFile m s r list import input input_new) is)

      -- the reply to the import of the list that this source gave was foretold
      foretold_by : {X : Type 0} (x : source.Ghosts X) (first last : X) (old new : H) (path list : List ℕ) (import : Import) (ends : Ends) (over : IsRunOver m d old new path ends (TriesFile m s r list import input input_new))
          → ends.status ≡ over.before → (did : TriesList x first last import over.it over.after (earlier ends over.errors over.before)) → IsGivenBy m d s r input list did.0 → IsForetoldTo m d s r input old new path list import ends
      foretold_by x first last old new path list import ends over same read given =
          let did = effect over.it over.after (earlier ends over.errors over.before) in
          let said = import_said _ did import read.0 read.2 in
          record {
            bytes = read.0;
            read = given;
            carried = carried old new path ends (TriesFile m s r list import input input_new) over same said.clean (IsForetoldOf read.0 import ends)
                (λ h stands clean. (
                  h,
                  h,
                  ((refl, refl), λ other. subst (λ (status : ExitStatus). Foretells read.0 import ends.out status h) (sym same) (said.says h stands clean (λ failed. other (same ∙ failed)))),
                  leaves_itself over.after h (said.stays h stands) clean,
                ));
          }

      foretell_whole : (old new : H) (path list : List ℕ) (import : Import) (ends : Ends) → RunsReading m d s r input input_new old new path ends (TriesFile m s r list import input input_new)
          → UnlessStopped m d old new path ends (TriesFile m s r list import input input_new) (IsForetoldTo m d s r input old new path list import ends ⊎ IsUnbegun m d old new path ends)
      foretell_whole old new path list import ends is = runs_whole old new path ends (TriesFile m s r list import input input_new) (IsForetoldTo m d s r input old new path list import ends ⊎ IsUnbegun m d old new path ends) (λ over same. elim over.does [
        | inl standard ↦ inl (foretold_by r input input_new old new path list import ends over same standard.2 (inl (standard.0, standard.2.1)))
        | inr named ↦ elim named.2 [
          | inl read ↦ inl (foretold_by s read.0 read.1 old new path list import ends over same read.3
              (inr (named.0, record { reading = over.opened; read = over.done; input = read.0; reads = read.2; gives = read.3.1 })))
          | inr not ↦ inr (unread old new path ends (TriesFile m s r list import input input_new) over same not.2.0 not.2.1.1 not.2.1.0)
        ]
      ]) (reading_or old new path ends (TriesFile m s r list import input input_new) is)

      pub foretells_whole : (old new : H) (path list : List ℕ) (asked : Result Import (Rejection BadArgument)) (ends : Ends) → TriesImportAs m d s r input input_new old new path list asked ends → ForetellsWhollyAs m d s r input input_new old new path list asked ends
      foretells_whole old new path list (Ok import) ends is = foretell_whole old new path list import ends is
      foretells_whole old new path list (Err (Refused argument)) ends is = (is.0, is.2)
      foretells_whole old new path list (Err NoMemory) ends is = (is.0, is.2)

      pub imports_whole : (old new : H) (path list : List ℕ) (asked : Result Import (Rejection BadArgument)) (ends : Ends) → ImportsAs m d s r input input_new old new path list asked ends → ImportsWhollyAs m d s r input input_new old new path list asked ends
      imports_whole old new path list (Ok import) ends is = import_whole old new path list import ends is
      imports_whole old new path list (Err (Refused argument)) ends is = (is.0, is.2)
      imports_whole old new path list (Err NoMemory) ends is = (is.0, is.2)

    pub exports_whole : (old new : H) (path : List ℕ) (read : Result (Option Moment) BadArgument) (ends : Ends) → ExportsAs m d s old new path read ends → ExportsWhollyAs m d old new path read ends
    exports_whole old new path (Ok stamp) ends is = list_whole old new path stamp ends is
    exports_whole old new path (Err argument) ends is = is

    pub reports_whole : (old new : H) (path : List ℕ) (name : Option ReportKind) (ends : Ends) → ReportsAs m d s old new path name ends → ReportsWholly m d old new path name ends
    reports_whole old new path (Some name) ends is = report_whole old new path name ends is
    reports_whole old new path None ends is = is

    -- the founding file was read, and the registry was founded on this store
    founded_on : (old new : H) (path founding : List ℕ) (read : H) (input : I) (bytes : List ℕ) (origin : Founding) (ends : Ends) → m.reads old read founding most_bytes input → MayGive (s.remaining input) bytes
        → FoundsAs (Ok origin) (founding_listed bytes) → IsFoundedOn m d origin read new path ends → ends.status ≡ Success → IsFoundedWholly m d s old new path founding
    founded_on old new path founding read input bytes origin ends reads gives founds on well =
        let success : on.before ≡ Success = elim (success_or on.before) [ inl success ↦ success | inr other ↦ absurd (other (sym (on.closes.closed.kept other).0 ∙ well)) ] in
        elim on.tried.ends [
          | inl ended ↦
              let h = founded origin in
              let closed = on.closes.closed in
              record {
                bytes = bytes;
                read = record { reading = old; read = read; input = input; reads = reads; gives = gives };
                first = refl;
                listed = founds.0;
                is_listed = founds.1;
                origin = origin;
                founds = founds.2;
                files = on.closes.files;
                used = record { opened = on.opened; first = on.connected.files; opens = on.connected.opens; done = on.opened; lets_go = on.closes.lets_go };
                holds = λ honest.
                    let clean : HasCleanDisk (file_state on.last) = closed_clean on.last on.closes.files closed.closed honest in
                    let left : Leaves newest (file_state on.last) (IsEither h h) =
                    leaves_weaker newest (file_state on.last) (λ x. x ≡ h) (IsEither h h) (λ x e. inl e) ((ended.1.rows clean).left clean) in
                    closed.holds (well ∙ sym success) newest h h (in_newest (file_state on.last) (IsEither h h) (λ _. left)) honest;
              }
          | inr failure ↦ absurd (cc (failure.0, success))
        ]

    -- the status Success comes only after a founding was read
    found_from : (old new : H) (path founding : List ℕ) (read : H) (errors : Sunk) (first : Result Founding ExitStatus) (ends : Ends)
        → ReadsFoundingAt m s old read founding (record { old = ends.errors.old; new = errors }) first → FoundsBy m d first errors read new path ends → ends.status ≡ Success
        → IsFoundedWholly m d s old new path founding
    found_from old new path founding read errors (Ok origin) ends (inl from) on well = elim on [
      | inl not ↦ absurd (cc (not.2.1, well))
      | inr is ↦ founded_on old new path founding read from.0 from.3.0 origin (later ends errors) from.2 from.3.1 from.3.2.0 is well
    ]
    found_from old new path founding read errors (Ok origin) ends (inr not) on well = absurd (cc not.2.0)
    found_from old new path founding read errors (Err status) ends (inl from) on well = elim from.3.2 [
      | inl said ↦ absurd (cc (said.2, on.3, well))
      | inr failure ↦ absurd (cc (failure.0, on.3, well))
    ]
    found_from old new path founding read errors (Err status) ends (inr not) on well = absurd (cc (not.2.0, on.3, well))

    pub found_whole : (old new : H) (path founding : List ℕ) (ends : Ends) → FoundsIn m d s old new path founding ends → FoundsWholly m d s old new path founding ends
    found_whole old new path founding ends is well = found_from old new path founding is.read is.errors is.first ends is.reads is.goes_on well

    module _ {R W IN : Type 0} (c : connections.Ghosts H R W) (r : source.Ghosts R) (w : sink.Ghosts W) (i : source.Ghosts IN) where
      pub serves_whole : (old new : H) (path : List ℕ) (port limit : ℕ) (ends : Ends) → Serves m d c r w old new path port limit ends → ServesWholly m d c r w old new path port limit ends
      serves_whole old new path port limit ends = runs_whole old new path ends (ServesOn m c r w port limit) (IsServedTo m d c r w old new path port ⊎ IsUnbegun m d old new path ends) (λ over same. elim over.does [
        | inl on ↦
            let all = on.served.served in
            inl (record {
              before = over.opened;
              listening = on.listening;
              listens = on.listens;
              visits = all.0;
              middle = all.1;
              visited = all.2;
              carried = carried old new path ends (ServesOn m c r w port limit) over same (λ clean. omega (arith, on.served.endures.clean, clean)) (AreLeftAfter all.0)
                  (λ h stands clean. served over.after h all.0 (fault_in_server on.end) (all.6 h stands clean).0 clean);
            })
        | inr not ↦ inr (unread old new path ends (ServesOn m c r w port limit) over same not.1 not.2.1 not.2.0)
      ])
