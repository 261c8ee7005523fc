-- What the files of a store hold after a command, and what the outputs have gained, by the history that the files held before
-- it.
use Rattle.std.specs.Prelude.{◌≡◌, ◌≢◌, ◌⊎◌, ◌<◌, ◌≤◌, ◌+◌, Bool, false, true, ℕ, List, [], ◌++◌, codes, length, take, drop, Option, Some, None, Result, Ok, Err}
use Rattle.std.specs.Io.KnownBytes.{Appends, Keeps}
use Rattle.std.specs.Str.{bytes_eq}
use Rattle.sqlite_disk.specs.declared.Disk as disk
use Rattle.sqlite_disk.specs.declared.Files.{Files}
use Rattle.sqlite.specs.WalReads.{AreClean}
use Rattle.byte_streams.specs.declared.streams.Sink as sink
use Rattle.byte_streams.specs.declared.streams.Source as source
use Rattle.byte_streams.specs.Streams.{AppendsPrefix, MayGive, most_bytes}
use Rattle.usbids_text.specs.Documents.{IsTextOf}
use Rattle.usbids_text.specs.Entries.{TopEntry}
use Rattle.usbids_text.specs.Moments.{Moment}
use Rattle.usbids_text.specs.Reading.{ReadsAs}
use Rattle.usbids_text.specs.declared.fault.ReadFault.{ReadFault}
use Rattle.usbids_text.specs.Writing.{written}
use Rattle.registry_rules.specs.declared.founding.Founding.{Founding}
use Rattle.registry_rules.specs.declared.rejection.Rejection.{Rejection}
use Rattle.registry_rules.specs.declared.rejection.Rejection.TheVariants.{Refused, NoMemory}
use Rattle.registry_rules.specs.declared.order.Request.{Request}
use Rattle.registry_rules.specs.Accepted.{AreValid}
use Rattle.registry_rules.specs.declared.accepted.Accepted.{Accepted}
use Rattle.registry_rules.specs.History.{History, founded}
use Rattle.registry_rules.specs.Run.{Legal, after, after_one, reply_to}
use Rattle.registry_reports.specs.History.{IsListing}
use Rattle.registry_tables.specs.Rows.{newest}
use Rattle.registry_wire.specs.Founding.{Founds, Listed, founding_listed}
use Rattle.registry_store.specs.Files.{FilesHoldEither, HoldEither}
use Rattle.registry_commands.specs.declared.arguments.BadArgument.{BadArgument}
use Rattle.registry_commands.specs.declared.arguments.BadArgument.TheVariants.{Name}
use Rattle.registry_commands.specs.declared.importing.Import.{Import}
use Rattle.registry_commands.specs.declared.messages.Failure.{Failure}
use Rattle.registry_commands.specs.declared.messages.Failure.TheVariants.{Foreign, Memory}
use Rattle.registry_reports.specs.declared.kinds.ReportKind.{ReportKind}
use Rattle.registry_commands.specs.Apply.{lines_between}
use Rattle.registry_commands.specs.declared.status.ExitStatus.{ExitStatus}
use Rattle.registry_commands.specs.declared.unread.Unread.{Unread}
use Rattle.registry_commands.specs.declared.status.ExitStatus.TheVariants.{Success, Failed, Rejected}
use Rattle.registry_commands.specs.DryRuns.{dry_status_of}
use Rattle.registry_commands.specs.Ends.{Ends, Receives, Output}
use Rattle.registry_commands.specs.declared.checking.Counts.{Counts}
use Rattle.registry_commands.specs.Checks.{IsCountOf, sound_text}
use Rattle.registry_commands.specs.Failures.{IsOfOpening, IsOfSoundRun, PrintsFailure}
use Rattle.registry_commands.specs.Heads.{head_line_of}
use Rattle.registry_commands.specs.Imports.{AsksFor, request_of_import, exit_status_of}
use Rattle.registry_commands.specs.Lines.{requests_in}
use Rattle.registry_commands.specs.Messages.{reply_line}
use Rattle.registry_commands.specs.RecordLines.{MayHaveLines}
use Rattle.registry_commands.specs.Replayed.{AreBeginning, AreContinued, FirstAccepts, GetTheirReplies, after_lines}
use Rattle.registry_commands.specs.Recorded.{record_text}
use Rattle.registry_views.specs.Reports.{IsReport}
use Rattle.registry_desk.specs.declared.server.Connections as connections
use Rattle.registry_desk.specs.Server.{HaveVisited, IsLeftAfter, Visit}
use Rattle.registry_program.specs.declared.host.Host as host
use Rattle.registry_program.specs.Commands.{ActsOnFile, ImportsFile, IsStampOf, WritesHead, WritesList, WritesRecord, WritesReport, is_standard}
use Rattle.registry_program.specs.DryRuns.{TriesFile}
use Rattle.registry_program.specs.Checking.{ChecksRows}
use Rattle.registry_program.specs.Opening.{HoldsNoHistory}
use Rattle.registry_program.specs.Outputs.{IsFailure, IsRejection}
use Rattle.registry_program.specs.Replaying.{IsReplayedIn, ReplaysLines, most_record}
use Rattle.registry_program.specs.Serving.{ServesOn}
use Rattle.registry_program.specs.Stores.{IsMissed, IsRunOver, IsUnconnected, Opens, TheRegistry}

-- ---- what a command makes of the history

-- nothing was done: both histories are the one before
abbrev pub Stays : History → History → History → Type 0
Stays h x y = (x ≡ h) × (y ≡ h)

-- Requests were acted on: the reply lines to the first n are written, and at the status Success these are all. Then x is the
-- history after the first n requests and y the one after one more. If anything of the next line is written, x is the one after
-- that request too.
pub record IsAfterLines (h : History) (rs : List Request) (out : Output) (status : ExitStatus) (x y : History) : Type 0 where
  pub n : ℕ
  pub within : n ≤ length rs
  pub whole : status ≡ Success → n ≡ length rs
  pub middle : Option (List ℕ)
  pub gained : Appends out.old.contents middle (lines_between h rs 0 n)
  pub begun : AppendsPrefix middle out.new.contents (lines_between h rs n (n + 1))
  pub next : y ≡ after h (take (n + 1) rs)
  pub last : ((x ≡ after h (take n rs)) × Keeps middle out.new.contents) ⊎ (x ≡ y)

-- at the status Success the list of the history is written
abbrev pub IsListed : Option Moment → Ends → History → History → History → Type 0
IsListed stamp ends h x y = Stays h x y
    × (ends.status ≡ Success → (doc : List TopEntry) × IsListing h doc × IsTextOf (written doc stamp) doc × Receives ends.out (written doc stamp))

-- at the status Success the report on the history is written
abbrev pub IsReportedOn : ReportKind → Ends → History → History → History → Type 0
IsReportedOn name ends h x y = Stays h x y × (ends.status ≡ Success → (text : List ℕ) × IsReport name h text × Receives ends.out text)

-- at the status Success the record of the history is written, if its requests are valid
abbrev pub IsRecordedOn : Option ℕ → Ends → History → History → History → Type 0
IsRecordedOn from ends h x y = Stays h x y × (ends.status ≡ Success → AreValid h.deeds → Receives ends.out (record_text h from))

-- at the status Success the line of the head of the history is written, if its requests are valid
abbrev pub IsHeadOn : Ends → History → History → History → Type 0
IsHeadOn ends h x y = Stays h x y × (ends.status ≡ Success → AreValid h.deeds → Receives ends.out (head_line_of h))

-- A store was checked. If the requests of the history are valid: at the status Success the line with its counts is written, and at any
-- other the error output has the message of a failure, and so none that the store is not sound.
abbrev pub IsCheckedOn : Ends → History → History → History → Type 0
IsCheckedOn ends h x y = Stays h x y
    × (ends.status ≡ Success → AreValid h.deeds → (counts : Counts) × IsCountOf h counts × Receives ends.out (sound_text counts))
    × (ends.status ≢ Success → AreValid h.deeds → PrintsFailure IsOfSoundRun ends.errors)

-- The request of the list in these bytes was acted on, perhaps until a failure: y is the history after it, and x is y or the
-- history before it. Unless the status is Failed, its reply is written and x is y; x is y too if anything is written.
pub record IsAfterImport (bytes : List ℕ) (import : Import) (out : Output) (status : ExitStatus) (h x y : History) : Type 0 where
  pub doc : List TopEntry
  pub answers : ReadsAs bytes (Ok doc)
  pub r : Request
  pub r_is : r ≡ request_of_import import h.founding.vendor doc
  pub y_is : y ≡ after_one h r
  pub replied : status ≢ Failed → (x ≡ y) × (status ≡ exit_status_of (reply_to h r)) × Receives out (reply_line (reply_to h r))
  pub last : ((x ≡ h) × Keeps out.old.contents out.new.contents) ⊎ (x ≡ y)

-- The bytes are no list, and nothing is written, at the status Rejected; or the reply that the request of the list would get over
-- this history is written.
abbrev pub Foretells : List ℕ → Import → Output → ExitStatus → History → Type 0
Foretells bytes import out status h =
    ((fault : ReadFault) × ReadsAs bytes (Err fault) × (status ≡ Rejected) × Keeps out.old.contents out.new.contents)
    ⊎ ((doc : List TopEntry) × ReadsAs bytes (Ok doc) × (status ≡ dry_status_of (reply_to h (request_of_import import h.founding.vendor doc)))
    × Receives out (reply_line (reply_to h (request_of_import import h.founding.vendor doc))))

-- unless the status is Failed, that is so; the history stays
abbrev pub IsForetoldOf : List ℕ → Import → Ends → History → History → History → Type 0
IsForetoldOf bytes import ends h x y = Stays h x y × (ends.status ≢ Failed → Foretells bytes import ends.out ends.status h)

-- each is a history that a crash leaves after these connections
abbrev pub AreLeftAfter : List Visit → History → History → History → Type 0
AreLeftAfter visits h x y = IsLeftAfter h visits x × IsLeftAfter h visits y

-- the history after the requests of these lines of a record, or after that of the next line too
abbrev pub IsNear : History → List (List ℕ) → List (List ℕ) → History → Type 0
IsNear h front rest x = (x ≡ after_lines h front) ⊎ ((accepted : Accepted) × FirstAccepts rest accepted × (x ≡ after_one (after_lines h front) accepted.request))

-- The first lines of a record were acted on, and each got the reply that it says and continued the record by its digest; at the status Success these are all. Both
-- histories are the one after them, or after the request of the next line too.
pub record IsAfterRecord (lines : List (List ℕ)) (status : ExitStatus) (h x y : History) : Type 0 where
  pub front : List (List ℕ)
  pub rest : List (List ℕ)
  pub split : lines ≡ front ++ rest
  pub replied : GetTheirReplies h front
  pub continued : AreContinued h front
  pub whole : status ≡ Success → rest ≡ []
  pub x_is : IsNear h front rest x
  pub y_is : IsNear h front rest y

-- ---- what the files hold

module _ {H F I : Type 0} (m : host.Ghosts H F I) (d : disk.Ghosts F) where
  -- Where the files of the store at a path held one of these two histories, in any schema, and the closed files are clean,
  -- these hold one of two histories of which this is so, as they now read and after any crash.
  abbrev pub LeadsFilesTo : H → List ℕ → Files F → History → History → (History → History → Type 0) → Type 0
  LeadsFilesTo old path files h next After =
      Legal h → Legal next → (from : ℕ) → FilesHoldEither from (m.holds old path) h next → AreClean d files.log files.db
      → ∥ ((x : History) × (y : History) × After x y × HoldEither d newest files x y) ∥₁

  -- The files of the store at the path were opened, perhaps made, and the machine lets these files go at the end. `performs` says what
  -- became of the files in between.
  pub record IsUsed (old new : H) (path : List ℕ) (may_make : Bool) (files : Files F) : Type 0 where
    pub opened : H
    pub first : Files F
    pub opens : Opens m d old opened path may_make first
    pub done : H
    pub lets_go : m.lets_go done new files

  -- the store at the path was used, and for each history that its files held this is so
  pub record IsCarriedOn (old new : H) (path : List ℕ) (After : History → History → History → Type 0) : Type 0 where
    pub files : Files F
    pub used : IsUsed old new path false files
    pub holds : (h : History) → LeadsFilesTo old path files h h (After h)

  -- The status is Failed, nothing went to the output, and the history is as before, as where the input could not be opened, or the
  -- port not be listened on. `performs` says which, and what was printed.
  abbrev pub IsUnbegun : H → H → List ℕ → Ends → Type 0
  IsUnbegun old new path ends = (ends.status ≡ Failed) × (ends.out.new ≡ ends.out.old) × IsCarriedOn old new path Stays

  -- what was done with the store ended with the status Success, and closing it then failed
  abbrev pub EndsUnclosed : H → H → List ℕ → Ends → (H → H → TheRegistry m d → TheRegistry m d → Ends → Type 0) → Type 0
  EndsUnclosed old new path ends Does = (over : IsRunOver m d old new path ends Does) × (over.before ≡ Success) × (ends.status ≡ Failed)

  -- the store could not be opened, or not be closed after this was done with it, or P holds
  abbrev pub UnlessStopped : H → H → List ℕ → Ends → (H → H → TheRegistry m d → TheRegistry m d → Ends → Type 0) → Type 0 → Type 0
  UnlessStopped old new path ends Does P = ((failure : Failure) × IsMissed m d old new path failure × IsFailure failure ends) ⊎ EndsUnclosed old new path ends Does ⊎ P

  module _ (s : source.Ghosts I) where
    -- The file at a path was opened in some state of the machine, and these are all bytes that it would give then. `performs` says
    -- which files are opened, in which order.
    pub record IsReadFrom (path bytes : List ℕ) : Type 0 where
      pub reading : H
      pub read : H
      pub input : I
      pub reads : m.reads reading read path most_bytes input
      pub gives : MayGive (s.remaining input) bytes

    module _ {R : Type 0} (r : source.Ghosts R) where
      -- these are all bytes that the standard input would give, if that is the name, or the file of this name, which was opened
      abbrev pub IsGivenBy : R → List ℕ → List ℕ → Type 0
      IsGivenBy input name bytes = ((is_standard name ≡ true) × MayGive (r.remaining input) bytes) ⊎ ((is_standard name ≡ false) × IsReadFrom name bytes)

      -- The lines came from the standard input or from the file. The requests after the first `answered` ones were acted on,
      -- whatever history the store's files held. An earlier run may have acted on the first of these already.
      pub record IsAppliedTo (input : R) (old new : H) (path file : List ℕ) (answered : ℕ) (ends : Ends) : Type 0 where
        pub bytes : List ℕ
        pub read : IsGivenBy input file bytes
        pub files : Files F
        pub used : IsUsed old new path false files
        pub holds : (h : History) (rs : List Request) → requests_in bytes ≡ Ok rs → answered ≤ length rs
            → LeadsFilesTo old path files h (after h (take 1 (drop answered rs))) (IsAfterLines h (drop answered rs) ends.out ends.status)
        -- otherwise nothing was acted on
        pub stays : ((rs : List Request) → requests_in bytes ≡ Ok rs → length rs < answered) → (h : History) → LeadsFilesTo old path files h h (Stays h)

      abbrev pub AppliesWholly : R → R → H → H → List ℕ → List ℕ → ℕ → Ends → Type 0
      AppliesWholly input input_new old new path file answered ends =
          UnlessStopped old new path ends (ActsOnFile m s r file answered input input_new) (IsAppliedTo input old new path file answered ends ⊎ IsUnbegun old new path ends)

      -- the list came from the standard input or from the file
      pub record IsImportedTo (input : R) (old new : H) (path file : List ℕ) (import : Import) (ends : Ends) : Type 0 where
        pub bytes : List ℕ
        pub read : IsGivenBy input file bytes
        pub carried : IsCarriedOn old new path (λ h x y. Stays h x y ⊎ IsAfterImport bytes import ends.out ends.status h x y)

      abbrev pub ImportsWhollyAs : R → R → H → H → List ℕ → List ℕ → Result Import (Rejection BadArgument) → Ends → Type 0
      ImportsWhollyAs input input_new old new path list (Ok import) ends =
          UnlessStopped old new path ends (ImportsFile m s r list import input input_new) (IsImportedTo input old new path list import ends ⊎ IsUnbegun old new path ends)
      ImportsWhollyAs input input_new old new path list (Err (Refused argument)) ends = (new ≡ old) × IsRejection argument ends
      ImportsWhollyAs input input_new old new path list (Err NoMemory) ends = (new ≡ old) × IsFailure Memory ends

      abbrev pub ImportsWholly : R → R → H → H → List ℕ → List ℕ → List ℕ → List ℕ → List ℕ → Option (List ℕ) → Ends → Type 0
      ImportsWholly input input_new old new path list caller key org vendor ends =
          (asked : Result Import (Rejection BadArgument)) × AsksFor caller key org vendor asked × ImportsWhollyAs input input_new old new path list asked ends

      -- the list came from the standard input or from the file, and nothing of it was imported
      pub record IsForetoldTo (input : R) (old new : H) (path file : List ℕ) (import : Import) (ends : Ends) : Type 0 where
        pub bytes : List ℕ
        pub read : IsGivenBy input file bytes
        pub carried : IsCarriedOn old new path (IsForetoldOf bytes import ends)

      abbrev pub ForetellsWhollyAs : R → R → H → H → List ℕ → List ℕ → Result Import (Rejection BadArgument) → Ends → Type 0
      ForetellsWhollyAs input input_new old new path list (Ok import) ends =
          UnlessStopped old new path ends (TriesFile m s r list import input input_new) (IsForetoldTo input old new path list import ends ⊎ IsUnbegun old new path ends)
      ForetellsWhollyAs input input_new old new path list (Err (Refused argument)) ends = (new ≡ old) × IsRejection argument ends
      ForetellsWhollyAs input input_new old new path list (Err NoMemory) ends = (new ≡ old) × IsFailure Memory ends

      abbrev pub ForetellsWholly : R → R → H → H → List ℕ → List ℕ → List ℕ → List ℕ → List ℕ → Option (List ℕ) → Ends → Type 0
      ForetellsWholly input input_new old new path list caller key org vendor ends =
          (asked : Result Import (Rejection BadArgument)) × AsksFor caller key org vendor asked × ForetellsWhollyAs input input_new old new path list asked ends

    -- the founding file came from the second path, before the store was opened, and the closed files hold the new registry
    pub record IsFoundedWholly (old new : H) (path founding : List ℕ) : Type 0 where
      pub bytes : List ℕ
      pub read : IsReadFrom founding bytes
      pub first : read.reading ≡ old
      pub listed : Listed
      pub is_listed : founding_listed bytes ≡ Ok listed
      pub origin : Founding
      pub founds : Founds listed origin
      pub files : Files F
      pub used : IsUsed read.read new path true files
      pub holds : AreClean d files.log files.db → HoldEither d newest files (founded origin) (founded origin)

    -- at the status Success; of any other status only `performs` speaks
    abbrev pub FoundsWholly : H → H → List ℕ → List ℕ → Ends → Type 0
    FoundsWholly old new path founding ends = ends.status ≡ Success → IsFoundedWholly old new path founding

  abbrev pub ExportsWhollyAs : H → H → List ℕ → Result (Option Moment) BadArgument → Ends → Type 0
  ExportsWhollyAs old new path (Ok stamp) ends = UnlessStopped old new path ends (WritesList stamp) (IsCarriedOn old new path (IsListed stamp ends))
  ExportsWhollyAs old new path (Err argument) ends = (new ≡ old) × IsRejection argument ends

  abbrev pub ExportsWholly : H → H → List ℕ → Option (List ℕ) → Ends → Type 0
  ExportsWholly old new path stamp ends = (read : Result (Option Moment) BadArgument) × IsStampOf stamp read × ExportsWhollyAs old new path read ends

  abbrev pub ReportsWholly : H → H → List ℕ → Option ReportKind → Ends → Type 0
  ReportsWholly old new path (Some name) ends = UnlessStopped old new path ends (WritesReport name) (IsCarriedOn old new path (IsReportedOn name ends))
  ReportsWholly old new path None ends = (new ≡ old) × IsRejection Name ends

  abbrev pub ChecksWholly : H → H → List ℕ → Ends → Type 0
  ChecksWholly old new path ends = UnlessStopped old new path ends ChecksRows (IsCarriedOn old new path (IsCheckedOn ends))

  abbrev pub PrintsRecordWholly : H → H → List ℕ → Option ℕ → Ends → Type 0
  PrintsRecordWholly old new path from ends = UnlessStopped old new path ends (WritesRecord from) (IsCarriedOn old new path (IsRecordedOn from ends))

  abbrev pub PrintsHeadWholly : H → H → List ℕ → Ends → Type 0
  PrintsHeadWholly old new path ends = UnlessStopped old new path ends WritesHead (IsCarriedOn old new path (IsHeadOn ends))

  -- The store was opened, or made, and its registry could neither be founded nor opened, for this failure: what its files held
  -- is left, in its schema or a later one. Foreign only if they held no legal history. `performs` says what is committed.
  pub record IsUnreplayed (old new : H) (path : List ℕ) (ends : Ends) : Type 0 where
    pub files : Files F
    pub used : IsUsed old new path true files
    pub failure : Failure
    pub kind : IsOfOpening failure
    pub fails : IsFailure failure ends
    pub foreign : failure ≡ Foreign → AreClean d files.log files.db → HoldsNoHistory (m.holds old path)
    pub holds : (h : History) → Legal h → (from : ℕ) → FilesHoldEither from (m.holds old path) h h → AreClean d files.log files.db → HoldEither d from files h h

  module _ {R : Type 0} (r : source.Ghosts R) where
    -- The record began with some lines, and others came after them. The store at the path was used, and for each history that its
    -- files held the other lines were replayed over it.
    pub record IsReplayedTo (source : R) (old new : H) (path : List ℕ) (may_make : Bool) (ends : Ends) : Type 0 where
      pub before : List (List ℕ)
      pub begins : AreBeginning before
      pub lines : List (List ℕ)
      pub come : MayHaveLines (r.remaining source) (before ++ lines)
      pub files : Files F
      pub used : IsUsed old new path may_make files
      pub holds : (h : History) → LeadsFilesTo old path files h h (IsAfterRecord lines ends.status h)

    -- The lines were replayed with the status Success, and then the status is that of a store that failed to close. The sources and
    -- what was unread then are some of which that is true.
    abbrev pub EndsReplayUnclosed : H → H → List ℕ → Ends → Type 0
    EndsReplayUnclosed old new path ends =
        (middle : R) × (last : R) × (begun : Unread)
        × (EndsUnclosed old new path ends (ReplaysLines r middle last begun)
        ⊎ ((founding : Founding) × (on : IsReplayedIn m d r founding middle last begun old new path ends) × (on.before ≡ Success) × (ends.status ≡ Failed)))

    -- The machine is as before, as where the beginning of the record is refused or could not be read; or the store could not be opened,
    -- or not be closed after the status Success; or the lines were replayed.
    abbrev pub ReplaysWhollyFrom : R → H → H → List ℕ → Ends → Type 0
    ReplaysWhollyFrom source old new path ends =
        (new ≡ old)
        ⊎ ((failure : Failure) × (IsMissed m d old new path failure ⊎ IsUnconnected m d old new path failure) × IsFailure failure ends)
        ⊎ EndsReplayUnclosed old new path ends
        ⊎ IsUnreplayed old new path ends
        ⊎ ((may_make : Bool) × IsReplayedTo source old new path may_make ends)

  module _ {R W : Type 0} (c : connections.Ghosts H R W) (r : source.Ghosts R) (w : sink.Ghosts W) where
    -- The port was listened on in some state of the machine, these connections came after that and were served, and the history is one
    -- that they leave. `performs` has their number, and says when the port was listened on.
    pub record IsServedTo (old new : H) (path : List ℕ) (port : ℕ) : Type 0 where
      pub before : H
      pub listening : H
      pub listens : m.listens before listening port
      pub visits : List Visit
      pub middle : H
      pub visited : HaveVisited c.opens c.closes r.remaining r.failures w.contents w.failures listening middle visits
      pub carried : IsCarriedOn old new path (AreLeftAfter visits)

    abbrev pub ServesWholly : H → H → List ℕ → ℕ → ℕ → Ends → Type 0
    ServesWholly old new path port limit ends = UnlessStopped old new path ends (ServesOn m c r w port limit) (IsServedTo old new path port ⊎ IsUnbegun old new path ends)

-- The record is the standard input if it is called `-`, else the file at the second path; or that file could not be opened.
abbrev pub ReplaysWholly : {H F I R : Type 0} → host.Ghosts H F I → disk.Ghosts F → source.Ghosts I → source.Ghosts R → R → H → H → List ℕ → List ℕ → Ends → Type 0
ReplaysWholly {H} {F} {I} m d s r input old new path file ends =
    (bytes_eq file (codes "-") ≡ true → ReplaysWhollyFrom m d r input old new path ends)
    × (bytes_eq file (codes "-") ≡ false → ((read : H) × (source : I) × m.reads old read file most_record source × ReplaysWhollyFrom m d s source read new path ends)
    ⊎ ((failure : Failure) × m.lacks old new file most_record failure × IsFailure failure ends))
