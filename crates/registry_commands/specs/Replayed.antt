-- What a replay of a record does.
use Rattle.std.specs.Prelude.{◌≡◌, ◌≢◌, ◌⊎◌, ◌≤◌, ◌+◌, ◌^◌, ◌-◌, ⊤, ℕ, Bool, true, false, IsTrue, All, List, [], ◌∷◌, ◌++◌, length, map, Option, Some, None, Result, Ok, Err, OnOk}
use Rattle.sqlite.specs.Store.{Ghosts}
use Rattle.sqlite.specs.Held.{Held, state}
use Rattle.sqlite.specs.State.{State, HasCleanDisk, IsLive, Survives}
use Rattle.sqlite.specs.Tree.{Trees}
use Rattle.table_laws.specs.Making.{no_schema}
use Rattle.byte_streams.specs.Streams.{FailsOnce}
use Rattle.registry_rules.specs.Accepted.{AreValid}
use Rattle.registry_rules.specs.declared.accepted.Accepted.{Accepted}
use Rattle.registry_rules.specs.declared.order.Request.{Request}
use Rattle.registry_rules.specs.declared.verdict.Reply.{Reply}
use Rattle.registry_rules.specs.declared.verdict.Reply.TheVariants.{Done}
use Rattle.registry_rules.specs.declared.founding.Founding.{Founding}
use Rattle.registry_rules.specs.History.{History, founded}
use Rattle.registry_rules.specs.Run.{Legal, after, after_one, replies_to, reply_to}
use Rattle.registry_schema.specs.Meta.{has_meta_table}
use Rattle.registry_tables.specs.Rows.{Rows, newest}
use Rattle.registry_tables.specs.Calls.{HasNoMeta}
use Rattle.registry_tables.specs.Known.{IsKnown}
use Rattle.registry_tables.specs.Raising.{CommitsLater, IsNamedOlder}
use Rattle.registry_store.specs.declared.fault.Fault.{Fault}
use Rattle.registry_store.specs.declared.fault.Fault.TheVariants as faults
use Rattle.registry_store.specs.declared.registry.Registry.{Registry}
use Rattle.registry_store.specs.Promise.{Endures, IsFreshAt, IsNew, Leaves, LeavesLater, NotesForeign, Represents, connection_of, is_poisoned, poisoned_by, state_of}
use Rattle.registry_store.specs.Queries.{IsUntouched}
use Rattle.registry_wire.specs.Digests.{digest_of}
use Rattle.registry_wire.specs.Record.{founding_line}
use Rattle.registry_commands.specs.declared.following.Answered.{Answered}
use Rattle.registry_commands.specs.declared.following.Answered.TheVariants.{Same, Other, Elsewhere}
use Rattle.registry_commands.specs.declared.entries.Entry.{Entry}
use Rattle.registry_commands.specs.declared.entries.Entry.TheVariants as says
use Rattle.registry_commands.specs.declared.entries.LineRefusal.{LineRefusal}
use Rattle.registry_commands.specs.declared.entries.LineRefusal.TheVariants.{LateFounding, OtherFounding}
use Rattle.registry_commands.specs.declared.following.ReplayStop.{ReplayStop}
use Rattle.registry_commands.specs.declared.following.ReplayStop.TheVariants as stop
use Rattle.registry_commands.specs.declared.messages.Failure.{Failure}
use Rattle.registry_commands.specs.declared.messages.Failure.TheVariants.{File, Foreign, Memory, Poisoned, Store, Taken}
use Rattle.registry_commands.specs.Entries.{FirstSays, entry_in, is_followed}
use Rattle.registry_commands.specs.declared.status.ExitStatus.{ExitStatus}
use Rattle.registry_commands.specs.declared.unread.Unread.{Unread}
use Rattle.registry_commands.specs.declared.status.ExitStatus.TheVariants.{Failed}
use Rattle.registry_commands.specs.Ends.{Output}
use Rattle.registry_commands.specs.Failures.{IsOfOpening, Prints}
use Rattle.registry_commands.specs.Messages.{failure_line}
use Rattle.registry_commands.specs.RecordLines.{HasPassedLines, HasReadTo, MayHaveLines, Passes}
use Rattle.registry_commands.specs.Shown.{HoldsOfHistory, IsOfReading}
use Rattle.registry_commands.specs.Stops.{TellsStop}

-- ---- the accepted requests of lines

-- an accepted request before others, if the line says one
abbrev pub with_entry : Entry → List Accepted → List Accepted
with_entry (says.Accepted accepted digest) more = accepted ∷ more
with_entry entry more = more

-- the accepted requests of lines, in order
abbrev pub accepted_in : List (List ℕ) → List Accepted
accepted_in [] = []
accepted_in (line ∷ lines) = with_entry (entry_in line) (accepted_in lines)

-- the requests, without their replies
abbrev pub requests_of : List Accepted → List Request
requests_of list = map (λ accepted. accepted.request) list

-- the replies that they got
abbrev pub replies_of : List Accepted → List Reply
replies_of list = map (λ accepted. Done accepted.reply) list

-- the history after the accepted requests of lines
abbrev pub after_lines : History → List (List ℕ) → History
after_lines h lines = after h (requests_of (accepted_in lines))

-- each of them gets the reply that its line says
abbrev pub GetTheirReplies : History → List (List ℕ) → Type 0
GetTheirReplies h lines = replies_to h (requests_of (accepted_in lines)) ≡ replies_of (accepted_in lines)

-- no other reply: the one to a request is this; or it is another
abbrev pub Differs : Reply → List ℕ → Option Reply → Type 0
Differs reply done None = reply ≡ Done done
Differs reply done (Some other) = reply ≡ other

-- ---- the digests of lines

-- the first of these lines is this accepted request
abbrev pub FirstAccepts : List (List ℕ) → Accepted → Type 0
FirstAccepts lines accepted = (digest : Option (List ℕ)) × FirstSays lines (says.Accepted accepted digest)

-- If one is given, this is the digest of the history, or so many requests are all that it accepted, if those have valid fields.
abbrev pub HasDigest : ℕ → History → Option (List ℕ) → Type 0
HasDigest before h None = ⊤
HasDigest before h (Some digest) = AreValid h.deeds → (length h.deeds ≡ before) ⊎ (digest ≡ digest_of h)

-- One is given, and it is not the digest of the history, which accepted another number of requests than this, if those have valid
-- fields.
abbrev pub HasAnother : ℕ → History → Option (List ℕ) → Type 0
HasAnother before h None = ⊥
HasAnother before h (Some digest) = AreValid h.deeds → (length h.deeds ≢ before) × (digest ≢ digest_of h)

-- the digest in a line is that of the history with its request, if the request was accepted now
abbrev pub IsDigestAfter : History → Request → Option (List ℕ) → Type 0
IsDigestAfter h request digest = HasDigest (length h.deeds) (after_one h request) digest

-- the request was accepted now, and the digest in its line is not that of the history with it
abbrev pub IsAnother : History → Request → Option (List ℕ) → Type 0
IsAnother h request digest = HasAnother (length h.deeds) (after_one h request) digest

-- how the request of a line is answered over a history
abbrev pub IsAnsweredAs : History → Accepted → Option (List ℕ) → Answered → Type 0
IsAnsweredAs h accepted digest Same = (reply_to h accepted.request ≡ Done accepted.reply) × IsDigestAfter h accepted.request digest
IsAnsweredAs h accepted digest (Other reply) = reply_to h accepted.request ≡ reply
IsAnsweredAs h accepted digest Elsewhere = (reply_to h accepted.request ≡ Done accepted.reply) × IsAnother h accepted.request digest

abbrev pub IsContinuedBy : History → Entry → Type 0
IsContinuedBy h (says.Accepted accepted digest) = IsDigestAfter h accepted.request digest
IsContinuedBy h entry = ⊤

abbrev pub after_entry : History → Entry → History
after_entry h (says.Accepted accepted digest) = after_one h accepted.request
after_entry h entry = h

-- each of these lines continues the history after those before it
abbrev pub AreContinued : History → List (List ℕ) → Type 0
AreContinued h [] = ⊤
AreContinued h (line ∷ lines) = IsContinuedBy h (entry_in line) × AreContinued (after_entry h (entry_in line)) lines

-- ---- why a replay ends

-- the line says something for which it is refused like this, whatever the registry is
abbrev pub IsRefusedFor : Entry → LineRefusal → Type 0
IsRefusedFor (says.Bad refusal) why = why ≡ refusal
IsRefusedFor (says.Founding founding) why = why ≡ LateFounding
IsRefusedFor entry why = ⊥

-- The lines that follow those that were acted on, whose count is given: none, or the first of them is refused, or is an accepted
-- request that got another reply, or is of another record.
abbrev pub StopsBefore : Result (Unit {0}) ReplayStop → ℕ → List (List ℕ) → Type 0
StopsBefore (Ok done) n rest = rest ≡ []
StopsBefore (Err (stop.Line number why)) n rest = (number ≡ n + 1) × ((entry : Entry) × FirstSays rest entry × IsRefusedFor entry why)
StopsBefore (Err (stop.Reply number reply)) n rest = (number ≡ n + 1) × ((accepted : Accepted) × FirstAccepts rest accepted × (reply ≢ Done accepted.reply))
StopsBefore (Err (stop.Digest number)) n rest = (number ≡ n + 1) × ((accepted : Accepted) × (digest : List ℕ) × FirstSays rest (says.Accepted accepted (Some digest)))
StopsBefore (Err (stop.Failure failure)) n rest = ⊤

-- the fault Foreign, if this is its failure
abbrev pub foreign_by : Failure → Option Fault
foreign_by Foreign = Some faults.Foreign
foreign_by _ = None

-- the fault Foreign, if it ended a replay
abbrev pub foreign_in : Result (Unit {0}) ReplayStop → Option Fault
foreign_in (Ok done) = None
foreign_in (Err (stop.Line number why)) = None
foreign_in (Err (stop.Reply number reply)) = None
foreign_in (Err (stop.Digest number)) = None
foreign_in (Err (stop.Failure failure)) = foreign_by failure

-- ---- how a record begins

abbrev pub AreBlank : List (List ℕ) → Type 0
AreBlank lines = All (λ line. entry_in line ≡ says.Blank) lines

-- the lines with which a record begins: blank ones, and then its founding, if it has one
abbrev pub AreBeginning : List (List ℕ) → Type 0
AreBeginning lines = AreBlank lines
    ⊎ ((blank : List (List ℕ)) × (line : List ℕ) × (founding : Founding) × (lines ≡ blank ++ line ∷ []) × AreBlank blank × (entry_in line ≡ says.Founding founding))

-- a failure of reading a record, after so many lines: one read failed, or there are more lines than are counted; or memory ran out
abbrev pub IsOfRecordInput : ℕ → ℕ → ℕ → Failure → Type 0
IsOfRecordInput lines failures failures_new File = FailsOnce failures failures_new ⊎ (lines ≡ 2 ^ 64 - 1)
IsOfRecordInput lines failures failures_new Memory = failures_new ≡ failures
IsOfRecordInput lines failures failures_new failure = ⊥

-- As many lines were passed as can be counted: so many before, and then the first of those to come.
abbrev pub HasAllLines : ℕ → Option (List ℕ) → Unread → Type 0
HasAllLines before to_come it =
    (front : List (List ℕ)) × (rest : List (List ℕ)) × MayHaveLines to_come (front ++ rest) × (it.lines ≡ before + length front) × (2 ^ 64 - 1 ≤ it.lines)

-- Blank lines were passed, and what was read after them is a part of a line.
abbrev pub HasReadBlank : Option (List ℕ) → Option (List ℕ) → Unread → Type 0
HasReadBlank to_come now it = (blank : List (List ℕ)) × AreBlank blank × HasReadTo to_come now blank it

-- an accepted request, or the end
abbrev pub is_later : Entry → Bool
is_later says.End = true
is_later (says.Accepted accepted digest) = true
is_later entry = false

-- The first line that is not blank is a founding, and was passed with the blank ones; or it is an accepted request or the end,
-- and only the blank ones were passed; or it is refused, or could not be read. The counts are those of the lines passed.
abbrev pub Begins : Option (List ℕ) → Option (List ℕ) → ℕ → ℕ → ℕ → ℕ → Result (Option Founding) ReplayStop → Type 0
Begins to_come now before count failures failures_new (Ok (Some founding)) =
    (blank : List (List ℕ)) × (line : List ℕ) × AreBlank blank × (entry_in line ≡ says.Founding founding) × Passes to_come now (blank ++ line ∷ []) × (count ≡ before + length blank + 1)
Begins to_come now before count failures failures_new (Ok None) =
    (blank : List (List ℕ)) × AreBlank blank × Passes to_come now blank × (count ≡ before + length blank)
    × ((entry : Entry) × (is_later entry ≡ true) × (lines : List (List ℕ)) × FirstSays lines entry × MayHaveLines to_come (blank ++ lines))
Begins to_come now before count failures failures_new (Err (stop.Line number why)) =
    (blank : List (List ℕ)) × AreBlank blank × (number ≡ before + length blank + 1) × ((lines : List (List ℕ)) × FirstSays lines (says.Bad why) × MayHaveLines to_come (blank ++ lines))
Begins to_come now before count failures failures_new (Err (stop.Reply number reply)) = ⊥
Begins to_come now before count failures failures_new (Err (stop.Digest number)) = ⊥
Begins to_come now before count failures failures_new (Err (stop.Failure failure)) =
    (blank : List (List ℕ)) × AreBlank blank × (count ≡ before + length blank) × ((rest : List (List ℕ)) × MayHaveLines to_come (blank ++ rest)) × IsOfRecordInput count failures failures_new failure

module _ {S : Type 0} {g : Ghosts S} where
  -- A failure of acting on a request. Store, Memory or Foreign: the registry had this fault, and is poisoned by it. Foreign: it
  -- represented no history, or the disk is not clean. Poisoned: it was poisoned before. Never Taken or File.
  abbrev pub IsOfActing : Registry S g → Registry S g → Failure → Type 0
  IsOfActing it new Store = poisoned_by new ≡ Some faults.Store
  IsOfActing it new Memory = poisoned_by new ≡ Some faults.NoMemory
  IsOfActing it new Foreign = (poisoned_by new ≡ Some faults.Foreign) × ¬ ((h : History) × Represents it h × HasCleanDisk (state_of new))
  IsOfActing it new Poisoned = is_poisoned it ≡ true
  IsOfActing it new Taken = ⊥
  IsOfActing it new File = ⊥

  -- A failure of a replay: of acting on a request, or of the record. File: one read failed between these counts of failures,
  -- or there are more lines than are counted. Memory also: memory ran out for the record.
  abbrev pub IsOfReplay : ℕ → ℕ → ℕ → Registry S g → Registry S g → Failure → Type 0
  IsOfReplay lines old_failures new_failures it new File = FailsOnce old_failures new_failures ⊎ (lines ≡ 2 ^ 64 - 1)
  IsOfReplay lines old_failures new_failures it new Memory = (poisoned_by new ≡ Some faults.NoMemory) ⊎ (is_poisoned new ≡ is_poisoned it)
  IsOfReplay lines old_failures new_failures it new failure = IsOfActing it new failure

  -- What the registry then is. After a refused line it represents the history after the lines before it; after another reply
  -- the one after that request too, as after a line of another record; and after a failure a crash leaves one of the two.
  abbrev pub IsLeftReplayed : Result (Unit {0}) ReplayStop → Registry S g → History → List (List ℕ) → Type 0
  IsLeftReplayed (Ok done) new h rest = Represents new h
  IsLeftReplayed (Err (stop.Line number why)) new h rest = Represents new h
  IsLeftReplayed (Err (stop.Reply number reply)) new h rest =
      (accepted : Accepted) × FirstAccepts rest accepted × (reply ≡ reply_to h accepted.request) × Represents new (after_one h accepted.request)
  IsLeftReplayed (Err (stop.Digest number)) new h rest =
      (accepted : Accepted) × (digest : Option (List ℕ)) × FirstSays rest (says.Accepted accepted digest) × (reply_to h accepted.request ≡ Done accepted.reply)
      × IsAnother h accepted.request digest × Represents new (after_one h accepted.request)
  IsLeftReplayed (Err (stop.Failure failure)) new h rest =
      Leaves newest (state_of new) (λ x. (x ≡ h) ⊎ ((accepted : Accepted) × FirstAccepts rest accepted × (x ≡ after_one h accepted.request)))

  -- The registry is the same, the lines that were passed have no accepted request, and no other reply or record ended the replay.
  pub record ActsOnNone (front : List (List ℕ)) (it new : Registry S g) (result : Result (Unit {0}) ReplayStop) : Type 0 where
    pub same : new ≡ it
    pub passed : accepted_in front ≡ []
    pub unreplied : (number : ℕ) (reply : Reply) → result ≢ Err (stop.Reply number reply)
    pub undigested : (number : ℕ) → result ≢ Err (stop.Digest number)

  -- These lines were to come, after so many that were passed before. The first of them were acted on, in order, and each got
  -- the reply that it says, and continued the record by its digest; and then this ended it. A poisoned registry acts on none.
  pub record HasReplayed (lines : List (List ℕ)) (before failures failures_new : ℕ) (it new : Registry S g) (result : Result (Unit {0}) ReplayStop) : Type 0 where
    pub front : List (List ℕ)
    pub rest : List (List ℕ)
    pub split : lines ≡ front ++ rest
    pub each : All (λ line. is_followed (entry_in line) ≡ true) front
    pub stops : StopsBefore result (before + length front) rest
    pub replied : (h : History) → Represents it h → HasCleanDisk (state_of new) → GetTheirReplies h front × IsLeftReplayed result new (after_lines h front) rest × AreContinued h front
    pub cause : (failure : Failure) → result ≡ Err (stop.Failure failure) → IsOfReplay (before + length front) failures failures_new it new failure
    pub poisoned : is_poisoned it ≡ true → ActsOnNone front it new result

  -- The lines that were to come were replayed, up to the one that ended it. Which lines are still to come, and how many were counted,
  -- is not said. Unless it ended with Foreign, no request found the rows of no history, if none had before.
  pub record IsReplayOf (to_come : Option (List ℕ)) (before failures failures_new : ℕ) (it new : Registry S g) (result : Result (Unit {0}) ReplayStop) : Type 0 where
    pub lines : List (List ℕ)
    pub come : MayHaveLines to_come lines
    pub replayed : HasReplayed lines before failures failures_new it new result
    pub endures : Endures (state_of it) (state_of new)
    pub notes : NotesForeign it new (foreign_in result)

  -- All whole lines that were read were acted on, and each got the reply that it says; what was read after them is a part of a
  -- line. A poisoned registry acts on none.
  pub record HasFollowedLines (to_come now : Option (List ℕ)) (unread : Unread) (it new : Registry S g) : Type 0 where
    pub lines : List (List ℕ)
    pub each : All (λ line. is_followed (entry_in line) ≡ true) lines
    pub read : HasReadTo to_come now lines unread
    pub replied : (h : History) → Represents it h → HasCleanDisk (state_of new) → GetTheirReplies h lines × Represents new (after_lines h lines) × AreContinued h lines
    pub poisoned : is_poisoned it ≡ true → (new ≡ it) × (accepted_in lines ≡ [])

  -- ---- with the founding

  -- The registry was founded like this, by the lines of the two foundings; or it was not; or it could not be read.
  abbrev pub ChecksAs : Registry S g → Registry S g → ℕ → Founding → Result (Unit {0}) ReplayStop → Type 0
  ChecksAs it new number founding (Ok done) = HoldsOfHistory it new (λ h. founding_line h.founding ≡ founding_line founding)
  ChecksAs it new number founding (Err (stop.Line n why)) =
      (n ≡ number) × (why ≡ OtherFounding) × HoldsOfHistory it new (λ h. founding_line h.founding ≢ founding_line founding)
  ChecksAs it new number founding (Err (stop.Reply n reply)) = ⊥
  ChecksAs it new number founding (Err (stop.Digest n)) = ⊥
  ChecksAs it new number founding (Err (stop.Failure failure)) = IsOfReading it new failure

  -- So it was checked; and unless that ended with Foreign, no rows of no history were found. If the registry is poisoned, that
  -- ends it.
  pub record IsChecked (it new : Registry S g) (number : ℕ) (founding : Founding) (result : Result (Unit {0}) ReplayStop) : Type 0 where
    pub left : IsUntouched it new
    pub found : ChecksAs it new number founding result
    pub notes : NotesForeign it new (foreign_in result)
    pub poisoned : is_poisoned it ≡ true → (new ≡ it) × (result ≡ Err (stop.Failure Poisoned))

  -- If a read failed, that ended the replay, and all whole lines that had been read were acted on. Any read may fail, so none is
  -- made before that. After a whole replay the lines that were to come were passed and counted.
  pub record ReadsLineByLine (to_come now : Option (List ℕ)) (unread : Unread) (before failures failures_new : ℕ) (it new : Registry S g) (result : Result (Unit {0}) ReplayStop) : Type 0 where
    pub kept : result ≢ Err (stop.Failure File) → failures_new ≡ failures
    pub waits : result ≡ Err (stop.Failure File) → HasAllLines before to_come unread ⊎ HasFollowedLines to_come now unread it new
    pub passed : OnOk result (HasPassedLines to_come now before unread)

  -- once the founding was checked, the lines were replayed; or that ended it
  abbrev pub ThenReplays : Option (List ℕ) → Option (List ℕ) → Unread → ℕ → ℕ → ℕ → Registry S g → Registry S g → Result (Unit {0}) ReplayStop → Result (Unit {0}) ReplayStop → Type 0
  ThenReplays to_come now unread before failures failures_new mid new (Ok done) result =
      IsReplayOf to_come before failures failures_new mid new result × ReadsLineByLine to_come now unread before failures failures_new mid new result
  ThenReplays to_come now unread before failures failures_new mid new (Err why) result = (new ≡ mid) × (result ≡ Err why) × (failures_new ≡ failures)

  -- The founding was checked, if there is one, whose line is the last of those passed; and the lines that were to come were replayed.
  abbrev pub IsFollowedFrom : Option Founding → Option (List ℕ) → Option (List ℕ) → Unread → ℕ → ℕ → ℕ → Registry S g → Registry S g → Result (Unit {0}) ReplayStop → Type 0
  IsFollowedFrom None to_come now unread before failures failures_new it new result = ThenReplays to_come now unread before failures failures_new it new (Ok tt) result
  IsFollowedFrom (Some founding) to_come now unread before failures failures_new it new result =
      (checked : Result (Unit {0}) ReplayStop) × (mid : Registry S g) × IsChecked it mid before founding checked × ThenReplays to_come now unread before failures failures_new mid new checked result

  -- so it was done, and told
  abbrev pub IsReplayed : Option Founding → Option (List ℕ) → Option (List ℕ) → Unread → ℕ → ℕ → ℕ → Registry S g → Registry S g → Output → ExitStatus → Type 0
  IsReplayed founding to_come now unread before failures failures_new it new errors status =
      (result : Result (Unit {0}) ReplayStop) × IsFollowedFrom founding to_come now unread before failures failures_new it new result × TellsStop result errors status

-- ---- from a connection

-- what an opening may commit: the rows of the same history in this schema or a later one, if the tables have the names of an older
-- schema
abbrev pub CommitsIfOlder : State → Trees → Type 0
CommitsIfOlder old db = IsNamedOlder old × CommitsLater old db

-- what a founding may commit: the rows of the new registry, if the database has no tables
abbrev pub CommitsIfEmpty : Founding → State → Trees → Type 0
CommitsIfEmpty founding old db = (old.now.schema ≡ no_schema) × Rows newest db (founded founding)

-- what may be committed where a registry is founded or opened
abbrev pub CommitsFirst : Founding → State → Trees → Type 0
CommitsFirst founding old db = CommitsIfEmpty founding old db ⊎ CommitsIfOlder old db

module _ {S : Type 0} (g : Ghosts S) where
  -- The registry is the one that the connection shows, in any schema: over a clean disk the tables had the names of a schema, and
  -- `meta` said its version. No transaction was open.
  pub record IsOpen (conn : Held S) (it : Registry S g) : Type 0 where
    pub is_new : IsNew it
    pub idle : conn.in_transaction ≡ false
    pub survives : Survives (state g conn) (state_of it) (CommitsIfOlder (state g conn))
    pub opened : (version : ℕ) (h : History) → Legal h → IsFreshAt version (state g conn) h → HasCleanDisk (state_of it) → Represents it h
    pub known : HasCleanDisk (state_of it) → IsKnown (state g conn).now
    pub clean : HasCleanDisk (state_of it) → HasCleanDisk (state g conn)

  -- The registry is the one that the connection shows, in any schema; and if it shows none, the registry was founded like this,
  -- in a database without tables. No transaction was open.
  pub record IsFoundOrOpen (conn : Held S) (founding : Founding) (it : Registry S g) : Type 0 where
    pub is_new : IsNew it
    pub idle : conn.in_transaction ≡ false
    pub survives : Survives (state g conn) (state_of it) (CommitsFirst founding (state g conn))
    pub empty : HasNoMeta (state g conn).now → (state g conn).now.schema ≡ no_schema
    pub opened : IsLive (state g conn) → (version : ℕ) (h : History) → Legal h → IsFreshAt version (state g conn) h → HasCleanDisk (state_of it) → Represents it h
    pub founds : HasNoMeta (state g conn).now → HasCleanDisk (state_of it) → Represents it (founded founding)
    pub known : HasNoMeta (state g conn).now ⊎ (HasCleanDisk (state_of it) → IsKnown (state g conn).now)
    pub clean : HasCleanDisk (state_of it) → HasCleanDisk (state g conn)

  -- It could not be opened, for this failure, and at most this was committed: what the connection shows is left, in its schema or
  -- a later one. Foreign only if it shows the rows of no legal history. No transaction is left open, and nothing is done in one
  -- that was open before.
  pub record IsLeftByOpening (Commits : Trees → Type 0) (conn : Held S) (failure : Failure) (last : Held S) : Type 0 where
    pub kind : IsOfOpening failure
    pub idle : conn.in_transaction ≡ false → last.in_transaction ≡ false
    pub busy : IsTrue conn.in_transaction → (failure ≡ Store) × (last ≡ conn)
    pub survives : Survives (state g conn) (state g last) Commits
    pub leaves : IsLive (state g conn) → (version : ℕ) (h : History) → Legal h → IsFreshAt version (state g conn) h → HasCleanDisk (state g last) → LeavesLater version (state g last) h
    pub clean : HasCleanDisk (state g last) → HasCleanDisk (state g conn)
    pub foreign : failure ≡ Foreign → HasCleanDisk (state g last) → (version : ℕ) (h : History) → Legal h → ¬ Rows version (state g conn).now.trees h

  -- It could neither be founded like this nor opened. Nothing is committed in a database that has tables, unless they have the
  -- names of an older schema.
  abbrev pub IsLeftFound : Held S → Founding → Failure → Held S → Type 0
  IsLeftFound conn founding failure last = IsLeftByOpening (CommitsFirst founding (state g conn)) conn failure last

  -- Ok: the registry was founded or opened, and the record replayed over it, and so it is left. Err: neither could be done, and the
  -- connection is left. Foreign comes only where a registry might be: the database has a table meta.
  abbrev pub IsReplayedOn : Founding → Option (List ℕ) → Option (List ℕ) → Unread → ℕ → ℕ → ℕ → Held S → Result (Registry S g) (Held S) → Output → ExitStatus → Type 0
  IsReplayedOn founding to_come now unread before failures failures_new conn (Ok after) errors status =
      (it : Registry S g) × IsFoundOrOpen conn founding it × IsReplayed (Some founding) to_come now unread before failures failures_new it after errors status
  IsReplayedOn founding to_come now unread before failures failures_new conn (Err last) errors status =
      (failure : Failure) × IsLeftFound conn founding failure last × (status ≡ Failed) × Prints errors (failure_line failure) × (failures_new ≡ failures)
      × (failure ≡ Foreign → has_meta_table (state g conn).now.schema ≡ true)

  -- the connection of what is left
  abbrev pub connection_left : Result (Registry S g) (Held S) → Held S
  connection_left (Ok after) = connection_of after
  connection_left (Err last) = last
