-- What a check of a store finds, and what it says.
use Rattle.std.specs.Prelude.{◌≡◌, ◌⊎◌, ◌++◌, ℕ, Bool, true, List, length, codes, None, Result, Ok, Err}
use Rattle.std.specs.Fmt.{decimal}
use Rattle.std.specs.List.{count_by}
use Rattle.sqlite.specs.Store.{Ghosts}
use Rattle.sqlite.specs.Steps.{over_memory}
use Rattle.sqlite_trees.specs.declared.memory.MemStore.{MemStore}
use Rattle.usbnum_core.specs.Number.{digits_of}
use Rattle.usbnum_core.specs.declared.number.Number.{Number}
use Rattle.registry_rules.specs.Accepted.{AreValid, accepted_of}
use Rattle.registry_rules.specs.declared.accepted.Accepted.{Accepted}
use Rattle.registry_rules.specs.declared.record.Entry.{Entry}
use Rattle.registry_rules.specs.declared.verdict.Reply.{Reply}
use Rattle.registry_rules.specs.History.{History}
use Rattle.registry_rules.specs.Run.{after, replies_to}
use Rattle.registry_tables.specs.Lists.{IsNumberList}
use Rattle.registry_store.specs.declared.registry.Registry.{Registry}
use Rattle.registry_store.specs.Promise.{NotesForeign, Represents, is_poisoned}
use Rattle.registry_store.specs.Queries.{IsUntouched}
use Rattle.registry_commands.specs.declared.checking.CheckStop.{CheckStop}
use Rattle.registry_commands.specs.declared.checking.CheckStop.TheVariants as stop
use Rattle.registry_commands.specs.declared.checking.Counts.{Counts}
use Rattle.registry_commands.specs.declared.comparing.Difference.{Difference}
use Rattle.registry_commands.specs.declared.comparing.Difference.TheVariants as row
use Rattle.registry_commands.specs.declared.messages.Failure.TheVariants.{Memory, Store}
use Rattle.registry_commands.specs.declared.status.ExitStatus.TheVariants.{Failed}
use Rattle.registry_commands.specs.Ends.{Effect, Output, ReceivesNothing}
use Rattle.registry_commands.specs.Failures.{Prints}
use Rattle.registry_commands.specs.Messages.{failure_line, reply_line}
use Rattle.registry_commands.specs.Printed.{IsPrinted}
use Rattle.registry_commands.specs.Replayed.{replies_of, requests_of}
use Rattle.registry_commands.specs.Shown.{HoldsOfHistory, IsOfReading, ShowsNothing}

-- ---- what is printed

-- what is other in the rows of a store
abbrev pub difference_text : Difference → List ℕ
difference_text (row.Vendor vid) = codes "vendor " ++ digits_of vid
difference_text (row.Organisation slug) = codes "organisation " ++ slug
difference_text (row.Petition id) = codes "petition " ++ decimal id
difference_text (row.Number number) = codes "number " ++ digits_of number.vid ++ codes ":" ++ digits_of number.pid
difference_text (row.Reserved vid) = codes "reserved numbers of vendor " ++ digits_of vid
difference_text row.Founding = codes "founding or licences"
difference_text row.Digest = codes "digest of the record"

-- the message of a store that is sound
unfoldable pub sound_text : Counts → List ℕ
sound_text counts = codes "sound: " ++ decimal counts.requests ++ codes " requests, " ++ decimal counts.held ++ codes " numbers held\n"

-- the message for a request that got another reply
unfoldable pub unsound_reply_text : ℕ → Reply → List ℕ
unsound_reply_text number reply = codes "unsound: request " ++ decimal number ++ codes ": another reply: " ++ reply_line reply

-- the message for another row
unfoldable pub unsound_row_text : Difference → List ℕ
unsound_row_text difference = codes "unsound: " ++ difference_text difference ++ codes "\n"

-- the message for why a check ends early
abbrev pub unsound_text : CheckStop → List ℕ
unsound_text (stop.Reply number reply) = unsound_reply_text number reply
unsound_text (stop.Row difference) = unsound_row_text difference
unsound_text (stop.Failure failure) = failure_line failure

-- it is written; or, if it is not a failure, that memory ran out for it
abbrev pub TellsWhy : CheckStop → Output → Type 0
TellsWhy (stop.Reply number reply) errors = Prints errors (unsound_reply_text number reply) ⊎ Prints errors (failure_line Memory)
TellsWhy (stop.Row difference) errors = Prints errors (unsound_row_text difference) ⊎ Prints errors (failure_line Memory)
TellsWhy (stop.Failure failure) errors = Prints errors (failure_line failure)

-- ---- what is counted

-- the number is held
abbrev pub is_held_entry : Number × Entry → Bool
is_held_entry pair = pair.1.held

-- so many numbers of the history are held
abbrev pub IsHeldCount : History → ℕ → Type 0
IsHeldCount h n = (numbers : List (Number × Entry)) × IsNumberList h numbers × (n ≡ count_by is_held_entry numbers)

-- so many requests of the history were accepted, and so many of its numbers are held
pub record IsCountOf (h : History) (counts : Counts) : Type 0 where
  pub requests : counts.requests ≡ length (accepted_of h.deeds)
  pub held : IsHeldCount h counts.held

-- ---- a replay in memory

-- these requests, which are still to come, lead to that history, and each gets the reply that was recorded
pub record LeadsOn (now : History) (list : List Accepted) (h : History) : Type 0 where
  pub after_is : after now (requests_of list) ≡ h
  pub replies_are : replies_to now (requests_of list) ≡ replies_of list

-- the registry in memory represents a history of which this holds
abbrev pub EndsOn : Registry MemStore over_memory → (History → Type 0) → Type 0
EndsOn it P = (x : History) × Represents it x × P x

-- Why acting on these requests stopped: with another reply, and then they lead to no history; or the store in memory failed.
abbrev pub StopsPiece : History → List Accepted → CheckStop → Type 0
StopsPiece now piece (stop.Reply number reply) = (rest : List Accepted) (h : History) → ¬ LeadsOn now (piece ++ rest) h
StopsPiece now piece (stop.Row difference) = ⊥
StopsPiece now piece (stop.Failure failure) = (failure ≡ Store) ⊎ (failure ≡ Memory)

-- ---- the check of a registry

module _ {S : Type 0} {g : Ghosts S} where
  -- Why a check stops: with another reply or row, and then this holds of no history that the registry represented, over a clean
  -- disk; or the registry could not be read, or memory ran out.
  abbrev pub StopsFor : Registry S g → Registry S g → (History → Type 0) → CheckStop → Type 0
  StopsFor it new P (stop.Reply number reply) = NotesForeign it new None × HoldsOfHistory it new (λ h. ¬ P h)
  StopsFor it new P (stop.Row difference) = NotesForeign it new None × HoldsOfHistory it new (λ h. ¬ P h)
  StopsFor it new P (stop.Failure failure) = IsOfReading it new failure

  -- the same of a check that may also end well, with the counts of each history of which this holds
  abbrev pub StopsOver : Registry S g → Registry S g → (History → Type 0) → Result Counts CheckStop → Type 0
  StopsOver it new P (Ok counts) = HoldsOfHistory it new (λ h. P h → IsCountOf h counts)
  StopsOver it new P (Err why) = StopsFor it new P why

  -- A check stops with another reply or row only over a registry that represents no history whose requests are valid, or if the disk
  -- is not clean.
  abbrev pub StopsCheck : Registry S g → Registry S g → CheckStop → Type 0
  StopsCheck it new why = StopsFor it new (λ h. AreValid h.deeds) why

  -- The line with the counts of the history is written, whole or in part, if its requests are valid; and no call found the rows of
  -- no history, if none had before. Or nothing is written, and the error output says why the check stopped. Nothing is changed.
  pub record IsCompared (did : Effect S g) : Type 0 where
    pub left : IsUntouched did.old did.new
    pub shown : ((counts : Counts) × NotesForeign did.old did.new None × HoldsOfHistory did.old did.new (λ h. AreValid h.deeds → IsCountOf h counts) × IsPrinted (sound_text counts) did.ends)
        ⊎ ((why : CheckStop) × StopsCheck did.old did.new why × (did.ends.status ≡ Failed) × ReceivesNothing did.ends.out × Prints did.ends.errors (unsound_text why))
    pub poisoned : is_poisoned did.old ≡ true → ShowsNothing did
