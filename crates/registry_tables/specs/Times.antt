-- The times at which petitions were opened and closed: how a request changes their tables, and how a migration fills them from
-- the record.
use Rattle.std.specs.Prelude.{◌≡◌, ◌+◌, ℕ, List, Option, Some, None, length, take, drop, fold}
use Rattle.sqlite.specs.State.{State}
use Rattle.sqlite_keyed.specs.Keyed.{insert_by}
use Rattle.table_laws.specs.Inside.{GoesOn}
use Rattle.registry_rules.specs.Accepted.{AreValid, accepted_of}
use Rattle.registry_rules.specs.History.{History}
use Rattle.registry_rules.specs.declared.accepted.Accepted.{Accepted}
use Rattle.registry_rules.specs.declared.order.Order.{Order}
use Rattle.registry_rules.specs.declared.order.Order.TheVariants.{Ask, Grant, Decline, Withdraw}
use Rattle.registry_rows.specs.Rows.{time_key}
use Rattle.registry_rows.specs.Tables.{Tables, Holds}
use Rattle.registry_tables.specs.Rows.{AreKeptReplies, digest_rows}
use Rattle.registry_tables.specs.declared.times.Place.{Place}

-- the times with this one, if there are both a petition and a time
abbrev pub times_with : Option ℕ → Option (List ℕ) → List (ℕ × List ℕ) → List (ℕ × List ℕ)
times_with None time times = times
times_with (Some id) None times = times
times_with (Some id) (Some time) times = insert_by time_key times (id, time)

-- the transaction goes on, and the time of a request that opens and closes these petitions is written
abbrev pub PutsTimes : Option ℕ → Option ℕ → Option (List ℕ) → State → State → Type 0
PutsTimes opened closed time old new =
    GoesOn old new × ((t : Tables) → Holds old.now t → Holds new.now (record t { opened = times_with opened time t.opened; closed = times_with closed time t.closed }))

-- ---- what an accepted order does to petitions

-- the petition that it opens, after so many: the next one
abbrev pub opened_next : Order → ℕ → Option ℕ
opened_next (Ask it) petitions = Some (petitions + 1)
opened_next _ petitions = None

-- how many petitions there are then
abbrev pub asked_then : Order → ℕ → ℕ
asked_then (Ask it) petitions = petitions + 1
asked_then _ petitions = petitions

-- the petition that it closes: the one that it names
abbrev pub closed_named : Order → Option ℕ
closed_named (Grant it) = Some it.petition
closed_named (Decline it) = Some it.petition
closed_named (Withdraw it) = Some it.petition
closed_named _ = None

-- ---- the times of a record

-- how many petitions some requests opened, and the times of those that they opened and closed
pub record Reached : Type 0 where
  pub petitions : ℕ
  pub opened : List (ℕ × List ℕ)
  pub closed : List (ℕ × List ℕ)

-- the same after one more accepted request
abbrev pub reached_after : Reached → Accepted → Reached
reached_after r accepted = record {
  petitions = asked_then accepted.request.order r.petitions;
  opened = times_with (opened_next accepted.request.order r.petitions) accepted.request.time r.opened;
  closed = times_with (closed_named accepted.request.order) accepted.request.time r.closed;
}

-- after more, oldest first
abbrev pub reached_by : Reached → List Accepted → Reached
reached_by = fold reached_after

abbrev pub reached_at : ℕ → Tables → Reached
reached_at petitions t = record { petitions = petitions; opened = t.opened; closed = t.closed }

abbrev pub with_times : Reached → Tables → Tables
with_times r t = record t { opened = r.opened; closed = r.closed }

-- the times of these accepted requests are written, from one place of the record to the next
pub record PutsPage (place : Place) (page : List Accepted) (next : Place) (old new : State) : Type 0 where
  pub requests : next.requests ≡ place.requests + length page
  pub goes_on : GoesOn old new
  pub petitions : (t : Tables) → Holds old.now t → next.petitions ≡ (reached_by (reached_at place.petitions t) page).petitions
  pub rows : (t : Tables) → Holds old.now t → Holds new.now (with_times (reached_by (reached_at place.petitions t) page) t)

-- the tables hold the record of the history, whose requests have valid fields
pub record IsRecordOf (h : History) (t : Tables) : Type 0 where
  pub kept : AreKeptReplies h t.kept
  pub digests : t.digests ≡ digest_rows h
  pub valid : AreValid h.deeds

-- the accepted requests are those after the first `after` of each such history, at most `most`
abbrev pub IsPageOf : ℕ → ℕ → Tables → List Accepted → Type 0
IsPageOf after most t page = (h : History) → IsRecordOf h t → page ≡ take most (drop after (accepted_of h.deeds))

-- The transaction goes on, and the times of the whole record are written: those of each such history.
abbrev pub PutsRecord : State → State → Type 0
PutsRecord old new =
    GoesOn old new
    × ((t : Tables) → Holds old.now t → (r : Reached) × Holds new.now (with_times r t) × ((h : History) → IsRecordOf h t → r ≡ reached_by (reached_at 0 t) (accepted_of h.deeds)))
