-- The founding of a store, from the values of its tables, and the digests of a record that has none yet.
use Rattle.std.specs.Prelude.{◌≡◌, ◌≤◌, ◌+◌, ℕ, suc, List, [], ◌∷◌, None, All, map, filter, take, drop, length, codes}
use Rattle.sqlite.specs.State.{State}
use Rattle.sqlite_keyed.specs.Lists.{sort_by}
use Rattle.table_laws.specs.Inside.{GoesOn}
use Rattle.registry_rules.specs.Accepted.{AreValid, accepted_of}
use Rattle.registry_rules.specs.History.{History}
use Rattle.registry_rules.specs.Run.{Legal}
use Rattle.registry_rules.specs.declared.accepted.Accepted.{Accepted}
use Rattle.registry_rules.specs.declared.deed.Deed.{Deed}
use Rattle.registry_wire.specs.Digests.{line_digest, founding_digest}
use Rattle.registry_wire.specs.Record.{accepted_line}
use Rattle.registry_rows.specs.declared.digests.DigestRow.{DigestRow}
use Rattle.registry_rows.specs.declared.kept.KeptRow.{KeptRow}
use Rattle.registry_rows.specs.Rows.{by_bytes, has_reply_within}
use Rattle.registry_rows.specs.Tables.{Tables, Holds, replies}
use Rattle.registry_tables.specs.Rows.{AreRecords, AreKeptReplies, digest_rows, kept_row_of}
use Rattle.registry_tables.specs.declared.head.Head.{Head}
use Rattle.registry_tables.specs.declared.written.Written.{Written}

-- what is read of the founding: the names in order, the fixed numbers, and the replies that name a licence
pub record IsWritten (t : Tables) (it : Written) : Type 0 where
  pub curators : it.curators.items ≡ sort_by by_bytes t.curators
  pub licences : it.licences.items ≡ sort_by by_bytes t.licences
  pub fixed : it.fixed.items ≡ t.fixed
  pub added : it.added.items ≡ filter (has_reply_within (codes "added licence ") (codes "added licence!")) (replies t)

-- the tables hold the rows of the history but for the digests, which may be any
pub record AreOf (h : History) (t : Tables) : Type 0 where
  pub legal : Legal h
  pub records : AreRecords h t
  pub kept : AreKeptReplies h t.kept

-- no request of the history has a time
abbrev pub HasNoTime : History → Type 0
HasNoTime h = All (λ (deed : Deed). deed.time ≡ None) h.deeds

-- the digest after these accepted requests, after the line with the digest `before`
abbrev pub digest_after_lines : List ℕ → List Accepted → List ℕ
digest_after_lines before [] = before
digest_after_lines before (accepted ∷ others) = digest_after_lines (line_digest before (accepted_line accepted)) others

-- The digests of the first requests of the history are written, up to this head: the rows of `digests4` are the first of the
-- history's, and the head is where they end.
pub record IsFilledTo (h : History) (head : Head) (digests : List (ℕ × DigestRow)) : Type 0 where
  pub within : head.count ≤ length h.deeds
  pub rows : digests ≡ take (suc head.count) (digest_rows h)
  pub digest : head.digest ≡ digest_after_lines (founding_digest h.founding) (take head.count (accepted_of h.deeds))

-- the transaction goes on, and only the table of the digests changes
abbrev pub Fills : (Tables → List (ℕ × DigestRow) → Type 0) → State → State → Type 0
Fills Has old new = GoesOn old new × ((t : Tables) → Holds old.now t → (digests : List (ℕ × DigestRow)) × Holds new.now (record t { digests = digests }) × Has t digests)

-- The digests up to `head` were there. Those of the requests in these rows are now there too, up to `next`, if the rows come next in the history.
abbrev pub FillsLines : List KeptRow → Head → Head → State → State → Type 0
FillsLines rows head next = Fills (λ t digests. (h : History) → AreValid h.deeds → HasNoTime h → IsFilledTo h head t.digests → rows ≡ take (length rows) (drop head.count (map kept_row_of (accepted_of h.deeds)))
    → IsFilledTo h next digests × (next.count ≡ head.count + length rows))

-- the same of as many rows as the head says
abbrev pub FillsTo : Head → Head → State → State → Type 0
FillsTo head next = Fills (λ t digests. (h : History) → AreKeptReplies h t.kept → AreValid h.deeds → HasNoTime h → IsFilledTo h head t.digests → IsFilledTo h next digests)

-- and of all that are left
abbrev pub FillsRest : Head → State → State → Type 0
FillsRest head = Fills (λ t digests. (h : History) → AreKeptReplies h t.kept → AreValid h.deeds → HasNoTime h → IsFilledTo h head t.digests → digests ≡ digest_rows h)

-- The digests are written into a table that has none: those of each history whose rows these are, if its requests have valid
-- fields and no times. The vendor and the name are those of the founding.
abbrev pub FillsAll : ℕ → List ℕ → State → State → Type 0
FillsAll vendor name = Fills (λ t digests. t.digests ≡ [] → (h : History) → AreOf h t → vendor ≡ h.founding.vendor → name ≡ h.founding.name → AreValid h.deeds → HasNoTime h → digests ≡ digest_rows h)
