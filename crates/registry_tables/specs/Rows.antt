-- The rows of a history in a store.
use Rattle.std.specs.Prelude.{◌≡◌, ◌≢◌, ℕ, suc, ℤ, pos, ◌+◌, ◌<◌, ◌⊎◌, Bool, false, List, [], ◌∷◌, map, Option, None, ◌&&◌, nat_eq, find}
use Rattle.std.specs.Option.{option_map}
use Rattle.std.specs.List.{list_any}
use Rattle.std.specs.Str.{bytes_eq}
use Rattle.sqlite.specs.Effect.{Database}
use Rattle.sqlite_trees.specs.Tree.{Trees, IsAscending}
use Rattle.usbnum_core.specs.Spans.{span_has, IsSpread}
use Rattle.usbnum_core.specs.declared.number.Number.{Number}
use Rattle.usbnum_core.specs.declared.number.Span.{Span}
use Rattle.registry_rules.specs.History.{History}
use Rattle.registry_rules.specs.Texts.{IsCurators}
use Rattle.registry_rules.specs.declared.founding.Founding.{Founding}
use Rattle.registry_rules.specs.Query.{org_of, petition_of, reason_of, opened_at, closed_at, vendor_of, is_reserved_by_order, is_licence}
use Rattle.registry_rules.specs.Records.{entry_of}
use Rattle.registry_rules.specs.Verdict.{kept_under}
use Rattle.registry_rules.specs.Orders.{canonical_form, IsOrder}
use Rattle.registry_rules.specs.Accepted.{AreValid, accepted_of}
use Rattle.registry_rules.specs.Run.{Legal}
use Rattle.registry_rules.specs.declared.accepted.Accepted.{Accepted}
use Rattle.registry_rules.specs.declared.record.Org.{Org}
use Rattle.registry_rules.specs.declared.record.Entry.{Entry}
use Rattle.registry_rules.specs.declared.record.Petition.{Petition}
use Rattle.registry_rules.specs.declared.record.Vendor.{Vendor}
use Rattle.registry_wire.specs.Digests.{line_digest, founding_digest}
use Rattle.registry_wire.specs.Record.{accepted_line}
use Rattle.registry_rows.specs.declared.digests.DigestRow.{DigestRow}
use Rattle.registry_rows.specs.declared.kept.KeptRow.{KeptRow}
use Rattle.registry_rows.specs.declared.meta.Meta.{Meta}
use Rattle.registry_rows.specs.Rows.{is_named, is_called, is_kept_under, is_of, is_numbered, is_reason_of, is_time_of}
use Rattle.registry_rows.specs.Tables.{Tables, HasRows, Holds}
use Rattle.table_laws.specs.Making.{HasTables}
use Rattle.registry_schema.specs.Texts.{texts_1, texts_2, texts_3, texts_4}
use Rattle.registry_old_rows.specs.Old.{AreFirst, AreSecond, AreThird, AreFourth, IsOlder, with_version, HasOneVendor, is_listed}

-- the newest schema
abbrev pub newest : ℕ
newest = 5

-- no two of the values are the same by this test
abbrev pub NoTwo : {X : Type 0} → (X → X → Bool) → List X → Type 0
NoTwo same = IsAscending (λ a b. same a b ≡ false)

-- the vendor's span has the number
abbrev pub vendor_span_has : Number → ℕ × Span → Bool
vendor_span_has n s = nat_eq s.0 n.vid && span_has s.1 n.pid

-- a number lies between the two spans, or their vendors differ
abbrev pub AreApart : ℕ × Span → ℕ × Span → Type 0
AreApart a b = (a.0 ≢ b.0) ⊎ ((a.1.last + 1 < b.1.first) ⊎ (b.1.last + 1 < a.1.first))

-- a founding has valid curators and fixed numbers
pub record IsFounding (founding : Founding) : Type 0 where
  pub curators : IsCurators founding.curators
  pub fixed : IsSpread 1 founding.fixed

-- the row of an accepted request and its reply
abbrev pub kept_row_of : Accepted → KeptRow
kept_row_of accepted = record { caller = accepted.request.caller; key = accepted.request.key; kept = record { order = canonical_form accepted.request.order; reply = accepted.reply } }

-- the accepted request as one with this time
abbrev pub timed : Accepted → Option (List ℕ) → Accepted
timed accepted time = record { request = record { caller = accepted.request.caller; key = accepted.request.key; order = accepted.request.order; time = time }; reply = accepted.reply }

-- its order is valid, so its canonical form is that of no other valid order
abbrev pub HasValidOrder : Accepted → Type 0
HasValidOrder accepted = IsOrder accepted.request.order

-- the values beside their numbers, which rise by one from this one
abbrev pub numbered_from : {X : Type 0} → ℕ → List X → List (ℤ × X)
numbered_from n [] = []
numbered_from n (x ∷ xs) = (pos n, x) ∷ numbered_from (suc n) xs

-- the rows of the digests of these accepted requests, from this ID on, after the line with the digest `before`
abbrev pub digest_rows_from : ℕ → List ℕ → List Accepted → List (ℕ × DigestRow)
digest_rows_from id before [] = []
digest_rows_from id before (accepted ∷ others) =
    let digest = line_digest before (accepted_line accepted) in
    (id, record { time = accepted.request.time; digest = digest }) ∷ digest_rows_from (suc id) digest others

-- the row of the founding, which has the ID 0, and those of the accepted requests, oldest first
abbrev pub digest_rows : History → List (ℕ × DigestRow)
digest_rows h = (0, record { time = None; digest = founding_digest h.founding }) ∷ digest_rows_from 1 (founding_digest h.founding) (accepted_of h.deeds)

-- each petition finds its time
abbrev pub AreTimes : (ℕ → Option (List ℕ)) → List (ℕ × List ℕ) → Type 0
AreTimes at times = (i : ℕ) → find (is_time_of i) times ≡ option_map (λ time. (i, time)) (at i)

-- each key finds what the history says, and no key has two rows
module _ (h : History) where
  pub record AreCurators (names : List (List ℕ)) : Type 0 where
    pub each : (name : List ℕ) → list_any (bytes_eq name) names ≡ list_any (bytes_eq name) h.founding.curators
    pub once : NoTwo is_named names

  pub record AreLicences (names : List (List ℕ)) : Type 0 where
    pub each : (name : List ℕ) → list_any (bytes_eq name) names ≡ is_licence h name
    pub once : NoTwo is_named names

  pub record AreOrgs (orgs : List Org) : Type 0 where
    pub each : (slug : List ℕ) → find (is_called slug) orgs ≡ org_of h slug
    pub once : NoTwo (λ a b. is_called b.slug a) orgs

  -- the spans are the maximal spans of the numbers that orders reserved
  pub record AreSpans (spans : List (ℕ × Span)) : Type 0 where
    pub each : (n : Number) → list_any (vendor_span_has n) spans ≡ is_reserved_by_order h n
    pub apart : IsAscending AreApart spans

  pub record AreEntries (entries : List (Number × Entry)) : Type 0 where
    pub each : (n : Number) → find (is_of n) entries ≡ option_map (λ entry. (n, entry)) (entry_of h n)
    pub once : NoTwo (λ a b. is_of b.0 a) entries

  abbrev pub ArePetitions : List (ℕ × Petition) → Type 0
  ArePetitions petitions = (i : ℕ) → find (is_numbered i) petitions ≡ option_map (λ petition. (i, petition)) (petition_of h i)

  abbrev pub AreReasons : List (ℕ × List ℕ) → Type 0
  AreReasons reasons = (i : ℕ) → find (is_reason_of i) reasons ≡ option_map (λ reason. (i, reason)) (reason_of h i)

  pub record AreTimesOf (opened closed : List (ℕ × List ℕ)) : Type 0 where
    pub opened_then : AreTimes (opened_at h) opened
    pub closed_then : AreTimes (closed_at h) closed

  abbrev pub AreVendors : List Vendor → Type 0
  AreVendors vendors = (vid : ℕ) → find (λ vendor. nat_eq vendor.vid vid) vendors ≡ vendor_of h vid

  -- the accepted requests, oldest first: the first row has the rowid 1, and each other row the next
  pub record AreKeptReplies (rows : List (ℤ × KeptRow)) : Type 0 where
    pub in_order : rows ≡ numbered_from 1 (map kept_row_of (accepted_of h.deeds))
    pub each : (caller key : List ℕ) → find (is_kept_under caller key) (map (λ k. k.1) rows) ≡ option_map (λ kept. record { caller = caller; key = key; kept = kept }) (kept_under h caller key)
    pub once : NoTwo (λ a b. is_kept_under b.caller b.key a) (map (λ k. k.1) rows)

-- the one row of meta
abbrev pub meta_of : History → Meta
meta_of h = record { version = newest; vendor = h.founding.vendor; name = h.founding.name }

-- all tables apart from those of the record hold the rows of the history
pub record AreRecords (h : History) (t : Tables) : Type 0 where
  pub founding : IsFounding h.founding
  pub metas : t.metas ≡ meta_of h ∷ []
  pub curators : AreCurators h t.curators
  pub licences : AreLicences h t.licences
  pub fixed : t.fixed ≡ h.founding.fixed
  pub orgs : AreOrgs h t.orgs
  pub vendors : AreVendors h t.vendors
  pub spans : AreSpans h t.spans
  pub entries : AreEntries h t.entries
  pub petitions : ArePetitions h t.petitions
  pub reasons : AreReasons h t.reasons

-- The tables of the record hold the rows of the history: the accepted requests with their replies, the digests with their
-- times, and the times of petitions. The digests and the times of a legal history are said if its requests have valid fields, as
-- the Rust types guarantee of each.
pub record IsRecorded (h : History) (t : Tables) : Type 0 where
  pub kept : AreKeptReplies h t.kept
  pub digests : Legal h → AreValid h.deeds → t.digests ≡ digest_rows h
  pub times : Legal h → AreValid h.deeds → AreTimesOf h t.opened t.closed

-- ---- each schema

-- `reserved` has a row for each number of the spans
abbrev pub AreRowsOfSpans : ℕ → Tables → List ℕ → Type 0
AreRowsOfSpans vid t numbers = (n : Number) → list_any (vendor_span_has n) t.spans ≡ is_listed vid numbers n

-- The trees have exactly the tables of the first schema, with these values. Only `meta` names the vendor, the founding one,
-- and each number that an order reserved has a row.
pub record HasFirst (vid : ℕ) (db : Trees) (t : Tables) : Type 0 where
  pub has : HasTables texts_1 db
  pub one : HasOneVendor t
  pub older : IsOlder t
  pub numbers : List ℕ
  pub rows : AreFirst vid db (with_version 1 t) numbers
  pub reserved : AreRowsOfSpans vid t numbers

-- The same for the second schema: the numbers that orders reserved are in spans, and `reserved` is empty.
pub record HasSecond (vid : ℕ) (db : Trees) (t : Tables) : Type 0 where
  pub has : HasTables texts_2 db
  pub one : HasOneVendor t
  pub older : IsOlder t
  pub rows : AreSecond vid db (with_version 2 t) []

-- The same for the third schema: each row of a vendor names it, and the tables that were replaced are empty.
pub record HasThird (db : Trees) (t : Tables) : Type 0 where
  pub has : HasTables texts_3 db
  pub older : IsOlder t
  pub rows : AreThird db (with_version 3 t)

-- The same for the fourth schema, which has no times of petitions: those of the values are the history's all the same.
pub record HasFourth (db : Trees) (t : Tables) : Type 0 where
  pub has : HasTables texts_4 db
  pub rows : AreFourth db (with_version 4 t)

-- The trees have exactly the tables of this schema version, with these values. Only the last two have digests and reasons, and
-- only the newest has the times of petitions.
abbrev pub HasValues : ℕ → ℕ → Trees → Tables → Type 0
HasValues version vid db t = ((version ≡ 1) × HasFirst vid db t) ⊎ (((version ≡ 2) × HasSecond vid db t) ⊎ (((version ≡ 3) × HasThird db t) ⊎ (((version ≡ 4) × HasFourth db t) ⊎ ((version ≡ newest) × HasRows db t))))

-- The trees have exactly the tables of this schema version, and hold the rows of the history and no others. The rowids are said
-- of `kept` and `digests4` alone, and the order of the rows of these and of `fixed`; in the other tables any will do. Below the newest version a
-- store is still to be migrated; below the fourth a history with a time or a reason has no rows, and below the third one with a
-- second vendor has none.
unfoldable pub Rows : ℕ → Trees → History → Type 0
Rows version db h = (t : Tables) × HasValues version h.founding.vendor db t × AreRecords h t × IsRecorded h t

-- a database whose schema is known holds the rows of the history, in the newest schema
unfoldable pub HoldsRows : ℕ → Database → History → Type 0
HoldsRows version db h = (version ≡ newest) × (t : Tables) × Holds db t × AreRecords h t × IsRecorded h t

-- in the middle of a request: the record is still that of the first history, all other rows are those of the second
unfoldable pub HoldsUnkept : Database → History → History → Type 0
HoldsUnkept db h after = (t : Tables) × Holds db t × AreRecords after t × IsRecorded h t
