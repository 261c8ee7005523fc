-- A document that is built entry by entry.
use Rattle.std.specs.Prelude.{ℕ, List, [], ◌∷◌, ◌++◌, Bool, true, Option, Some, None}
use Rattle.usbids_text.specs.declared.line.Why.{Why}
use Rattle.usbids_text.specs.declared.kind.Kind.{Kind}
use Rattle.usbids_text.specs.declared.kind.Depth.TheVariants.{Zero, One, Two}
use Rattle.usbids_text.specs.Entries.{EntryLine, LeafEntry, MidEntry, TopEntry, has_room}
use Rattle.usbids_text.specs.Documents.{fault_at}

-- the closed tops, the open top and the open mid
pub record Open : Type 0 where
  pub tops : List TopEntry
  pub top : Option TopEntry
  pub mid : Option MidEntry

abbrev pub with_mid : TopEntry → Option MidEntry → TopEntry
with_mid t None = t
with_mid t (Some m) = record t { mids = t.mids ++ m ∷ [] }

abbrev pub with_leaf : MidEntry → LeafEntry → MidEntry
with_leaf m l = record m { leaves = m.leaves ++ l ∷ [] }

abbrev pub with_top : List TopEntry → Option TopEntry → List TopEntry
with_top tops None = tops
with_top tops (Some t) = tops ++ t ∷ []

-- the open top with the open mid in it
abbrev pub whole_top : Option TopEntry → Option MidEntry → Option TopEntry
whole_top None mid = None
whole_top (Some t) mid = Some (with_mid t mid)

-- the document so far
abbrev pub document_so_far : Open → List TopEntry
document_so_far o = with_top o.tops (whole_top o.top o.mid)

-- these closed tops, and no open top
abbrev pub none_open : List TopEntry → Open
none_open tops = record { tops = tops; top = None; mid = None }

abbrev pub put_top : Open → Kind → ℕ → ℕ → List ℕ → Open
put_top o kind code digits name = record { tops = document_so_far o; top = Some (record { kind = kind; code = code; digits = digits; name = name; mids = [] }); mid = None }

abbrev pub put_mid : Open → ℕ → ℕ → List ℕ → Open
put_mid o code digits name = record { tops = o.tops; top = whole_top o.top o.mid; mid = Some (record { code = code; digits = digits; name = name; leaves = [] }) }

abbrev pub more_leaf : Option MidEntry → LeafEntry → Option MidEntry
more_leaf None l = None
more_leaf (Some m) l = Some (with_leaf m l)

abbrev pub put_leaf : Open → ℕ → ℕ → List ℕ → Open
put_leaf o code digits name = record o { mid = more_leaf o.mid (record { code = code; digits = digits; name = name }) }

-- puts an entry in its place
unfoldable pub put : Open → EntryLine → Open
put o entry_line = elim entry_line.depth as (λ _. Open) [ Zero kind ↦ put_top o kind entry_line.code entry_line.digits entry_line.name | One ↦ put_mid o entry_line.code entry_line.digits entry_line.name | Two ↦ put_leaf o entry_line.code entry_line.digits entry_line.name ]

-- a mid is open only in a top
abbrev pub open_mid : Option TopEntry → Option MidEntry → Option MidEntry
open_mid None mid = None
open_mid (Some t) mid = mid

-- the fault of an entry that is misplaced here
unfoldable pub misplaced_in : Open → EntryLine → Option Why
misplaced_in o entry_line = fault_at entry_line o.top (open_mid o.top o.mid)

-- the open top may contain the open mid
abbrev pub fits_in : Option TopEntry → Option MidEntry → Bool
fits_in None mid = true
fits_in (Some t) None = true
fits_in (Some t) (Some m) = has_room t.kind m.digits

-- the open top may contain an entry with this number of digits
abbrev pub has_room_in : Option TopEntry → ℕ → Bool
has_room_in None digits = true
has_room_in (Some t) digits = has_room t.kind digits
