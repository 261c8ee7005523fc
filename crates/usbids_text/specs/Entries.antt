-- The entries of a list: the entry of one line, and the tree of all entries.
use Rattle.std.specs.Prelude.{ℕ, ◌==◌, ◌&&◌, ◌||◌, not, List, [], ◌∷◌, ◌++◌, Bool, true, false, IsTrue}
use Rattle.std.specs.List.{list_all}
use Rattle.usbids_text.specs.Words.{is_tag, is_code, is_name}
use Rattle.usbids_text.specs.declared.kind.Kind.{Kind}
use Rattle.usbids_text.specs.declared.kind.Kind.TheVariants.{Vendor, Tagged}
use Rattle.usbids_text.specs.declared.kind.Depth.{Depth}
use Rattle.usbids_text.specs.declared.kind.Depth.TheVariants.{Zero, One, Two}

-- an entry line: its depth, its code, the number of digits of the code, and its name
pub record EntryLine : Type 0 where
  pub depth : Depth
  pub code : ℕ
  pub digits : ℕ
  pub name : List ℕ

-- an entry of depth two
pub record LeafEntry : Type 0 where
  pub code : ℕ
  pub digits : ℕ
  pub name : List ℕ

-- an entry of depth one, with the entries below it
pub record MidEntry : Type 0 where
  pub code : ℕ
  pub digits : ℕ
  pub name : List ℕ
  pub leaves : List LeafEntry

-- an entry of depth zero, with the entries below it
pub record TopEntry : Type 0 where
  pub kind : Kind
  pub code : ℕ
  pub digits : ℕ
  pub name : List ℕ
  pub mids : List MidEntry

abbrev pub leaf_line : LeafEntry → EntryLine
leaf_line l = record { depth = Two; code = l.code; digits = l.digits; name = l.name }

abbrev pub mid_line : MidEntry → EntryLine
mid_line m = record { depth = One; code = m.code; digits = m.digits; name = m.name }

abbrev pub top_line : TopEntry → EntryLine
top_line t = record { depth = Zero t.kind; code = t.code; digits = t.digits; name = t.name }

-- the entries in order: each top before its mids, each mid before its leaves
unfoldable pub leaves_lines : List LeafEntry → List EntryLine
leaves_lines [] = []
leaves_lines (l ∷ leaves) = leaf_line l ∷ leaves_lines leaves

unfoldable pub mids_lines : List MidEntry → List EntryLine
mids_lines [] = []
mids_lines (m ∷ mids) = mid_line m ∷ (leaves_lines m.leaves ++ mids_lines mids)

unfoldable pub tops_lines : List TopEntry → List EntryLine
tops_lines [] = []
tops_lines (t ∷ tops) = top_line t ∷ (mids_lines t.mids ++ tops_lines tops)

-- a document is the list of its tops
abbrev pub preorder : List TopEntry → List EntryLine
preorder doc = tops_lines doc

abbrev pub is_vendor : Kind → Bool
is_vendor Vendor = true
is_vendor (Tagged tag) = false

-- a vendor, and an entry directly below a vendor, has four digits
abbrev pub has_room : Kind → ℕ → Bool
has_room kind digits = not (is_vendor kind) || digits == 4

abbrev pub is_depth : Depth → ℕ → Bool
is_depth (Zero Vendor) digits = digits == 4
is_depth (Zero (Tagged tag)) digits = is_tag tag
is_depth One digits = true
is_depth Two digits = true

-- the code fits its digits, four of them for a vendor; the name and the tag are valid
unfoldable pub is_line : EntryLine → Bool
is_line entry_line = is_code entry_line.code entry_line.digits && is_name entry_line.name && is_depth entry_line.depth entry_line.digits

abbrev pub has_four : MidEntry → Bool
has_four m = m.digits == 4

-- under a vendor each mid has four digits
abbrev pub is_sound_top : TopEntry → Bool
is_sound_top t = not (is_vendor t.kind) || list_all has_four t.mids

-- the rules that every document keeps
pub record IsSound (doc : List TopEntry) : Type 0 where
  pub fours : IsTrue (list_all is_sound_top doc)
  pub each : IsTrue (list_all is_line (preorder doc))
