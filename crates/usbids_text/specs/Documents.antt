-- The document of a text, and the first faulty line of a text.
use Rattle.std.specs.Prelude.{◌≡◌, ℕ, ◌==◌, List, [], ◌∷◌, ◌++◌, length, ◌&&◌, not, Option, Some, None, option_map, Result, Ok, Err, if◌then◌else◌, min, ◌+◌, ◌-◌, ◌^◌}
use Rattle.usbids_text.specs.declared.line.Why.{Why}
use Rattle.usbids_text.specs.declared.line.Why.TheVariants.{BadCode, NoParent}
use Rattle.usbids_text.specs.declared.kind.Depth.TheVariants.{Zero, One, Two}
use Rattle.usbids_text.specs.Entries.{EntryLine, MidEntry, TopEntry, preorder, is_vendor, IsSound}
use Rattle.usbids_text.specs.Lines.{line_class}
use Rattle.usbids_text.specs.Cut.{lines}

-- puts a line's entry, if it has one, before the other entries
abbrev pub with_line : Result (Option EntryLine) Why → Option (List EntryLine) → Option (List EntryLine)
with_line (Err why) rest = None
with_line (Ok None) rest = rest
with_line (Ok (Some entry_line)) rest = option_map (λ rs. entry_line ∷ rs) rest

-- the entries of these lines, or None if a line is faulty
unfoldable pub entries : List (List ℕ) → Option (List EntryLine)
entries [] = Some []
entries (l ∷ ls) = with_line (line_class l) (entries ls)

-- no line is faulty, and the entries of the lines are this document in preorder
pub record AreLinesOf (ls : List (List ℕ)) (doc : List TopEntry) : Type 0 where
  pub sound : IsSound doc
  pub entry_lines : entries ls ≡ Some (preorder doc)

-- the text is the text of the document
abbrev pub IsTextOf : List ℕ → List TopEntry → Type 0
IsTextOf text doc = AreLinesOf (lines text) doc

unfoldable pub last : {A : Type 0} → List A → Option A
last [] = None
last (x ∷ []) = Some x
last (x ∷ (y ∷ ys)) = last (y ∷ ys)

-- an entry of depth one needs a top before it, and four digits if that top is a vendor
abbrev pub below_top : EntryLine → Option TopEntry → Option Why
below_top entry_line None = Some NoParent
below_top entry_line (Some t) = if is_vendor t.kind && not (entry_line.digits == 4) then Some BadCode else None

-- an entry of depth two needs a mid before it
abbrev pub below_mid : Option MidEntry → Option Why
below_mid None = Some NoParent
below_mid (Some m) = None

abbrev pub mid_of : Option TopEntry → Option MidEntry
mid_of None = None
mid_of (Some t) = last t.mids

abbrev pub fault_at : EntryLine → Option TopEntry → Option MidEntry → Option Why
fault_at entry_line top mid = elim entry_line.depth as (λ _. Option Why) [ Zero kind ↦ None | One ↦ below_top entry_line top | Two ↦ below_mid mid ]

-- the fault of an entry that follows this document, if it is misplaced
unfoldable pub misplaced : List TopEntry → EntryLine → Option Why
misplaced doc entry_line = fault_at entry_line (last doc) (mid_of (last doc))

-- the fault of a line that follows this document, if it has one
abbrev pub line_fault : List TopEntry → Result (Option EntryLine) Why → Option Why
line_fault doc (Err why) = Some why
line_fault doc (Ok None) = None
line_fault doc (Ok (Some entry_line)) = misplaced doc entry_line

-- the number of the line after line n, or after n lines; it stays at 2^64 - 1
abbrev pub next : ℕ → ℕ
next n = min (n + 1) (2 ^ 64 - 1)

-- the lines before line n are those of a document, and line n is faulty after it
pub record FaultIn (ls : List (List ℕ)) (n : ℕ) (why : Why) : Type 0 where
  pub before : List (List ℕ)
  pub line : List ℕ
  pub after : List (List ℕ)
  pub doc : List TopEntry
  pub cut : ls ≡ before ++ line ∷ after
  pub number : n ≡ next (length before)
  pub lines_of : AreLinesOf before doc
  pub faulty : line_fault doc (line_class line) ≡ Some why

-- line n is the first faulty line of the text, for this reason
abbrev pub FaultAt : List ℕ → ℕ → Why → Type 0
FaultAt text n why = FaultIn (lines text) n why
