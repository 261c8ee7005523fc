-- The report on the numbers that are not free.
use Rattle.std.specs.Prelude.{◌≡◌, ◌⊎◌, ℕ, zero, suc, ◌<◌, List, [], ◌∷◌, ◌++◌, length, codes, Option, Some, None, Bool, true, false, if◌then◌else◌, slice_index_or}
use Rattle.std.specs.Option.{option_map}
use Rattle.std.specs.List.{AllWithin}
use Rattle.usbnum_core.specs.Number.{digits_of}
use Rattle.usbnum_core.specs.Spans.{spans_have}
use Rattle.usbnum_core.specs.declared.number.Number.{Number}
use Rattle.usbnum_core.specs.declared.number.Span.{Span}
use Rattle.registry_rules.specs.Number.{number}
use Rattle.registry_rules.specs.declared.record.Entry.{Entry}
use Rattle.registry_reports.specs.Columns.{left}
use Rattle.registry_reports.specs.Census.{listed}

-- the organisation and the title of an owned number
abbrev pub owner_columns : Option Entry → List ℕ
owner_columns None = []
owner_columns (Some entry) = codes "  " ++ left 32 entry.org ++ codes "  " ++ entry.card.title

-- the vendor ID, the product ID, the state, and the owner if the number has one
unfoldable pub number_line : ℕ → ℕ → List ℕ → Option Entry → List ℕ
number_line vid pid state entry = digits_of vid ++ codes "  " ++ digits_of pid ++ codes "  " ++ left 8 state ++ owner_columns entry ++ codes "\n"

-- the state of an owned number that is not reserved
abbrev pub owned_state : Entry → List ℕ
owned_state entry = if entry.held then codes "held" else codes "returned"

-- the line of a number that is reserved or not, with its entry; a free number has no line
abbrev pub state_line : ℕ → ℕ → Bool → Option Entry → List ℕ
state_line vid pid true entry = number_line vid pid (codes "reserved") entry
state_line vid pid false None = []
state_line vid pid false (Some entry) = number_line vid pid (owned_state entry) (Some entry)

-- the lines of the product IDs from 1 to a limit
unfoldable pub lines_to : (ℕ → List ℕ) → ℕ → List ℕ
lines_to line zero = []
lines_to line (suc n) = lines_to line n ++ line (suc n)

-- the list's entry of a number
abbrev pub listed_entry : List (Number × Entry) → Number → Option Entry
listed_entry numbers n = option_map (λ pair. pair.1) (listed numbers n)

-- the line of a vendor's number
abbrev pub line_at : List (Number × Entry) → ℕ × List Span → ℕ → List ℕ
line_at numbers pair pid = state_line pair.0 pid (spans_have pair.1 pid) (listed_entry numbers (number pair.0 pid))

-- a line for each number that is not free, vendor by vendor
abbrev pub number_lines : List (Number × Entry) → List (ℕ × List Span) → List ℕ
number_lines numbers [] = []
number_lines numbers (pair ∷ pairs) = lines_to (line_at numbers pair) 65535 ++ number_lines numbers pairs

-- the entry's number comes before the number
abbrev pub ComesBefore : Number → Number × Entry → Type 0
ComesBefore n pair = (pair.0.vid < n.vid) ⊎ ((pair.0.vid ≡ n.vid) × (pair.0.pid < n.pid))

-- the entries below an index come before the number
abbrev pub ArePassed : List (Number × Entry) → Number → ℕ → Type 0
ArePassed numbers n i = AllWithin (ComesBefore n) numbers 0 i

-- All entries below this index come before the number, and the one at the index, if there is one, does not. For numbers that ascend
-- it is the index of the first such entry, or the length.
pub record IsPlace (numbers : List (Number × Entry)) (n : Number) (i : ℕ) : Type 0 where
  pub passed : ArePassed numbers n i
  pub stands : (d : Number × Entry) → i < length numbers → ¬ ComesBefore n (slice_index_or numbers i d)
