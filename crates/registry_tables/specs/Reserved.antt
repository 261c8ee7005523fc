-- Joining and cutting the spans of vendors.
use Rattle.std.specs.Prelude.{◌≡◌, ℕ, ◌≤◌, ◌⊎◌, true, List, [], ◌∷◌, ◌++◌, Option, Some, None, nat_eq}
use Rattle.std.specs.List.{AllByRecursion, list_any}
use Rattle.sqlite.specs.State.{State}
use Rattle.usbnum_core.specs.declared.number.Span.{Span}
use Rattle.table_laws.specs.Inside.{GoesOn}
use Rattle.registry_rows.specs.Tables.{Tables, Holds}
use Rattle.registry_tables.specs.Changed.{with_spans}
use Rattle.registry_tables.specs.Rows.{AreApart}

-- the least and the greatest number of the span and of the spans found
pub record Reaches (span : Span) (found : List (ℕ × Span)) (least greatest : ℕ) : Type 0 where
  pub below : least ≤ span.first
  pub above : span.last ≤ greatest
  pub around : AllByRecursion (λ s. (least ≤ s.1.first) × (s.1.last ≤ greatest)) found
  pub from : (least ≡ span.first) ⊎ (list_any (λ s. nat_eq s.1.first least) found ≡ true)
  pub to : (greatest ≡ span.last) ⊎ (list_any (λ s. nat_eq s.1.last greatest) found ≡ true)

-- the part as one of the vendor's spans, if any
abbrev pub part_of : ℕ → Option Span → List (ℕ × Span)
part_of vid None = []
part_of vid (Some span) = (vid, span) ∷ []

-- each of the parts is apart from each of the spans
abbrev pub AreApartFrom : List (ℕ × Span) → List (ℕ × Span) → Type 0
AreApartFrom parts = AllByRecursion (λ span. AllByRecursion (AreApart span) parts)

-- the transaction goes on, and the part is added to spans that it is apart from
abbrev pub PutsPart : ℕ → Option Span → State → State → Type 0
PutsPart vid part old new = GoesOn old new × ((t : Tables) → Holds old.now t → AreApartFrom (part_of vid part) t.spans → Holds new.now (with_spans (t.spans ++ part_of vid part) t))
