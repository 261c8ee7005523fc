-- The founding in a founding file, from the TOML of its bytes.
use Rattle.std.specs.Prelude.{◌≡◌, ℕ, ◌&&◌, ◌==◌, nat_le, List, [], ◌∷◌, length, ⊤, Option, Some, None, option_and_then, option_map, Result, Ok, Err, if◌then◌else◌}
use Rattle.std.specs.List.{list_any}
use Rattle.std.specs.Str.{is_utf8}
use Rattle.toml.specs.Data.{Data, Items, no_items, item, Members, get_member, as_str, as_array}
use Rattle.toml.specs.Parse.{parse_document}
use Rattle.usbnum_core.specs.Number.{number_of}
use Rattle.usbnum_core.specs.Spans.{span_has, spans_have}
use Rattle.usbnum_core.specs.declared.number.Span.{Span}
use Rattle.registry_rules.specs.Limits.{most_curators, most_licences}
use Rattle.registry_rules.specs.Texts.{AreSorted}
use Rattle.registry_rules.specs.declared.founding.Founding.{Founding}
use Rattle.registry_rules.specs.declared.rejection.Rejection.{Rejection}
use Rattle.registry_rules.specs.declared.rejection.Rejection.TheVariants.{Refused, NoMemory}
use Rattle.registry_wire.specs.declared.refusal.WireRefusal.{WireRefusal}
use Rattle.registry_wire.specs.declared.refusal.WireRefusal.TheVariants.{BadFounding}
use Rattle.registry_wire.specs.declared.refusal.FoundingFault.{FoundingFault}
use Rattle.registry_wire.specs.declared.refusal.FoundingFault.TheVariants.{Toml, Vendor, Name, Curators, Licences, Fixed}
use Rattle.registry_rules.specs.Checks.{◌>>=◌}
use Rattle.registry_wire.specs.Refusals.{value_or}
use Rattle.registry_wire.specs.Names.{fault_name}
use Rattle.registry_wire.specs.Kinds.{slug_of, title_of}
use Rattle.registry_wire.specs.Spans.{span_of}

-- the values of a founding file, as listed in the file
pub record Listed : Type 0 where
  pub vendor : ℕ
  pub name : List ℕ
  pub curators : List (List ℕ)
  pub licences : List (List ℕ)
  pub fixed : List Span

-- ---- one value

abbrev pub toml_id : Data → Option ℕ
toml_id found = option_and_then number_of (as_str found)

abbrev pub toml_slug : Data → Option (List ℕ)
toml_slug found = option_and_then slug_of (as_str found)

abbrev pub toml_title : Data → Option (List ℕ)
toml_title found = option_and_then title_of (as_str found)

-- the span from `first`, alone or followed by a hyphen and its last number
abbrev pub span_after : ℕ → List ℕ → Option Span
span_after first [] = span_of first first
span_after first (byte ∷ last) = if byte == 45 then option_and_then (span_of first) (number_of last) else None

-- the span of a text: the four digits of its first number, alone or followed by a hyphen and the digits of its last
-- number
unfoldable pub span_written : List ℕ → Option Span
span_written (a ∷ b ∷ c ∷ d ∷ rest) = option_and_then (λ first. span_after first rest) (number_of (a ∷ b ∷ c ∷ d ∷ []))
span_written _ = None

abbrev pub toml_span : Data → Option Span
toml_span found = option_and_then span_written (as_str found)

-- ---- the values of the file

-- the value at a key
abbrev pub value_in : FoundingFault → Members → Option Data
value_in key table = get_member (fault_name key) table

unfoldable pub one_in : {A : Type 0} → (Data → Option A) → FoundingFault → Members → Result A WireRefusal
one_in kind key table = value_or (BadFounding key) (option_and_then kind (value_in key table))

-- the items of an array, if all are of the kind
unfoldable pub all_of_kind : {A : Type 0} → (Data → Option A) → Items → Option (List A)
all_of_kind kind no_items = Some []
all_of_kind kind (item first others) = option_and_then (λ x. option_map (λ xs. x ∷ xs) (all_of_kind kind others)) (kind first)

-- one to `most` items
abbrev pub one_to : {A : Type 0} → ℕ → List A → Option (List A)
one_to most items = if nat_le 1 (length items) && nat_le (length items) most then Some items else None

-- an array of one to `most` items of the kind
unfoldable pub some_in : {A : Type 0} → (Data → Option A) → ℕ → FoundingFault → Members → Result (List A) WireRefusal
some_in kind most key table = value_or (BadFounding key) (option_and_then (one_to most) (option_and_then (all_of_kind kind) (option_and_then as_array (value_in key table))))

abbrev pub spans_if_given : Option Data → Option (List Span)
spans_if_given None = Some []
spans_if_given (Some found) = option_and_then (all_of_kind toml_span) (as_array found)

-- the fixed spans, empty if the key is absent
unfoldable pub fixed_in : Members → Result (List Span) WireRefusal
fixed_in table = value_or (BadFounding Fixed) (spans_if_given (value_in Fixed table))

-- the values, in the order in which they are checked
unfoldable pub listed_in : Members → Result Listed WireRefusal
listed_in table = do
  vendor ← one_in toml_id Vendor table
  name ← one_in toml_title Name table
  curators ← some_in toml_slug most_curators Curators table
  licences ← some_in toml_title most_licences Licences table
  fixed ← fixed_in table
  Ok (record { vendor = vendor; name = name; curators = curators; licences = licences; fixed = fixed })

-- ---- whole files

-- the TOML table of the bytes
unfoldable pub table_of : List ℕ → Result Members WireRefusal
table_of bytes = value_or (BadFounding Toml) (if is_utf8 bytes then parse_document bytes else None)

-- the values that the bytes list, or their first fault
unfoldable pub founding_listed : List ℕ → Result Listed WireRefusal
founding_listed bytes = do
  table ← table_of bytes
  listed_in table

-- the founding has the listed values: each curator and licence once, in the order of their bytes, and the numbers of
-- all fixed spans
pub record Founds (listed : Listed) (founding : Founding) : Type 0 where
  pub vendor : founding.vendor ≡ listed.vendor
  pub name : founding.name ≡ listed.name
  pub curators : AreSorted listed.curators founding.curators
  pub licences : AreSorted listed.licences founding.licences
  pub fixed : (n : ℕ) → spans_have founding.fixed n ≡ list_any (λ span. span_has span n) listed.fixed

-- the result is the founding with the values that the bytes list, or their first fault, unless memory runs out
abbrev pub FoundsAs : Result Founding (Rejection WireRefusal) → Result Listed WireRefusal → Type 0
FoundsAs (Ok founding) listed = (l : Listed) × (listed ≡ Ok l) × Founds l founding
FoundsAs (Err (Refused refusal)) listed = listed ≡ Err refusal
FoundsAs (Err NoMemory) listed = ⊤
