-- What one change does to the tables.
use Rattle.std.specs.Prelude.{◌≡◌, ℕ, List, [], ◌∷◌, ◌++◌}
use Rattle.std.specs.List.{list_any}
use Rattle.sqlite.specs.State.{State}
use Rattle.sqlite_trees.specs.Tree.{IsAscending}
use Rattle.sqlite_keyed.specs.Keyed.{insert_by}
use Rattle.sqlite_keyed.specs.Lists.{update_where, delete_where}
use Rattle.usbnum_core.specs.declared.number.Number.{Number}
use Rattle.usbnum_core.specs.declared.number.Span.{Span}
use Rattle.table_laws.specs.Inside.{GoesOn}
use Rattle.registry_rules.specs.declared.change.Change.{Change}
use Rattle.registry_rules.specs.declared.change.Change.TheVariants.{PutOrg, PutPetition, PutEntry, SetHeld, SetCard, PutVendor, PutLicence, PutReason}
use Rattle.registry_rules.specs.Records.{with_held, with_card, reserved_changed}
use Rattle.registry_rows.specs.Rows.{petition_key, vendor_key, fixed_key, reason_key, is_named, is_called, is_of}
use Rattle.registry_rows.specs.Tables.{Tables, Holds}
use Rattle.registry_tables.specs.Rows.{vendor_span_has, AreApart}

-- the tables after a change, apart from the reserved spans
abbrev pub applied : Change → Tables → Tables
applied (PutOrg org) t = record t { orgs = delete_where (λ other. is_called org.slug other) t.orgs ++ org ∷ [] }
applied (PutPetition id petition) t = record t { petitions = insert_by petition_key t.petitions (id, petition) }
applied (PutEntry number entry) t = record t { entries = delete_where (λ other. is_of number other) t.entries ++ (number, entry) ∷ [] }
applied (SetHeld number held) t = record t { entries = update_where (is_of number) (λ e. (e.0, with_held held e.1)) t.entries }
applied (SetCard number card) t = record t { entries = update_where (is_of number) (λ e. (e.0, with_card card e.1)) t.entries }
applied (PutVendor vid name) t = record t { vendors = insert_by vendor_key t.vendors (record { vid = vid; name = name }) }
applied (PutLicence name) t = record t { licences = delete_where (λ other. is_named other name) t.licences ++ name ∷ [] }
applied (PutReason id reason) t = record t { reasons = insert_by reason_key t.reasons (id, reason) }
applied _ t = t

-- the tables after changes in order
abbrev pub applied_all : List Change → Tables → Tables
applied_all [] t = t
applied_all (change ∷ changes) t = applied_all changes (applied change t)

-- the tables with these spans in place of theirs
abbrev pub with_spans : List (ℕ × Span) → Tables → Tables
with_spans spans t = record t { spans = spans }

-- after a change the spans have exactly the numbers that it leaves reserved, and are maximal again
pub record AreSpansAfter (change : Change) (before spans : List (ℕ × Span)) : Type 0 where
  pub each : (n : Number) → list_any (vendor_span_has n) spans ≡ reserved_changed n change (list_any (vendor_span_has n) before)
  pub apart : IsAscending AreApart spans

-- the transaction goes on, and the change is made to the tables and their spans
abbrev pub Makes : Change → State → State → Type 0
Makes change old new =
    GoesOn old new
    × ((t : Tables) → Holds old.now t → IsAscending AreApart t.spans → (spans : List (ℕ × Span)) × Holds new.now (with_spans spans (applied change t)) × AreSpansAfter change t.spans spans)

-- names inserted one after another
abbrev pub names_put : List (List ℕ) → List (List ℕ) → List (List ℕ)
names_put [] had = had
names_put (name ∷ names) had = names_put names (delete_where (λ other. is_named other name) had ++ name ∷ [])

-- spans inserted one after another
abbrev pub spans_put : List Span → List Span → List Span
spans_put [] had = had
spans_put (span ∷ spans) had = spans_put spans (insert_by fixed_key had span)
