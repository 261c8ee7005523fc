-- The vendors with their reserved numbers, and the lines of open petitions.
use Rattle.std.proofs.Common.{◌≡◌, ℕ, ◌+◌, ◌<◌, List, [], ◌∷◌, ◌++◌, length, take, get_or, refl, sym, ap, ◌∙◌}
use Rattle.std.specs.Prelude.{map, filter, Bool, true, false}
use Rattle.std.proofs.lemmas.List.{map-append}
use Rattle.std.proofs.lemmas.List.Elements.{All-nil, All-push}
use Rattle.usbnum_core.specs.Spans.{spans_have}
use Rattle.usbnum_core.specs.declared.number.Span.{Span}
use Rattle.registry_rules.specs.Number.{number}
use Rattle.registry_rules.specs.History.{History}
use Rattle.registry_rules.specs.Query.{is_open, is_reserved}
use Rattle.registry_rules.specs.declared.record.Petition.{Petition}
use Rattle.registry_rules.specs.declared.record.Vendor.{Vendor}
use Rattle.registry_reports.specs.Petitions.{petition_line, petition_lines}
use Rattle.registry_reports.proofs.ListLemmas.{Joins, joins_next}
use Rattle.registry_rows.specs.Rows.{is_undecided}
use Rattle.registry_views.specs.Reports.{AreReserved, HasReserved}

abbrev vids : List Vendor → List ℕ
vids vendors = map (λ vendor. vendor.vid) vendors

vids_join : Joins vids
vids_join = record { none = refl; more = λ x xs. refl }

one_more : (founding : ℕ) (pair : ℕ × Petition) (pairs : List (ℕ × Petition)) (b : Bool) → is_open pair.1.state ≡ b → petition_lines founding (filter is_undecided pairs) ≡ petition_lines founding pairs
    → petition_lines founding (filter is_undecided (pair ∷ pairs)) ≡ petition_lines founding (pair ∷ pairs)
one_more founding pair pairs true is rest = rw (is, is) (ap (λ lines. petition_line founding pair ++ lines) rest)
one_more founding pair pairs false is rest = rw is rest

-- the lines of petitions are those of the open ones among them
pub lines_of_open : (founding : ℕ) (all : List (ℕ × Petition)) → petition_lines founding (filter is_undecided all) ≡ petition_lines founding all
lines_of_open founding [] = refl
lines_of_open founding (pair ∷ pairs) = one_more founding pair pairs (is_open pair.1.state) refl (lines_of_open founding pairs)

pub reserved_start : (h : History) (vendors : List Vendor) (pairs : List (ℕ × List Span)) → pairs ≡ [] → AreReserved h (take 0 vendors) pairs
reserved_start h vendors pairs none = rw none (record { same = refl; each = All-nil (HasReserved h) })

pub reserved_next : (h : History) (vendors : List Vendor) (i : ℕ) (v : Vendor) (old new : List (ℕ × List Span)) (spans : List Span) → i < length vendors → v ≡ get_or vendors i v
    → new ≡ old ++ (v.vid, spans) ∷ [] → ((pid : ℕ) → spans_have spans pid ≡ is_reserved h (number v.vid pid)) → AreReserved h (take i vendors) old → AreReserved h (take (i + 1) vendors) new
reserved_next h vendors i v old new spans within is put has so_far = rw put (record {
  same = map-append (λ (pair : ℕ × List Span). pair.0) old ((v.vid, spans) ∷ []) ∙ (ap (λ (l : List ℕ). l ++ v.vid ∷ []) so_far.same ∙ sym (joins_next vids vids_join vendors i v within is));
  each = All-push (HasReserved h) old (v.vid, spans) so_far.each has;
})
