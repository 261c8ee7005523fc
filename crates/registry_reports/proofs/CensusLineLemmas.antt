-- A census is written vendor by vendor.
use Rattle.std.proofs.Common.{◌≡◌, ℕ, ◌+◌, ◌<◌, List, ◌++◌, length, take, get_or, refl, sym, ap, ◌∙◌}
use Rattle.std.proofs.lemmas.List.{append-nil}
use Rattle.usbnum_core.specs.declared.number.Number.{Number}
use Rattle.usbnum_core.specs.declared.number.Span.{Span}
use Rattle.registry_rules.specs.declared.record.Entry.{Entry}
use Rattle.registry_reports.specs.Census.{free_count, reserved_count, held_count, returned_count, census_text, census_of, census_lines}
use Rattle.registry_reports.proofs.ListLemmas.{Joins, joins_next}

census_join : (numbers : List (Number × Entry)) → Joins (census_lines numbers)
census_join numbers = record { none = refl; more = λ x xs. ap (λ (l : List ℕ). l ++ census_lines numbers xs) (sym (append-nil (census_of numbers x))) }

pub census_next : (numbers : List (Number × Entry)) (xs : List (ℕ × List Span)) (i : ℕ) (x : ℕ × List Span) (now next : List ℕ) → i < length xs → x ≡ get_or xs i x
    → now ≡ census_lines numbers (take i xs) → next ≡ now ++ census_of numbers x → next ≡ census_lines numbers (take (i + 1) xs)
census_next numbers xs i x now next within is so_far step =
    step ∙ (ap (λ (l : List ℕ). l ++ census_of numbers x) so_far ∙ (ap (λ (l : List ℕ). census_lines numbers (take i xs) ++ l) (sym (append-nil (census_of numbers x))) ∙ sym (joins_next (census_lines numbers) (census_join numbers) xs i x within is)))

pub same_census : (numbers : List (Number × Entry)) (pair : ℕ × List Span) (free reserved held returned : ℕ) → free ≡ free_count numbers pair.1 pair.0 → reserved ≡ reserved_count pair.1 → held ≡ held_count numbers pair.1 pair.0
    → returned ≡ returned_count numbers pair.1 pair.0 → census_text pair.0 free reserved held returned ≡ census_of numbers pair
same_census numbers pair free reserved held returned f r h t = rw (f, r, h, t) refl
