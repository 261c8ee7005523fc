-- The report on the owners is written line by line.
use Rattle.std.proofs.Common.{◌≡◌, ℕ, suc, List, [], ◌∷◌, ◌++◌, Option, Some, None, refl, sym, ap, ◌∙◌, inl, inr, append_assoc}
use Rattle.std.specs.Prelude.{map, is_some, slice_get}
use Rattle.std.specs.List.{list_any}
use Rattle.std.specs.Map.{keys_of}
use Rattle.std.specs.Str.{bytes_eq}
use Rattle.std.specs.Ordering.{nat_cmp}
use Rattle.std.specs.Cmp.Lexicographic.{slice_cmp}
use Rattle.std.specs.BTreeMap.{BTreeMap, IsOrdered, get, is_at}
use Rattle.std.proofs.lemmas.Bool.{cases_Bool}
use Rattle.std.proofs.lemmas.Cmp.{nat_list_cmp_total}
use Rattle.std.proofs.lemmas.Map.Entries.{btree_map_get_place}
use Rattle.std.proofs.lemmas.Map.Made.{is_some-lookup}
use Rattle.std.proofs.lemmas.Map.Text.{is_eq-slice_cmp}
use Rattle.registry_reports.specs.Tallies.{owner_slug, tally_for, tallied}
use Rattle.registry_reports.specs.Holders.{holder_line, tally_lines, holder_lines, IsHolders}
use Rattle.registry_reports.specs.declared.tallies.Tally.{Tally}
use Rattle.registry_reports.proofs.CensusLemmas.{Pair}

same_any : (text : List ℕ) (ks : List (List ℕ)) → list_any (is_at (slice_cmp nat_cmp text)) ks ≡ list_any (bytes_eq text) ks
same_any text [] = refl
same_any text (k ∷ ks) = rw (is_eq-slice_cmp text k) (elim (cases_Bool (bytes_eq text k)) [ inl e ↦ rw e refl | inr e ↦ rw e (same_any text ks) ])

some_tallied : (numbers : List Pair) (slug : List ℕ) → is_some (tallied numbers slug) ≡ list_any (bytes_eq slug) (map owner_slug numbers)
some_tallied numbers slug = elim (cases_Bool (list_any (bytes_eq slug) (map owner_slug numbers))) [ inl e ↦ rw e refl | inr e ↦ rw e refl ]

its_tally : (numbers : List Pair) (slug : List ℕ) (t : Tally) → tallied numbers slug ≡ Some t → t ≡ tally_for numbers slug
its_tally numbers slug t is = elim (cases_Bool (list_any (bytes_eq slug) (map owner_slug numbers))) [
  | inl e ↦ let same : Some (tally_for numbers slug) ≡ Some t = rw e at is in cc
  | inr e ↦ absurd (let none : ◌≡◌ {A = Option Tally} None (Some t) = rw e at is in cc)
]

same_lines : (numbers : List Pair) (es : List (List ℕ × Tally)) → ((i : ℕ) (e : List ℕ × Tally) → slice_get es i ≡ Some e → e.1 ≡ tally_for numbers e.0) → tally_lines es ≡ holder_lines numbers (keys_of es)
same_lines numbers [] each = refl
same_lines numbers (e ∷ es) each =
    ap (λ (t : Tally). holder_line e.0 t ++ tally_lines es) (each 0 e refl) ∙ ap (λ (l : List ℕ). holder_line e.0 (tally_for numbers e.0) ++ l) (same_lines numbers es (λ i x h. each (suc i) x h))

-- the lines of all tallies are the report
pub are_holders : (numbers : List Pair) (m : BTreeMap (List ℕ) Tally) (text : List ℕ) → IsOrdered (slice_cmp nat_cmp) m → ((slug : List ℕ) → get (slice_cmp nat_cmp) m slug ≡ tallied numbers slug) → text ≡ tally_lines m.entries → IsHolders numbers text
are_holders numbers m text up all is = record {
  slugs = keys_of m.entries;
  order = record {
    ascending = up;
    same = λ slug. sym (same_any slug (keys_of m.entries)) ∙ (sym (is_some-lookup (is_at (slice_cmp nat_cmp slug)) m.entries) ∙ (ap is_some (all slug) ∙ some_tallied numbers slug));
  };
  lines = is ∙ same_lines numbers m.entries (λ i e h. its_tally numbers e.0 e.1 (sym (all e.0) ∙ btree_map_get_place nat_list_cmp_total m i e.0 e.1 up h));
}

-- one more line
pub line_next : (es rest : List (List ℕ × Tally)) (slug : List ℕ) (t : Tally) (now next left : List ℕ) → es ≡ (slug, t) ∷ rest → now ++ tally_lines es ≡ left → next ≡ now ++ holder_line slug t → next ++ tally_lines rest ≡ left
line_next es rest slug t now next left is so_far step =
    ap (λ (l : List ℕ). l ++ tally_lines rest) step ∙ (append_assoc now (holder_line slug t) (tally_lines rest) ∙ (ap (λ (l : List (List ℕ × Tally)). now ++ tally_lines l) (sym is) ∙ so_far))
