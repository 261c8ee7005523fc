-- The maximal spans of reserved numbers as rows.
use Rattle.std.proofs.Common.{◌≡◌, ◌<◌, ◌≤◌, ◌+◌, ℕ, ◌<ℤ◌, inl, inr, Bool, true, false, ◌&&◌, ◌||◌, nat_eq, List, [], ◌∷◌, ◌++◌, map, fold, refl, ap, ap₂, ◌∙◌, arith}
use Rattle.std.specs.List.{AllByRecursion, list_any}
use Rattle.std.proofs.lemmas.Int.{ints}
use Rattle.std.proofs.lemmas.List.Folds.{list_any-append}
use Rattle.sqlite.specs.declared.types.Value.TheVariants.{Int}
use Rattle.sqlite_trees.specs.Tree.{IsAscending}
use Rattle.sqlite_keyed.specs.Keyed.{IsKeyedBy, insert_by}
use Rattle.usbnum_core.specs.Number.{IsId}
use Rattle.usbnum_core.specs.Spans.{span_has, spans_have, IsSpread}
use Rattle.usbnum_core.specs.declared.number.Number.{Number}
use Rattle.usbnum_core.specs.declared.number.Span.{Span}
use Rattle.table_laws.proofs.CopyLemmas.{in_order}
use Rattle.registry_rows.proofs.KeyLemmas.{turned}
use Rattle.registry_old_rows.specs.Old.{old_span_key, is_listed}
use Rattle.registry_tables.specs.Rows.{vendor_span_has, AreApart}

spread_lower : (start : ℕ) (parts : List Span) → IsSpread start parts → (bound : ℕ) → bound ≤ start → AllByRecursion (λ (s : Span). bound ≤ s.first) parts
spread_lower start [] h bound le = tt
spread_lower start (s ∷ rest) h bound le =
    let own = s.ordered in
    let a : start ≤ s.first = h.0 in
    (omega (arith, a, le), spread_lower (s.last + 2) rest h.2 bound (omega (arith, a, le, own)))

module _ (vid : ℕ) where
  abbrev pub owned : Span → ℕ × Span
  owned s = (vid, s)

  apart_all : (s : Span) (rest : List Span) → AllByRecursion (λ (r : Span). s.last + 2 ≤ r.first) rest → AllByRecursion (AreApart (owned s)) (map owned rest)
  apart_all s [] all = tt
  apart_all s (r ∷ rs) all = (inr (inl (let far = all.0 in omega (arith, far))), apart_all s rs all.1)

  below_all : (s : Span) (rest : List Span) → AllByRecursion (λ (r : Span). s.last + 2 ≤ r.first) rest → AllByRecursion (λ r. old_span_key (owned s) <ℤ old_span_key r) (map owned rest)
  below_all s [] all = tt
  below_all s (r ∷ rs) all = (let far = all.0 in let own = s.ordered in let less : s.first < r.first = omega (arith, far, own) in grind (arith, ints, less), below_all s rs all.1)

  -- maximal spans are apart
  pub spread_apart : (start : ℕ) (parts : List Span) → IsSpread start parts → IsAscending AreApart (map owned parts)
  spread_apart start [] h = tt
  spread_apart start (s ∷ rest) h = (apart_all s rest (spread_lower (s.last + 2) rest h.2 (s.last + 2) (omega arith)), spread_apart (s.last + 2) rest h.2)

  -- and are in the order of their keys
  pub spread_keyed : (start : ℕ) (parts : List Span) → IsSpread start parts → IsKeyedBy old_span_key (map owned parts)
  spread_keyed start [] h = tt
  spread_keyed start (s ∷ rest) h = (below_all s rest (spread_lower (s.last + 2) rest h.2 (s.last + 2) (omega arith)), spread_keyed (s.last + 2) rest h.2)

  and_or : (a x y : Bool) → ((a && x) || (a && y)) ≡ (a && (x || y))
  and_or true x y = refl
  and_or false x y = refl

  no_and : (a : Bool) → false ≡ (a && false)
  no_and true = refl
  no_and false = refl

  -- a number is in one of the spans if it is of the vendor and in the set
  pub owned_have : (n : Number) (parts : List Span) → list_any (vendor_span_has n) (map owned parts) ≡ (nat_eq vid n.vid && spans_have parts n.pid)
  owned_have n [] = no_and (nat_eq vid n.vid)
  owned_have n (s ∷ rest) = ap (λ b. (nat_eq vid n.vid && span_has s n.pid) || b) (owned_have n rest) ∙ and_or (nat_eq vid n.vid) (span_has s n.pid) (spans_have rest n.pid)

  pub owned_listed : (n : Number) (parts : List Span) (numbers : List ℕ) → spans_have parts n.pid ≡ list_any (nat_eq n.pid) numbers → list_any (vendor_span_has n) (map owned parts) ≡ is_listed vid numbers n
  owned_listed n parts numbers same = owned_have n parts ∙ ap₂ ◌&&◌ (turned vid n.vid) same

pub one_more : (f : ℕ → Bool) (ns : List ℕ) (p : ℕ) → list_any f (ns ++ p ∷ []) ≡ (list_any f ns || f p)
one_more f ns p = list_any-append f ns (p ∷ []) ∙ ap (λ b. list_any f ns || b) (last (f p))
  where
    last : (b : Bool) → (b || false) ≡ b
    last true = refl
    last false = refl

-- one more span
pub put_more : (vid : ℕ) (parts : List Span) (one : Span) (had : List (ℕ × Span))
    → fold (insert_by old_span_key) had (map (owned vid) (parts ++ one ∷ [])) ≡ insert_by old_span_key (fold (insert_by old_span_key) had (map (owned vid) parts)) (vid, one)
put_more vid [] one had = refl
put_more vid (s ∷ rest) one had = put_more vid rest one (insert_by old_span_key had (vid, s))

-- spans in the order of their keys fill an empty table in that order
pub put_all_spans : (vid start : ℕ) (parts : List Span) → IsSpread start parts → fold (insert_by old_span_key) [] (map (owned vid) parts) ≡ map (owned vid) parts
put_all_spans vid start parts h = in_order old_span_key (λ s. Int (old_span_key s) ∷ []) (λ _. refl) (map (owned vid) parts) (spread_keyed vid start parts h)

-- some vendor ID
pub one_id : IsId 1
one_id = record { above = omega arith; within = omega arith }
