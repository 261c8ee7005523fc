-- The lines of a text have no line feed.
use Rattle.std.proofs.Common.{◌≡◌, ℕ, ◌<◌, ◌≤◌, zero, suc, true, false, List, [], ◌∷◌, ◌++◌, length, take, get_or, Option, Some, None, refl, sym, ap, ◌∙◌, inl, inr, arith}
use Rattle.std.specs.Prelude.{◌==◌, not, position, IfSome, IsTrue}
use Rattle.std.specs.List.{list_all}
use Rattle.std.proofs.lemmas.Bool.{cases_Bool}
use Rattle.std.proofs.lemmas.List.Folds.{list_all-append}
use Rattle.std.proofs.lemmas.List.Quantifiers.{position-Some}
use Rattle.usbids_text.specs.Words.{is_inner}
use Rattle.usbids_text.specs.Cut.{cut, prefixed, lines, with_rest}
use Rattle.usbids_text.proofs.EntryLemmas.{and_both}

-- no line has a line feed
abbrev pub AreInner : List (List ℕ) → Type 0
AreInner [] = Unit {0}
AreInner (l ∷ ls) = (list_all is_inner l ≡ true) × AreInner ls

pub are_inner_push : (ls : List (List ℕ)) (l : List ℕ) → AreInner ls → list_all is_inner l ≡ true → AreInner (ls ++ l ∷ [])
are_inner_push [] l h e = (e, tt)
are_inner_push (x ∷ ls) l h e = (h.0, are_inner_push ls l h.1 e)

pub are_inner_front : (a b : List (List ℕ)) → AreInner (a ++ b) → AreInner a
are_inner_front [] b h = tt
are_inner_front (x ∷ a) b h = (h.0, are_inner_front a b h.1)

-- the lines before a place are among the lines
pub are_inner_before : (ls before after : List (List ℕ)) → ls ≡ before ++ after → AreInner ls → AreInner before
are_inner_before ls before after e h = are_inner_front before after (rw (← e) h)

prefixed_inner : (b : ℕ) (ls : List (List ℕ)) (rest : List ℕ) → is_inner b ≡ true → AreInner ls → list_all is_inner rest ≡ true → AreInner (prefixed (b ∷ []) ls rest).0 × (list_all is_inner (prefixed (b ∷ []) ls rest).1 ≡ true)
prefixed_inner b [] rest e h r = (tt, and_both (is_inner b) (list_all is_inner rest) e r)
prefixed_inner b (l ∷ ls) rest e h r = ((and_both (is_inner b) (list_all is_inner l) e h.0, h.1), r)

abbrev pub Pieces : Type 0
Pieces = List (List ℕ) × List ℕ

abbrev HasInner : Pieces → Type 0
HasInner c = AreInner c.0 × (list_all is_inner c.1 ≡ true)

pub cut_inner : (t : List ℕ) → AreInner (cut t).0 × (list_all is_inner (cut t).1 ≡ true)
unfolding cut
cut_inner [] = (tt, refl)
cut_inner (b ∷ t) =
    let rest = cut_inner t in
    elim (cases_Bool (b == 10)) [
      | inl lf ↦ rw lf ((refl, rest.0), rest.1)
      | inr other ↦ rw other (prefixed_inner b (cut t).0 (cut t).1 (ap not other) rest.0 rest.1)
    ]

pub with_rest_inner : (ls : List (List ℕ)) (rest : List ℕ) → AreInner ls → list_all is_inner rest ≡ true → AreInner (with_rest ls rest)
with_rest_inner ls [] h e = h
with_rest_inner ls (b ∷ t) h e = are_inner_push ls (b ∷ t) h e

pub lines_inner : (t : List ℕ) → AreInner (lines t)
unfolding lines
lines_inner t = let c = cut_inner t in with_rest_inner (cut t).0 (cut t).1 c.0 c.1

-- the bytes before the first line feed have none
inner_take : (xs : List ℕ) (i : ℕ) → i ≤ length xs → ((k : ℕ) → k < i → (get_or xs k 0 == 10) ≡ false) → list_all is_inner (take i xs) ≡ true
inner_take xs zero h each = refl
inner_take [] (suc i) h each = absurd (omega arith)
inner_take (x ∷ xs) (suc i) h each = and_both (is_inner x) (list_all is_inner (take i xs)) (ap not (each 0 (omega arith))) (inner_take xs i (omega arith) (λ k l. each (suc k) (omega arith)))

pub inner_before : (bytes : List ℕ) (i : ℕ) → position (λ b. b == 10) bytes ≡ Some i → list_all is_inner (take i bytes) ≡ true
inner_before bytes i e = let found = position-Some (λ b. b == 10) bytes i 0 e in inner_take bytes i (omega (arith, found.0)) found.2

pub inner_some : (bytes : List ℕ) (o : Option ℕ) → o ≡ position (λ b. b == 10) bytes → IfSome o (λ i. IsTrue (list_all is_inner (take i bytes)))
inner_some bytes None e = tt
inner_some bytes (Some i) e = inner_before bytes i (sym e)

pub inner_append : (a b : List ℕ) → list_all is_inner a ≡ true → list_all is_inner b ≡ true → list_all is_inner (a ++ b) ≡ true
inner_append a b p q = list_all-append is_inner a b ∙ and_both (list_all is_inner a) (list_all is_inner b) p q
