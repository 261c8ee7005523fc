-- The first word is four digits if four digits stand before a separator or the end.
use Rattle.std.proofs.Common.{◌≡◌, ℕ, ◌+◌, ◌*◌, ◌<◌, ◌≤◌, suc, true, false, List, [], ◌∷◌, ◌++◌, length, take, drop, Option, Some, None, refl, sym, ap, subst, ◌∙◌, inl, inr, arith, take-append-drop, length-take-le}
use Rattle.std.specs.Prelude.{◌==◌, not, option_and_then, is_some, IfSome}
use Rattle.std.specs.List.{list_all, position_or_len}
use Rattle.std.proofs.lemmas.Bool.{cases_Bool, eqb-true}
use Rattle.std.proofs.lemmas.Bool.Decides.{nat_tests}
use Rattle.usbnum_core.specs.Number.{hex_value}
use Rattle.usbids_text.specs.Words.{is_separator, before, word, past_separators, after_word, number_from, code_in, is_four, ends_word, HasFour}
use Rattle.usbids_text.specs.Lines.{short_enough, below}
use Rattle.usbids_text.specs.declared.kind.Depth.{Depth}
use Rattle.usbids_text.proofs.EntryLemmas.{both, and_both}
use Rattle.usbids_text.proofs.CodeLemmas.{is_solid, StopsWord, count_le, before_count, word_is, after_is}

digit_solid : (b d : ℕ) → hex_value b ≡ Some d → is_separator b ≡ false
digit_solid b d e = grind (arith, nat_tests)

number_step : (bytes : List ℕ) (b n v : ℕ) → ((m x : ℕ) → number_from m bytes ≡ Some x → list_all is_solid bytes ≡ true) → (o : Option ℕ) → hex_value b ≡ o → option_and_then (λ d. number_from (n * 16 + d) bytes) o ≡ Some v → list_all is_solid (b ∷ bytes) ≡ true
number_step bytes b n v each None e f = absurd cc
number_step bytes b n v each (Some d) e f = and_both (is_solid b) (list_all is_solid bytes) (ap not (digit_solid b d e)) (each (n * 16 + d) v f)

-- digits are no separators
number_solid : (bytes : List ℕ) (n v : ℕ) → number_from n bytes ≡ Some v → list_all is_solid bytes ≡ true
unfolding number_from
number_solid [] n v e = refl
number_solid (b ∷ bytes) n v e = number_step bytes b n v (λ m x f. number_solid bytes m x f) (hex_value b) refl e

stops : (bytes : List ℕ) → ends_word bytes ≡ true → StopsWord bytes
stops [] e = tt
stops (b ∷ bytes) e = e

-- the first word ends
word_ends : (bytes : List ℕ) → ends_word (drop (position_or_len is_separator bytes) bytes) ≡ true
word_ends [] = refl
word_ends (b ∷ bytes) = elim (cases_Bool (is_separator b)) [
  | inl e ↦ let here : position_or_len is_separator (b ∷ bytes) ≡ 0 = rw e refl in subst (λ (k : ℕ). ends_word (drop k (b ∷ bytes)) ≡ true) (sym here) e
  | inr e ↦
      let later : position_or_len is_separator (b ∷ bytes) ≡ suc (position_or_len is_separator bytes) = rw e (omega arith) in
      subst (λ (k : ℕ). ends_word (drop k (b ∷ bytes)) ≡ true) (sym later) (word_ends bytes)
]

code_of_four : (bytes : List ℕ) → length bytes ≡ 4 → code_in bytes ≡ number_from 0 bytes
unfolding code_in
code_of_four bytes e = rw e refl

four_is : (bytes : List ℕ) (code : ℕ) → length bytes ≡ 4 → code_in bytes ≡ Some code → is_four bytes ≡ true
unfolding is_four
four_is bytes code e f = rw (e, f) refl

-- what is known if the first word is four digits
record Word (bytes : List ℕ) : Type 0 where
  count : position_or_len is_separator bytes ≡ 4
  long : 4 ≤ length bytes
  is : word bytes ≡ take 4 bytes
  some : is_some (code_in (word bytes)) ≡ true

four_word : (bytes : List ℕ) → is_four (word bytes) ≡ true → Word bytes
unfolding is_four word
four_word bytes e =
    let n : ℕ = position_or_len is_separator bytes in
    let parts = both (length (word bytes) == 4) (is_some (code_in (word bytes))) e in
    let four : length (word bytes) ≡ 4 = eqb-true (length (word bytes)) 4 parts.0 in
    let same : before is_separator bytes ≡ n = before_count is_separator bytes in
    let most : n ≤ length bytes = count_le is_separator bytes in
    let cut : word bytes ≡ take n bytes = ap (λ (k : ℕ). take k bytes) same in
    let long : length (take n bytes) ≡ n = length-take-le n bytes most in
    let count : n ≡ 4 = sym long ∙ (sym (ap length cut) ∙ four) in
    record { count = count; long = omega arith; is = cut ∙ ap (λ (k : ℕ). take k bytes) count; some = parts.1 }

pub four_short : (bytes : List ℕ) → length bytes < 4 → false ≡ is_four (word bytes)
four_short bytes h = elim (cases_Bool (is_four (word bytes))) [
  | inl e ↦ let w = four_word bytes e in absurd (omega (arith, w.long))
  | inr e ↦ sym e
]

pub four_longer : (bytes : List ℕ) → ends_word (drop 4 bytes) ≡ false → false ≡ is_four (word bytes)
four_longer bytes h = elim (cases_Bool (is_four (word bytes))) [
  | inl e ↦
      let w = four_word bytes e in
      let ends : ends_word (drop 4 bytes) ≡ true = ap (λ (k : ℕ). ends_word (drop k bytes)) (sym w.count) ∙ word_ends bytes in
      absurd cc
  | inr e ↦ sym e
]

four_code : (bytes : List ℕ) (v : ℕ) → 4 ≤ length bytes → ends_word (drop 4 bytes) ≡ true → number_from 0 (take 4 bytes) ≡ Some v → HasFour bytes v
four_code bytes v h ends e =
    let solid = number_solid (take 4 bytes) 0 v e in
    let whole : take 4 bytes ++ drop 4 bytes ≡ bytes = take-append-drop 4 bytes in
    let is : word bytes ≡ take 4 bytes = ap word (sym whole) ∙ word_is (take 4 bytes) (drop 4 bytes) solid (stops (drop 4 bytes) ends) in
    let four : length (take 4 bytes) ≡ 4 = length-take-le 4 bytes h in
    record {
      long = h;
      digits = ap length is ∙ four;
      value = ap code_in is ∙ (code_of_four (take 4 bytes) four ∙ e);
      after = ap after_word (sym whole) ∙ after_is (take 4 bytes) (drop 4 bytes) solid (stops (drop 4 bytes) ends);
    }

pub four_some : (bytes : List ℕ) (o : Option ℕ) → 4 ≤ length bytes → ends_word (drop 4 bytes) ≡ true → o ≡ number_from 0 (take 4 bytes) → IfSome o (HasFour bytes)
four_some bytes None h ends e = tt
four_some bytes (Some v) h ends e = four_code bytes v h ends (sym e)

pub four_same : (bytes : List ℕ) (o : Option ℕ) → 4 ≤ length bytes → ends_word (drop 4 bytes) ≡ true → o ≡ number_from 0 (take 4 bytes) → is_some o ≡ is_four (word bytes)
four_same bytes (Some v) h ends e = let f = four_code bytes v h ends (sym e) in sym (four_is (word bytes) v f.digits f.value)
four_same bytes None h ends e = elim (cases_Bool (is_four (word bytes))) [
  | inl four ↦
      let w = four_word bytes four in
      let none : code_in (word bytes) ≡ None = ap code_in w.is ∙ (code_of_four (take 4 bytes) (length-take-le 4 bytes h) ∙ sym e) in
      let differ : false ≡ true = ap is_some (sym none) ∙ w.some in
      absurd cc
  | inr other ↦ sym other
]

-- the class of a line that begins with four digits
pub four_entry : (depth : Depth) (bytes : List ℕ) (code : ℕ) (name : List ℕ) → HasFour bytes code → name ≡ past_separators (drop 4 bytes) → below depth bytes ≡ short_enough (record { depth = depth; code = code; digits = 4; name = name })
unfolding below
four_entry depth bytes code name h e = let same : name ≡ after_word bytes = e ∙ sym h.after in rw (h.value, h.digits, same) refl
