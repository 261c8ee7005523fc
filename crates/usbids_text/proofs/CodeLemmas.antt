-- The words of a line; a code's digits are read as that code.
use Rattle.std.proofs.Common.{◌≡◌, ℕ, suc, ◌+◌, ◌*◌, ◌/◌, ◌%◌, ◌^◌, ◌<◌, ◌≤◌, Bool, true, false, List, [], ◌∷◌, ◌++◌, length, take, drop, Option, Some, refl, sym, ap, subst, ◌∙◌, inl, inr, arith}
use Rattle.std.specs.Prelude.{◌&&◌, ◌==◌, not, nat_le, nat_lt, option_and_then}
use Rattle.std.specs.List.{list_all, position_or_len}
use Rattle.std.proofs.Math.Seq.{take-append_seam, drop-append_seam}
use Rattle.std.proofs.lemmas.Bool.{cases_Bool, cases_lt, leb-true, ltb-true, ltb-false}
use Rattle.std.proofs.lemmas.Bool.Decides.{nat_tests}
use Rattle.usbnum_core.specs.Number.{hex_value, lower_hex_digit}
use Rattle.usbids_text.specs.Words.{is_separator, is_tail, is_inner, before, word, past_separators, after_word, number_from, code_in, is_code, begins_well, ends_well}
use Rattle.usbids_text.specs.Writing.{code_text, gap}
use Rattle.usbids_text.proofs.EntryLemmas.{both, and_both}

-- words and separators

abbrev pub is_solid : ℕ → Bool
is_solid b = not (is_separator b)

abbrev pub StopsWord : List ℕ → Type 0
StopsWord [] = Unit {0}
StopsWord (b ∷ bytes) = is_separator b ≡ true

pub not-true : (b : Bool) → not b ≡ true → b ≡ false
not-true true e = absurd cc
not-true false e = refl

pub count_le : (test : ℕ → Bool) (xs : List ℕ) → position_or_len test xs ≤ length xs
count_le test [] = omega arith
count_le test (b ∷ xs) = let rest = count_le test xs in elim (cases_Bool (test b)) [ inl e ↦ rw e (omega arith) | inr e ↦ rw e (omega arith) ]

pub before_count : (test : ℕ → Bool) (xs : List ℕ) → before test xs ≡ position_or_len test xs
unfolding before
before_count test xs = elim (cases_Bool (nat_lt (position_or_len test xs) (length xs))) [
  | inl less ↦ rw less refl
  | inr more ↦ let low = ltb-false (position_or_len test xs) (length xs) more in let high = count_le test xs in rw more (omega arith)
]

count_word : (a b : List ℕ) → list_all is_solid a ≡ true → StopsWord b → position_or_len is_separator (a ++ b) ≡ length a
count_word [] [] p s = refl
count_word [] (b ∷ bytes) p s = rw s refl
count_word (x ∷ a) b p s =
    let parts = both (is_solid x) (list_all is_solid a) p in
    let other : is_separator x ≡ false = not-true (is_separator x) parts.0 in
    let rest = count_word a b parts.1 s in
    rw other (omega arith)

before_word : (a b : List ℕ) → list_all is_solid a ≡ true → StopsWord b → before is_separator (a ++ b) ≡ length a
before_word a b p s = before_count is_separator (a ++ b) ∙ count_word a b p s

pub word_is : (a b : List ℕ) → list_all is_solid a ≡ true → StopsWord b → word (a ++ b) ≡ a
unfolding word
word_is a b p s = ap (λ (n : ℕ). take n (a ++ b)) (before_word a b p s) ∙ take-append_seam a b

pub after_is : (a b : List ℕ) → list_all is_solid a ≡ true → StopsWord b → after_word (a ++ b) ≡ past_separators b
unfolding after_word
after_is a b p s = ap (λ (l : List ℕ). past_separators l) (ap (λ (n : ℕ). drop n (a ++ b)) (before_word a b p s) ∙ drop-append_seam a b)

pub past_solid : (b : ℕ) (bytes : List ℕ) → is_separator b ≡ false → past_separators (b ∷ bytes) ≡ b ∷ bytes
past_solid b bytes e =
    let none : before (λ x. not (is_separator x)) (b ∷ bytes) ≡ 0 = before_count (λ x. not (is_separator x)) (b ∷ bytes) ∙ rw e refl in
    ap (λ (n : ℕ). drop n (b ∷ bytes)) none

pub past_one : (b : ℕ) (bytes : List ℕ) → is_separator b ≡ true → past_separators (b ∷ bytes) ≡ past_separators bytes
past_one b bytes e =
    let n : ℕ = position_or_len (λ x. not (is_separator x)) bytes in
    let more : position_or_len (λ x. not (is_separator x)) (b ∷ bytes) ≡ suc n = rw e (omega arith) in
    ap (λ (k : ℕ). drop k (b ∷ bytes)) (before_count (λ x. not (is_separator x)) (b ∷ bytes) ∙ more) ∙ ap (λ (k : ℕ). drop k bytes) (sym (before_count (λ x. not (is_separator x)) bytes))

past_nil : past_separators [] ≡ []
unfolding before
past_nil = refl

pub gap_past : (name : List ℕ) → begins_well name ≡ true → past_separators (gap name ++ name) ≡ name
gap_past [] h = past_nil
gap_past (b ∷ bytes) h = past_one 32 (32 ∷ b ∷ bytes) refl ∙ (past_one 32 (b ∷ bytes) refl ∙ past_solid b bytes (not-true (is_separator b) h))

pub gap_stops : (name : List ℕ) → StopsWord (gap name ++ name)
gap_stops [] = tt
gap_stops (b ∷ bytes) = refl

-- codes

abbrev pub text_of : List ℕ → List ℕ
text_of [] = []
text_of (v ∷ vs) = lower_hex_digit v ∷ text_of vs

abbrev pub AreDigits : List ℕ → Type 0
AreDigits [] = Unit {0}
AreDigits (v ∷ vs) = (v < 16) × AreDigits vs

abbrev pub value_of : ℕ → List ℕ → ℕ
value_of n [] = n
value_of n (v ∷ vs) = value_of (n * 16 + v) vs

hex_reads : (v : ℕ) → v < 16 → hex_value (lower_hex_digit v) ≡ Some v
hex_reads v small = grind (arith, nat_tests)

pub hex_solid : (v : ℕ) → v < 16 → is_separator (lower_hex_digit v) ≡ false
hex_solid v small = grind (arith, nat_tests)

hex_kept : (v : ℕ) → v < 16 → is_tail (lower_hex_digit v) ≡ false
hex_kept v small = grind (arith, nat_tests)

hex_inner : (v : ℕ) → v < 16 → (lower_hex_digit v == 10) ≡ false
hex_inner v small = grind (arith, nat_tests)

pub hex_plain : (v : ℕ) → v < 16 → (lower_hex_digit v == 35) ≡ false
hex_plain v small = grind (arith, nat_tests)

pub hex_tab : (v : ℕ) → v < 16 → (lower_hex_digit v == 9) ≡ false
hex_tab v small = grind (arith, nat_tests)

number_of_text : (vs : List ℕ) (n : ℕ) → AreDigits vs → number_from n (text_of vs) ≡ Some (value_of n vs)
unfolding number_from
number_of_text [] n d = refl
number_of_text (v ∷ vs) n d = ap (λ (o : Option ℕ). option_and_then (λ x. number_from (n * 16 + x) (text_of vs)) o) (hex_reads v d.0) ∙ number_of_text vs (n * 16 + v) d.1

pub solid_text : (vs : List ℕ) → AreDigits vs → list_all is_solid (text_of vs) ≡ true
solid_text [] d = refl
solid_text (v ∷ vs) d = and_both (is_solid (lower_hex_digit v)) (list_all is_solid (text_of vs)) (ap not (hex_solid v d.0)) (solid_text vs d.1)

pub inner_text : (vs : List ℕ) → AreDigits vs → list_all is_inner (text_of vs) ≡ true
inner_text [] d = refl
inner_text (v ∷ vs) d = and_both (is_inner (lower_hex_digit v)) (list_all is_inner (text_of vs)) (ap not (hex_inner v d.0)) (inner_text vs d.1)

pub ends_text : (v : ℕ) (vs : List ℕ) → v < 16 → AreDigits vs → ends_well (text_of (v ∷ vs)) ≡ true
unfolding ends_well
ends_text v [] small d = ap not (hex_kept v small)
ends_text v (w ∷ vs) small d = ends_text w vs d.0 d.1

pub length_text : (vs : List ℕ) → length (text_of vs) ≡ length vs
length_text [] = refl
length_text (v ∷ vs) = let rest = length_text vs in omega arith

-- a code's text is made of digits, and its value is the code
pub record IsSpelt (digits code : ℕ) : Type 0 where
  pub first : ℕ
  pub others : List ℕ
  pub small : first < 16
  pub each : AreDigits others
  pub text : code_text digits code ≡ text_of (first ∷ others)
  pub counts : length (first ∷ others) ≡ digits
  pub value : value_of 0 (first ∷ others) ≡ code

spelt_4 : (code : ℕ) → code < 65536 → IsSpelt 4 code
unfolding code_text
spelt_4 code h = record { first = code / 4096; others = (code / 256 % 16) ∷ (code / 16 % 16) ∷ (code % 16) ∷ []; small = omega arith; each = (omega arith, (omega arith, (omega arith, tt))); text = refl; counts = refl; value = omega arith }

spelt_3 : (code : ℕ) → code < 4096 → IsSpelt 3 code
unfolding code_text
spelt_3 code h = record { first = code / 256 % 16; others = (code / 16 % 16) ∷ (code % 16) ∷ []; small = omega arith; each = (omega arith, (omega arith, tt)); text = refl; counts = refl; value = omega arith }

spelt_2 : (code : ℕ) → code < 256 → IsSpelt 2 code
unfolding code_text
spelt_2 code h = record { first = code / 16 % 16; others = (code % 16) ∷ []; small = omega arith; each = (omega arith, tt); text = refl; counts = refl; value = omega arith }

spelt_1 : (code : ℕ) → code < 16 → IsSpelt 1 code
unfolding code_text
spelt_1 code h = record { first = code % 16; others = []; small = omega arith; each = tt; text = refl; counts = refl; value = omega arith }

spelt_at : (k digits code : ℕ) → digits ≡ k → code < 16 ^ digits → (code < 16 ^ k → IsSpelt k code) → IsSpelt digits code
spelt_at k digits code e below make = subst (λ (n : ℕ). IsSpelt n code) (sym e) (make (subst (λ (n : ℕ). code < 16 ^ n) e below))

pub spelt : (digits code : ℕ) → is_code code digits ≡ true → IsSpelt digits code
spelt digits code e =
    let parts = both (nat_le 1 digits && nat_le digits 4) (nat_lt code (16 ^ digits)) e in
    let counts = both (nat_le 1 digits) (nat_le digits 4) parts.0 in
    let some = leb-true 1 digits counts.0 in
    let few = leb-true digits 4 counts.1 in
    let below = ltb-true code (16 ^ digits) parts.1 in
    elim (cases_lt digits 2) [
      | inl one ↦ spelt_at 1 digits code (omega arith) below (λ h. spelt_1 code h)
      | inr more ↦ elim (cases_lt digits 3) [
        | inl two ↦ spelt_at 2 digits code (omega arith) below (λ h. spelt_2 code h)
        | inr three ↦ elim (cases_lt digits 4) [
          | inl third ↦ spelt_at 3 digits code (omega arith) below (λ h. spelt_3 code h)
          | inr four ↦ spelt_at 4 digits code (omega arith) below (λ h. spelt_4 code h)
        ]
      ]
    ]

pub code_reads_back : (digits code : ℕ) → is_code code digits ≡ true → IsSpelt digits code → code_in (code_text digits code) ≡ Some code
unfolding code_in
code_reads_back digits code e s =
    let long : length (code_text digits code) ≡ digits = ap length s.text ∙ (length_text (s.first ∷ s.others) ∙ s.counts) in
    let counted : (nat_le 1 (length (code_text digits code)) && nat_le (length (code_text digits code)) 4) ≡ true =
    ap (λ (n : ℕ). nat_le 1 n && nat_le n 4) long ∙ (both (nat_le 1 digits && nat_le digits 4) (nat_lt code (16 ^ digits)) e).0 in
    rw counted (ap (λ (l : List ℕ). number_from 0 l) s.text ∙ (number_of_text (s.first ∷ s.others) 0 (s.small, s.each) ∙ ap (λ (n : ℕ). Some n) s.value))
