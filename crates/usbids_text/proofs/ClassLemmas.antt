-- The entry of a line without a line feed is valid.
use Rattle.std.proofs.Common.{◌≡◌, ℕ, zero, suc, ◌+◌, ◌*◌, ◌^◌, ◌<◌, ◌≤◌, Bool, true, false, List, [], ◌∷◌, length, drop, get_or, Option, Some, None, refl, sym, ap, ◌∙◌, inl, inr, arith, drop-cons}
use Rattle.std.specs.Prelude.{◌&&◌, ◌==◌, not, nat_le, nat_lt, Ok, Err, option_and_then, is_some, position, unwrap_or}
use Rattle.std.specs.List.{list_all}
use Rattle.std.proofs.Math.Seq.{drop-length, drop-nil}
use Rattle.std.proofs.Math.Nat.{mul-le-mul_right, mul_assoc, pow-succ', pow-zero}
use Rattle.std.proofs.lemmas.Bool.{cases_Bool, lt-ltb}
use Rattle.std.proofs.lemmas.Bool.Decides.{nat_tests}
use Rattle.std.proofs.lemmas.List.Quantifiers.{position-Some}
use Rattle.usbnum_core.specs.Number.{hex_value}
use Rattle.usbids_text.specs.declared.line.Why.TheVariants.{BadTop, LineTooLong}
use Rattle.usbids_text.specs.declared.kind.Depth.{Depth}
use Rattle.usbids_text.specs.declared.kind.Depth.TheVariants.{Zero, One, Two}
use Rattle.usbids_text.specs.declared.kind.Kind.TheVariants.{Vendor, Tagged}
use Rattle.usbids_text.specs.Words.{is_separator, is_tail, is_inner, trimmed, before, word, past_separators, after_word, number_from, code_in, is_four, is_tag, is_code, begins_well, ends_well, is_name}
use Rattle.usbids_text.specs.Entries.{EntryLine, is_depth, is_line}
use Rattle.usbids_text.specs.Lines.{short_enough, with_code, below, tagged, top, after_tab, by_tabs, is_comment, line_class}
use Rattle.usbids_text.proofs.EntryLemmas.{both, and_both}

-- bytes without a line feed that end well
record IsPlain (bytes : List ℕ) : Type 0 where
  inner : list_all is_inner bytes ≡ true
  ends : ends_well bytes ≡ true

inner_drop : (n : ℕ) (bytes : List ℕ) → list_all is_inner bytes ≡ true → list_all is_inner (drop n bytes) ≡ true
inner_drop zero bytes e = e
inner_drop (suc n) [] e = ap (list_all is_inner) (drop-nil (suc n)) ∙ e
inner_drop (suc n) (b ∷ bytes) e = inner_drop n bytes (both (is_inner b) (list_all is_inner bytes) e).1

ends_tail : (b : ℕ) (bytes : List ℕ) → ends_well (b ∷ bytes) ≡ true → ends_well bytes ≡ true
unfolding ends_well
ends_tail b [] e = refl
ends_tail b (c ∷ bytes) e = e

ends_drop : (n : ℕ) (bytes : List ℕ) → ends_well bytes ≡ true → ends_well (drop n bytes) ≡ true
ends_drop zero bytes e = e
ends_drop (suc n) [] e = ap ends_well (drop-nil (suc n)) ∙ e
ends_drop (suc n) (b ∷ bytes) e = ends_drop n bytes (ends_tail b bytes e)

plain_drop : (n : ℕ) (bytes : List ℕ) → IsPlain bytes → IsPlain (drop n bytes)
plain_drop n bytes p = record { inner = inner_drop n bytes p.inner; ends = ends_drop n bytes p.ends }

plain_tail : (b : ℕ) (bytes : List ℕ) → IsPlain (b ∷ bytes) → IsPlain bytes
plain_tail b bytes p = record { inner = (both (is_inner b) (list_all is_inner bytes) p.inner).1; ends = ends_tail b bytes p.ends }

plain_after : (bytes : List ℕ) → IsPlain bytes → IsPlain (after_word bytes)
unfolding after_word
plain_after bytes p = plain_drop (before (λ b. not (is_separator b)) (drop (before is_separator bytes) bytes)) (drop (before is_separator bytes) bytes) (plain_drop (before is_separator bytes) bytes p)

inner_trimmed : (bytes : List ℕ) → list_all is_inner bytes ≡ true → list_all is_inner (trimmed bytes) ≡ true
unfolding trimmed
inner_trimmed [] e = refl
inner_trimmed (b ∷ bytes) e = elim (cases_Bool (list_all is_tail (b ∷ bytes))) [
  | inl all ↦ rw all refl
  | inr some ↦ let parts = both (is_inner b) (list_all is_inner bytes) e in rw some (and_both (is_inner b) (list_all is_inner (trimmed bytes)) parts.0 (inner_trimmed bytes parts.1))
]

trimmed_all : (bytes : List ℕ) → list_all is_tail bytes ≡ true → trimmed bytes ≡ []
unfolding trimmed
trimmed_all [] e = refl
trimmed_all (b ∷ bytes) e = rw e refl

pub trimmed_some : (b : ℕ) (bytes : List ℕ) → list_all is_tail (b ∷ bytes) ≡ false → trimmed (b ∷ bytes) ≡ b ∷ trimmed bytes
unfolding trimmed
trimmed_some b bytes e = rw e refl

not_and_left : (a b : Bool) → (a && b) ≡ false → b ≡ true → a ≡ false
not_and_left true b e f = sym f ∙ e
not_and_left false b e f = refl

ends_one : (b : ℕ) → is_tail b ≡ false → ends_well (b ∷ []) ≡ true
unfolding ends_well
ends_one b e = ap not e

ends_more : (b c : ℕ) (bytes : List ℕ) → ends_well (c ∷ bytes) ≡ true → ends_well (b ∷ (c ∷ bytes)) ≡ true
unfolding ends_well
ends_more b c bytes e = e

ends_nil : ends_well [] ≡ true
unfolding ends_well
ends_nil = refl

pub ends_trimmed : (bytes : List ℕ) → ends_well (trimmed bytes) ≡ true
ends_trimmed [] = ap ends_well (trimmed_all [] refl) ∙ ends_nil
ends_trimmed (b ∷ []) = elim (cases_Bool (list_all is_tail (b ∷ []))) [
  | inl all ↦ ap ends_well (trimmed_all (b ∷ []) all) ∙ ends_nil
  | inr some ↦ ap ends_well (trimmed_some b [] some ∙ ap (λ (l : List ℕ). b ∷ l) (trimmed_all [] refl)) ∙ ends_one b (not_and_left (is_tail b) true some refl)
]
ends_trimmed (b ∷ (c ∷ bytes)) = elim (cases_Bool (list_all is_tail (c ∷ bytes))) [
  | inl rest ↦ elim (cases_Bool (list_all is_tail (b ∷ (c ∷ bytes)))) [
    | inl all ↦ ap ends_well (trimmed_all (b ∷ (c ∷ bytes)) all) ∙ ends_nil
    | inr some ↦ ap ends_well (trimmed_some b (c ∷ bytes) some ∙ ap (λ (l : List ℕ). b ∷ l) (trimmed_all (c ∷ bytes) rest)) ∙ ends_one b (not_and_left (is_tail b) (list_all is_tail (c ∷ bytes)) some rest)
  ]
  | inr rest ↦
      let some : list_all is_tail (b ∷ (c ∷ bytes)) ≡ false = rw rest (and_no (is_tail b)) in
      let below : ends_well (c ∷ trimmed bytes) ≡ true = ap ends_well (sym (trimmed_some c bytes rest)) ∙ ends_trimmed (c ∷ bytes) in
      ap ends_well (trimmed_some b (c ∷ bytes) some ∙ ap (λ (l : List ℕ). b ∷ l) (trimmed_some c bytes rest)) ∙ ends_more b c (trimmed bytes) below
]
  where
    and_no : (a : Bool) → (a && false) ≡ false
    and_no true = refl
    and_no false = refl

-- the bytes after separators do not begin with a separator
begins_well_at : (bytes : List ℕ) (i : ℕ) → i < length bytes → not (is_separator (get_or bytes i 0)) ≡ true → begins_well (drop i bytes) ≡ true
begins_well_at bytes i h e = rw (drop-cons bytes i 0 h) e

begins_past : (bytes : List ℕ) (o : Option ℕ) → position (λ b. not (is_separator b)) bytes ≡ o → begins_well (drop (unwrap_or o (length bytes)) bytes) ≡ true
begins_past bytes None e = rw (drop-length bytes) refl
begins_past bytes (Some i) e = let found = position-Some (λ b. not (is_separator b)) bytes i 0 e in begins_well_at bytes i found.0 found.1

begins_after : (bytes : List ℕ) → begins_well (past_separators bytes) ≡ true
unfolding before
begins_after bytes = begins_past bytes (position (λ b. not (is_separator b)) bytes) refl

hex_small : (b d : ℕ) → hex_value b ≡ Some d → d < 16
hex_small b d e = grind (arith, nat_tests)

-- n and the number of further digits bound the value
bound_step : (bytes : List ℕ) (b n c : ℕ) → ((m x : ℕ) → number_from m bytes ≡ Some x → x < (m + 1) * 16 ^ length bytes) → (o : Option ℕ) → hex_value b ≡ o → option_and_then (λ d. number_from (n * 16 + d) bytes) o ≡ Some c → c < (n + 1) * 16 ^ length (b ∷ bytes)
bound_step bytes b n c each None e f = absurd cc
bound_step bytes b n c each (Some d) e f =
    let small = hex_small b d e in
    let p : ℕ = 16 ^ length bytes in
    let below : c < (n * 16 + d + 1) * p = each (n * 16 + d) c f in
    let wide : n * 16 + d + 1 ≤ (n + 1) * 16 = omega arith in
    let more : (n * 16 + d + 1) * p ≤ (n + 1) * 16 * p = mul-le-mul_right p wide in
    let power : 16 ^ length (b ∷ bytes) ≡ 16 * p = pow-succ' 16 (length bytes) in
    let same : (n + 1) * 16 ^ length (b ∷ bytes) ≡ (n + 1) * 16 * p = ap (λ (k : ℕ). (n + 1) * k) power ∙ sym (mul_assoc (n + 1) 16 p) in
    omega arith

number_bound : (bytes : List ℕ) (n c : ℕ) → number_from n bytes ≡ Some c → c < (n + 1) * 16 ^ length bytes
unfolding number_from
number_bound [] n c e = let same : n ≡ c = cc in omega (arith, pow-zero 16)
number_bound (b ∷ bytes) n c e = bound_step bytes b n c (λ m x f. number_bound bytes m x f) (hex_value b) refl e

pub code_fits : (bytes : List ℕ) (c : ℕ) → code_in bytes ≡ Some c → is_code c (length bytes) ≡ true
unfolding code_in
code_fits bytes c e = elim (cases_Bool (nat_le 1 (length bytes) && nat_le (length bytes) 4)) [
  | inl counted ↦
      let spelt : number_from 0 bytes ≡ Some c = sym (rw counted refl) ∙ e in
      let bound = number_bound bytes 0 c spelt in
      let below : nat_lt c (16 ^ length bytes) ≡ true = lt-ltb c (16 ^ length bytes) (omega arith) in
      and_both (nat_le 1 (length bytes) && nat_le (length bytes) 4) (nat_lt c (16 ^ length bytes)) counted below
  | inr other ↦ let none : None ≡ Some c = sym (rw other refl) ∙ e in absurd cc
]

-- the entry that is read from a code and a name
short_entry : (entry_line found : EntryLine) → is_code entry_line.code entry_line.digits ≡ true → list_all is_inner entry_line.name ≡ true → begins_well entry_line.name ≡ true → ends_well entry_line.name ≡ true → is_depth entry_line.depth entry_line.digits ≡ true → short_enough entry_line ≡ Ok (Some found) → is_line found ≡ true
unfolding is_line is_name
short_entry entry_line found code inner begins ends depth e = elim (cases_Bool (nat_le (length entry_line.name) 65000)) [
  | inl short ↦
      let read : Ok (Some entry_line) ≡ Ok (Some found) = sym (rw short refl) ∙ e in
      let same : entry_line ≡ found = cc in
      ap is_line (sym same) ∙ rw (code, short, inner, begins, ends, depth) refl
  | inr long ↦ let read : Err LineTooLong ≡ Ok (Some found) = sym (rw long refl) ∙ e in absurd cc
]

code_entry : (depth : Depth) (bytes : List ℕ) (o : Option ℕ) (found : EntryLine) → IsPlain bytes → is_depth depth (length (word bytes)) ≡ true → code_in (word bytes) ≡ o → with_code depth bytes o ≡ Ok (Some found) → is_line found ≡ true
unfolding after_word
code_entry depth bytes None found plain deep code e = absurd cc
code_entry depth bytes (Some n) found plain deep code e =
    let after = plain_after bytes plain in
    short_entry (record { depth = depth; code = n; digits = length (word bytes); name = after_word bytes }) found (code_fits (word bytes) n code) after.inner (begins_after (drop (before is_separator bytes) bytes)) after.ends deep e

below_entry : (depth : Depth) (bytes : List ℕ) (found : EntryLine) → IsPlain bytes → is_depth depth (length (word bytes)) ≡ true → below depth bytes ≡ Ok (Some found) → is_line found ≡ true
unfolding below
below_entry depth bytes found plain deep e = code_entry depth bytes (code_in (word bytes)) found plain deep refl e

four_long : (bytes : List ℕ) → is_four bytes ≡ true → (length bytes == 4) ≡ true
unfolding is_four
four_long bytes e = (both (length bytes == 4) (is_some (code_in bytes)) e).0

top_line_is : (bytes : List ℕ) (found : EntryLine) → IsPlain bytes → top bytes ≡ Ok (Some found) → is_line found ≡ true
unfolding top tagged
top_line_is bytes found plain e = elim (cases_Bool (is_four (word bytes))) [
  | inl four ↦ below_entry (Zero Vendor) bytes found plain (four_long (word bytes) four) (sym (rw four refl) ∙ e)
  | inr other ↦ elim (cases_Bool (is_tag (word bytes))) [
    | inl tag ↦ below_entry (Zero (Tagged (word bytes))) (after_word bytes) found (plain_after bytes plain) tag (sym (rw (other, tag) refl) ∙ e)
    | inr none ↦ let read : Err BadTop ≡ Ok (Some found) = sym (rw (other, none) refl) ∙ e in absurd cc
  ]
]

after_tab_entry : (bytes : List ℕ) (found : EntryLine) → IsPlain bytes → after_tab bytes ≡ Ok (Some found) → is_line found ≡ true
after_tab_entry [] found plain e = below_entry One [] found plain refl e
after_tab_entry (b ∷ bytes) found plain e = elim (cases_Bool (b == 9)) [
  | inl tab ↦ below_entry Two bytes found (plain_tail b bytes plain) refl (sym (rw tab refl) ∙ e)
  | inr other ↦ below_entry One (b ∷ bytes) found plain refl (sym (rw other refl) ∙ e)
]

by_tabs_entry : (bytes : List ℕ) (found : EntryLine) → IsPlain bytes → by_tabs bytes ≡ Ok (Some found) → is_line found ≡ true
by_tabs_entry [] found plain e = absurd cc
by_tabs_entry (b ∷ bytes) found plain e = elim (cases_Bool (b == 9)) [
  | inl tab ↦ after_tab_entry bytes found (plain_tail b bytes plain) (sym (rw tab refl) ∙ e)
  | inr other ↦ top_line_is (b ∷ bytes) found plain (sym (rw other refl) ∙ e)
]

pub class_entry : (line : List ℕ) (found : EntryLine) → list_all is_inner line ≡ true → line_class line ≡ Ok (Some found) → is_line found ≡ true
unfolding line_class
class_entry line found inner e = elim (cases_Bool (nat_lt 65536 (length line))) [
  | inl long ↦ let read : Err LineTooLong ≡ Ok (Some found) = sym (rw long refl) ∙ e in absurd cc
  | inr short ↦ elim (cases_Bool (is_comment (past_separators (trimmed line)))) [
    | inl comment ↦ let read : Ok None ≡ Ok (Some found) = sym (rw (short, comment) refl) ∙ e in absurd cc
    | inr other ↦ by_tabs_entry (trimmed line) found (record { inner = inner_trimmed line inner; ends = ends_trimmed line }) (sym (rw (short, other) refl) ∙ e)
  ]
]
