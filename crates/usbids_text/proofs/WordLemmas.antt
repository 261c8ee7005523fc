-- What is dropped at a line's end, and the value of digits.
use Rattle.std.proofs.Common.{◌≡◌, ℕ, suc, ◌+◌, ◌*◌, ◌-◌, ◌<◌, true, false, List, [], ◌∷◌, ◌++◌, length, take, drop, get_or, Option, Some, refl, sym, ap, ◌∙◌, arith, drop-cons, add-one}
use Rattle.std.specs.Prelude.{not, option_and_then}
use Rattle.std.proofs.Math.Seq.{take-length, take-suc, drop-length}
use Rattle.std.proofs.Math.Bool.{and-true, and-false}
use Rattle.std.proofs.lemmas.List.Folds.{list_all-append}
use Rattle.usbnum_core.specs.Number.{hex_value}
use Rattle.usbids_text.specs.Words.{is_tail, trimmed, number_from, ends_well}

pub trimmed_tail : (xs : List ℕ) (b : ℕ) → is_tail b ≡ true → trimmed (xs ++ b ∷ []) ≡ trimmed xs
unfolding trimmed
trimmed_tail [] b t = rw t refl
trimmed_tail (x ∷ xs) b t = rw (list_all-append is_tail xs (b ∷ []), t, and-true, trimmed_tail xs b t) refl

pub trimmed_kept : (xs : List ℕ) (b : ℕ) → is_tail b ≡ false → trimmed (xs ++ b ∷ []) ≡ xs ++ b ∷ []
unfolding trimmed
trimmed_kept [] b t = rw t refl
trimmed_kept (x ∷ xs) b t = rw (list_all-append is_tail xs (b ∷ []), t, and-false, and-false, trimmed_kept xs b t) refl

-- a nonempty list ends in its last element
pub last_split : (xs : List ℕ) → 0 < length xs → xs ≡ take (length xs - 1) xs ++ get_or xs (length xs - 1) 0 ∷ []
last_split xs h =
    let n : ℕ = length xs - 1 in
    let e : suc n ≡ length xs = omega arith in
    sym (take-length xs) ∙ (ap (λ (k : ℕ). take k xs) (sym e) ∙ take-suc xs n 0 (omega arith))

pub trimmed_step : (xs : List ℕ) → 0 < length xs → is_tail (get_or xs (length xs - 1) 0) ≡ true → trimmed (take (length xs - 1) xs) ≡ trimmed xs
trimmed_step xs h t = sym (trimmed_tail (take (length xs - 1) xs) (get_or xs (length xs - 1) 0) t) ∙ ap trimmed (sym (last_split xs h))

pub trimmed_done : (xs : List ℕ) → 0 < length xs → is_tail (get_or xs (length xs - 1) 0) ≡ false → xs ≡ trimmed xs
trimmed_done xs h t = last_split xs h ∙ (sym (trimmed_kept (take (length xs - 1) xs) (get_or xs (length xs - 1) 0) t) ∙ ap trimmed (sym (last_split xs h)))

pub trimmed_nil : (xs : List ℕ) → length xs < 1 → xs ≡ trimmed xs
unfolding trimmed
trimmed_nil [] h = refl
trimmed_nil (x ∷ xs) h = absurd (omega arith)

-- whether bytes end well depends on the last one
pub ends_well_push : (xs : List ℕ) (b : ℕ) → ends_well (xs ++ b ∷ []) ≡ not (is_tail b)
unfolding ends_well
ends_well_push [] b = refl
ends_well_push (x ∷ []) b = refl
ends_well_push (x ∷ (y ∷ xs)) b = ends_well_push (y ∷ xs) b

pub ends_well_last : (xs : List ℕ) → 0 < length xs → ends_well xs ≡ not (is_tail (get_or xs (length xs - 1) 0))
ends_well_last xs h = ap ends_well (last_split xs h) ∙ ends_well_push (take (length xs - 1) xs) (get_or xs (length xs - 1) 0)

pub ends_well_nil : (xs : List ℕ) → length xs < 1 → ends_well xs ≡ true
unfolding ends_well
ends_well_nil [] h = refl
ends_well_nil (x ∷ xs) h = absurd (omega arith)

pub number_step : (s : List ℕ) (i n : ℕ) → i < length s → number_from n (drop i s) ≡ option_and_then (λ d. number_from (n * 16 + d) (drop (i + 1) s)) (hex_value (get_or s i 0))
unfolding number_from
number_step s i n h = rw (drop-cons s i 0, add-one) refl

pub number_read : (s : List ℕ) (i n : ℕ) (o : Option ℕ) → i < length s → o ≡ hex_value (get_or s i 0) → number_from n (drop i s) ≡ option_and_then (λ d. number_from (n * 16 + d) (drop (i + 1) s)) o
number_read s i n o h e = number_step s i n h ∙ ap (λ (q : Option ℕ). option_and_then (λ d. number_from (n * 16 + d) (drop (i + 1) s)) q) (sym e)

pub number_end : (s : List ℕ) (i n : ℕ) → i ≡ length s → number_from n (drop i s) ≡ Some n
unfolding number_from
number_end s i n e = rw (e, drop-length s) refl
