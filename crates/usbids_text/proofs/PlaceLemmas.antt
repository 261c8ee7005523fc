-- A search by many bytes at a time finds the first place that passes a test.
use Rattle.std.proofs.Common.{◌≡◌, ℕ, ◌<◌, Bool, true, false, List, length, get_or, Option, Some, None, refl, sym, ap, arith, le_refl}
use Rattle.std.specs.Prelude.{nat_lt, position}
use Rattle.std.specs.List.{position_or_len}
use Rattle.std.proofs.lemmas.Bool.{le-ltb, lt-ltb}
use Rattle.std.proofs.lemmas.List.Sums.{position_or_len_is}
use Rattle.memchr.specs.Find.{IsFirstByte}

fails : (b : Bool) → (b ≡ true → ⊥) → b ≡ false
fails true never = absurd (never refl)
fails false never = refl

pub first_place : (test : ℕ → Bool) (bytes : List ℕ) (o : Option ℕ) → IsFirstByte test bytes o → o ≡ position test bytes
first_place test bytes None h =
    let all : position_or_len test bytes ≡ length bytes = position_or_len_is test bytes (length bytes) 0 (le_refl (length bytes)) (λ k l. fails (test (get_or bytes k 0)) (h k (omega arith) l)) (λ l. absurd (omega arith)) in
    let past : nat_lt (position_or_len test bytes) (length bytes) ≡ false = le-ltb (position_or_len test bytes) (length bytes) (omega arith) in
    rw past refl
first_place test bytes (Some i) h =
    let high : i < length bytes = h.0.high in
    let at : position_or_len test bytes ≡ i = position_or_len_is test bytes i 0 (omega arith) (λ k l. fails (test (get_or bytes k 0)) (h.0.before k (omega arith) l)) (λ l. h.1) in
    let less : nat_lt (position_or_len test bytes) (length bytes) ≡ true = lt-ltb (position_or_len test bytes) (length bytes) (omega arith) in
    rw less (ap Some (sym at))
