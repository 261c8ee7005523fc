-- The text of a SHA-256 digest has 64 hexadecimal digits in lower case.
use Rattle.std.proofs.Common.{◌≡◌, ℕ, zero, suc, ◌+◌, ◌*◌, ◌/◌, ◌%◌, ◌<◌, Bool, true, false, ◌&&◌, ◌||◌, nat_le, List, [], ◌∷◌, length, slice_index, refl, arith, inl, inr}
use Rattle.std.specs.Prelude.{All}
use Rattle.std.proofs.lemmas.Bool.{and_parts, cases_lt}
use Rattle.std.proofs.lemmas.Bool.Decides.{nat_tests}
use Rattle.std.proofs.lemmas.List.Elements.{All-nil, All-cons}
use Rattle.hex.specs.Hex.{IsBytes, encode_lower, encode_with, lower_digits}
use Rattle.hex.proofs.HexLemmas.{length-encode_with}
use Rattle.usbnum_core.specs.Text.{IsDigest, IsDigestByte}

abbrev is_low_digit : ℕ → Bool
is_low_digit byte = (nat_le 48 byte && nat_le byte 57) || (nat_le 97 byte && nat_le byte 102)

-- the first n digits of the table are
abbrev all_low : ℕ → Bool
all_low zero = true
all_low (suc n) = is_low_digit (slice_index lower_digits n) && all_low n

low_at : (n k : ℕ) → all_low n ≡ true → k < n → is_low_digit (slice_index lower_digits k) ≡ true
low_at zero k all lt = absurd (omega arith)
low_at (suc n) k all lt =
    let parts = and_parts (is_low_digit (slice_index lower_digits n)) (all_low n) all in
    elim (cases_lt k n) [
      | inl below ↦ low_at n k parts.1 below
      | inr top ↦
          let e : k ≡ n = omega arith in
          rw e parts.0
    ]

digest_byte : (byte : ℕ) → is_low_digit byte ≡ true → IsDigestByte byte
digest_byte byte e = elim (cases_lt byte 97) [
  | inl below ↦ inl (grind (arith, nat_tests), grind (arith, nat_tests))
  | inr above ↦ inr (omega (arith, above), grind (arith, nat_tests))
]

digit : (value : ℕ) → value < 16 → IsDigestByte (slice_index lower_digits value)
digit value small = digest_byte (slice_index lower_digits value) (low_at 16 value refl small)

each_digit : (bytes : List ℕ) → IsBytes bytes → All IsDigestByte (encode_with lower_digits bytes)
unfolding encode_with
each_digit [] fits = All-nil IsDigestByte
each_digit (b ∷ rest) fits =
    let byte : b < 256 = fits 0 in
    All-cons IsDigestByte (slice_index lower_digits (b / 16)) (slice_index lower_digits (b % 16) ∷ encode_with lower_digits rest) (digit (b / 16) (omega arith))
    (All-cons IsDigestByte (slice_index lower_digits (b % 16)) (encode_with lower_digits rest) (digit (b % 16) (omega arith)) (each_digit rest (λ i. fits (suc i))))

pub is_digest : (bytes : List ℕ) → length bytes ≡ 32 → IsBytes bytes → IsDigest (encode_lower bytes)
is_digest bytes size fits = record { size = let double = length-encode_with lower_digits bytes in omega (arith, double, size); each = each_digit bytes fits }
