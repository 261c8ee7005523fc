-- The digits of a number are read back as that number.
use Rattle.std.proofs.Common.{◌≡◌, ℕ, ◌+◌, ◌*◌, ◌/◌, ◌%◌, ◌<◌, Some, arith}
use Rattle.std.proofs.lemmas.Bool.Decides.{nat_tests}
use Rattle.usbnum_core.specs.Number.{IsId, hex_value, lower_hex_digit, number_of, digits_of}

-- a digit has the value that it was written for
digit_reads : (value : ℕ) → value < 16 → hex_value (lower_hex_digit value) ≡ Some value
digit_reads value small = grind (arith, nat_tests)

pub digits_read : (n : ℕ) → IsId n → number_of (digits_of n) ≡ Some n
digits_read n valid =
    let a : n / 4096 < 16 = omega arith in
    let b : n / 256 % 16 < 16 = omega arith in
    let c : n / 16 % 16 < 16 = omega arith in
    let d : n % 16 < 16 = omega arith in
    let sum : n / 4096 * 4096 + n / 256 % 16 * 256 + n / 16 % 16 * 16 + n % 16 ≡ n = omega arith in
    rw (digit_reads (n / 4096) a, digit_reads (n / 256 % 16) b, digit_reads (n / 16 % 16) c, digit_reads (n % 16) d) (grind (arith, nat_tests))
