-- Product IDs and vendor IDs, and their four digits.
use Rattle.std.specs.Prelude.{ℕ, ◌+◌, ◌-◌, ◌*◌, ◌/◌, ◌%◌, ◌≤◌, List, [], ◌∷◌, ◌++◌, codes, Option, Some, None, option_and_then, nat_lt, nat_le, nat_eq, ◌&&◌, if◌then◌else◌}

-- a number from 1 to 65,535
pub record IsId (n : ℕ) : Type 0 where
  pub above : 1 ≤ n
  pub within : n ≤ 65535

-- the value of a hexadecimal digit of either case
abbrev pub hex_value : ℕ → Option ℕ
hex_value byte =
    if nat_le 48 byte && nat_le byte 57 then Some (byte - 48)
    else if nat_le 97 byte && nat_le byte 102 then Some (byte - 87)
    else if nat_le 65 byte && nat_le byte 70 then Some (byte - 55)
    else None

-- the second step on the value of the first, or None
infixl 10 ◌>>=◌
abbrev pub ◌>>=◌ : {A B : Type 0} → Option A → (A → Option B) → Option B
o >>= f = option_and_then f o

-- the value of a text of exactly four hexadecimal digits
abbrev pub code_of : List ℕ → Option ℕ
code_of (a ∷ b ∷ c ∷ d ∷ []) = do
  first ← hex_value a
  second ← hex_value b
  third ← hex_value c
  fourth ← hex_value d
  Some (first * 4096 + second * 256 + third * 16 + fourth)
code_of _ = None

-- the same, but None for 0000
abbrev pub number_of : List ℕ → Option ℕ
number_of text = do
  code ← code_of text
  if nat_eq code 0 then None else Some code

-- the hexadecimal digit of a value: 0 to 9, then a to f
abbrev pub lower_hex_digit : ℕ → ℕ
lower_hex_digit value = if nat_lt value 10 then 48 + value else 87 + value

-- the four lower-case hexadecimal digits of a number
abbrev pub digits_of : ℕ → List ℕ
digits_of n = lower_hex_digit (n / 4096) ∷ lower_hex_digit (n / 256 % 16) ∷ lower_hex_digit (n / 16 % 16) ∷ lower_hex_digit (n % 16) ∷ []

-- the digits of two numbers, with a hyphen between them
abbrev pub range_text : ℕ → ℕ → List ℕ
range_text first last = digits_of first ++ codes "-" ++ digits_of last
