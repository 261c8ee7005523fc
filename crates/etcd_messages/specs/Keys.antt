-- The keys of a log's lines in etcd, and keys and lines as base64.
use Rattle.std.specs.Prelude.{ℕ, ◌+◌, ◌/◌, ◌%◌, List, [], ◌∷◌, ◌++◌, Option}
use Rattle.base64.specs.Engines.{standard}
use Rattle.base64.specs.GeneralPurpose.{encode_of, decoded_of}

-- the digit of a number at this power of ten
abbrev pub digit_at_power : ℕ → ℕ → ℕ
digit_at_power power n = 48 + n / power % 10

-- the last ten decimal digits of a number
unfoldable pub ten_digits : ℕ → List ℕ
ten_digits n =
    digit_at_power 1000000000 n ∷ digit_at_power 100000000 n ∷ digit_at_power 10000000 n ∷ digit_at_power 1000000 n ∷ digit_at_power 100000 n
    ∷ digit_at_power 10000 n ∷ digit_at_power 1000 n ∷ digit_at_power 100 n ∷ digit_at_power 10 n ∷ digit_at_power 1 n ∷ []

-- the key of a line: the name of its log, a slash, and its number in ten digits
unfoldable pub line_key : List ℕ → ℕ → List ℕ
line_key name n = name ++ 47 ∷ ten_digits n

-- the first key behind those of all lines: a colon comes after the digits
unfoldable pub end_of : List ℕ → List ℕ
end_of name = name ++ 47 ∷ 58 ∷ []

-- bytes as base64, in which JSON has keys and lines
unfoldable pub in_base64 : List ℕ → List ℕ
in_base64 bytes = encode_of standard bytes

-- the bytes of a text in base64
unfoldable pub from_base64 : List ℕ → Option (List ℕ)
from_base64 text = decoded_of standard text

-- the key of a line as base64
abbrev pub key_text : List ℕ → ℕ → List ℕ
key_text name n = in_base64 (line_key name n)

abbrev pub end_text : List ℕ → List ℕ
end_text name = in_base64 (end_of name)
