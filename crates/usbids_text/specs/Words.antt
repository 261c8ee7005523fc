-- The parts of a line: its words, codes, tags and names, as bytes.
use Rattle.std.specs.Prelude.{◌≡◌, ◌≤◌, ℕ, ◌+◌, ◌*◌, ◌^◌, ◌&&◌, ◌||◌, ◌==◌, nat_le, nat_lt, not, List, [], ◌∷◌, length, take, drop, position, Bool, true, Option, Some, None, option_and_then, is_some, unwrap_or, if◌then◌else◌}
use Rattle.std.specs.List.{list_all}
use Rattle.usbnum_core.specs.Number.{hex_value}

-- a space or a tab
abbrev pub is_separator : ℕ → Bool
is_separator b = b == 32 || b == 9

-- a byte that is dropped at a line's end: a separator or a carriage return
abbrev pub is_tail : ℕ → Bool
is_tail b = is_separator b || b == 13

-- not a line feed
abbrev pub is_inner : ℕ → Bool
is_inner b = not (b == 10)

-- the bytes without separators and carriage returns at the end
unfoldable pub trimmed : List ℕ → List ℕ
trimmed [] = []
trimmed (b ∷ bytes) = if list_all is_tail (b ∷ bytes) then [] else b ∷ trimmed bytes

-- the number of bytes before the first that passes the test
unfoldable pub before : (ℕ → Bool) → List ℕ → ℕ
before test bytes = unwrap_or (position test bytes) (length bytes)

-- the bytes up to the first separator
unfoldable pub word : List ℕ → List ℕ
word bytes = take (before is_separator bytes) bytes

-- the bytes from the first that is not a separator
abbrev pub past_separators : List ℕ → List ℕ
past_separators bytes = drop (before (λ b. not (is_separator b)) bytes) bytes

-- the bytes after the first word and the separators that follow it
unfoldable pub after_word : List ℕ → List ℕ
after_word bytes = past_separators (drop (before is_separator bytes) bytes)

-- the value of hexadecimal digits of either case that follow the digits of n
unfoldable pub number_from : ℕ → List ℕ → Option ℕ
number_from n [] = Some n
number_from n (b ∷ bytes) = option_and_then (λ d. number_from (n * 16 + d) bytes) (hex_value b)

-- the value of one to four hexadecimal digits
unfoldable pub code_in : List ℕ → Option ℕ
code_in bytes = if nat_le 1 (length bytes) && nat_le (length bytes) 4 then number_from 0 bytes else None

-- four hexadecimal digits
unfoldable pub is_four : List ℕ → Bool
is_four bytes = length bytes == 4 && is_some (code_in bytes)

-- a word ends before these bytes
abbrev pub ends_word : List ℕ → Bool
ends_word [] = true
ends_word (b ∷ bytes) = is_separator b

-- the first word is four digits of this value, and separators may follow them
pub record HasFour (bytes : List ℕ) (code : ℕ) : Type 0 where
  pub long : 4 ≤ length bytes
  pub digits : length (word bytes) ≡ 4
  pub value : code_in (word bytes) ≡ Some code
  pub after : after_word bytes ≡ past_separators (drop 4 bytes)

-- A to Z
abbrev pub is_upper : ℕ → Bool
is_upper b = nat_le 65 b && nat_le b 90

-- one to eight letters A to Z that are not four hexadecimal digits
unfoldable pub is_tag : List ℕ → Bool
is_tag bytes = nat_le 1 (length bytes) && nat_le (length bytes) 8 && list_all is_upper bytes && not (is_four bytes)

-- one to four digits, and the code fits them
abbrev pub is_code : ℕ → ℕ → Bool
is_code code digits = nat_le 1 digits && nat_le digits 4 && nat_lt code (16 ^ digits)

-- the first byte, if there is one, is not a separator
abbrev pub begins_well : List ℕ → Bool
begins_well [] = true
begins_well (b ∷ bytes) = not (is_separator b)

-- the last byte, if there is one, is neither a separator nor a carriage return
unfoldable pub ends_well : List ℕ → Bool
ends_well [] = true
ends_well (b ∷ []) = not (is_tail b)
ends_well (b ∷ (c ∷ bytes)) = ends_well (c ∷ bytes)

-- at most 65,000 bytes without a line feed that begin and end well
unfoldable pub is_name : List ℕ → Bool
is_name bytes = nat_le (length bytes) 65000 && list_all is_inner bytes && begins_well bytes && ends_well bytes
