-- Stamps as texts.
use Rattle.std.specs.Prelude.{ℕ, ◌+◌, ◌-◌, ◌*◌, ◌&&◌, ◌==◌, nat_le, List, [], ◌∷◌, ◌++◌, Option, Some, None, option_and_then, option_map, if◌then◌else◌}
use Rattle.usbids_text.specs.Moments.{Moment, is_moment}
use Rattle.usbids_text.specs.Writing.{date_text, time_text}

-- yyyy-mm-dd hh:mm:ss
abbrev pub moment_text : Moment → List ℕ
moment_text m = date_text 45 m ++ (32 ∷ time_text m)

-- ---- reading a text; the contract of `stamp_from_text` names none of these

abbrev pub digit_of : ℕ → Option ℕ
digit_of byte = if nat_le 48 byte && nat_le byte 57 then Some (byte - 48) else None

unfoldable pub two_of : ℕ → ℕ → Option ℕ
two_of a b = option_and_then (λ tens. option_map (λ ones. tens * 10 + ones) (digit_of b)) (digit_of a)

unfoldable pub four_of : ℕ → ℕ → ℕ → ℕ → Option ℕ
four_of a b c d = option_and_then (λ high. option_map (λ low. high * 100 + low) (two_of c d)) (two_of a b)

infixl 10 ◌>>=◌
abbrev pub ◌>>=◌ : {A B : Type 0} → Option A → (A → Option B) → Option B
found >>= next = option_and_then next found

abbrev pub sound : Moment → Option Moment
sound m = if is_moment m then Some m else None

-- a moment on this day, at the time in the bytes
unfoldable pub moment_at : ℕ → ℕ → ℕ → List ℕ → Option Moment
moment_at year month day (a ∷ b ∷ colon ∷ c ∷ d ∷ other ∷ e ∷ f ∷ []) =
    if colon == 58 && other == 58 then (do
      hour ← two_of a b
      minute ← two_of c d
      second ← two_of e f
      sound (record { year = year; month = month; day = day; hour = hour; minute = minute; second = second }))
    else None
moment_at year month day _ = None

unfoldable pub moment_of : List ℕ → Option Moment
moment_of (a ∷ b ∷ c ∷ d ∷ dash ∷ e ∷ f ∷ other ∷ g ∷ h ∷ space ∷ time) =
    if dash == 45 && other == 45 && space == 32 then (do
      year ← four_of a b c d
      month ← two_of e f
      day ← two_of g h
      moment_at year month day time)
    else None
moment_of _ = None
