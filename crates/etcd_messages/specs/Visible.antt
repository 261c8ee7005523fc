-- The characters of a token.
use Rattle.std.specs.Prelude.{ℕ, ◌&&◌, nat_le, Bool}

-- a visible character of ASCII
abbrev pub is_visible : ℕ → Bool
is_visible b = nat_le 33 b && nat_le b 126
