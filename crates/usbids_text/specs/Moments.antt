-- A date and a time of day. Every month has 31 days.
use Rattle.std.specs.Prelude.{ℕ, nat_le, ◌&&◌, Bool}

pub record Moment : Type 0 where
  pub year : ℕ
  pub month : ℕ
  pub day : ℕ
  pub hour : ℕ
  pub minute : ℕ
  pub second : ℕ

-- years 0 to 9999, months 1 to 12, days 1 to 31, hours 0 to 23, minutes and seconds 0 to 59
abbrev pub is_moment : Moment → Bool
is_moment m = nat_le m.year 9999 && nat_le 1 m.month && nat_le m.month 12 && nat_le 1 m.day && nat_le m.day 31 && nat_le m.hour 23 && nat_le m.minute 59 && nat_le m.second 59
