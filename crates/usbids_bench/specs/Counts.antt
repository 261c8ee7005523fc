-- The number of entries of each depth in a document.
use Rattle.std.specs.Prelude.{ℕ, ◌-◌, ◌^◌, min, List, length}
use Rattle.std.specs.List.{sum_by}
use Rattle.usbids_text.specs.Entries.{MidEntry, TopEntry}

-- a count, which stays at 2^64 - 1
abbrev pub capped_count : ℕ → ℕ
capped_count n = min n (2 ^ 64 - 1)

abbrev pub leaves_below : List MidEntry → ℕ
leaves_below mids = sum_by (λ (mid : MidEntry). length mid.leaves) mids

abbrev pub mids_in : List TopEntry → ℕ
mids_in tops = sum_by (λ (top : TopEntry). length top.mids) tops

abbrev pub leaves_under : List TopEntry → ℕ
leaves_under tops = sum_by (λ (top : TopEntry). leaves_below top.mids) tops
