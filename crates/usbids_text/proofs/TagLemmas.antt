-- A tag is ASCII text.
use Rattle.std.proofs.Common.{◌≡◌, ℕ, zero, suc, ◌<◌, true, List, [], ◌∷◌, length, get_or, arith}
use Rattle.std.specs.Prelude.{◌&&◌, nat_le, not}
use Rattle.std.specs.List.{list_all}
use Rattle.std.specs.Str.{IsUtf8}
use Rattle.std.proofs.lemmas.Bool.{leb-true}
use Rattle.std.proofs.lemmas.Str.{IsUtf8-from_ascii}
use Rattle.usbids_text.specs.Words.{is_upper, is_four, is_tag}
use Rattle.usbids_text.proofs.EntryLemmas.{both}

upper_low : (bytes : List ℕ) (i : ℕ) → list_all is_upper bytes ≡ true → get_or bytes i 0 < 128
upper_low [] i e = omega arith
upper_low (b ∷ bytes) zero e =
    let p = both (is_upper b) (list_all is_upper bytes) e in
    let q = leb-true b 90 (both (nat_le 65 b) (nat_le b 90) p.0).1 in omega arith
upper_low (b ∷ bytes) (suc i) e = upper_low bytes i (both (is_upper b) (list_all is_upper bytes) e).1

pub tag_utf8 : (bytes : List ℕ) → is_tag bytes ≡ true → IsUtf8 bytes
unfolding is_tag
tag_utf8 bytes e =
    let a = both (nat_le 1 (length bytes) && nat_le (length bytes) 8 && list_all is_upper bytes) (not (is_four bytes)) e in
    let c = both (nat_le 1 (length bytes) && nat_le (length bytes) 8) (list_all is_upper bytes) a.0 in
    IsUtf8-from_ascii bytes (λ i. upper_low bytes i c.1)
