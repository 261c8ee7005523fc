-- Each text is UTF-8, so it can be kept as a string.
use Rattle.std.proofs.Common.{◌≡◌, ℕ, zero, suc, ◌<◌, List, [], ◌∷◌, Bool, true, false, nat_eq, nat_le, length, get_or, arith, ⊎_elim, refl}
use Rattle.std.specs.Prelude.{codes, if◌then◌else◌, ◌&&◌}
use Rattle.std.specs.List.{list_any}
use Rattle.std.proofs.lemmas.Bool.{and_parts, or_parts}
use Rattle.std.proofs.lemmas.Bool.Decides.{nat_tests}
use Rattle.std.proofs.lemmas.Str.{IsUtf8-from_ascii}
use Rattle.std.proofs.lemmas.List.{get_or_past}
use Rattle.std.proofs.lemmas.Bool.{cases_lt}
use Rattle.std.specs.Str.{IsUtf8}
use Rattle.usbnum_core.specs.Text.{IsSlug, IsSlugByte, IsKey, IsKeyByte, IsLink, IsDigest, IsDigestByte, IsTime, IsWithin, follows_byte, follows}

-- bytes below 128 are UTF-8
pub low_is_utf8 : (text : List ℕ) → ((i : ℕ) → i < length text → get_or text i 0 < 128) → IsUtf8 text
low_is_utf8 text low = IsUtf8-from_ascii text (λ i. ⊎_elim (λ h. low i h) (λ h. rw (get_or_past text i 0 h) (omega arith)) (cases_lt i (length text)))

slug_byte_low : (byte : ℕ) → IsSlugByte byte → byte < 128
slug_byte_low byte valid = omega (arith, valid)

key_byte_low : (byte : ℕ) → IsKeyByte byte → byte < 128
key_byte_low byte valid = omega (arith, valid)

pub slug_is_utf8 : (text : List ℕ) → IsSlug text → IsUtf8 text
slug_is_utf8 text valid = low_is_utf8 text (λ i h. slug_byte_low _ (valid.each i 0 h))

pub key_is_utf8 : (text : List ℕ) → IsKey text → IsUtf8 text
key_is_utf8 text valid = low_is_utf8 text (λ i h. key_byte_low _ (valid.each i 0 h))

pub link_is_utf8 : (text : List ℕ) → IsLink text → IsUtf8 text
link_is_utf8 text valid = low_is_utf8 text (λ i h. let low : IsWithin 33 126 (get_or text i 0) = valid.each i 0 h in omega arith)

digest_byte_low : (byte : ℕ) → IsDigestByte byte → byte < 128
digest_byte_low byte valid = omega (arith, valid)

pub digest_is_utf8 : (text : List ℕ) → IsDigest text → IsUtf8 text
digest_is_utf8 text valid = low_is_utf8 text (λ i h. digest_byte_low _ (valid.each i 0 h))

follows_low : (wanted byte : ℕ) → wanted < 128 → follows_byte wanted byte ≡ true → byte < 128
follows_low wanted byte low e = grind (arith, nat_tests)

form_low : (form text : List ℕ) → list_any (λ byte. nat_le 128 byte) form ≡ false → follows form text ≡ true → (i : ℕ) → i < length text → get_or text i 0 < 128
form_low [] [] low e i lt = absurd (omega (arith, lt))
form_low [] (byte ∷ text) low e i lt = absurd cc
form_low (wanted ∷ form) [] low e i lt = absurd cc
form_low (wanted ∷ form) (byte ∷ text) low e zero lt =
    let first = (or_parts (nat_le 128 wanted) (list_any (λ b. nat_le 128 b) form) low).0 in
    follows_low wanted byte (grind (arith, nat_tests)) (and_parts (follows_byte wanted byte) (follows form text) e).0
form_low (wanted ∷ form) (byte ∷ text) low e (suc i) lt =
    form_low form text (or_parts (nat_le 128 wanted) (list_any (λ b. nat_le 128 b) form) low).1 (and_parts (follows_byte wanted byte) (follows form text) e).1 i (omega (arith, lt))

pub time_is_utf8 : (text : List ℕ) → IsTime text → IsUtf8 text
time_is_utf8 text valid = low_is_utf8 text (form_low (codes "0000-00-00T00:00:00Z") text refl valid.form)
