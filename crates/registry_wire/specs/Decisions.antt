-- Decides whether a text is of a kind.
use Rattle.std.proofs.Common.{◌≡◌, ◌≢◌, ℕ, ◌-◌, ◌≤◌, Bool, true, false, List, [], ◌∷◌, length, ◌⊎◌, inl, inr, Option, Some, None, refl, ap, codes}
use Rattle.std.specs.Prelude.{All, slice_get, nat_eq}
use Rattle.std.specs.List.{starts_with}
use Rattle.std.specs.Str.{IsUtf8, is_utf8}
use Rattle.std.proofs.Math.Decide.{dec_le, map_dec, ℕ_discrete}
use Rattle.std.proofs.lemmas.List.Elements.{All-nil, All-cons, All-head, All-tail}
use Rattle.std.proofs.lemmas.Str.{IsUtf8-from_is_utf8, is_utf8-from_IsUtf8}
use Rattle.usbnum_core.specs.Text.{IsWithin, IsSlugByte, IsKeyByte, IsTitleByte, IsDigestByte, IsSlug, IsKey, IsTitle, IsLink, IsDigest, IsTime, follows, two_at}

both : {A B : Type 0} → Dec A → Dec B → Dec (A × B)
both (yes a) (yes b) = yes (a, b)
both (no not_a) _ = no (λ h. not_a h.0)
both (yes a) (no not_b) = no (λ h. not_b h.1)

neither : {A B : Type 0} → ¬ A → ¬ B → A ⊎ B → ⊥
neither not_a not_b (inl a) = not_a a
neither not_a not_b (inr b) = not_b b

either : {A B : Type 0} → Dec A → Dec B → Dec (A ⊎ B)
either (yes a) _ = yes (inl a)
either (no not_a) (yes b) = yes (inr b)
either (no not_a) (no not_b) = no (neither not_a not_b)

other : {A : Type 0} → Dec A → Dec (¬ A)
other (yes a) = no (λ h. h a)
other (no not_a) = yes not_a

is_true : (b : Bool) → Dec (b ≡ true)
is_true true = yes refl
is_true false = no (λ e. absurd cc)

each : (P : ℕ → Type 0) → ((byte : ℕ) → Dec (P byte)) → (text : List ℕ) → Dec (All P text)
each P decided [] = yes (All-nil P)
each P decided (byte ∷ text) = map_dec (λ h. All-cons P byte text h.0 h.1) (λ h. (All-head P byte text h, All-tail P byte text h)) (both (decided byte) (each P decided text))

utf8 : (text : List ℕ) → Dec (IsUtf8 text)
utf8 text = map_dec (IsUtf8-from_is_utf8 text) (is_utf8-from_IsUtf8 text) (is_true (is_utf8 text))

-- whether there is a byte and it equals this one
is_byte : (found : Option ℕ) (byte : ℕ) → Dec (found ≡ Some byte)
is_byte None byte = no (λ e. absurd cc)
is_byte (Some x) byte = map_dec (λ e. ap (λ (y : ℕ). Some y) e) (λ e. cc) (ℕ_discrete x byte)

within : (low high byte : ℕ) → Dec (IsWithin low high byte)
within low high byte = both (dec_le low byte) (dec_le byte high)

slug_byte : (byte : ℕ) → Dec (IsSlugByte byte)
slug_byte byte = either (within 97 122 byte) (either (within 48 57 byte) (ℕ_discrete byte 45))

key_byte : (byte : ℕ) → Dec (IsKeyByte byte)
key_byte byte = either (within 65 90 byte) (either (slug_byte byte) (ℕ_discrete byte 95))

title_byte : (byte : ℕ) → Dec (IsTitleByte byte)
title_byte byte = both (dec_le 32 byte) (other (ℕ_discrete byte 127))

digest_byte : (byte : ℕ) → Dec (IsDigestByte byte)
digest_byte byte = either (within 48 57 byte) (within 97 102 byte)

sized : (most : ℕ) (text : List ℕ) → Dec ((1 ≤ length text) × (length text ≤ most))
sized most text = both (dec_le 1 (length text)) (dec_le (length text) most)

pub slug_or_not : (text : List ℕ) → Dec (IsSlug text)
slug_or_not text = map_dec
    (λ h. record { filled = h.0.0; short = h.0.1; each = h.1 })
    (λ h. ((h.filled, h.short), h.each))
    (both (sized 32 text) (each IsSlugByte slug_byte text))

pub key_or_not : (text : List ℕ) → Dec (IsKey text)
key_or_not text = map_dec
    (λ h. record { filled = h.0.0; short = h.0.1; each = h.1 })
    (λ h. ((h.filled, h.short), h.each))
    (both (sized 64 text) (each IsKeyByte key_byte text))

trimmed : (text : List ℕ) → Dec ((slice_get text 0 ≢ Some 32) × (slice_get text (length text - 1) ≢ Some 32))
trimmed text = both (other (is_byte (slice_get text 0) 32)) (other (is_byte (slice_get text (length text - 1)) 32))

pub title_or_not : (text : List ℕ) → Dec (IsTitle text)
title_or_not text = map_dec
    (λ h. record { filled = h.0.0.0; short = h.0.0.1; utf8 = h.0.1; each = h.1.0; begins = h.1.1.0; ends = h.1.1.1 })
    (λ h. (((h.filled, h.short), h.utf8), (h.each, (h.begins, h.ends))))
    (both (both (sized 200 text) (utf8 text)) (both (each IsTitleByte title_byte text) (trimmed text)))

in_range : (text : List ℕ) → Dec ((two_at 11 text ≤ 23) × ((two_at 14 text ≤ 59) × (two_at 17 text ≤ 59)))
in_range text = both (dec_le (two_at 11 text) 23) (both (dec_le (two_at 14 text) 59) (dec_le (two_at 17 text) 59))

pub time_or_not : (text : List ℕ) → Dec (IsTime text)
time_or_not text = map_dec
    (λ h. record { form = h.0; month = h.1.0; day = h.1.1.0; hour = h.1.1.1.0; minute = h.1.1.1.1.0; second = h.1.1.1.1.1 })
    (λ h. (h.form, (h.month, (h.day, (h.hour, (h.minute, h.second))))))
    (both (is_true (follows (codes "0000-00-00T00:00:00Z") text)) (both (within 1 12 (two_at 5 text)) (both (within 1 31 (two_at 8 text)) (in_range text))))

pub digest_or_not : (text : List ℕ) → Dec (IsDigest text)
digest_or_not text = map_dec (λ h. record { size = h.0; each = h.1 }) (λ h. (h.size, h.each)) (both (ℕ_discrete (length text) 64) (each IsDigestByte digest_byte text))

begins_with : (text start : List ℕ) → Dec (starts_with nat_eq text start ≡ true)
begins_with text start = is_true (starts_with nat_eq text start)

pub link_or_not : (text : List ℕ) → Dec (IsLink text)
link_or_not text = map_dec
    (λ h. record { filled = h.0.0; short = h.0.1; each = h.1.0; scheme = h.1.1 })
    (λ h. ((h.filled, h.short), (h.each, h.scheme)))
    (both (sized 400 text) (both (each (IsWithin 33 126) (within 33 126) text) (either (begins_with text (codes "http://")) (begins_with text (codes "https://")))))
