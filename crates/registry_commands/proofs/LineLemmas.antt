-- The first line of an input, and the requests read so far.
use Rattle.std.proofs.Common.{suc, ◌≡◌, ℕ, ◌+◌, ◌-◌, ◌<◌, Bool, true, false, List, [], ◌∷◌, ◌++◌, length, take, drop, Some, None, refl, sym, ap, subst, ◌∙◌, arith, append_assoc, length-drop}
use Rattle.std.specs.Prelude.{Result, Ok, Err, cond, not, ◌==◌, nat_lt, position}
use Rattle.std.specs.List.{position_or_len}
use Rattle.std.proofs.lemmas.Bool.{ltb-true, lt-ltb}
use Rattle.std.proofs.lemmas.List.{append-nil, take_all}
use Rattle.registry_rules.specs.declared.order.Request.{Request}
use Rattle.registry_wire.specs.declared.refusal.WireRefusal.{WireRefusal}
use Rattle.registry_wire.specs.Reading.{line_reading}
use Rattle.registry_commands.specs.declared.lines.BadLine.{BadLine}
use Rattle.registry_commands.specs.Lines.{in_front, is_blank, lines_of, requests_from, with_request}

-- the index of the first line feed
abbrev pub feed : List ℕ → ℕ
feed bytes = position_or_len (λ b. b == 10) bytes

feed_is_less : (b : ℕ) (bytes : List ℕ) (t : Bool) → cond (not t) (1 + feed bytes) 0 < length (b ∷ bytes)
    → (feed bytes < length bytes → lines_of bytes ≡ take (feed bytes) bytes ∷ lines_of (drop (feed bytes + 1) bytes))
    → cond t ([] ∷ lines_of bytes) (in_front b (lines_of bytes))
    ≡ take (cond (not t) (1 + feed bytes) 0) (b ∷ bytes) ∷ lines_of (drop (cond (not t) (1 + feed bytes) 0 + 1) (b ∷ bytes))
feed_is_less b bytes true h below = refl
feed_is_less b bytes false h below =
    let n = feed bytes in
    let past : 1 + n + 1 ≡ suc (n + 1) = omega arith in
    let next : 1 + n ≡ suc n = omega arith in
    rw (past, next, below (omega arith)) refl

pub lines_at : (bytes : List ℕ) → feed bytes < length bytes → lines_of bytes ≡ take (feed bytes) bytes ∷ lines_of (drop (feed bytes + 1) bytes)
unfolding lines_of
lines_at [] h = absurd (omega arith)
lines_at (b ∷ bytes) h = feed_is_less b bytes (b == 10) h (lines_at bytes)

no_feed : (b : ℕ) (bytes : List ℕ) (t : Bool) → ¬ (cond (not t) (1 + feed bytes) 0 < length (b ∷ bytes))
    → in_front b (lines_of bytes) ≡ (b ∷ bytes) ∷ []
    → cond t ([] ∷ lines_of bytes) (in_front b (lines_of bytes)) ≡ (b ∷ bytes) ∷ []
no_feed b bytes true h below = absurd (h (omega arith))
no_feed b bytes false h below = below

pub one_line : (bytes : List ℕ) → ¬ (feed bytes < length bytes) → 0 < length bytes → lines_of bytes ≡ bytes ∷ []
unfolding lines_of
one_line [] h some = absurd (omega arith)
one_line (b ∷ []) h some = no_feed b [] (b == 10) h refl
one_line (b ∷ c ∷ bytes) h some = no_feed b (c ∷ bytes) (b == 10) h
    (rw (one_line (c ∷ bytes) (λ k. h (later (b == 10) k)) (omega arith)) refl)
  where
    later : (t : Bool) → feed (c ∷ bytes) < length (c ∷ bytes) → cond (not t) (1 + feed (c ∷ bytes)) 0 < length (b ∷ c ∷ bytes)
    later true k = omega arith
    later false k = omega arith

-- the first line ends before the first line feed
pub first_found : (bytes : List ℕ) (end : ℕ) → Some end ≡ position (λ b. b == 10) bytes
    → (end < length bytes) × (lines_of bytes ≡ take end bytes ∷ lines_of (drop (end + 1) bytes))
first_found bytes end found = go (nat_lt (feed bytes) (length bytes)) refl found
  where
    go : (t : Bool) → nat_lt (feed bytes) (length bytes) ≡ t → Some end ≡ cond t (Some (feed bytes)) None
        → (end < length bytes) × (lines_of bytes ≡ take end bytes ∷ lines_of (drop (end + 1) bytes))
    go true e is =
        let same : end ≡ feed bytes = cc in
        let below = ltb-true _ _ e in
        (omega arith, rw same (lines_at bytes below))
    go false e is = absurd cc

-- without a line feed all bytes are one line
pub first_none : (bytes : List ℕ) → None ≡ position (λ b. b == 10) bytes → 0 < length bytes → lines_of bytes ≡ bytes ∷ lines_of []
unfolding lines_of
first_none bytes found some = one_line bytes (λ h. absurd (go (lt-ltb _ _ h))) some
  where
    go : nat_lt (feed bytes) (length bytes) ≡ true → ⊥
    go e = let bad : None ≡ Some (feed bytes) = rw e at found in absurd cc

-- the index of the first line feed is where it is
pub feed_at : (bytes : List ℕ) (end : ℕ) → Some end ≡ position (λ b. b == 10) bytes → (end < length bytes) × (end ≡ feed bytes)
feed_at bytes end found = go (nat_lt (feed bytes) (length bytes)) refl found
  where
    go : (t : Bool) → nat_lt (feed bytes) (length bytes) ≡ t → Some end ≡ cond t (Some (feed bytes)) None → (end < length bytes) × (end ≡ feed bytes)
    go true e is = let same : end ≡ feed bytes = cc in let below = ltb-true _ _ e in (omega arith, same)
    go false e is = absurd cc

pub feed_not : (bytes : List ℕ) → None ≡ position (λ b. b == 10) bytes → ¬ (feed bytes < length bytes)
feed_not bytes found h = absurd (go (lt-ltb _ _ h))
  where
    go : nat_lt (feed bytes) (length bytes) ≡ true → ⊥
    go e = let bad : None ≡ Some (feed bytes) = rw e at found in absurd cc

-- a slice up to the end has the remaining bytes
pub suffix : (i : ℕ) (bytes : List ℕ) → take (length bytes - i) (drop i bytes) ≡ drop i bytes
suffix i bytes = take_all (length bytes - i) (drop i bytes) (omega (arith, length-drop i bytes))

-- the requests that were read, then those of the rest, or its bad line
abbrev pub with_front : List Request → Result (List Request) BadLine → Result (List Request) BadLine
with_front front (Ok rest) = Ok (front ++ rest)
with_front front (Err bad) = Err bad

pub front_nil : (rest : Result (List Request) BadLine) → with_front [] rest ≡ rest
front_nil (Ok rest) = refl
front_nil (Err bad) = refl

blank_line : (n : ℕ) (line : List ℕ) (lines : List (List ℕ)) → is_blank line ≡ true → requests_from n (line ∷ lines) ≡ requests_from (n + 1) lines
unfolding requests_from
blank_line n line lines blank = rw blank refl

good_line : (front : List Request) (n : ℕ) (line : List ℕ) (lines : List (List ℕ)) (r : Request) → is_blank line ≡ false → line_reading line ≡ Ok r
    → with_front front (requests_from n (line ∷ lines)) ≡ with_front (front ++ r ∷ []) (requests_from (n + 1) lines)
unfolding requests_from
good_line front n line lines r filled read = rw (filled, read) (go (requests_from (n + 1) lines))
  where
    go : (rest : Result (List Request) BadLine) → with_front front (with_request (Ok r) rest) ≡ with_front (front ++ r ∷ []) rest
    go (Ok rest) = ap Ok (sym (append_assoc front (r ∷ []) rest))
    go (Err bad) = refl

bad_line : (n : ℕ) (line : List ℕ) (lines : List (List ℕ)) (refusal : WireRefusal) → is_blank line ≡ false → line_reading line ≡ Err refusal
    → requests_from n (line ∷ lines) ≡ Err (record { number = n; refusal = refusal })
unfolding requests_from
bad_line n line lines refusal filled read = rw (filled, read) refl

-- the requests read so far, as part of the result for all lines
module _ (all : Result (List Request) BadLine) (front : List Request) (n : ℕ) (rest : List ℕ) (ahead : with_front front (requests_from n (lines_of rest)) ≡ all) where
  module _ (line after : List ℕ) (lines : lines_of rest ≡ line ∷ lines_of after) where
    abbrev then : with_front front (requests_from n (line ∷ lines_of after)) ≡ all
    then = ap (λ (ls : List (List ℕ)). with_front front (requests_from n ls)) (sym lines) ∙ ahead

    pub after_blank : is_blank line ≡ true → with_front front (requests_from (n + 1) (lines_of after)) ≡ all
    after_blank blank = ap (with_front front) (sym (blank_line n line (lines_of after) blank)) ∙ then

    pub after_good : (r : Request) (more : List Request) → is_blank line ≡ false → line_reading line ≡ Ok r → more ≡ front ++ r ∷ []
        → with_front more (requests_from (n + 1) (lines_of after)) ≡ all
    after_good r more filled read pushed = rw pushed (sym (good_line front n line (lines_of after) r filled read) ∙ then)

    pub at_bad : (refusal : WireRefusal) → is_blank line ≡ false → line_reading line ≡ Err refusal → all ≡ Err (record { number = n; refusal = refusal })
    at_bad refusal filled read = sym then ∙ ap (with_front front) (bad_line n line (lines_of after) refusal filled read)

  pub ended_at : rest ≡ [] → all ≡ Ok front
  unfolding requests_from lines_of
  ended_at none = let left : with_front front (requests_from n (lines_of [])) ≡ all = subst (λ (r : List ℕ). with_front front (requests_from n (lines_of r)) ≡ all) none ahead in sym left ∙ ap Ok (append-nil front)

pub empty_bytes : (bytes : List ℕ) → length bytes ≡ 0 → bytes ≡ []
empty_bytes [] e = refl
empty_bytes (b ∷ bytes) e = absurd (omega arith)
