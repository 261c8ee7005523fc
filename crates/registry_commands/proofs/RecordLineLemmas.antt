-- The next line of a source that is read in pieces.
use Rattle.std.proofs.Common.{◌≡◌, ℕ, ◌+◌, ◌<◌, ◌≤◌, Bool, true, false, List, [], ◌∷◌, ◌++◌, length, take, drop, Option, Some, None, refl, sym, ap, subst, ◌∙◌, arith, append_assoc, append-nil, length-append, length-take}
use Rattle.std.specs.Prelude.{cond, not, ◌==◌, nat_le, nat_lt, position, if◌then◌else◌}
use Rattle.std.specs.Io.KnownBytes.{Consumes, IsAtEnd, prepend_known}
use Rattle.std.proofs.lemmas.Bool.{ltb-true, lt-ltb, leb-true, leb-false, eqb-true, eqb-false}
use Rattle.std.proofs.lemmas.List.{take_all, take-append-drop, take-append-le, drop-append-le}
use Rattle.std.proofs.Math.ListN.{drop_of_length-le}
use Rattle.registry_commands.specs.Lines.{lines_of}
use Rattle.registry_commands.specs.declared.record_lines.Found.TheVariants.{End, Line, TooLong}
use Rattle.registry_commands.specs.declared.unread.Unread.{Unread}
use Rattle.registry_commands.specs.RecordLines.{FindsLine, HasReadTo, MayHaveLines, Passes, ahead, last_line, most_line, of_length, unread_of}
use Rattle.registry_commands.proofs.LineLemmas.{feed, feed_at, feed_not, lines_at, one_line}

-- ---- line feeds

feed_more : (p more : List ℕ) → feed p < length p → feed (p ++ more) ≡ feed p
feed_more [] more h = absurd (omega arith)
feed_more (b ∷ p) more h = go (b == 10) h (feed_more p more)
  where
    go : (t : Bool) → cond (not t) (1 + feed p) 0 < length (b ∷ p) → (feed p < length p → feed (p ++ more) ≡ feed p) → cond (not t) (1 + feed (p ++ more)) 0 ≡ cond (not t) (1 + feed p) 0
    go true h below = refl
    go false h below = ap (λ n. 1 + n) (below (omega arith))

feed_past : (p more : List ℕ) → ¬ (feed p < length p) → length p ≤ feed (p ++ more)
feed_past [] more h = omega arith
feed_past (b ∷ p) more h = go (b == 10) h (feed_past p more)
  where
    go : (t : Bool) → ¬ (cond (not t) (1 + feed p) 0 < length (b ∷ p)) → (¬ (feed p < length p) → length p ≤ feed (p ++ more)) → length (b ∷ p) ≤ cond (not t) (1 + feed (p ++ more)) 0
    go true h below = absurd (h (omega arith))
    go false h below = let rest = below (λ k. h (omega (arith, k))) in omega (arith, rest)

feed_skips : (p more : List ℕ) → ¬ (feed p < length p) → feed (p ++ more) ≡ length p + feed more
feed_skips [] more h = omega arith
feed_skips (b ∷ p) more h = go (b == 10) h (feed_skips p more)
  where
    go : (t : Bool) → ¬ (cond (not t) (1 + feed p) 0 < length (b ∷ p)) → (¬ (feed p < length p) → feed (p ++ more) ≡ length p + feed more)
        → cond (not t) (1 + feed (p ++ more)) 0 ≡ length (b ∷ p) + feed more
    go true h below = absurd (h (omega arith))
    go false h below = let rest = below (λ k. h (omega (arith, k))) in omega (arith, rest)

some_past : (p more : List ℕ) (n : ℕ) → None ≡ position (λ b. b == 10) p → Some n ≡ position (λ b. b == 10) more → Some (length p + n) ≡ position (λ b. b == 10) (p ++ more)
some_past p more n none found =
    let at = feed_at more n found in
    let skips = feed_skips p more (feed_not p none) in
    let less : nat_lt (feed (p ++ more)) (length (p ++ more)) ≡ true = lt-ltb _ _ (omega (arith, skips, at.0, at.1, length-append p more)) in
    rw less (ap Some (omega (arith, skips, at.1)))

none_past : (p more : List ℕ) → None ≡ position (λ b. b == 10) p → None ≡ position (λ b. b == 10) more → None ≡ position (λ b. b == 10) (p ++ more)
none_past p more none none_more = go (nat_lt (feed (p ++ more)) (length (p ++ more))) refl
  where
    skips : feed (p ++ more) ≡ length p + feed more
    skips = feed_skips p more (feed_not p none)

    go : (t : Bool) → nat_lt (feed (p ++ more)) (length (p ++ more)) ≡ t → None ≡ cond t (Some (feed (p ++ more))) None
    go true e = absurd (feed_not more none_more (omega (arith, ltb-true _ _ e, skips, length-append p more)))
    go false e = refl

-- the first bytes have no line feed: where it is among all, by where it is among the others
module _ (bytes : List ℕ) (searched : ℕ) (within : searched ≤ length bytes) (none : position (λ b. b == 10) (take searched bytes) ≡ None) where
  pub some_after : (n : ℕ) → Some n ≡ position (λ b. b == 10) (drop searched bytes) → Some (searched + n) ≡ position (λ b. b == 10) bytes
  some_after n found =
      let size : length (take searched bytes) ≡ searched = rw (length-take searched bytes) (omega (arith, within)) in
      subst (λ (all : List ℕ). Some (searched + n) ≡ position (λ b. b == 10) all) (take-append-drop searched bytes)
      (subst (λ (k : ℕ). Some (k + n) ≡ position (λ b. b == 10) (take searched bytes ++ drop searched bytes)) size
      (some_past (take searched bytes) (drop searched bytes) n (sym none) found))

  pub none_after : None ≡ position (λ b. b == 10) (drop searched bytes) → None ≡ position (λ b. b == 10) bytes
  none_after none_more =
      subst (λ (all : List ℕ). None ≡ position (λ b. b == 10) all) (take-append-drop searched bytes) (none_past (take searched bytes) (drop searched bytes) (sym none) none_more)

-- ---- lines

-- the line before the first line feed, whatever follows
line_ahead : (p more : List ℕ) (end : ℕ) → Some end ≡ position (λ b. b == 10) p → (end < length p) × (lines_of (p ++ more) ≡ take end p ∷ lines_of (drop (end + 1) p ++ more))
line_ahead p more end found =
    let at = feed_at p end found in
    let same : feed (p ++ more) ≡ end = feed_more p more (rw (← at.1) at.0) ∙ sym at.1 in
    let whole = lines_at (p ++ more) (rw same (omega (arith, at.0, length-append p more))) in (
      at.0,
      subst (λ n. lines_of (p ++ more) ≡ take n (p ++ more) ∷ lines_of (drop (n + 1) (p ++ more))) same whole
          ∙ rw (take-append-le end p more (omega (arith, at.0)), drop-append-le (end + 1) p more (omega (arith, at.0))) refl,
    )

-- a line that has no line feed yet is at least as long
long_ahead : (p more : List ℕ) → None ≡ position (λ b. b == 10) p → 0 < length p → (line : List ℕ) × (lines : List (List ℕ)) × (length p ≤ length line) × (line ∷ lines ≡ lines_of (p ++ more))
long_ahead p more none some = go (nat_lt (feed (p ++ more)) (length (p ++ more))) refl
  where
    past : length p ≤ feed (p ++ more)
    past = feed_past p more (feed_not p none)

    go : (t : Bool) → nat_lt (feed (p ++ more)) (length (p ++ more)) ≡ t → (line : List ℕ) × (lines : List (List ℕ)) × (length p ≤ length line) × (line ∷ lines ≡ lines_of (p ++ more))
    go true e =
        let below = ltb-true _ _ e in
        (take (feed (p ++ more)) (p ++ more), lines_of (drop (feed (p ++ more) + 1) (p ++ more)), rw (length-take (feed (p ++ more)) (p ++ more)) (omega (arith, past, below)), sym (lines_at (p ++ more) below))
    go false e =
        let none_there : ¬ (feed (p ++ more) < length (p ++ more)) = λ h. let is = lt-ltb _ _ h in absurd cc in
        (p ++ more, [], omega (arith, length-append p more), sym (one_line (p ++ more) none_there (omega (arith, length-append p more))))

-- ---- what is to come

pub may_have : (o : Option (List ℕ)) → (lines : List (List ℕ)) × MayHaveLines o lines
may_have None = ([], tt)
may_have (Some bytes) = (lines_of bytes, refl)

-- nothing was passed in between
pub same_lines : (a b : Option (List ℕ)) (lines : List (List ℕ)) → Consumes a b [] → MayHaveLines b lines → MayHaveLines a lines
same_lines None b lines same has = tt
same_lines (Some xs) None lines same has = absurd same
same_lines (Some xs) (Some ys) lines same has = has ∙ ap lines_of (sym same)

pub passes_none : (a : Option (List ℕ)) → Passes a a []
passes_none a rest has = has

pub passes_then : (a b c : Option (List ℕ)) (front more : List (List ℕ)) → Passes a b front → Passes b c more → Passes a c (front ++ more)
passes_then a b c front more first second rest has = subst (MayHaveLines a) (sym (append_assoc front more rest)) (first (more ++ rest) (second rest has))

pub at_feed : (p : List ℕ) (rest a : Option (List ℕ)) (end : ℕ) → Consumes a (prepend_known p rest) [] → Some end ≡ position (λ b. b == 10) p
    → Passes a (prepend_known (drop (end + 1) p) rest) (take end p ∷ [])
at_feed p rest None end same found lines has = tt
at_feed p None (Some xs) end same found lines has = absurd same
at_feed p (Some more) (Some xs) end same found lines has =
    sym (ap lines_of same ∙ (line_ahead p more end found).1 ∙ ap (λ (ls : List (List ℕ)). take end p ∷ ls) (sym has))

pub too_long_at_feed : (p : List ℕ) (rest a : Option (List ℕ)) (end : ℕ) → Consumes a (prepend_known p rest) [] → Some end ≡ position (λ b. b == 10) p → most_line < end
    → (line : List ℕ) × (lines : List (List ℕ)) × (most_line < length line) × MayHaveLines a (line ∷ lines)
too_long_at_feed p rest a end same found long =
    let next = may_have (prepend_known (drop (end + 1) p) rest) in
    let at = feed_at p end found in
    (take end p, next.0, rw (length-take end p) (omega (arith, at.0, long)), at_feed p rest a end same found next.0 next.1)

pub too_long_so_far : (p : List ℕ) (rest a : Option (List ℕ)) → Consumes a (prepend_known p rest) [] → None ≡ position (λ b. b == 10) p → most_line < length p
    → (line : List ℕ) × (lines : List (List ℕ)) × (most_line < length line) × MayHaveLines a (line ∷ lines)
too_long_so_far p rest None same none long = (p, [], long, tt)
too_long_so_far p None (Some xs) same none long = absurd same
too_long_so_far p (Some more) (Some xs) same none long =
    let found = long_ahead p more none (omega (arith, long)) in
    (found.0, found.1, omega (arith, long, found.2), found.3 ∙ ap lines_of (sym same))

pub last_piece : (p : List ℕ) (rest a : Option (List ℕ)) → Consumes a (prepend_known p rest) [] → None ≡ position (λ b. b == 10) p → 0 < length p → IsAtEnd rest
    → Passes a (prepend_known (drop (length p + 1) p) rest) (take (length p) p ∷ [])
unfolding lines_of
last_piece p rest None same none some end lines has = tt
last_piece p None (Some xs) same none some end lines has = absurd same
last_piece p (Some more) (Some xs) same none some end lines has =
    let all : xs ≡ p = same ∙ ap (λ (m : List ℕ). p ++ m) end ∙ append-nil p in
    let gone : drop (length p + 1) p ++ more ≡ [] = rw (end, drop_of_length-le p {i = length p + 1} (omega arith)) refl in
    let none_after : lines ≡ [] = has ∙ ap lines_of gone in
    sym (ap lines_of all ∙ one_line p (feed_not p none) some ∙ rw (none_after, take_all (length p) p (omega arith)) refl)

pub at_end : (p : List ℕ) (rest a : Option (List ℕ)) → Consumes a (prepend_known p rest) [] → length p ≡ 0 → IsAtEnd rest → MayHaveLines a []
unfolding lines_of
at_end p rest None same none end = tt
at_end p None (Some xs) same none end = absurd same
at_end (b ∷ p) (Some more) (Some xs) same none end = absurd (omega arith)
at_end [] (Some more) (Some xs) same none end = sym (ap lines_of (same ∙ end))

-- more was read, and nothing passed
pub filled : (a rest rest_new : Option (List ℕ)) (p q more : List ℕ) → Consumes a (prepend_known p rest) [] → q ≡ p ++ more → Consumes rest rest_new more → Consumes a (prepend_known q rest_new) []
filled None rest rest_new p q more same is gave = tt
filled (Some xs) None rest_new p q more same is gave = absurd same
filled (Some xs) (Some ys) None p q more same is gave = absurd gave
filled (Some xs) (Some ys) (Some zs) p q more same is gave =
    same ∙ ap (λ (t : List ℕ). p ++ t) gave ∙ sym (append_assoc p more zs) ∙ ap (λ (t : List ℕ). t ++ zs) (sym is)

-- nothing more was passed, and what was read is a part of a line
pub read_on : (a b c : Option (List ℕ)) (front : List (List ℕ)) (it : Unread) → Passes a b front → HasReadTo b c [] it → HasReadTo a c front it
read_on a b c front it passes read = record { passes = λ rest has. passes rest (read.passes rest has); part = read.part }

-- ---- what is found

module _ (a rest : Option (List ℕ)) (it : Unread) (same : Consumes a (ahead rest it) []) where
  pub finds_at : (end : ℕ) → Some end ≡ position (λ b. b == 10) (unread_of it) → FindsLine a rest it (of_length end)
  finds_at end found = go (nat_le end most_line) refl
    where
      go : (t : Bool) → nat_le end most_line ≡ t → FindsLine a rest it (if t then Line end else TooLong)
      go true e = let at = feed_at (unread_of it) end found in (omega (arith, at.0), leb-true end most_line e, at_feed (unread_of it) rest a end same found)
      go false e = too_long_at_feed (unread_of it) rest a end same found (leb-false end most_line e)

  pub finds_last : (n : ℕ) → None ≡ position (λ b. b == 10) (unread_of it) → n ≡ length (unread_of it) → n ≤ most_line → IsAtEnd rest → FindsLine a rest it (last_line n)
  finds_last n none is few end = go (n == 0) refl
    where
      go : (t : Bool) → (n == 0) ≡ t → FindsLine a rest it (if t then End else Line n)
      go true e = at_end (unread_of it) rest a same (sym is ∙ eqb-true n 0 e) end
      go false e = rw is (omega (arith, is), omega (arith, is, few), last_piece (unread_of it) rest a same none (omega (arith, is, eqb-false n 0 e)) end)
