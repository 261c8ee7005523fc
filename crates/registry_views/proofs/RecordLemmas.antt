-- The lines of a record on a page, piece by piece.
use Rattle.std.proofs.Common.{◌≡◌, ℕ, zero, suc, ◌+◌, ◌-◌, ◌<◌, ◌≤◌, min, Bool, true, false, Option, Some, None, List, [], ◌∷◌, ◌++◌, length, take, drop, get_or, map, refl, sym, ap, subst, ◌∙◌, ◌⊎◌, inl, inr, arith, add-one, zero-add}
use Rattle.std.specs.Prelude.{MatchOption}
use Rattle.std.specs.Bool.{MatchBool}
use Rattle.std.specs.String.{string_bytes}
use Rattle.std.proofs.Math.Seq.{take-suc, take-length}
use Rattle.std.proofs.lemmas.List.{take-map, drop-map, length-append, length-take, length-take-le, length-drop, length-map, get_or-map, get_or-take, get_or-drop, get_or_default}
use Rattle.std.proofs.lemmas.Bool.{cases_lt}
use Rattle.registry_rules.specs.Accepted.{accepted_of}
use Rattle.registry_rules.specs.History.{History}
use Rattle.registry_rules.specs.declared.accepted.Accepted.{Accepted}
use Rattle.registry_reports.specs.Pages.{FitPage, HasLines, MayFollow, text_of_lines}
use Rattle.registry_reports.specs.declared.page.Page.{Page}
use Rattle.registry_wire.specs.Record.{accepted_line}
use Rattle.registry_views.specs.Records.{AreNext, IsBegun, IsPageText, lines_after}

-- ---- lists

drop_nil : {X : Type 0} (n : ℕ) → drop {A = X} n [] ≡ []
drop_nil zero = refl
drop_nil (suc n) = refl

drop_drop : {X : Type 0} (a b : ℕ) (xs : List X) → drop b (drop a xs) ≡ drop (a + b) xs
drop_drop zero b xs = ap (λ (n : ℕ). drop n xs) (sym (zero-add b))
drop_drop (suc a) b [] = drop_nil b ∙ sym (drop_nil (suc a + b))
drop_drop (suc a) b (x ∷ xs) = let e : suc a + b ≡ suc (a + b) = omega arith in drop_drop a b xs ∙ ap (λ (n : ℕ). drop n (x ∷ xs)) (sym e)

size_more : (x : List ℕ) (lines : List (List ℕ)) → length (text_of_lines (x ∷ lines)) ≡ length x + 1 + length (text_of_lines lines)
size_more x lines = length-append (x ++ 10 ∷ []) (text_of_lines lines) ∙ ap (λ (n : ℕ). n + length (text_of_lines lines)) (length-append x (10 ∷ []))

-- more lines have no less bytes
bytes_more : (a b : ℕ) (lines : List (List ℕ)) → a ≤ b → length (text_of_lines (take a lines)) ≤ length (text_of_lines (take b lines))
bytes_more zero b lines le = omega arith
bytes_more (suc a) zero lines le = absurd (omega (arith, le))
bytes_more (suc a) (suc b) [] le = omega arith
bytes_more (suc a) (suc b) (x ∷ lines) le =
    let rest = bytes_more a b lines (omega (arith, le)) in
    omega (arith, rest, size_more x (take a lines), size_more x (take b lines))

-- a beginning of lines that fit on a page fits
fewer_fit : (a b : ℕ) (lines : List (List ℕ)) → a ≤ b → b ≤ length lines → FitPage (take b lines) → FitPage (take a lines)
fewer_fit a b lines le within fit = record {
  count = let c = fit.count in omega (arith, c, le, within, length-take-le a lines (omega (arith, le, within)), length-take-le b lines within);
  bytes = let c = fit.bytes in let m = bytes_more a b lines le in omega (arith, c, m);
}

one_more : (lines : List (List ℕ)) (count : ℕ) (line : List ℕ) → count < length lines → line ≡ get_or lines count line → take (count + 1) lines ≡ take count lines ++ line ∷ []
one_more lines count line within is = rw (add-one count) (take-suc lines count line within ∙ ap (λ (l : List ℕ). take count lines ++ l ∷ []) (sym is))

-- ---- one line

none_on : (lines : List (List ℕ)) (count : ℕ) → count < length lines → take count lines ≡ [] → count ≡ 0
none_on lines count within none = let e : length (take count lines) ≡ 0 = ap length none in omega (arith, e, length-take-le count lines (omega (arith, within)))

pub begun_more : (lines : List (List ℕ)) (page new : Page) (line : List ℕ) → page.count < length lines → line ≡ get_or lines page.count line → IsBegun lines page
    → HasLines new (take page.count lines ++ line ∷ []) × MayFollow (take page.count lines) line → IsBegun lines new × (new.count ≡ page.count + 1)
begun_more lines page new line within is begun put =
    let one : take (page.count + 1) lines ≡ take page.count lines ++ line ∷ [] = one_more lines page.count line within is in
    let count : new.count ≡ page.count + 1 = put.0.1 ∙ (length-append (take page.count lines) (line ∷ []) ∙ ap (λ (n : ℕ). n + 1) (length-take-le page.count lines (omega (arith, within)))) in
    let all : take new.count lines ≡ take page.count lines ++ line ∷ [] = ap (λ (n : ℕ). take n lines) count ∙ one in (
      record {
        within = omega (arith, count, within);
        has = subst (HasLines new) (sym all) put.0;
        fits = λ many. elim put.1 [
          | inl none ↦ absurd (omega (arith, many, count, none_on lines page.count within none))
          | inr fit ↦ subst FitPage (sym all) fit
        ];
      },
      count,
    )

-- the page of the first lines is complete if the next one does not follow
pub ended_before : (lines : List (List ℕ)) (page new : Page) (line : List ℕ) → page.count < length lines → line ≡ get_or lines page.count line → IsBegun lines page
    → HasLines new (take page.count lines) × (MayFollow (take page.count lines) line → ⊥) → IsPageText lines (string_bytes new.text)
ended_before lines page new line within is begun refused =
    let front = take page.count lines in
    let count : length front ≡ page.count = length-take-le page.count lines (omega (arith, within)) in
    let one : take (page.count + 1) lines ≡ front ++ line ∷ [] = one_more lines page.count line within is in
    record {
      page = front;
      is_page = record {
        beginning = ap (λ (n : ℕ). take n lines) (sym count);
        fits = λ many. begun.fits (omega (arith, many, count));
        longest = λ n more inside fit. refused.1 (inr (subst FitPage one (fewer_fit (page.count + 1) n lines (omega (arith, more, count)) inside fit)));
        first = λ some none. refused.1 (inl none);
      };
      text_is = refused.0.0;
    }

-- or if there is none
pub ended_whole : (lines : List (List ℕ)) (page : Page) → IsBegun lines page → length lines ≤ page.count → IsPageText lines (string_bytes page.text)
ended_whole lines page begun all =
    let within = begun.within in
    let whole : page.count ≡ length lines = omega (arith, all, within) in
    let front : take page.count lines ≡ lines = ap (λ (n : ℕ). take n lines) whole ∙ take-length lines in
    record {
      page = lines;
      is_page = record {
        beginning = sym (take-length lines);
        fits = λ many. subst FitPage front (begun.fits (omega (arith, many, whole)));
        longest = λ n more inside fit. omega (arith, more, inside);
        first = λ some. some;
      };
      text_is = begun.has.0 ∙ ap text_of_lines front;
    }

-- or if no line may follow
pub ended_full : (lines : List (List ℕ)) (page : Page) → IsBegun lines page → ((line : List ℕ) → MayFollow (take page.count lines) line → ⊥) → IsPageText lines (string_bytes page.text)
ended_full lines page begun never = elim (cases_lt page.count (length lines)) [
  | inl less ↦ ended_before lines page page (get_or lines page.count []) less (get_or_default lines page.count [] (get_or lines page.count []) less) begun (begun.has, never (get_or lines page.count []))
  | inr all ↦ ended_whole lines page begun all
]

-- ---- a piece

-- the line of the request at an index of the piece
pub piece_at : (most : ℕ) (lines : List (List ℕ)) (start : Page) (accepted : List Accepted) (i : ℕ) (one : Accepted) → AreNext most lines start accepted → i < length accepted → one ≡ get_or accepted i one
    → (start.count + i < length lines) × (accepted_line one ≡ get_or lines (start.count + i) (accepted_line one))
piece_at most lines start accepted i one next within is =
    let size : length accepted ≡ min most (length lines - start.count) = sym (length-map accepted accepted_line) ∙ (ap length next ∙ (length-take most (drop start.count lines) ∙ ap (min most) (length-drop start.count lines))) in
    let low : start.count + i < length lines = omega (arith, size, within) in (
      low,
      ap accepted_line is ∙ (sym (get_or-map accepted_line accepted i one (accepted_line one) within) ∙ (ap (λ (l : List (List ℕ)). get_or l i (accepted_line one)) next
          ∙ (get_or-take most (drop start.count lines) i (accepted_line one) (omega (arith, size, within)) ∙ get_or-drop start.count lines i (accepted_line one)))),
    )

-- fewer requests than were asked for are the last ones
pub last_piece : (most : ℕ) (lines : List (List ℕ)) (start new : Page) (accepted : List Accepted) → AreNext most lines start accepted → IsBegun lines start → new.count ≡ start.count + length accepted → length accepted < most → length lines ≤ new.count
last_piece most lines start new accepted next begun count few =
    let size : length accepted ≡ min most (length lines - start.count) = sym (length-map accepted accepted_line) ∙ (ap length next ∙ (length-take most (drop start.count lines) ∙ ap (min most) (length-drop start.count lines))) in
    let within = begun.within in
    omega (arith, size, within, count, few)

-- the requests at a place of the record are the next ones
pub next_at : (most : ℕ) (h : History) (after place : ℕ) (page : Page) (accepted : List Accepted) → place ≡ after + page.count → accepted ≡ take most (drop place (accepted_of h.deeds)) → AreNext most (lines_after h after) page accepted
next_at most h after place page accepted is read =
    let all = accepted_of h.deeds in
    ap (map accepted_line) (read ∙ ap (λ (n : ℕ). take most (drop n all)) is)
    ∙ (sym (take-map accepted_line most (drop (after + page.count) all))
    ∙ ap (take most) (sym (drop-map accepted_line (after + page.count) all) ∙ (sym (drop_drop after page.count (map accepted_line all)) ∙ ap (drop page.count) (drop-map accepted_line after all))))

-- a page without lines has begun
pub begun_empty : (lines : List (List ℕ)) (page : Page) → HasLines page [] → IsBegun lines page
begun_empty lines page none = let count : page.count ≡ 0 = none.1 in record {
  within = omega (arith, count);
  has = subst (λ (n : ℕ). HasLines page (take n lines)) (sym count) none;
  fits = λ many. absurd (omega (arith, many, count));
}

-- a page has no more than 1,000 lines
pub never_full : (lines : List (List ℕ)) (page : Page) → IsBegun lines page → 1001 ≤ page.count → ⊥
never_full lines page begun count =
    let fit = (begun.fits (omega (arith, count))).count in
    let within = begun.within in
    omega (arith, count, fit, length-take-le page.count lines within)

-- ---- what a push tells

pub taken : (pushed : Bool) (P Q : Type 0) → pushed ≡ true → MatchBool pushed P Q → P
taken true P Q is holds = holds
taken false P Q is holds = absurd cc

pub refused : (pushed : Bool) (P Q : Type 0) → pushed ≡ false → MatchBool pushed P Q → Q
refused true P Q is holds = absurd cc
refused false P Q is holds = holds

abbrev Pushes : Page → Page → List (List ℕ) → List ℕ → Bool → Type 0
Pushes page new lines line pushed = HasLines page lines → MatchBool pushed (HasLines new (lines ++ line ∷ []) × MayFollow lines line) (HasLines new lines × (MayFollow lines line → ⊥))

-- one request more of a piece, from the page at its start
pub piece_more : (most : ℕ) (lines : List (List ℕ)) (start page new : Page) (accepted : List Accepted) (i : ℕ) (one : Accepted) (pushed : Bool) → IsBegun lines page × (page.count ≡ start.count + i) → AreNext most lines start accepted → i < length accepted
    → one ≡ get_or accepted i one → pushed ≡ true → Pushes page new (take page.count lines) (accepted_line one) pushed → IsBegun lines new × (new.count ≡ start.count + (i + 1))
piece_more most lines start page new accepted i one pushed so_far next within is did put =
    let at = piece_at most lines start accepted i one next within is in
    let low = at.0 in
    let count = so_far.1 in
    let line : accepted_line one ≡ get_or lines page.count (accepted_line one) = at.1 ∙ ap (λ (n : ℕ). get_or lines n (accepted_line one)) (sym count) in
    let more = begun_more lines page new (accepted_line one) (omega (arith, low, count)) line so_far.0 (taken pushed _ _ did (put so_far.0.has)) in
    let one_more = more.1 in
    (more.0, omega (arith, one_more, count))

pub piece_ended : (most : ℕ) (lines : List (List ℕ)) (start page new : Page) (accepted : List Accepted) (i : ℕ) (one : Accepted) (pushed : Bool) → IsBegun lines page × (page.count ≡ start.count + i) → AreNext most lines start accepted → i < length accepted
    → one ≡ get_or accepted i one → pushed ≡ false → Pushes page new (take page.count lines) (accepted_line one) pushed → IsPageText lines (string_bytes new.text)
piece_ended most lines start page new accepted i one pushed so_far next within is not_put put =
    let at = piece_at most lines start accepted i one next within is in
    let low = at.0 in
    let count = so_far.1 in
    let line : accepted_line one ≡ get_or lines page.count (accepted_line one) = at.1 ∙ ap (λ (n : ℕ). get_or lines n (accepted_line one)) (sym count) in
    ended_before lines page new (accepted_line one) (omega (arith, low, count)) line so_far.0 (refused pushed _ _ not_put (put so_far.0.has))

-- what a piece leaves, by the lines that were put and by the place after them
pub piece_read : (most : ℕ) (h : History) (after place : ℕ) (page new : Page) (accepted : List Accepted) (all : Bool) (next : Option ℕ) → place ≡ after + page.count → IsBegun (lines_after h after) page
    → accepted ≡ take most (drop place (accepted_of h.deeds))
    → (AreNext most (lines_after h after) page accepted → MatchBool all (IsBegun (lines_after h after) new × (new.count ≡ page.count + length accepted)) (IsPageText (lines_after h after) (string_bytes new.text)))
    → MatchOption next ((all ≡ false) ⊎ (length accepted < most)) (λ n. (all ≡ true) × (most ≤ length accepted) × (n ≡ place + most))
    → MatchOption next (IsPageText (lines_after h after) (string_bytes new.text)) (λ n. IsBegun (lines_after h after) new × (new.count ≡ page.count + most) × (n ≡ place + most))
piece_read most h after place page new accepted true None is begun read put (inl never) = absurd cc
piece_read most h after place page new accepted true None is begun read put (inr few) =
    let next = next_at most h after place page accepted is read in
    let all = put next in
    ended_whole (lines_after h after) new all.0 (last_piece most (lines_after h after) page new accepted next begun all.1 few)
piece_read most h after place page new accepted false None is begun read put ends = put (next_at most h after place page accepted is read)
piece_read most h after place page new accepted true (Some n) is begun read put ends =
    let all = put (next_at most h after place page accepted is read) in
    let count = all.1 in
    let many = ends.1 in
    let size : length accepted ≡ min most (length (drop place (accepted_of h.deeds))) = ap length read ∙ length-take most (drop place (accepted_of h.deeds)) in
    (all.0, omega (arith, count, many, size), ends.2)
piece_read most h after place page new accepted false (Some n) is begun read put ends = let never = ends.0 in absurd cc
