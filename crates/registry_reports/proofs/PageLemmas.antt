-- One line more on a page.
use Rattle.std.proofs.Common.{◌≡◌, ℕ, ◌+◌, ◌-◌, ◌/◌, ◌<◌, min, Bool, true, false, List, [], ◌∷◌, ◌++◌, length, sym, ap, subst, ◌∙◌, inl, inr, arith, append_assoc}
use Rattle.std.specs.Prelude.{nat_lt, if◌then◌else◌}
use Rattle.std.proofs.lemmas.Bool.{lt-ltb}
use Rattle.std.proofs.lemmas.List.{append-nil, length-append}
use Rattle.registry_reports.specs.Pages.{text_of_lines, wanted_lines, MayFollow}

pub text_push : (lines : List (List ℕ)) (line : List ℕ) → text_of_lines (lines ++ line ∷ []) ≡ text_of_lines lines ++ line ++ 10 ∷ []
text_push [] line = append-nil (line ++ 10 ∷ [])
text_push (x ∷ lines) line =
    ap (λ (t : List ℕ). x ++ 10 ∷ [] ++ t) (text_push lines line)
    ∙ (sym (append_assoc (x ++ 10 ∷ []) (text_of_lines lines ++ line) (10 ∷ [])) ∙ ap (λ (t : List ℕ). t ++ 10 ∷ []) (sym (append_assoc (x ++ 10 ∷ []) (text_of_lines lines) line)))

pub text_more : (lines : List (List ℕ)) (line : List ℕ) → length (text_of_lines (lines ++ line ∷ [])) ≡ length (text_of_lines lines) + length line + 1
text_more lines line = ap length (text_push lines line) ∙ (length-append (text_of_lines lines ++ line) (10 ∷ []) ∙ ap (λ (n : ℕ). n + 1) (length-append (text_of_lines lines) line))

pub count_more : (lines : List (List ℕ)) (line : List ℕ) → length (lines ++ line ∷ []) ≡ length lines + 1
count_more lines line = length-append lines (line ∷ [])

-- there is room for the line
pub room_follows : (lines : List (List ℕ)) (line : List ℕ) (count bytes room : ℕ) → count ≡ length lines → bytes ≡ length (text_of_lines lines) → count < 1000 → room ≡ 1048576 - bytes → length line < room → MayFollow lines line
room_follows lines line count bytes room is_count is_bytes few is_room fits = inr (record {
  count = omega (arith, count_more lines line, is_count, few);
  bytes = omega (arith, text_more lines line, is_bytes, is_room, fits);
})

pub follows_room : (lines : List (List ℕ)) (line : List ℕ) (count bytes room : ℕ) → count ≡ length lines → bytes ≡ length (text_of_lines lines) → ¬ (count ≡ 0) → room ≡ 1048576 - bytes → MayFollow lines line → length line < room
follows_room lines line count bytes room is_count is_bytes some is_room (inl none) = absurd (some (is_count ∙ ap length none))
follows_room lines line count bytes room is_count is_bytes some is_room (inr fit) = let b = fit.bytes in omega (arith, text_more lines line, is_bytes, is_room, b)

-- a page that takes a line has room
follows_bytes : (lines : List (List ℕ)) (line : List ℕ) (bytes : ℕ) → bytes ≡ length (text_of_lines lines) → MayFollow lines line → bytes < 1048576
follows_bytes lines line bytes is (inl none) = let empty : length (text_of_lines lines) ≡ 0 = ap (λ (l : List (List ℕ)). length (text_of_lines l)) none in omega (arith, empty, is)
follows_bytes lines line bytes is (inr fit) = let b = fit.bytes in omega (arith, text_more lines line, b, is)

follows_count : (lines : List (List ℕ)) (line : List ℕ) (count : ℕ) → count ≡ length lines → MayFollow lines line → count < 1000
follows_count lines line count is (inl none) = let empty : length lines ≡ 0 = ap length none in omega (arith, empty, is)
follows_count lines line count is (inr fit) = let c = fit.count in omega (arith, count_more lines line, c, is)

some_wanted : (count bytes : ℕ) → bytes < 1048576 → count < 1000 → 0 < wanted_lines count bytes
some_wanted count bytes short few =
    subst (λ (b : Bool). 0 < (if b then (if nat_lt (bytes / 4096) count then min 4 (1000 - count) else 1) else 0)) (sym (lt-ltb bytes 1048576 short)) (go (nat_lt (bytes / 4096) count))
  where
    go : (b : Bool) → 0 < (if b then min 4 (1000 - count) else 1)
    go true = omega (arith, few)
    go false = omega arith

-- a page that takes a line wants one
pub wants_some : (lines : List (List ℕ)) (line : List ℕ) (count bytes : ℕ) → count ≡ length lines → bytes ≡ length (text_of_lines lines) → MayFollow lines line → 0 < wanted_lines count bytes
wants_some lines line count bytes is_count is_bytes may = some_wanted count bytes (follows_bytes lines line bytes is_bytes may) (follows_count lines line count is_count may)
