-- The written text is the text of its document.
use Rattle.std.proofs.Common.{◌≡◌, ℕ, ◌+◌, ◌≤◌, Bool, true, false, List, [], ◌∷◌, ◌++◌, length, Option, Some, None, refl, ap, ◌∙◌, arith, append_assoc}
use Rattle.std.specs.Prelude.{codes, ◌==◌, not, nat_lt, Ok}
use Rattle.std.specs.List.{list_all}
use Rattle.std.proofs.lemmas.Bool.{le-ltb}
use Rattle.std.proofs.lemmas.Bool.Decides.{nat_tests}
use Rattle.usbids_text.specs.Words.{is_inner, trimmed, before, past_separators}
use Rattle.usbids_text.specs.Entries.{EntryLine, TopEntry, preorder, is_line, IsSound}
use Rattle.usbids_text.specs.Lines.{line_class, is_comment}
use Rattle.usbids_text.specs.Cut.{cut, lines, with_rest}
use Rattle.usbids_text.specs.Documents.{entries, with_line, IsTextOf}
use Rattle.usbids_text.specs.Moments.{Moment}
use Rattle.usbids_text.specs.Writing.{front, line_text, entry_text, lines_text, date_text, time_text, stamp_text, title, head_text, written}
use Rattle.usbids_text.proofs.EntryLemmas.{both}
use Rattle.usbids_text.proofs.InnerLemmas.{Pieces}
use Rattle.usbids_text.proofs.CutLemmas.{IsPart, cut_line}
use Rattle.usbids_text.proofs.ClassLemmas.{trimmed_some}
use Rattle.usbids_text.proofs.CodeLemmas.{past_solid}
use Rattle.usbids_text.proofs.LineLemmas.{entry_read, entry_inner}

not_not : (b : Bool) → not b ≡ true → b ≡ false
not_not true e = absurd cc
not_not false e = refl

is_part_of : (l : List ℕ) → list_all is_inner l ≡ true → IsPart l
is_part_of [] e = tt
is_part_of (b ∷ l) e = let p = both (is_inner b) (list_all is_inner l) e in (not_not (b == 10) p.0, is_part_of l p.1)

with_rest_line : (l : List ℕ) (ls : List (List ℕ)) (rest : List ℕ) → with_rest (l ∷ ls) rest ≡ l ∷ with_rest ls rest
with_rest_line l ls [] = refl
with_rest_line l ls (b ∷ rest) = refl

-- the lines of a line, its line feed and a rest
lines_line : (l rest : List ℕ) → list_all is_inner l ≡ true → lines (l ++ 10 ∷ rest) ≡ l ∷ lines rest
unfolding lines
lines_line l rest e = ap (λ (c : Pieces). with_rest c.0 c.1) (cut_line l 10 rest (is_part_of l e) refl) ∙ with_rest_line l (cut rest).0 (cut rest).1

entries_line : (l rest : List ℕ) (entry_line : EntryLine) (entry_lines : List EntryLine) → list_all is_inner l ≡ true → line_class l ≡ Ok (Some entry_line) → entries (lines rest) ≡ Some entry_lines → entries (lines (l ++ 10 ∷ rest)) ≡ Some (entry_line ∷ entry_lines)
unfolding entries
entries_line l rest entry_line entry_lines inner is e =
    ap entries (lines_line l rest inner)
    ∙ (ap (λ (o : Option (List EntryLine)). with_line (line_class l) o) e ∙ rw is refl)

entries_none : (l rest : List ℕ) (entry_lines : List EntryLine) → list_all is_inner l ≡ true → line_class l ≡ Ok None → entries (lines rest) ≡ Some entry_lines → entries (lines (l ++ 10 ∷ rest)) ≡ Some entry_lines
unfolding entries
entries_none l rest entry_lines inner is e =
    ap entries (lines_line l rest inner)
    ∙ (ap (λ (o : Option (List EntryLine)). with_line (line_class l) o) e ∙ rw is refl)

no_lines : entries (lines []) ≡ Some []
unfolding entries lines cut
no_lines = refl

line_of_entry : (entry_line : EntryLine) (rest : List ℕ) → entry_text entry_line ++ rest ≡ line_text (front entry_line.depth) entry_line.digits entry_line.code entry_line.name ++ 10 ∷ rest
unfolding entry_text
line_of_entry entry_line rest = append_assoc (line_text (front entry_line.depth) entry_line.digits entry_line.code entry_line.name) (10 ∷ []) rest

-- the lines of entries are read as those entries
lines_read : (entry_lines : List EntryLine) → list_all is_line entry_lines ≡ true → entries (lines (lines_text entry_lines)) ≡ Some entry_lines
unfolding lines_text
lines_read [] e = no_lines
lines_read (entry_line ∷ entry_lines) e =
    let p = both (is_line entry_line) (list_all is_line entry_lines) e in
    ap (λ (l : List ℕ). entries (lines l)) (line_of_entry entry_line (lines_text entry_lines))
    ∙ entries_line (line_text (front entry_line.depth) entry_line.digits entry_line.code entry_line.name) (lines_text entry_lines) entry_line entry_lines (entry_inner entry_line p.0) (entry_read entry_line p.0) (lines_read entry_lines p.1)

-- a comment is not an entry
comment_class : (l : List ℕ) → length (35 ∷ l) ≤ 65536 → line_class (35 ∷ l) ≡ Ok None
unfolding line_class
comment_class l short =
    let test : nat_lt 65536 (length (35 ∷ l)) ≡ false = le-ltb 65536 (length (35 ∷ l)) short in
    let kept : trimmed (35 ∷ l) ≡ 35 ∷ trimmed l = trimmed_some 35 l refl in
    let seen : is_comment (past_separators (trimmed (35 ∷ l))) ≡ true = ap (λ (x : List ℕ). is_comment (past_separators x)) kept ∙ ap is_comment (past_solid 35 (trimmed l) refl) in
    rw (test, seen) refl

blank_class : line_class [] ≡ Ok None
unfolding line_class trimmed before
blank_class = refl

digit_inner : (x : ℕ) → (48 + x == 10) ≡ false
digit_inner x = grind (arith, nat_tests)

abbrev version_line : Moment → List ℕ
version_line m = codes "# Version: " ++ date_text 46 m

abbrev date_line : Moment → List ℕ
date_line m = codes "# Date:    " ++ (date_text 45 m ++ (32 ∷ time_text m))

version_inner : (m : Moment) → list_all is_inner (version_line m) ≡ true
version_inner m = simp digit_inner

date_inner : (m : Moment) → list_all is_inner (date_line m) ≡ true
date_inner m = simp digit_inner

version_class : (m : Moment) → line_class (version_line m) ≡ Ok None
version_class m = comment_class _ (omega arith)

date_class : (m : Moment) → line_class (date_line m) ≡ Ok None
date_class m = comment_class _ (omega arith)

title_inner : list_all is_inner title ≡ true
unfolding title
title_inner = refl

title_class : line_class title ≡ Ok None
unfolding title
title_class = comment_class _ (omega arith)

blank_read : (rest : List ℕ) (entry_lines : List EntryLine) → entries (lines rest) ≡ Some entry_lines → entries (lines ([] ++ 10 ∷ rest)) ≡ Some entry_lines
blank_read rest entry_lines e = entries_none [] rest entry_lines refl blank_class e

-- the stamp and the empty line have no entries
stamp_read : (stamp : Option Moment) (rest : List ℕ) (entry_lines : List EntryLine) → entries (lines rest) ≡ Some entry_lines → entries (lines ((stamp_text stamp ++ 10 ∷ []) ++ rest)) ≡ Some entry_lines
unfolding stamp_text
stamp_read None rest entry_lines e = blank_read rest entry_lines e
stamp_read (Some m) rest entry_lines e =
    entries_none (version_line m) (date_line m ++ 10 ∷ (10 ∷ rest)) entry_lines (version_inner m) (version_class m)
    (entries_none (date_line m) (10 ∷ rest) entry_lines (date_inner m) (date_class m) (blank_read rest entry_lines e))

head_read : (stamp : Option Moment) (rest : List ℕ) (entry_lines : List EntryLine) → entries (lines rest) ≡ Some entry_lines → entries (lines (head_text stamp ++ rest)) ≡ Some entry_lines
head_read stamp rest entry_lines e =
    let tail : List ℕ = stamp_text stamp ++ 10 ∷ [] in
    let same : head_text stamp ++ rest ≡ title ++ 10 ∷ (tail ++ rest) = append_assoc (title ++ 10 ∷ []) tail rest ∙ append_assoc title (10 ∷ []) (tail ++ rest) in
    ap (λ (l : List ℕ). entries (lines l)) same ∙ entries_none title (tail ++ rest) entry_lines title_inner title_class (stamp_read stamp rest entry_lines e)

-- the written text is the text of the document
pub written_text_is_text : (doc : List TopEntry) (stamp : Option Moment) → IsSound doc → IsTextOf (written doc stamp) doc
written_text_is_text doc stamp s = record { sound = s; entry_lines = head_read stamp (lines_text (preorder doc)) (preorder doc) (lines_read (preorder doc) s.each) }
