-- The line of an entry is read as that entry.
use Rattle.std.proofs.Common.{◌≡◌, ℕ, ◌-◌, ◌^◌, ◌<◌, ◌≤◌, true, false, List, [], ◌∷◌, ◌++◌, length, get_or, Some, None, refl, sym, ap, ◌∙◌, arith, append_assoc, length-append}
use Rattle.std.specs.Prelude.{◌&&◌, ◌==◌, not, nat_le, nat_lt, Ok, is_some, if◌then◌else◌}
use Rattle.std.specs.List.{list_all}
use Rattle.std.proofs.lemmas.List.{append-nil}
use Rattle.std.proofs.lemmas.Bool.{le-ltb, leb-true}
use Rattle.std.proofs.lemmas.Bool.Decides.{nat_tests}
use Rattle.std.proofs.lemmas.List.Folds.{list_all-append}
use Rattle.usbnum_core.specs.Number.{lower_hex_digit}
use Rattle.usbids_text.specs.declared.kind.Depth.{Depth}
use Rattle.usbids_text.specs.declared.kind.Depth.TheVariants.{Zero, One, Two}
use Rattle.usbids_text.specs.declared.kind.Kind.TheVariants.{Vendor, Tagged}
use Rattle.usbids_text.specs.Words.{is_separator, is_tail, is_inner, is_upper, trimmed, word, past_separators, after_word, code_in, is_four, is_tag, is_code, begins_well, ends_well, is_name}
use Rattle.usbids_text.specs.Entries.{EntryLine, is_depth, is_line}
use Rattle.usbids_text.specs.Lines.{short_enough, with_code, below, tagged, top, after_tab, by_tabs, is_comment, line_class}
use Rattle.usbids_text.specs.Writing.{front, code_text, gap, line_text}
use Rattle.usbids_text.proofs.EntryLemmas.{both, and_both, entry_code, entry_name, entry_depth}
use Rattle.usbids_text.proofs.WordLemmas.{trimmed_done, ends_well_last}
use Rattle.usbids_text.proofs.CodeLemmas.{is_solid, not-true, word_is, after_is, past_solid, past_one, gap_past, gap_stops, text_of, hex_solid, hex_plain, hex_tab, solid_text, inner_text, ends_text, length_text, IsSpelt, spelt, code_reads_back}

-- bytes that begin like a code
record Begins (bytes : List ℕ) : Type 0 where
  first : ℕ
  rest : List ℕ
  is : bytes ≡ first ∷ rest
  solid : is_separator first ≡ false
  plain : (first == 35) ≡ false
  other : (first == 9) ≡ false

abbrev body : ℕ → ℕ → List ℕ → List ℕ
body digits code name = code_text digits code ++ (gap name ++ name)

body_begins : (digits code : ℕ) (name : List ℕ) → IsSpelt digits code → Begins (body digits code name)
body_begins digits code name s = record {
  first = lower_hex_digit s.first;
  rest = text_of s.others ++ (gap name ++ name);
  is = ap (λ (l : List ℕ). l ++ (gap name ++ name)) s.text;
  solid = hex_solid s.first s.small;
  plain = hex_plain s.first s.small;
  other = hex_tab s.first s.small;
}

code_solid : (digits code : ℕ) → IsSpelt digits code → list_all is_solid (code_text digits code) ≡ true
code_solid digits code s = ap (list_all is_solid) s.text ∙ solid_text (s.first ∷ s.others) (s.small, s.each)

abbrev mk : Depth → ℕ → ℕ → List ℕ → EntryLine
mk depth code digits name = record { depth = depth; code = code; digits = digits; name = name }

body_word : (digits code : ℕ) (name : List ℕ) → IsSpelt digits code → word (body digits code name) ≡ code_text digits code
body_word digits code name s = word_is (code_text digits code) (gap name ++ name) (code_solid digits code s) (gap_stops name)

body_name : (digits code : ℕ) (name : List ℕ) → IsSpelt digits code → begins_well name ≡ true → after_word (body digits code name) ≡ name
body_name digits code name s h = after_is (code_text digits code) (gap name ++ name) (code_solid digits code s) (gap_stops name) ∙ gap_past name h

code_long : (digits code : ℕ) → IsSpelt digits code → length (code_text digits code) ≡ digits
code_long digits code s = ap length s.text ∙ (length_text (s.first ∷ s.others) ∙ s.counts)

short_name : (entry_line : EntryLine) → nat_le (length entry_line.name) 65000 ≡ true → short_enough entry_line ≡ Ok (Some entry_line)
short_name entry_line e = rw e refl

below_body : (depth : Depth) (digits code : ℕ) (name : List ℕ) → is_code code digits ≡ true → IsSpelt digits code → begins_well name ≡ true → nat_le (length name) 65000 ≡ true → below depth (body digits code name) ≡ Ok (Some (mk depth code digits name))
unfolding below
below_body depth digits code name e s begins short =
    let b : List ℕ = body digits code name in
    let reads : code_in (word b) ≡ Some code = ap code_in (body_word digits code name s) ∙ code_reads_back digits code e s in
    let long : length (word b) ≡ digits = ap length (body_word digits code name s) ∙ code_long digits code s in
    ap (with_code depth b) reads
    ∙ (ap (λ (n : ℕ). short_enough (mk depth code n (after_word b))) long
    ∙ (ap (λ (l : List ℕ). short_enough (mk depth code digits l)) (body_name digits code name s begins)
    ∙ short_name (mk depth code digits name) short))

-- the properties of a name
record Named (name : List ℕ) : Type 0 where
  short : nat_le (length name) 65000 ≡ true
  inner : list_all is_inner name ≡ true
  begins : begins_well name ≡ true
  ends : ends_well name ≡ true

named : (name : List ℕ) → is_name name ≡ true → Named name
unfolding is_name
named name e =
    let a = both (nat_le (length name) 65000 && list_all is_inner name && begins_well name) (ends_well name) e in
    let b = both (nat_le (length name) 65000 && list_all is_inner name) (begins_well name) a.0 in
    let c = both (nat_le (length name) 65000) (list_all is_inner name) b.0 in
    record { short = c.0; inner = c.1; begins = b.1; ends = a.1 }

ends_append : (a b : List ℕ) (x : ℕ) → ends_well (a ++ x ∷ b) ≡ ends_well (x ∷ b)
unfolding ends_well
ends_append [] b x = refl
ends_append (y ∷ []) b x = refl
ends_append (y ∷ (z ∷ a)) b x = ends_append (z ∷ a) b x

body_ends : (digits code : ℕ) (name : List ℕ) → IsSpelt digits code → ends_well name ≡ true → ends_well (body digits code name) ≡ true
body_ends digits code [] s h = ap ends_well (append-nil (code_text digits code) ∙ s.text) ∙ ends_text s.first s.others s.small s.each
body_ends digits code (b ∷ bytes) s h = ap ends_well (sym (append_assoc (code_text digits code) (32 ∷ 32 ∷ []) (b ∷ bytes))) ∙ (ends_append (code_text digits code ++ 32 ∷ 32 ∷ []) bytes b ∙ h)

-- a line that ends well and is not a comment
class_plain : (line : List ℕ) (b : ℕ) (rest : List ℕ) → length line ≤ 65536 → 0 < length line → ends_well line ≡ true → past_separators line ≡ b ∷ rest → (b == 35) ≡ false → line_class line ≡ by_tabs line
unfolding line_class
class_plain line b rest short some ends past plain =
    let test : nat_lt 65536 (length line) ≡ false = le-ltb 65536 (length line) short in
    let kept : is_tail (get_or line (length line - 1) 0) ≡ false = not-true (is_tail (get_or line (length line - 1) 0)) (sym (ends_well_last line some) ∙ ends) in
    let same : trimmed line ≡ line = sym (trimmed_done line some kept) in
    let open_line : line_class line ≡ (if is_comment (past_separators (trimmed line)) then Ok None else by_tabs (trimmed line)) = rw test refl in
    let seen : is_comment (past_separators line) ≡ false = ap is_comment past ∙ plain in
    open_line ∙ (ap (λ (l : List ℕ). if is_comment (past_separators l) then Ok None else by_tabs l) same ∙ rw seen refl)

gap_short : (name : List ℕ) → length (gap name) ≤ 2
gap_short [] = omega arith
gap_short (b ∷ bytes) = omega arith

body_is_short : (digits code : ℕ) (name : List ℕ) → digits ≤ 4 → IsSpelt digits code → nat_le (length name) 65000 ≡ true → length (body digits code name) ≤ 65006
body_is_short digits code name few s short =
    let long = code_long digits code s in
    let small = leb-true (length name) 65000 short in
    let two = gap_short name in
    omega (arith, length-append (code_text digits code) (gap name ++ name), length-append (gap name) name)

body_some : (digits code : ℕ) (name : List ℕ) → IsSpelt digits code → 0 < length (body digits code name)
body_some digits code name s = let b = body_begins digits code name s in let e = ap length b.is in omega arith

digits_few : (digits code : ℕ) → is_code code digits ≡ true → digits ≤ 4
digits_few digits code e = leb-true digits 4 (both (nat_le 1 digits) (nat_le digits 4) (both (nat_le 1 digits && nat_le digits 4) (nat_lt code (16 ^ digits)) e).0).1

-- one tab is a mid, two are a leaf
tab_body : (bytes : List ℕ) → Begins bytes → after_tab bytes ≡ below One bytes
tab_body bytes b = let at : after_tab (b.first ∷ b.rest) ≡ below One (b.first ∷ b.rest) = rw b.other refl in ap after_tab b.is ∙ (at ∙ ap (below One) (sym b.is))

begin_top : (bytes : List ℕ) → Begins bytes → by_tabs bytes ≡ top bytes
begin_top bytes b = let at : by_tabs (b.first ∷ b.rest) ≡ top (b.first ∷ b.rest) = rw b.other refl in ap by_tabs b.is ∙ (at ∙ ap top (sym b.is))

past_begin : (bytes : List ℕ) (b : Begins bytes) → past_separators bytes ≡ b.first ∷ b.rest
past_begin bytes b = ap (λ (l : List ℕ). past_separators l) b.is ∙ past_solid b.first b.rest b.solid

ends_tab : (bytes : List ℕ) → Begins bytes → ends_well bytes ≡ true → ends_well (9 ∷ bytes) ≡ true
ends_tab bytes b h = ap (λ (l : List ℕ). ends_well (9 ∷ l)) b.is ∙ (ends_append (9 ∷ []) b.rest b.first ∙ (ap ends_well (sym b.is) ∙ h))

class_mid : (bytes : List ℕ) (b : Begins bytes) → length bytes ≤ 65500 → ends_well bytes ≡ true → line_class (9 ∷ bytes) ≡ below One bytes
class_mid bytes b short ends =
    class_plain (9 ∷ bytes) b.first b.rest (omega arith) (omega arith) (ends_tab bytes b ends) (past_one 9 bytes refl ∙ past_begin bytes b) b.plain ∙ tab_body bytes b

ends_two : (bytes : List ℕ) → Begins bytes → ends_well bytes ≡ true → ends_well (9 ∷ (9 ∷ bytes)) ≡ true
ends_two bytes b h = ap (λ (l : List ℕ). ends_well (9 ∷ (9 ∷ l))) b.is ∙ (ends_append (9 ∷ (9 ∷ [])) b.rest b.first ∙ (ap ends_well (sym b.is) ∙ h))

class_leaf : (bytes : List ℕ) (b : Begins bytes) → length bytes ≤ 65500 → ends_well bytes ≡ true → line_class (9 ∷ (9 ∷ bytes)) ≡ below Two bytes
class_leaf bytes b short ends =
    class_plain (9 ∷ (9 ∷ bytes)) b.first b.rest (omega arith) (omega arith) (ends_two bytes b ends) (past_one 9 (9 ∷ bytes) refl ∙ (past_one 9 bytes refl ∙ past_begin bytes b)) b.plain

class_top : (bytes : List ℕ) (b : Begins bytes) → length bytes ≤ 65536 → ends_well bytes ≡ true → line_class bytes ≡ top bytes
class_top bytes b short ends =
    let e = ap length b.is in
    class_plain bytes b.first b.rest short (omega arith) ends (past_begin bytes b) b.plain ∙ begin_top bytes b

-- a vendor's line
top_four : (bytes : List ℕ) → is_four (word bytes) ≡ true → top bytes ≡ below (Zero Vendor) bytes
unfolding top
top_four bytes e = rw e refl

code_four : (digits code : ℕ) → is_code code digits ≡ true → IsSpelt digits code → (digits == 4) ≡ true → is_four (code_text digits code) ≡ true
unfolding is_four
code_four digits code e s four = and_both (length (code_text digits code) == 4) (is_some (code_in (code_text digits code))) (ap (λ (n : ℕ). n == 4) (code_long digits code s) ∙ four) (ap is_some (code_reads_back digits code e s))

-- a tagged line
record Tags (tag : List ℕ) : Type 0 where
  first : ℕ
  rest : List ℕ
  is : tag ≡ first ∷ rest
  upper : list_all is_upper tag ≡ true
  short : length tag ≤ 8
  none : is_four tag ≡ false

tags : (tag : List ℕ) → is_tag tag ≡ true → Tags tag
unfolding is_tag
tags [] e = absurd cc
tags (b ∷ bytes) e =
    let a = both (nat_le 1 (length (b ∷ bytes)) && nat_le (length (b ∷ bytes)) 8 && list_all is_upper (b ∷ bytes)) (not (is_four (b ∷ bytes))) e in
    let c = both (nat_le 1 (length (b ∷ bytes)) && nat_le (length (b ∷ bytes)) 8) (list_all is_upper (b ∷ bytes)) a.0 in
    let d = both (nat_le 1 (length (b ∷ bytes))) (nat_le (length (b ∷ bytes)) 8) c.0 in
    record { first = b; rest = bytes; is = refl; upper = c.1; short = leb-true (length (b ∷ bytes)) 8 d.1; none = not-true (is_four (b ∷ bytes)) a.1 }

upper_solid : (b : ℕ) → is_upper b ≡ true → is_separator b ≡ false
upper_solid b e = grind (arith, nat_tests)

upper_plain : (b : ℕ) → is_upper b ≡ true → (b == 35) ≡ false
upper_plain b e = grind (arith, nat_tests)

upper_other : (b : ℕ) → is_upper b ≡ true → (b == 9) ≡ false
upper_other b e = grind (arith, nat_tests)

upper_inner : (b : ℕ) → is_upper b ≡ true → (b == 10) ≡ false
upper_inner b e = grind (arith, nat_tests)

tag_solid : (bytes : List ℕ) → list_all is_upper bytes ≡ true → list_all is_solid bytes ≡ true
tag_solid [] e = refl
tag_solid (b ∷ bytes) e = let p = both (is_upper b) (list_all is_upper bytes) e in and_both (is_solid b) (list_all is_solid bytes) (ap not (upper_solid b p.0)) (tag_solid bytes p.1)

tag_inner : (bytes : List ℕ) → list_all is_upper bytes ≡ true → list_all is_inner bytes ≡ true
tag_inner [] e = refl
tag_inner (b ∷ bytes) e = let p = both (is_upper b) (list_all is_upper bytes) e in and_both (is_inner b) (list_all is_inner bytes) (ap not (upper_inner b p.0)) (tag_inner bytes p.1)

abbrev tag_line : List ℕ → List ℕ → List ℕ
tag_line tag bytes = tag ++ (32 ∷ bytes)

tag_begins : (tag bytes : List ℕ) → Tags tag → Begins (tag_line tag bytes)
tag_begins tag bytes t =
    let upper : is_upper t.first ≡ true = (both (is_upper t.first) (list_all is_upper t.rest) (ap (list_all is_upper) (sym t.is) ∙ t.upper)).0 in
    record { first = t.first; rest = t.rest ++ (32 ∷ bytes); is = ap (λ (l : List ℕ). l ++ (32 ∷ bytes)) t.is; solid = upper_solid t.first upper; plain = upper_plain t.first upper; other = upper_other t.first upper }

tag_word : (tag bytes : List ℕ) → Tags tag → word (tag_line tag bytes) ≡ tag
tag_word tag bytes t = word_is tag (32 ∷ bytes) (tag_solid tag t.upper) refl

tag_after : (tag bytes : List ℕ) → Tags tag → Begins bytes → after_word (tag_line tag bytes) ≡ bytes
tag_after tag bytes t b = after_is tag (32 ∷ bytes) (tag_solid tag t.upper) refl ∙ (past_one 32 bytes refl ∙ (past_begin bytes b ∙ sym b.is))

top_tagged : (tag bytes : List ℕ) → is_tag tag ≡ true → Tags tag → Begins bytes → top (tag_line tag bytes) ≡ below (Zero (Tagged tag)) bytes
unfolding top tagged
top_tagged tag bytes e t b =
    let line : List ℕ = tag_line tag bytes in
    let is = tag_word tag bytes t in
    let none : is_four (word line) ≡ false = ap is_four is ∙ t.none in
    let tagged_word : is_tag (word line) ≡ true = ap is_tag is ∙ e in
    let chosen : top line ≡ below (Zero (Tagged (word line))) (after_word line) = rw (none, tagged_word) refl in
    chosen ∙ (ap (λ (w : List ℕ). below (Zero (Tagged w)) (after_word line)) is ∙ ap (below (Zero (Tagged tag))) (tag_after tag bytes t b))

ends_tag : (tag bytes : List ℕ) → Begins bytes → ends_well bytes ≡ true → ends_well (tag_line tag bytes) ≡ true
ends_tag tag bytes b h =
    ap (λ (l : List ℕ). ends_well (tag ++ (32 ∷ l))) b.is
    ∙ (ap ends_well (sym (append_assoc tag (32 ∷ []) (b.first ∷ b.rest)))
    ∙ (ends_append (tag ++ 32 ∷ []) b.rest b.first ∙ (ap ends_well (sym b.is) ∙ h)))

line_tag : (tag : List ℕ) (digits code : ℕ) (name : List ℕ) → line_text (tag ++ 32 ∷ []) digits code name ≡ tag_line tag (body digits code name)
unfolding line_text
line_tag tag digits code name = append_assoc tag (32 ∷ []) (body digits code name)

line_read : (depth : Depth) (digits code : ℕ) (name : List ℕ) → is_code code digits ≡ true → is_name name ≡ true → is_depth depth digits ≡ true → line_class (line_text (front depth) digits code name) ≡ Ok (Some (mk depth code digits name))
unfolding line_text
line_read One digits code name e n d =
    let s = spelt digits code e in
    let w = named name n in
    let short = body_is_short digits code name (digits_few digits code e) s w.short in
    class_mid (body digits code name) (body_begins digits code name s) (omega arith) (body_ends digits code name s w.ends) ∙ below_body One digits code name e s w.begins w.short
line_read Two digits code name e n d =
    let s = spelt digits code e in
    let w = named name n in
    let short = body_is_short digits code name (digits_few digits code e) s w.short in
    class_leaf (body digits code name) (body_begins digits code name s) (omega arith) (body_ends digits code name s w.ends) ∙ below_body Two digits code name e s w.begins w.short
line_read (Zero Vendor) digits code name e n d =
    let s = spelt digits code e in
    let w = named name n in
    let short = body_is_short digits code name (digits_few digits code e) s w.short in
    class_top (body digits code name) (body_begins digits code name s) (omega arith) (body_ends digits code name s w.ends)
    ∙ (top_four (body digits code name) (ap is_four (body_word digits code name s) ∙ code_four digits code e s d) ∙ below_body (Zero Vendor) digits code name e s w.begins w.short)
line_read (Zero (Tagged tag)) digits code name e n d =
    let s = spelt digits code e in
    let w = named name n in
    let t = tags tag d in
    let b = body_begins digits code name s in
    let short = body_is_short digits code name (digits_few digits code e) s w.short in
    let brief = t.short in
    ap line_class (line_tag tag digits code name)
    ∙ (class_top (tag_line tag (body digits code name)) (tag_begins tag (body digits code name) t) (omega (arith, length-append tag (32 ∷ body digits code name))) (ends_tag tag (body digits code name) b (body_ends digits code name s w.ends))
    ∙ (top_tagged tag (body digits code name) d t b ∙ below_body (Zero (Tagged tag)) digits code name e s w.begins w.short))

pub entry_read : (entry_line : EntryLine) → is_line entry_line ≡ true → line_class (line_text (front entry_line.depth) entry_line.digits entry_line.code entry_line.name) ≡ Ok (Some entry_line)
entry_read entry_line e = line_read entry_line.depth entry_line.digits entry_line.code entry_line.name (entry_code entry_line e) (entry_name entry_line e) (entry_depth entry_line e)

inner_body : (digits code : ℕ) (name : List ℕ) → IsSpelt digits code → list_all is_inner name ≡ true → list_all is_inner (body digits code name) ≡ true
inner_body digits code name s h =
    list_all-append is_inner (code_text digits code) (gap name ++ name)
    ∙ and_both (list_all is_inner (code_text digits code)) (list_all is_inner (gap name ++ name)) (ap (list_all is_inner) s.text ∙ inner_text (s.first ∷ s.others) (s.small, s.each)) (gap_inner name h)
  where
    gap_inner : (name : List ℕ) → list_all is_inner name ≡ true → list_all is_inner (gap name ++ name) ≡ true
    gap_inner [] h = refl
    gap_inner (b ∷ bytes) h = h

front_inner : (depth : Depth) (digits : ℕ) → is_depth depth digits ≡ true → list_all is_inner (front depth) ≡ true
front_inner One digits d = refl
front_inner Two digits d = refl
front_inner (Zero Vendor) digits d = refl
front_inner (Zero (Tagged tag)) digits d = let t = tags tag d in list_all-append is_inner tag (32 ∷ []) ∙ rw (tag_inner tag t.upper) refl

pub entry_inner : (entry_line : EntryLine) → is_line entry_line ≡ true → list_all is_inner (line_text (front entry_line.depth) entry_line.digits entry_line.code entry_line.name) ≡ true
unfolding line_text
entry_inner entry_line e =
    let s = spelt entry_line.digits entry_line.code (entry_code entry_line e) in
    let w = named entry_line.name (entry_name entry_line e) in
    list_all-append is_inner (front entry_line.depth) (body entry_line.digits entry_line.code entry_line.name)
    ∙ and_both (list_all is_inner (front entry_line.depth)) (list_all is_inner (body entry_line.digits entry_line.code entry_line.name)) (front_inner entry_line.depth entry_line.digits (entry_depth entry_line e)) (inner_body entry_line.digits entry_line.code entry_line.name s w.inner)
