-- JSON without fractions is read back from its text.
use Rattle.std.proofs.Common.{◌≡◌, ℕ, zero, suc, ◌+◌, ◌<◌, ◌≤◌, ◌^◌, Bool, true, false, List, [], ◌∷◌, ◌++◌, length, get_or, Option, Some, None, refl, sym, ap, ap₂, subst, ◌∙◌, arith, decimal, append-nil, Ordering, Less, Equal, Greater}
use Rattle.std.specs.Prelude.{⊤, ◌&&◌, option_map, option_and_then}
use Rattle.std.specs.Cmp.Lexicographic.{slice_cmp}
use Rattle.std.specs.Ordering.{nat_cmp, match_ordering, is_lt, ordering_reverse}
use Rattle.std.specs.List.{AllByRecursion}
use Rattle.std.specs.Str.{IsUtf8}
use Rattle.std.proofs.lemmas.Bool.{and_parts, and_from}
use Rattle.std.proofs.lemmas.Cmp.{nat_list_cmp_total}
use Rattle.std.proofs.lemmas.Fmt.{decimal_is_IsNumeral}
use Rattle.std.proofs.lemmas.Str.{IsUtf8-append, IsUtf8-nil}
use Rattle.std.proofs.lemmas.Str.Parse.{digit_at}
use Rattle.json.specs.Json as json
use Rattle.json.specs.Lex.{tokens}
use Rattle.json.specs.Print.{quoted}
use Rattle.json.specs.Tree as tree
use Rattle.json.proofs.Printed.Decimals.{IsNumber-decimal}
use Rattle.json.proofs.Printed.Tokens.{tokens-print}
use Rattle.json.proofs.Printed.Trees.{ArePrintable-json_tokens, value-json_tokens}
use Rattle.json.proofs.Printed.Utf8.{IsUtf8-are_ascii, IsUtf8-quoted, IsUtf8-boolean}
use Rattle.serde_json.specs.Data.{Num, unsigned, negative, float, Data, null, boolean, number, string, array, object, Items, no_items, item, Members, no_members, member, put}
use Rattle.serde_json.specs.Read.{of_json, of_items, of_members, max_depth, read}
use Rattle.serde_json.specs.Written.{outline, items_outline, members_outline, comma_if, compact_text, items_text, members_text}
use Rattle.serde_json.proofs.Numbers.{number_of-decimal}
use Rattle.serde_json.proofs.Texts.{print-outline}
use Rattle.usbnum_core.specs.Utf8.{low_is_utf8}

-- ---- values without objects that nest at most n deep, whose texts are UTF-8 and whose numbers are whole

abbrev IsWhole : Num → Type 0
IsWhole (unsigned n) = n < 2 ^ 64
IsWhole (negative z) = ⊥
IsWhole (float x) = ⊥

abbrev mutual
  pub IsPlain : ℕ → Data → Type 0
  IsPlain n null = ⊤
  IsPlain n (boolean b) = ⊤
  IsPlain n (number m) = IsWhole m
  IsPlain n (string s) = IsUtf8 s
  IsPlain zero (array ds) = ⊥
  IsPlain (suc n) (array ds) = ArePlain n ds
  IsPlain n (object ms) = ⊥

  pub ArePlain : ℕ → Items → Type 0
  ArePlain n no_items = ⊤
  ArePlain n (item d ds) = IsPlain n d × ArePlain n ds

number_back : (m : Num) → IsWhole m → of_json (outline (number m)) ≡ Some (number m)
number_back (unsigned n) h = ap (option_map number) (number_of-decimal n h)
number_back (negative z) h = absurd h
number_back (float x) h = absurd h

mutual
  value_back : (n : ℕ) (d : Data) → IsPlain n d → of_json (outline d) ≡ Some d
  value_back n null h = refl
  value_back n (boolean b) h = refl
  value_back n (number m) h = number_back m h
  value_back n (string s) h = refl
  value_back zero (array ds) h = absurd h
  value_back (suc n) (array ds) h = ap (option_map array) (items_back n ds h)
  value_back n (object ms) h = absurd h

  items_back : (n : ℕ) (ds : Items) → ArePlain n ds → of_items (items_outline ds) ≡ Some ds
  items_back n no_items h = refl
  items_back n (item d ds) h = rw (value_back n d h.0, items_back n ds h.1) refl

number_numbers : (m : Num) → IsWhole m → tree.HasNumbers (outline (number m))
number_numbers (unsigned n) h = IsNumber-decimal n h
number_numbers (negative z) h = absurd h
number_numbers (float x) h = absurd h

mutual
  value_numbers : (n : ℕ) (d : Data) → IsPlain n d → tree.HasNumbers (outline d)
  value_numbers n null h = tt
  value_numbers n (boolean b) h = tt
  value_numbers n (number m) h = number_numbers m h
  value_numbers n (string s) h = tt
  value_numbers zero (array ds) h = absurd h
  value_numbers (suc n) (array ds) h = items_numbers n ds h
  value_numbers n (object ms) h = absurd h

  items_numbers : (n : ℕ) (ds : Items) → ArePlain n ds → tree.ItemsHaveNumbers (items_outline ds)
  items_numbers n no_items h = tt
  items_numbers n (item d ds) h = (value_numbers n d h.0, items_numbers n ds h.1)

mutual
  value_shallow : (n : ℕ) (d : Data) → IsPlain n d → tree.depth (outline d) ≤ n
  value_shallow n null h = omega arith
  value_shallow n (boolean b) h = omega arith
  value_shallow n (number m) h = omega arith
  value_shallow n (string s) h = omega arith
  value_shallow zero (array ds) h = absurd h
  value_shallow (suc n) (array ds) h = let rest = items_shallow n ds h in omega arith
  value_shallow n (object ms) h = absurd h

  items_shallow : (n : ℕ) (ds : Items) → ArePlain n ds → tree.items_depth (items_outline ds) ≤ n
  items_shallow n no_items h = omega arith
  items_shallow n (item d ds) h = let first = value_shallow n d h.0 in let rest = items_shallow n ds h.1 in omega arith

-- ---- UTF-8

byte_utf8 : (byte : ℕ) → byte < 128 → IsUtf8 (byte ∷ [])
byte_utf8 byte low = low_is_utf8 (byte ∷ []) (λ i h. let first : i ≡ 0 = omega arith in rw first low)

-- bytes below 128 are UTF-8
pub ascii_utf8 : (text : List ℕ) → AllByRecursion (λ byte. byte < 128) text → IsUtf8 text
ascii_utf8 [] low = IsUtf8-nil
ascii_utf8 (byte ∷ text) low = IsUtf8-append (byte ∷ []) text (byte_utf8 byte low.0) (ascii_utf8 text low.1)

digit_low : (text : List ℕ) → ((i : ℕ) → i < length text → (48 ≤ get_or text i 0) × (get_or text i 0 ≤ 57)) → IsUtf8 text
digit_low [] digits = IsUtf8-nil
digit_low (d ∷ text) digits =
    let first : (48 ≤ d) × (d ≤ 57) = digits 0 (omega arith) in
    IsUtf8-append (d ∷ []) text (byte_utf8 d (omega (arith, first))) (digit_low text (λ i l. digits (suc i) (omega arith)))

decimal_utf8 : (n : ℕ) → n < 2 ^ 64 → IsUtf8 (decimal n)
decimal_utf8 n h = digit_low (decimal n) (λ i l. digit_at (decimal n) i (decimal_is_IsNumeral n h).0.1 l)

number_utf8 : (m : Num) → IsWhole m → IsUtf8 (compact_text (number m))
number_utf8 (unsigned n) h = decimal_utf8 n h
number_utf8 (negative z) h = absurd h
number_utf8 (float x) h = absurd h

comma_utf8 : (later : Bool) → IsUtf8 (comma_if later)
comma_utf8 true = IsUtf8-are_ascii _ refl
comma_utf8 false = IsUtf8-nil

mutual
  value_utf8 : (n : ℕ) (d : Data) → IsPlain n d → IsUtf8 (compact_text d)
  value_utf8 n null h = IsUtf8-are_ascii _ refl
  value_utf8 n (boolean b) h = IsUtf8-boolean b
  value_utf8 n (number m) h = number_utf8 m h
  value_utf8 n (string s) h = IsUtf8-quoted s h
  value_utf8 zero (array ds) h = absurd h
  value_utf8 (suc n) (array ds) h = IsUtf8-append (91 ∷ []) (items_text false ds) (IsUtf8-are_ascii _ refl) (items_utf8 n false ds h)
  value_utf8 n (object ms) h = absurd h

  items_utf8 : (n : ℕ) (later : Bool) (ds : Items) → ArePlain n ds → IsUtf8 (items_text later ds)
  items_utf8 n later no_items h = IsUtf8-are_ascii _ refl
  items_utf8 n later (item d ds) h =
      IsUtf8-append (comma_if later) (compact_text d ++ items_text true ds) (comma_utf8 later) (IsUtf8-append (compact_text d) (items_text true ds) (value_utf8 n d h.0) (items_utf8 n true ds h.1))

-- ---- members in order

abbrev pub MembersArePlain : ℕ → Members → Type 0
MembersArePlain n no_members = ⊤
MembersArePlain n (member k d ms) = IsUtf8 k × IsPlain n d × MembersArePlain n ms

abbrev pub is_first : List ℕ → Members → Bool
is_first k no_members = true
is_first k (member l d ms) = is_lt (slice_cmp nat_cmp k l)

-- the keys ascend
abbrev pub ascend : Members → Bool
ascend no_members = true
ascend (member k d ms) = is_first k ms && ascend ms

-- the key is above all of these
abbrev IsAbove : List ℕ → Members → Type 0
IsAbove k no_members = ⊤
IsAbove k (member l d ms) = (slice_cmp nat_cmp l k ≡ Less) × IsAbove k ms

abbrev joined : Members → Members → Members
joined no_members ms = ms
joined (member k d found) ms = member k d (joined found ms)

turned : (a b : List ℕ) → slice_cmp nat_cmp a b ≡ Less → slice_cmp nat_cmp b a ≡ Greater
turned a b less = nat_list_cmp_total.antisymm b a ∙ ap ordering_reverse less

pub turned_back : (a b : List ℕ) → slice_cmp nat_cmp a b ≡ Greater → slice_cmp nat_cmp b a ≡ Less
turned_back a b greater = nat_list_cmp_total.antisymm b a ∙ ap ordering_reverse greater

put_above : (k : List ℕ) (d : Data) (found : Members) → IsAbove k found → put k d found ≡ joined found (member k d no_members)
put_above k d no_members above = refl
put_above k d (member l e found) above = rw (turned l k above.0) (ap (member l e) (put_above k d found above.1))

higher : (k l : List ℕ) (found : Members) → slice_cmp nat_cmp k l ≡ Less → IsAbove k found → IsAbove l found
higher k l no_members less above = tt
higher k l (member m d found) less above = (nat_list_cmp_total.trans m k l above.0 less, higher k l found less above.1)

above_last : (k l : List ℕ) (d : Data) (found : Members) → slice_cmp nat_cmp k l ≡ Less → IsAbove k found → IsAbove l (joined found (member k d no_members))
above_last k l d no_members less above = (less, tt)
above_last k l d (member m e found) less above = (nat_list_cmp_total.trans m k l above.0 less, above_last k l d found less above.1)

join_one : (found : Members) (k : List ℕ) (d : Data) (ms : Members) → joined (joined found (member k d no_members)) ms ≡ joined found (member k d ms)
join_one no_members k d ms = refl
join_one (member l e found) k d ms = ap (member l e) (join_one found k d ms)

join_none : (found : Members) → joined found no_members ≡ found
join_none no_members = refl
join_none (member l e found) = ap (member l e) (join_none found)

-- the first key, if there is one, is above all that were found
abbrev IsNext : Members → Members → Type 0
IsNext no_members found = ⊤
IsNext (member k d ms) found = IsAbove k found

next_none : (ms : Members) → IsNext ms no_members
next_none no_members = tt
next_none (member k d ms) = tt

lt_is_less : (o : Ordering) → is_lt o ≡ true → o ≡ Less
lt_is_less Less e = refl
lt_is_less Equal e = absurd cc
lt_is_less Greater e = absurd cc

next_after : (k : List ℕ) (d : Data) (ms found : Members) → is_first k ms ≡ true → IsAbove k found → IsNext ms (joined found (member k d no_members))
next_after k d no_members found first above = tt
next_after k d (member l e ms) found first above = above_last k l d found (lt_is_less (slice_cmp nat_cmp k l) first) above

members_back : (n : ℕ) (ms found : Members) → MembersArePlain n ms → ascend ms ≡ true → IsNext ms found → of_members (members_outline ms) found ≡ Some (joined found ms)
members_back n no_members found h rise next = ap (λ (x : Members). Some x) (sym (join_none found))
members_back n (member k d ms) found h rise next =
    let parts = and_parts (is_first k ms) (ascend ms) rise in
    rw (value_back n d h.1, put_above k d found next)
    (members_back n ms (joined found (member k d no_members)) h.2 parts.1 (next_after k d ms found parts.0 next) ∙ ap (λ (x : Members). Some x) (join_one found k d ms))

members_numbers : (n : ℕ) (ms : Members) → MembersArePlain n ms → tree.MembersHaveNumbers (members_outline ms)
members_numbers n no_members h = tt
members_numbers n (member k d ms) h = (value_numbers n d h.1, members_numbers n ms h.2)

members_shallow : (n : ℕ) (ms : Members) → MembersArePlain n ms → tree.members_depth (members_outline ms) ≤ n
members_shallow n no_members h = omega arith
members_shallow n (member k d ms) h = let first = value_shallow n d h.1 in let rest = members_shallow n ms h.2 in omega arith

members_utf8 : (n : ℕ) (later : Bool) (ms : Members) → MembersArePlain n ms → IsUtf8 (members_text later ms)
members_utf8 n later no_members h = IsUtf8-are_ascii _ refl
members_utf8 n later (member k d ms) h =
    let rest = IsUtf8-append (compact_text d) (members_text true ms) (value_utf8 n d h.1) (members_utf8 n true ms h.2) in
    let colon = IsUtf8-append (58 ∷ []) (compact_text d ++ members_text true ms) (IsUtf8-are_ascii _ refl) rest in
    IsUtf8-append (comma_if later) (quoted k ++ 58 ∷ (compact_text d ++ members_text true ms)) (comma_utf8 later) (IsUtf8-append (quoted k) (58 ∷ (compact_text d ++ members_text true ms)) (IsUtf8-quoted k h.0) colon)

-- ---- objects

pub object_utf8 : (n : ℕ) (ms : Members) → MembersArePlain n ms → IsUtf8 (compact_text (object ms))
object_utf8 n ms h = IsUtf8-append (123 ∷ []) (members_text false ms) (IsUtf8-are_ascii _ refl) (members_utf8 n false ms h)

-- an object is read back from its text
pub object_read : (n : ℕ) (ms : Members) → n < max_depth → MembersArePlain n ms → ascend ms ≡ true → read (compact_text (object ms)) ≡ Some (object ms)
object_read n ms shallow h rise =
    let j = outline (object ms) in
    let deep : tree.depth j ≤ max_depth = let inner = members_shallow n ms h in omega arith in
    let same : tokens (compact_text (object ms)) ≡ tree.json_tokens j ++ [] =
    ap tokens (sym (print-outline (object ms))) ∙ tokens-print (tree.json_tokens j) (ArePrintable-json_tokens j (members_numbers n ms h)) ∙ sym (append-nil (tree.json_tokens j)) in
    ap (λ (ts : List _). option_and_then of_json (option_and_then (λ p. json.if_last p.0 p.1) (json.value max_depth ts))) same
    ∙ ap (λ o. option_and_then of_json (option_and_then (λ p. json.if_last p.0 p.1) o)) (value-json_tokens j max_depth [] deep)
    ∙ ap (option_map object) (members_back n ms no_members h rise (next_none ms))
