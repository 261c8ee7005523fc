-- Lists that are in order as they stand are read as they stand.
use Rattle.std.proofs.Common.{◌≡◌, ℕ, ◌+◌, ◌<◌, ◌≤◌, ◌↔◌, suc, List, [], ◌∷◌, length, drop, get_or, Bool, true, false, cond, Option, Some, None, IsSome, IfSome, refl, sym, ap, ◌∙◌, arith, drop-cons, add-one, Ordering, Less, Equal, Greater}
use Rattle.std.specs.Prelude.{◌&&◌, nat_le, option_and_then}
use Rattle.std.specs.Ordering.{nat_cmp, is_lt}
use Rattle.std.specs.Cmp.Lexicographic.{slice_cmp}
use Rattle.std.specs.List.{AllByRecursion, list_any}
use Rattle.std.specs.List.Sorted.{IsStrictlySortedBy}
use Rattle.std.specs.Str.{bytes_eq}
use Rattle.std.proofs.lemmas.Bool.{and_parts, and_from, leb-true, le-leb}
use Rattle.std.proofs.lemmas.Cmp.{nat_list_cmp_total}
use Rattle.std.proofs.lemmas.Map.Text.{is_eq-slice_cmp}
use Rattle.std.proofs.lemmas.Slice.Eq.{bytes_eq-Decides}
use Rattle.std.proofs.lemmas.Bool.Decides.{nat_tests}
use Rattle.std.proofs.Math.Seq.{drop-length}
use Rattle.serde_json.specs.Data.{Data, Items}
use Rattle.serde_json.specs.Find.{as_array}
use Rattle.usbnum_core.specs.Spans.{span_has, spans_have, IsSpread}
use Rattle.usbnum_core.specs.declared.number.Span.{Span}
use Rattle.usbnum_core.proofs.SameSpansLemmas.{same_spans}
use Rattle.registry_rules.specs.Texts.{IsAscending, AreSorted}
use Rattle.registry_wire.specs.Founding.{one_to}
use Rattle.registry_wire.specs.Record.{is_before_all, is_ascending, if_ascending, is_spread, if_spread, all_from, texts_from, span_from, spans_from}
use Rattle.registry_wire.proofs.AscendLemmas.{all_weaker, one_order}

-- ---- texts

abbrev is_below : List ℕ → List ℕ → Type 0
is_below a b = slice_cmp nat_cmp a b ≡ Less

lt_is_less : (o : Ordering) → is_lt o ≡ true → o ≡ Less
lt_is_less Less e = refl
lt_is_less Equal e = absurd cc
lt_is_less Greater e = absurd cc

below_rest : (text : List ℕ) (others : List (List ℕ)) → is_before_all text others ≡ true → IsStrictlySortedBy (slice_cmp nat_cmp) others → AllByRecursion (is_below text) others
unfolding IsStrictlySortedBy
below_rest text [] before rise = tt
below_rest text (first ∷ others) before rise =
    let here = lt_is_less (slice_cmp nat_cmp text first) before in
    (here, all_weaker (is_below first) (is_below text) (λ z more. nat_list_cmp_total.trans text first z here more) others rise.0)

ascending_is : (texts : List (List ℕ)) → is_ascending texts ≡ true → IsAscending texts
unfolding is_ascending IsStrictlySortedBy
ascending_is [] e = tt
ascending_is (first ∷ others) e =
    let parts = and_parts (is_before_all first others) (is_ascending others) e in
    let rise = ascending_is others parts.1 in
    (below_rest first others parts.0 rise, rise)

before_first : (text : List ℕ) (others : List (List ℕ)) → AllByRecursion (is_below text) others → is_before_all text others ≡ true
before_first text [] below = refl
before_first text (first ∷ others) below = ap is_lt below.0

pub is_ascending_from : (texts : List (List ℕ)) → IsAscending texts → is_ascending texts ≡ true
unfolding is_ascending IsStrictlySortedBy
is_ascending_from [] rise = refl
is_ascending_from (first ∷ others) rise = and_from (is_before_all first others) (is_ascending others) (before_first first others rise.0) (is_ascending_from others rise.1)

-- one step of the loop
ascending_step : (texts : List (List ℕ)) (i : ℕ) (text : List ℕ) → i < length texts → text ≡ get_or texts i text → is_ascending (drop i texts) ≡ (is_before_all text (drop (i + 1) texts) && is_ascending (drop (i + 1) texts))
unfolding is_ascending
ascending_step texts i text within is = rw add-one (ap is_ascending (drop-cons texts i text within) ∙ ap (λ (x : List ℕ). is_before_all x (drop (suc i) texts) && is_ascending (drop (suc i) texts)) (sym is))

if_true : (a b : Bool) → a ≡ true → (a && b) ≡ b
if_true true b e = refl
if_true false b e = absurd cc

if_false : (a b : Bool) → a ≡ false → (a && b) ≡ false
if_false true b e = absurd cc
if_false false b e = refl

pub ascending_goes : (texts : List (List ℕ)) (i : ℕ) (text : List ℕ) (whole : Bool) → i < length texts → text ≡ get_or texts i text → is_ascending (drop i texts) ≡ whole
    → is_before_all text (drop (i + 1) texts) ≡ true → is_ascending (drop (i + 1) texts) ≡ whole
ascending_goes texts i text whole within is sofar before =
    sym (if_true (is_before_all text (drop (i + 1) texts)) (is_ascending (drop (i + 1) texts)) before) ∙ (sym (ascending_step texts i text within is) ∙ sofar)

pub ascending_fails : (texts : List (List ℕ)) (i : ℕ) (text : List ℕ) (whole : Bool) → i < length texts → text ≡ get_or texts i text → is_ascending (drop i texts) ≡ whole
    → is_before_all text (drop (i + 1) texts) ≡ false → false ≡ whole
ascending_fails texts i text whole within is sofar before =
    sym (if_false (is_before_all text (drop (i + 1) texts)) (is_ascending (drop (i + 1) texts)) before) ∙ (sym (ascending_step texts i text within is) ∙ sofar)

pub ascending_ends : (texts : List (List ℕ)) (i : ℕ) (whole : Bool) → i ≡ length texts → is_ascending (drop i texts) ≡ whole → true ≡ whole
unfolding is_ascending
ascending_ends texts i whole end sofar = let nothing : is_ascending (drop i texts) ≡ true = rw (end, drop-length texts) refl in sym nothing ∙ sofar

one_sorted : (given ordered : List (List ℕ)) → is_ascending given ≡ true → AreSorted given ordered → ordered ≡ given
one_sorted given ordered rises sorted =
    one_order (slice_cmp nat_cmp) nat_list_cmp_total bytes_eq is_eq-slice_cmp (λ a b h. (bytes_eq-Decides a b).0 h) ordered given sorted.ascending (ascending_is given rises) sorted.same

counted : (most : ℕ) (given : List (List ℕ)) → (1 ≤ length given) × (length given ≤ most) → (nat_le 1 (length given) && nat_le (length given) most) ≡ true
counted most given h = and_from _ _ (le-leb 1 (length given) h.0) (le-leb (length given) most h.1)

counted_from : (most : ℕ) (given : List (List ℕ)) → (nat_le 1 (length given) && nat_le (length given) most) ≡ true → (1 ≤ length given) × (length given ≤ most)
counted_from most given e = let parts = and_parts _ _ e in (leb-true 1 (length given) parts.0, leb-true (length given) most parts.1)

if_counted : (b : Bool) (most : ℕ) (given : List (List ℕ)) (found : Option (List (List ℕ))) → is_ascending given ≡ true → (nat_le 1 (length given) && nat_le (length given) most) ≡ b
    → (IsSome found ↔ ((1 ≤ length given) × (length given ≤ most))) → IfSome found (AreSorted given) → found ≡ option_and_then if_ascending (cond b (Some given) None)
if_counted true most given None rises is some sorted = let there : IsSome {T = List (List ℕ)} None = some.1 (counted_from most given is) in absurd cc
if_counted true most given (Some ordered) rises is some sorted = rw rises (ap (λ (x : List (List ℕ)). Some x) (one_sorted given ordered rises sorted))
if_counted false most given None rises is some sorted = refl
if_counted false most given (Some ordered) rises is some sorted = let there = counted most given (some.0 refl) in absurd cc

-- the list that is made of an ascending list is that list
ordered_list : (most : ℕ) (given : List (List ℕ)) (found : Option (List (List ℕ))) → is_ascending given ≡ true
    → (IsSome found ↔ ((1 ≤ length given) × (length given ≤ most))) → IfSome found (AreSorted given) → found ≡ option_and_then if_ascending (one_to most given)
ordered_list most given found rises some sorted = if_counted _ most given found rises refl some sorted

-- an ascending array of texts is read as it stands
pub texts_read : (kind : Data → Option (List ℕ)) (most : ℕ) (found : Data) (items : Items) (given : List (List ℕ)) (made : Option (List (List ℕ))) → Some items ≡ as_array found → Some given ≡ all_from kind items
    → is_ascending given ≡ true → (IsSome made ↔ ((1 ≤ length given) × (length given ≤ most))) → IfSome made (AreSorted given) → made ≡ texts_from kind most found
texts_read kind most found items given made array all rises some sorted =
    ordered_list most given made rises some sorted
    ∙ ap (λ read. option_and_then if_ascending (option_and_then (one_to most) read)) (all ∙ ap (option_and_then (all_from kind)) array)

-- ---- spans

spread_is : (start : ℕ) (spans : List Span) → is_spread start spans ≡ true → IsSpread start spans
unfolding is_spread
spread_is start [] e = tt
spread_is start (span ∷ others) e =
    let outer = and_parts (nat_le start span.first && nat_le span.last 65535) (is_spread (span.last + 2) others) e in
    let ends = and_parts (nat_le start span.first) (nat_le span.last 65535) outer.0 in
    (leb-true start span.first ends.0, leb-true span.last 65535 ends.1, spread_is (span.last + 2) others outer.1)

pub is_spread_from : (start : ℕ) (spans : List Span) → IsSpread start spans → is_spread start spans ≡ true
unfolding is_spread
is_spread_from start [] spread = refl
is_spread_from start (span ∷ others) spread =
    let ends = and_from (nat_le start span.first) (nat_le span.last 65535) (le-leb start span.first spread.0) (le-leb span.last 65535 spread.1) in
    and_from (nat_le start span.first && nat_le span.last 65535) (is_spread (span.last + 2) others) ends (is_spread_from (span.last + 2) others spread.2)

-- one step of the loop
spread_step : (start : ℕ) (spans : List Span) (i : ℕ) (span : Span) → i < length spans → span ≡ get_or spans i span
    → is_spread start (drop i spans) ≡ (nat_le start span.first && nat_le span.last 65535 && is_spread (span.last + 2) (drop (i + 1) spans))
unfolding is_spread
spread_step start spans i span within is = rw add-one (ap (is_spread start) (drop-cons spans i span within) ∙ ap (λ (x : Span). nat_le start x.first && nat_le x.last 65535 && is_spread (x.last + 2) (drop (suc i) spans)) (sym is))

pub spread_goes : (start : ℕ) (spans : List Span) (i : ℕ) (span : Span) (whole : Bool) → i < length spans → span ≡ get_or spans i span → is_spread start (drop i spans) ≡ whole
    → start ≤ span.first → span.last ≤ 65535 → is_spread (span.last + 2) (drop (i + 1) spans) ≡ whole
spread_goes start spans i span whole within is sofar low high =
    let ends = and_from (nat_le start span.first) (nat_le span.last 65535) (le-leb start span.first low) (le-leb span.last 65535 high) in
    sym (if_true (nat_le start span.first && nat_le span.last 65535) (is_spread (span.last + 2) (drop (i + 1) spans)) ends) ∙ (sym (spread_step start spans i span within is) ∙ sofar)

pub spread_fails : (start : ℕ) (spans : List Span) (i : ℕ) (span : Span) (whole : Bool) → i < length spans → span ≡ get_or spans i span → is_spread start (drop i spans) ≡ whole
    → span.first < start → false ≡ whole
spread_fails start spans i span whole within is sofar low =
    let starts : nat_le start span.first ≡ false = grind (arith, nat_tests) in
    let ends = if_false (nat_le start span.first) (nat_le span.last 65535) starts in
    sym (if_false (nat_le start span.first && nat_le span.last 65535) (is_spread (span.last + 2) (drop (i + 1) spans)) ends) ∙ (sym (spread_step start spans i span within is) ∙ sofar)

pub spread_ends : (start : ℕ) (spans : List Span) (i : ℕ) (whole : Bool) → i ≡ length spans → is_spread start (drop i spans) ≡ whole → true ≡ whole
unfolding is_spread
spread_ends start spans i whole end sofar = let nothing : is_spread start (drop i spans) ≡ true = rw (end, drop-length spans) refl in sym nothing ∙ sofar

-- the set that is made of maximal spans has these spans
ordered_spans : (given made : List Span) → is_spread 1 given ≡ true → IsSpread 1 made → ((n : ℕ) → spans_have made n ≡ list_any (λ span. span_has span n) given) → Some made ≡ if_spread given
ordered_spans given made spreads spread same = rw spreads (ap (λ (x : List Span). Some x) (same_spans 1 1 made given spread (spread_is 1 given spreads) same))

-- an array of maximal spans is read as it stands
pub spans_read : (found : Data) (items : Items) (given made : List Span) → Some items ≡ as_array found → Some given ≡ all_from span_from items → is_spread 1 given ≡ true
    → IsSpread 1 made → ((n : ℕ) → spans_have made n ≡ list_any (λ span. span_has span n) given) → Some made ≡ spans_from found
spans_read found items given made array all spreads spread same = ordered_spans given made spreads spread same ∙ ap (option_and_then if_spread) (all ∙ ap (option_and_then (all_from span_from)) array)
