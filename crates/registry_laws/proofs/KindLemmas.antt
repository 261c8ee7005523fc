-- Valid texts and numbers are read back from JSON.
use Rattle.std.proofs.Common.{◌≡◌, ℕ, ◌+◌, ◌*◌, ◌/◌, ◌%◌, ◌<◌, ◌≤◌, List, [], ◌∷◌, ◌++◌, length, Option, Some, None, IfSome, refl, sym, ap, ◌∙◌, arith}
use Rattle.std.specs.Prelude.{map, All, option_and_then}
use Rattle.std.proofs.Math.Decide.{dec_le}
use Rattle.std.proofs.lemmas.Bool.{le-leb}
use Rattle.std.proofs.lemmas.Bool.Decides.{nat_tests}
use Rattle.std.proofs.lemmas.List.Elements.{All-head, All-tail}
use Rattle.serde_json.specs.Data.{Data, string, array}
use Rattle.serde_json.specs.View.{items_of}
use Rattle.usbnum_core.specs.Number.{IsId, hex_value, lower_hex_digit, code_of, number_of, digits_of, range_text}
use Rattle.usbnum_core.specs.Spans.{IsSpread}
use Rattle.usbnum_core.specs.Text.{IsSlug, IsKey, IsTitle, IsLink, IsTime}
use Rattle.usbnum_core.specs.declared.number.Span.{Span}
use Rattle.usbnum_core.proofs.DigitLemmas.{digits_read}
use Rattle.registry_rules.specs.Orders.{IsItem}
use Rattle.registry_rules.specs.Texts.{IsAscending}
use Rattle.registry_rules.specs.declared.item.Item.{Item}
use Rattle.registry_wire.specs.Decisions.{slug_or_not, key_or_not, title_or_not, link_or_not, time_or_not}
use Rattle.registry_wire.specs.Founding.{span_written, span_after}
use Rattle.registry_wire.specs.Kinds.{where_it_holds, slug_of, key_of, title_of, time_of, kept_link}
use Rattle.registry_wire.specs.Record.{title_data, item_data, span_data, all_from, item_from, title_or_null, span_from, texts_from, spans_from}
use Rattle.registry_wire.specs.Spans.{span_of}
use Rattle.registry_wire.proofs.SpanLemmas.{same_span}
use Rattle.registry_wire.proofs.OrderedLemmas.{is_ascending_from, is_spread_from}

held : {P : Type 0} (decided : Dec P) (text : List ℕ) → P → where_it_holds decided text ≡ Some text
held (yes holds) text valid = refl
held (no fails) text valid = absurd (fails valid)

pub slug_back : (text : List ℕ) → IsSlug text → slug_of text ≡ Some text
unfolding slug_of
slug_back text valid = held (slug_or_not text) text valid

pub key_back : (text : List ℕ) → IsKey text → key_of text ≡ Some text
unfolding key_of
key_back text valid = held (key_or_not text) text valid

pub title_back : (text : List ℕ) → IsTitle text → title_of text ≡ Some text
unfolding title_of
title_back text valid = held (title_or_not text) text valid

pub time_back : (text : List ℕ) → IsTime text → time_of text ≡ Some text
unfolding time_of
time_back text valid = held (time_or_not text) text valid

pub link_back : (text : List ℕ) → IsLink text → kept_link text ≡ Some text
unfolding kept_link
link_back text valid = held (link_or_not text) text valid

digit_reads : (value : ℕ) → value < 16 → hex_value (lower_hex_digit value) ≡ Some value
digit_reads value small = grind (arith, nat_tests)

pub code_back : (n : ℕ) → n ≤ 65535 → code_of (digits_of n) ≡ Some n
code_back n within =
    let a : n / 4096 < 16 = omega arith in
    let b : n / 256 % 16 < 16 = omega arith in
    let c : n / 16 % 16 < 16 = omega arith in
    let d : n % 16 < 16 = omega arith in
    let sum : n / 4096 * 4096 + n / 256 % 16 * 256 + n / 16 % 16 * 16 + n % 16 ≡ n = omega arith in
    rw (digit_reads (n / 4096) a, digit_reads (n / 256 % 16) b, digit_reads (n / 16 % 16) c, digit_reads (n % 16) d) (ap (λ (x : ℕ). Some x) sum)

pub span_back : (span : Span) → span_of span.first span.last ≡ Some span
unfolding span_of
span_back span = sym (same_span span.first span.last (dec_le span.first span.last) (Some span) (λ some. span.ordered, λ ordered. refl) (refl, refl))

span_text_back : (span : Span) → IsId span.first → IsId span.last → span_from (span_data span) ≡ Some span
unfolding span_data span_written
span_text_back span first last =
    ap (option_and_then (λ n. span_after n (45 ∷ digits_of span.last))) (digits_read span.first first)
    ∙ (ap (option_and_then (span_of span.first)) (digits_read span.last last) ∙ span_back span)

pub all_back : {A : Type 0} (kind : Data → Option A) (form : A → Data) (Valid : A → Type 0) → ((x : A) → Valid x → kind (form x) ≡ Some x) → (xs : List A) → All Valid xs → all_from kind (items_of (map form xs)) ≡ Some xs
unfolding all_from
all_back kind form Valid each [] all = refl
all_back kind form Valid each (x ∷ xs) all = rw (each x (All-head Valid x xs all), all_back kind form Valid each xs (All-tail Valid x xs all)) refl

title_item_back : (title : Option (List ℕ)) → IfSome title IsTitle → title_or_null (title_data title) ≡ Some title
title_item_back None valid = refl
title_item_back (Some title) valid = rw (title_back title valid) refl

item_back : (it : Item) → IsItem it → item_from (item_data it) ≡ Some it
item_back it valid = rw (code_back it.code valid.code, title_item_back it.title valid.title) refl

pub items_back : (items : List Item) → All IsItem items → all_from item_from (items_of (map item_data items)) ≡ Some items
items_back items all = all_back item_from item_data IsItem item_back items all

pub texts_back : (kind : Data → Option (List ℕ)) (most : ℕ) (texts : List (List ℕ)) → all_from kind (items_of (map string texts)) ≡ Some texts
    → 1 ≤ length texts → length texts ≤ most → IsAscending texts → texts_from kind most (array (items_of (map string texts))) ≡ Some texts
texts_back kind most texts read some few rise = rw (read, le-leb 1 (length texts) some, le-leb (length texts) most few, is_ascending_from texts rise) refl

all_spans_back : (start : ℕ) (spans : List Span) → 1 ≤ start → IsSpread start spans → all_from span_from (items_of (map span_data spans)) ≡ Some spans
unfolding all_from
all_spans_back start [] from spread = refl
all_spans_back start (span ∷ spans) from spread =
    let low : start ≤ span.first = spread.0 in
    let high : span.last ≤ 65535 = spread.1 in
    let ordered : span.first ≤ span.last = span.ordered in
    let first : IsId span.first = record { above = omega arith; within = omega arith } in
    let last : IsId span.last = record { above = omega arith; within = high } in
    rw (span_text_back span first last, all_spans_back (span.last + 2) spans (omega arith) spread.2) refl

pub spans_back : (spans : List Span) → IsSpread 1 spans → spans_from (array (items_of (map span_data spans))) ≡ Some spans
spans_back spans spread = rw (all_spans_back 1 spans (omega arith) spread, is_spread_from 1 spans spread) refl
