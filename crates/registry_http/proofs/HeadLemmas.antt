-- All bytes that the source gives, from the bytes read so far.
use Rattle.std.proofs.Common.{◌≡◌, ℕ, ◌≤◌, List, [], ◌++◌, length, take, drop, sym, ap, ◌∙◌, append_assoc, arith, length-append}
use Rattle.std.proofs.lemmas.List.{take-append-le, take-append-drop, length-map, length-take}
use Rattle.std.proofs.Math.Seq.{take-append_seam}
use Rattle.httparse.specs.declared.spans.HeaderSpan.{HeaderSpan}
use Rattle.httparse.specs.declared.spans.RequestSpans.{RequestSpans}
use Rattle.httparse.specs.Grammar.{RequestHead, HasNoRequest, print_request}
use Rattle.httparse.specs.Spans.{IsRequestAt, IsRequestWithin, RequestOverflows}
use Rattle.registry_http.specs.Heads.{HasHead, HasNoHead}

pub has_no_request_nil : HasNoRequest []
unfolding print_request
has_no_request_nil h rest reads = let e = ap length reads.1 in absurd (omega (arith, simp length-append at e))

pub no_head_overflow : (buf more : List ℕ) (room : ℕ) → 64 ≤ room → RequestOverflows room buf → HasNoHead (buf ++ more)
no_head_overflow buf more room wide over h rest has = let few = has.few in let many = over more h rest has.reads in absurd (omega arith)

pub no_head_end : (buf : List ℕ) → HasNoRequest buf → HasNoHead buf
no_head_end buf none h rest has = none h rest has.reads

pub no_head_full : (buf more : List ℕ) → 8192 ≤ length buf → HasNoRequest buf → HasNoHead (buf ++ more)
no_head_full buf more full none h rest has =
    let n : ℕ = length (print_request h) in
    let short = has.short in
    let within : n ≤ length buf = omega arith in
    let front : take n buf ≡ print_request h = sym (take-append-le n buf more within) ∙ ap (take n) has.reads.1 ∙ take-append_seam (print_request h) rest in
    none h (drop n buf) (has.reads.0, sym (take-append-drop n buf) ∙ ap (λ (t : List ℕ). t ++ drop n buf) front)

pub whole_head : (buf : List ℕ) (spans : List HeaderSpan) (r : RequestSpans) (h : RequestHead) → length buf ≤ 8192 → length spans ≤ 64 → IsRequestWithin buf spans r → IsRequestAt buf spans r h → HasHead buf h (drop r.len buf)
whole_head buf spans r h small room within at =
    let lens = ap length at.fields in
    let len_fits = within.section.len_fits in
    let len = at.len in
    let counted : length h.fields ≤ length spans = omega (arith, simp (length-map, length-take) at lens, length-take r.headers spans) in
    record { reads = at.reads; short = omega arith; few = omega arith }

pub has_head_append : (buf : List ℕ) (h : RequestHead) (rest more : List ℕ) → HasHead buf h rest → HasHead (buf ++ more) h (rest ++ more)
has_head_append buf h rest more has = record { reads = (has.reads.0, ap (λ (t : List ℕ). t ++ more) has.reads.1 ∙ append_assoc (print_request h) rest more); short = has.short; few = has.few }
