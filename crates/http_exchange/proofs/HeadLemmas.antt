-- Which bytes have no answer by their head, and which have one.
use Rattle.std.proofs.Common.{◌≡◌, ℕ, ◌≤◌, ◌<◌, Bool, List, [], ◌∷◌, ◌++◌, length, take, drop, map, Some, None, inl, sym, refl, subst, ap, ◌∙◌, arith, rules, length-append}
use Rattle.std.proofs.lemmas.List.{append-nil, length-map, length-take, drop-append-le}
use Rattle.std.proofs.lemmas.List.Elements.{All-nil}
use Rattle.httparse.specs.declared.spans.HeaderSpan.{HeaderSpan}
use Rattle.httparse.specs.declared.spans.ResponseSpans.{ResponseSpans}
use Rattle.httparse.specs.Grammar.{ResponseHead, print_response, ReadsResponse, HasNoResponse, MayBecomeResponse, status_code, crlf}
use Rattle.httparse.specs.Spans.{IsResponseAt, IsResponseOf, IsResponseWithin, ResponseOverflows, header_bytes}
use Rattle.httparse.proofs.GrammarLemmas.{response_unique, response_prefix_free, ReadsResponse-append}
use Rattle.http1.specs.declared.fields.KnownFields.{KnownFields}
use Rattle.http1.specs.declared.framing.Framing.{Framing}
use Rattle.http1.specs.Fields.{known_fields}
use Rattle.http1.specs.Message.{known_of}
use Rattle.http1.proofs.TextLemmas.{front_within}
use Rattle.http_exchange.specs.declared.start.Start.{Start}
use Rattle.http_exchange.specs.Heads.{HasAnswerHead, framing_of, may_stay}
use Rattle.http_exchange.specs.Answers.{HasNoAnswer, IsAwaited, NeverAnswers}

pub no_response_nil : HasNoResponse []
unfolding print_response
no_response_nil h rest reads = let e = ap length reads.1 in absurd (omega (arith, simp length-append at e))

-- a head begins with no byte
pub response_may_nil : MayBecomeResponse []
unfolding print_response
response_may_nil =
    let head : ResponseHead = record { blank = []; minor = 1; digits = 50 ∷ 48 ∷ 48 ∷ []; reason = None; line_end = crlf; fields = []; last = crlf } in
    (print_response head, head, (record { minor = omega arith; digits = (refl, search rules); reason = All-nil _; fields = All-nil _ }, sym (append-nil (print_response head))))

no_answer_without_head : (bytes : List ℕ) → HasNoResponse bytes → HasNoAnswer bytes
no_answer_without_head bytes none = record { none = λ status body keeps answer. none answer.head.head _ answer.head.reads }

pub awaits_head : (bytes : List ℕ) → HasNoResponse bytes → MayBecomeResponse bytes → length bytes < 16384 → IsAwaited bytes
awaits_head bytes none begun short = record { none = no_answer_without_head bytes none; wanted = inl (record { none = none; begun = begun; short = short }) }

pub never_overflowing : (bytes : List ℕ) (room : ℕ) → room ≡ 64 → ResponseOverflows room bytes → NeverAnswers bytes
never_overflowing bytes room wide over = record {
  never = λ more status body keeps answer.
      let few = answer.head.few in
      let many = over more answer.head.head _ answer.head.reads in
      omega (arith, few, many, wide);
}

pub never_long : (bytes : List ℕ) → 16384 ≤ length bytes → HasNoResponse bytes → NeverAnswers bytes
never_long bytes long none = record {
  never = λ more status body keeps answer.
      let has = answer.head in
      let short = has.short in
      let len_is = has.len_is in
      none has.head _ (has.reads.0, front_within bytes more _ _ has.reads.1 (omega (arith, short, len_is, long)));
}

-- a head that is not accepted stays one
pub never_accepted : (bytes : List ℕ) (h : ResponseHead) (rest : List ℕ) → ReadsResponse bytes h rest
    → (length (print_response h) ≤ 16384 → (framing : Framing) → framing_of (status_code h) h.minor (known_of h.fields) ≡ Some framing → ⊥) → NeverAnswers bytes
never_accepted bytes h rest reads bad = record {
  never = λ more status body keeps answer.
      let has = answer.head in
      let same = (response_prefix_free bytes more h has.head rest _ reads has.reads).0 in
      let short : length (print_response has.head) ≤ 16384 = omega (arith, has.short, has.len_is) in
      bad (subst (λ (x : ResponseHead). length (print_response x) ≤ 16384) (sym same) short) _ (ap (λ (x : ResponseHead). framing_of (status_code x) x.minor (known_of x.fields)) same ∙ has.framed);
}

pub has_head_more : (bytes : List ℕ) (start : Start) (more : List ℕ) → HasAnswerHead bytes start → HasAnswerHead (bytes ++ more) start
has_head_more bytes start more h = record {
  head = h.head;
  reads = subst (λ (t : List ℕ). ReadsResponse (bytes ++ more) h.head t) (sym (drop-append-le start.len bytes more h.within)) (ReadsResponse-append bytes h.head (drop start.len bytes) more h.reads);
  within = omega (arith, h.within, length-append bytes more);
  len_is = h.len_is;
  short = h.short;
  few = h.few;
  status = h.status;
  framed = h.framed;
  stays = h.stays;
}

-- the fields that were found are those of the head
pub known_at : (bytes : List ℕ) (spans : List HeaderSpan) (r : ResponseSpans) (h : ResponseHead) (k : KnownFields) → IsResponseAt bytes spans r h
    → k ≡ known_fields (map (header_bytes bytes) (take r.headers spans)) → k ≡ known_of h.fields
known_at bytes spans r h k at known = known ∙ ap known_fields at.fields

pub framing_at : (bytes : List ℕ) (spans : List HeaderSpan) (r : ResponseSpans) (h : ResponseHead) (k : KnownFields) → IsResponseAt bytes spans r h
    → k ≡ known_fields (map (header_bytes bytes) (take r.headers spans)) → framing_of (status_code h) h.minor (known_of h.fields) ≡ framing_of r.code r.version k
framing_at bytes spans r h k at known = let is = known_at bytes spans r h k at known in λ i. framing_of (sym at.code i) (sym at.version i) (sym is i)

pub head_at : (bytes : List ℕ) (spans : List HeaderSpan) (r : ResponseSpans) (h : ResponseHead) (k : KnownFields) (framing : Framing) (stays : Bool)
    → length spans ≡ 64 → r.len ≤ 16384 → IsResponseWithin bytes spans r → IsResponseAt bytes spans r h
    → k ≡ known_fields (map (header_bytes bytes) (take r.headers spans)) → framing_of r.code r.version k ≡ Some framing → stays ≡ may_stay r.version k
    → HasAnswerHead bytes (record { len = r.len; status = r.code; framing = framing; stays = stays })
head_at bytes spans r h k framing stays room short within at known framed stay =
    let is = known_at bytes spans r h k at known in
    let lens = ap length at.fields in
    let fits = within.section.count_fits in
    record {
      head = h;
      reads = at.reads;
      within = within.section.len_fits;
      len_is = at.len;
      short = short;
      few = omega (arith, simp (length-map, length-take) at lens, length-take r.headers spans);
      status = at.code;
      framed = framing_at bytes spans r h k at known ∙ framed;
      stays = stay ∙ (λ i. may_stay (at.version i) (is i));
    }

pub head_of : (bytes : List ℕ) (spans : List HeaderSpan) (r : ResponseSpans) (k : KnownFields) (framing : Framing) (stays : Bool)
    → length spans ≡ 64 → r.len ≤ 16384 → IsResponseWithin bytes spans r → IsResponseOf bytes spans r
    → k ≡ known_fields (map (header_bytes bytes) (take r.headers spans)) → framing_of r.code r.version k ≡ Some framing → stays ≡ may_stay r.version k
    → HasAnswerHead bytes (record { len = r.len; status = r.code; framing = framing; stays = stays })
head_of bytes spans r k framing stays room short within of known framed stay = head_at bytes spans r of.0 k framing stays room short within of.1 known framed stay

pub never_past : (bytes : List ℕ) (spans : List HeaderSpan) (r : ResponseSpans) → IsResponseOf bytes spans r → 16384 < r.len → NeverAnswers bytes
never_past bytes spans r of long = never_accepted bytes of.0 _ of.1.reads (λ short framing framed. let len_is = of.1.len in omega (arith, short, len_is, long))

pub never_unframed : (bytes : List ℕ) (spans : List HeaderSpan) (r : ResponseSpans) (k : KnownFields) → IsResponseOf bytes spans r
    → k ≡ known_fields (map (header_bytes bytes) (take r.headers spans)) → framing_of r.code r.version k ≡ None → NeverAnswers bytes
never_unframed bytes spans r k of known none = never_accepted bytes of.0 _ of.1.reads (λ short framing framed.
    let same : framing_of (status_code of.0) of.0.minor (known_of of.0.fields) ≡ None = framing_at bytes spans r of.0 k of.1 known ∙ none in
    let clash : Some framing ≡ None = sym framed ∙ same in
    cc clash)

-- the head at the front is one only
pub same_start : (bytes : List ℕ) (a b : Start) → HasAnswerHead bytes a → HasAnswerHead bytes b → (a.len ≡ b.len) × (a.framing ≡ b.framing) × (a.status ≡ b.status) × (a.stays ≡ b.stays)
same_start bytes a b x y =
    let same = (response_unique bytes x.head y.head _ _ x.reads y.reads).0 in
    let framings : Some a.framing ≡ Some b.framing = sym x.framed ∙ ap (λ (h : ResponseHead). framing_of (status_code h) h.minor (known_of h.fields)) same ∙ y.framed in (
      x.len_is ∙ ap (λ (h : ResponseHead). length (print_response h)) same ∙ sym y.len_is,
      cc framings,
      x.status ∙ ap (λ (h : ResponseHead). status_code h) same ∙ sym y.status,
      x.stays ∙ ap (λ (h : ResponseHead). may_stay h.minor (known_of h.fields)) same ∙ sym y.stays,
    )
