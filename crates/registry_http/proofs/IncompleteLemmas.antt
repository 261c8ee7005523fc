-- What a message lacks where a read fails.
use Rattle.std.proofs.Common.{◌≡◌, ◌⊎◌, ◌<◌, ◌≤◌, ◌+◌, ◌-◌, ℕ, List, [], ◌++◌, length, drop, Option, Some, None, inl, inr, sym, ap, subst, ◌∙◌, arith, length-append}
use Rattle.std.specs.Prelude.{map, min, take, Result, Ok, Err}
use Rattle.std.specs.Io.KnownBytes.{Consumes, Keeps}
use Rattle.std.proofs.lemmas.Bool.{lt-leb}
use Rattle.std.proofs.lemmas.List.{length-drop}
use Rattle.httparse.specs.declared.spans.HeaderSpan.{HeaderSpan}
use Rattle.httparse.specs.declared.spans.RequestSpans.{RequestSpans}
use Rattle.httparse.specs.Spans.{IsRequestAt, span_bytes, header_bytes}
use Rattle.httparse.specs.Grammar.{RequestHead, HasNoRequest, MayBecomeRequest}
use Rattle.httparse.proofs.GrammarLemmas.{request_unique}
use Rattle.byte_streams.specs.Streams.{FailsOnce}
use Rattle.byte_streams.proofs.StreamLemmas.{consumes_then}
use Rattle.registry_http.specs.declared.refusal.HttpRefusal.{HttpRefusal}
use Rattle.registry_http.specs.declared.refusal.HttpRefusal.TheVariants.{BadHead, ShortBody}
use Rattle.registry_http.specs.declared.reading.Head.{Head}
use Rattle.registry_http.specs.declared.reading.Head.TheVariants as heads
use Rattle.registry_http.specs.declared.message.Message.{Message}
use Rattle.registry_http.specs.Heads.{HasHead}
use Rattle.registry_http.specs.Incomplete.{FailsAfter, HasOpenBody, IsIncomplete}
use Rattle.registry_http.specs.Messages.{BodySays, HeadSays, Says, as_message}
use Rattle.registry_http.specs.Reading.{routed_head, head_reading}
use Rattle.registry_http.proofs.BodyLemmas.{body_short}
use Rattle.registry_http.proofs.HeadLemmas.{has_head_append, has_no_request_nil}
use Rattle.registry_http.proofs.MessageLemmas.{head_at_spans}

-- a result has one error
pub same_error : {A E : Type 0} (result : Result A E) (x y : E) → result ≡ Err x → result ≡ Err y → x ≡ y
same_error result x y is so = let same = sym is ∙ so in cc

-- a failed read takes no byte
pub consumes_keeps : (a b c : Option (List ℕ)) (x : List ℕ) → Consumes a b x → Keeps b c → Consumes a c x
consumes_keeps None b c x p q = tt
consumes_keeps (Some xs) None c x p q = absurd p
consumes_keeps (Some xs) (Some ys) None x p q = absurd q
consumes_keeps (Some xs) (Some ys) (Some zs) x p q = p ∙ ap (λ (t : List ℕ). x ++ t) (sym q)

-- a read failed after these bytes
pub fails_after : (a b c : Option (List ℕ)) (f g h : ℕ) (x : List ℕ) (Holds : List ℕ → Type 0) → Consumes a b x → g ≡ f → FailsOnce g h → Keeps b c → Holds x → FailsAfter a c f h Holds
fails_after a b c f g h x Holds took same failed keeps holds = (subst (λ (n : ℕ). FailsOnce n h) same failed, (x, consumes_keeps a b c x took keeps, holds))

-- what holds of the bytes then may be said in other words
pub fails_so : (a b : Option (List ℕ)) (f g : ℕ) (Before After : List ℕ → Type 0) → ((x : List ℕ) → Before x → After x) → FailsAfter a b f g Before → FailsAfter a b f g After
fails_so a b f g Before After so fails = (fails.0, (fails.1.0, fails.1.1, so fails.1.0 fails.1.2))

pub open_head : (buf : List ℕ) → HasNoRequest buf → (buf ≡ []) ⊎ MayBecomeRequest buf → length buf < 8192 → IsIncomplete buf
open_head buf none (inl empty) short = inl empty
open_head buf none (inr lacks) short = inr (inl (short, none, lacks))

-- the body of `count` bytes at `start` in the buffer is not complete
pub open_held : (old : List ℕ) (start count wanted : ℕ) → start ≤ length old → wanted ≡ start + count → (more : List ℕ) → length (old ++ more) < wanted → length (drop start old ++ more) < count
open_held old start count wanted within is more less = omega (arith, less, is, within, length-append old more, length-append (drop start old) more, length-drop start old)

-- a body of `count` bytes of which some had come is not complete
pub open_fed : (come : List ℕ) (count first : ℕ) → first ≡ min (length come) count → (more : List ℕ) → length more < count - first → length (come ++ more) < count
open_fed come count first is more less = omega (arith, less, is, length-append come more)

-- from the bytes after the head to all bytes
pub fails_after_head : (a b c : Option (List ℕ)) (f g h : ℕ) (buf : List ℕ) (spans : List HeaderSpan) (r : RequestSpans) (head : RequestHead)
    → HasHead buf head (drop r.len buf) → IsRequestAt buf spans r head → Consumes a b buf → g ≡ f
    → FailsAfter b c g h (λ more. HasOpenBody (routed_head (span_bytes buf r.method) (span_bytes buf r.path) (map (header_bytes buf) (take r.headers spans))) (drop r.len buf ++ more))
    → FailsAfter a c f h IsIncomplete
fails_after_head a b c f g h buf spans r head has at took same fails =
    let more = fails.1.0 in
    let lacks = subst (λ (says : Result Head HttpRefusal). HasOpenBody says (drop r.len buf ++ more)) (head_at_spans buf spans r head at) fails.1.2 in (
      subst (λ (n : ℕ). FailsOnce n h) same fails.0,
      (buf ++ more, consumes_then a b c buf more took fails.1.1, inr (inr (head, drop r.len buf ++ more, has_head_append buf head (drop r.len buf) more has, lacks))),
    )

-- what the bytes of an incomplete message say
abbrev IsRefusedEarly : Result Message HttpRefusal → Type 0
IsRefusedEarly said = (said ≡ Err BadHead) ⊎ (said ≡ Err ShortBody)

open_body_says : (founding : ℕ) (says : Result Head HttpRefusal) (rest : List ℕ) (said : Result Message HttpRefusal) → HasOpenBody says rest → HeadSays founding says rest said → said ≡ Err ShortBody
open_body_says founding (Err refusal) rest said lacks says = absurd lacks
open_body_says founding (Ok (heads.Query query)) rest said lacks says = absurd lacks
open_body_says founding (Ok (heads.Order order)) rest said lacks says =
    let short = body_short order.length rest (lt-leb order.length (length rest) lacks) in
    let refused = subst (λ (body : Result (List ℕ) HttpRefusal). BodySays founding order.endpoint order.caller order.key body says.0) short says.1 in
    says.2 ∙ ap (as_message order.time) refused

pub incomplete_says : (founding : ℕ) (bytes : List ℕ) (said : Result Message HttpRefusal) → IsIncomplete bytes → Says founding bytes said → IsRefusedEarly said
incomplete_says founding bytes said lacks (inl none) = inl none.1
incomplete_says founding bytes said (inl empty) (inr it) = absurd (subst HasNoRequest (sym empty) has_no_request_nil it.0 it.1 it.2.reads)
incomplete_says founding bytes said (inr (inl lacks)) (inr it) = absurd (lacks.1 it.0 it.1 it.2.reads)
incomplete_says founding bytes said (inr (inr lacks)) (inr it) =
    let same = request_unique bytes it.0 lacks.0 it.1 lacks.1 it.2.reads lacks.2.reads in
    let says = subst (λ (head : RequestHead). HeadSays founding (head_reading head) it.1 said) same.0 it.3 in
    inr (open_body_says founding (head_reading lacks.0) lacks.1 said lacks.3 (subst (λ (rest : List ℕ). HeadSays founding (head_reading lacks.0) rest said) same.1 says))
