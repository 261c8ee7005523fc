-- The bytes of a message determine its query, request or refusal.
use Rattle.std.proofs.Common.{◌≡◌, ℕ, List, [], ◌++◌, Option, Some, None, inl, inr, refl, sym, ap, subst, ◌∙◌}
use Rattle.std.specs.Prelude.{Result, Ok, Err, map, take, drop}
use Rattle.httparse.specs.declared.spans.HeaderSpan.{HeaderSpan}
use Rattle.httparse.specs.declared.spans.RequestSpans.{RequestSpans}
use Rattle.httparse.specs.Spans.{IsRequestAt, span_bytes, header_bytes}
use Rattle.registry_http.proofs.HeadLemmas.{has_head_append}
use Rattle.std.specs.Io.KnownBytes.{Consumes}
use Rattle.httparse.specs.Grammar.{RequestHead}
use Rattle.httparse.proofs.GrammarLemmas.{request_unique}
use Rattle.byte_streams.specs.Streams.{MayGive}
use Rattle.usbids_text.specs.Entries.{TopEntry}
use Rattle.usbids_text.specs.declared.line.Why.{Why}
use Rattle.usbids_text.specs.Cut.{lines}
use Rattle.usbids_text.proofs.InnerLemmas.{lines_inner}
use Rattle.usbids_text.proofs.UniqueLemmas.{one_spelt, fault_is_one, not_both_at_once}
use Rattle.registry_rules.specs.declared.order.Request.{Request}
use Rattle.registry_wire.specs.Import.{import_of}
use Rattle.registry_wire.specs.declared.refusal.WireRefusal.TheVariants.{BadList}
use Rattle.registry_http.specs.declared.refusal.HttpRefusal.{HttpRefusal}
use Rattle.registry_http.specs.declared.refusal.HttpRefusal.TheVariants.{Wire}
use Rattle.registry_http.specs.Heads.{HasHead}
use Rattle.registry_http.specs.Bodies.{body_in}
use Rattle.registry_http.specs.Reading.{routed_head, head_reading}
use Rattle.registry_http.specs.Messages.{ListSays, WholeBodySays, BodySays, HeadSays, Says, as_message}
use Rattle.registry_http.specs.declared.route.Endpoint.{Endpoint}
use Rattle.registry_http.specs.declared.route.Endpoint.TheVariants as endpoints
use Rattle.registry_http.specs.declared.reading.Head.{Head}
use Rattle.registry_http.specs.declared.reading.Head.TheVariants as heads
use Rattle.registry_http.specs.declared.message.Message.{Message}

-- a source may give something
pub may_give_some : (o : Option (List ℕ)) → (rest : List ℕ) × MayGive o rest
may_give_some None = ([], tt)
may_give_some (Some known) = (known, refl)

-- the bytes that a source gave, and those that it may give then
pub may_give_after : (a b : Option (List ℕ)) (x rest : List ℕ) → Consumes a b x → MayGive b rest → MayGive a (x ++ rest)
may_give_after None b x rest took may = tt
may_give_after (Some xs) None x rest took may = absurd took
may_give_after (Some xs) (Some ys) x rest took may = ap (λ (t : List ℕ). x ++ t) may ∙ sym took

-- the refusal of a faulty line
abbrev pub bad_list : ℕ → Why → Result Request HttpRefusal
bad_list n why = Err (Wire (BadList (record { line = n; why = why })))

list_says_one_thing : (founding : ℕ) (caller key org : List ℕ) (vendor : Option ℕ) (body : List ℕ) (a b : Result Request HttpRefusal)
    → ListSays founding caller key org vendor body a → ListSays founding caller key org vendor body b → a ≡ b
list_says_one_thing founding caller key org vendor body a b (inl x) (inl y) =
    x.2 ∙ (ap (λ (list : List TopEntry). Ok (import_of caller key org founding vendor list)) (one_spelt (lines body) x.0 y.0 x.1 y.1) ∙ sym y.2)
list_says_one_thing founding caller key org vendor body a b (inl x) (inr y) = absurd (not_both_at_once (lines body) x.0 y.0 y.1 x.1 y.2)
list_says_one_thing founding caller key org vendor body a b (inr x) (inl y) = absurd (not_both_at_once (lines body) y.0 x.0 x.1 y.1 x.2)
list_says_one_thing founding caller key org vendor body a b (inr x) (inr y) =
    let same = fault_is_one (lines body) x.0 y.0 x.1 y.1 (lines_inner body) x.2 y.2 in
    x.3 ∙ (ap (λ (n : ℕ). bad_list n x.1) same.0 ∙ (ap (λ (why : Why). bad_list y.0 why) same.1 ∙ sym y.3))

whole_body_says_one_thing : (founding : ℕ) (endpoint : Endpoint) (caller key body : List ℕ) (a b : Result Request HttpRefusal)
    → WholeBodySays founding endpoint caller key body a → WholeBodySays founding endpoint caller key body b → a ≡ b
whole_body_says_one_thing founding endpoints.Commands caller key body a b x y = x ∙ sym y
whole_body_says_one_thing founding (endpoints.Imports org vendor) caller key body a b x y = list_says_one_thing founding caller key org vendor body a b x y

body_says_one_thing : (founding : ℕ) (endpoint : Endpoint) (caller key : List ℕ) (body : Result (List ℕ) HttpRefusal) (a b : Result Request HttpRefusal)
    → BodySays founding endpoint caller key body a → BodySays founding endpoint caller key body b → a ≡ b
body_says_one_thing founding endpoint caller key (Err refusal) a b x y = x ∙ sym y
body_says_one_thing founding endpoint caller key (Ok body) a b x y = whole_body_says_one_thing founding endpoint caller key body a b x y

head_says_one_thing : (founding : ℕ) (head_says : Result Head HttpRefusal) (rest : List ℕ) (a b : Result Message HttpRefusal) → HeadSays founding head_says rest a → HeadSays founding head_says rest b → a ≡ b
head_says_one_thing founding (Err refusal) rest a b x y = x ∙ sym y
head_says_one_thing founding (Ok (heads.Query query)) rest a b x y = x ∙ sym y
head_says_one_thing founding (Ok (heads.Order order)) rest a b x y =
    x.2 ∙ (ap (as_message order.time) (body_says_one_thing founding order.endpoint order.caller order.key (body_in order.length rest) x.0 y.0 x.1 y.1) ∙ sym y.2)

pub message_says_one_thing : (founding : ℕ) (bytes : List ℕ) (a b : Result Message HttpRefusal) → Says founding bytes a → Says founding bytes b → a ≡ b
message_says_one_thing founding bytes a b (inl x) (inl y) = x.1 ∙ sym y.1
message_says_one_thing founding bytes a b (inl x) (inr y) = absurd (x.0 y.0 y.1 y.2)
message_says_one_thing founding bytes a b (inr x) (inl y) = absurd (y.0 x.0 x.1 x.2)
message_says_one_thing founding bytes a b (inr x) (inr y) =
    let same = request_unique bytes x.0 y.0 x.1 y.1 x.2.reads y.2.reads in
    let head_says = subst (λ (h : RequestHead). HeadSays founding (head_reading h) x.1 a) same.0 x.3 in
    head_says_one_thing founding (head_reading y.0) y.1 a b (subst (λ (rest : List ℕ). HeadSays founding (head_reading y.0) rest a) same.1 head_says) y.3

pub head_at_spans : (buf : List ℕ) (spans : List HeaderSpan) (r : RequestSpans) (h : RequestHead) → IsRequestAt buf spans r h
    → routed_head (span_bytes buf r.method) (span_bytes buf r.path) (map (header_bytes buf) (take r.headers spans)) ≡ head_reading h
head_at_spans buf spans r h at = rw (at.method, at.path, at.fields) refl

-- from the head and all bytes after it to the whole message
pub says_after_head : (a b : Option (List ℕ)) (founding : ℕ) (buf : List ℕ) (spans : List HeaderSpan) (r : RequestSpans) (h : RequestHead) (said : Result Message HttpRefusal)
    → HasHead buf h (drop r.len buf) → IsRequestAt buf spans r h → Consumes a b buf
    → (rest : List ℕ) × MayGive b rest × HeadSays founding (routed_head (span_bytes buf r.method) (span_bytes buf r.path) (map (header_bytes buf) (take r.headers spans))) (drop r.len buf ++ rest) said
    → (bytes : List ℕ) × MayGive a bytes × Says founding bytes said
says_after_head a b founding buf spans r h said has at took ok = (
  buf ++ ok.0,
  may_give_after a b buf ok.0 took ok.1,
  inr (
    h,
    drop r.len buf ++ ok.0,
    has_head_append buf h (drop r.len buf) ok.0 has,
    subst (λ (head_says : Result Head HttpRefusal). HeadSays founding head_says (drop r.len buf ++ ok.0) said) (head_at_spans buf spans r h at) ok.2,
  ),
)
