-- Reading a body piece by piece.
use Rattle.std.proofs.Common.{◌≡◌, ◌≢◌, ℕ, ◌+◌, ◌≤◌, ◌==◌, ◌&&◌, Bool, true, false, cond, Some, None, Result, Ok, Err, List, [], ◌++◌, length, take, drop, inl, inr, ⊎_elim, sym, refl, subst, ap, ◌∙◌, append_assoc, arith, length-append, take-append-drop}
use Rattle.std.proofs.lemmas.List.{append-nil, length-map, length-take, length-drop, drop-drop, drop-append-le, drop_all}
use Rattle.httparse.specs.declared.spans.HeaderSpan.{HeaderSpan}
use Rattle.std.specs.Prelude.{nat_le}
use Rattle.httparse.specs.Grammar.{Field, MayBecomeSection, status_code}
use Rattle.http1.specs.declared.framing.Framing.{Framing}
use Rattle.http1.specs.declared.framing.Framing.TheVariants as Framed
use Rattle.http1.specs.declared.framing.FramingError.{FramingError}
use Rattle.http1.specs.declared.framing.MethodKind.TheVariants.{Other}
use Rattle.http1.specs.Framing.{response_framing}
use Rattle.http1.specs.Message.{known_of}
use Rattle.http1.specs.declared.decode.Decoder.{Decoder}
use Rattle.http1.specs.declared.decode.Decoder.TheVariants.{Length, Chunked, UntilClose}
use Rattle.http1.specs.Body.{Body, body_of, ReadsBody}
use Rattle.http1.specs.Decoder.{decoder_for, AwaitsTrailers, Completes, with_front, IsLive, Runs, Continues, Starves, Ends, HasNoBody}
use Rattle.http1.proofs.DecoderLemmas.{decoder_for-live}
use Rattle.http1.proofs.OneParse.{body_from_completes, body_unique, completes_from_body}
use Rattle.http_exchange.specs.declared.start.Start.{Start}
use Rattle.http_exchange.specs.Bodies.{Goes, IsBodyAt, first_decoder}
use Rattle.http_exchange.specs.Heads.{HasAnswerHead, limits, if_bounded}
use Rattle.http_exchange.specs.declared.connection.Connection.{Ghosts}
use Rattle.http_exchange.specs.Exchanges.{ReadsMore, most_message}
use Rattle.http_exchange.specs.Answers.{AwaitsFields, IsAnswer, IsAwaited, HasNoAnswer, MayAnswer, NeverAnswers, SaysOneThing}
use Rattle.http_exchange.proofs.HeadLemmas.{has_head_more, same_start}
use Rattle.http_exchange.proofs.EndLemmas.{can_end, chunks_taken, has_room, is_live, takes_nothing, takes_on}

fronts : (got piece : List ℕ) (body : Body) → with_front got (with_front piece body) ≡ with_front (got ++ piece) body
fronts got piece body = ap (λ (t : List ℕ). body_of t body.trailers) (sym (append_assoc got piece body.bytes))

stays_bounded : (old new : Decoder) (input piece : List ℕ) (len : ℕ) → old ≢ UntilClose → Runs old input new len piece → new ≢ UntilClose
stays_bounded (Length left) new input piece len bounded runs = λ until. let is = runs in cc
stays_bounded (Chunked chunks most) new input piece len bounded runs = λ until. let is = runs.1 in cc
stays_bounded UntilClose new input piece len bounded runs = absurd (bounded refl)

pub goes_nowhere : (d : Decoder) (whole : List ℕ) → d ≢ UntilClose → IsLive d → Goes d d whole whole []
goes_nowhere d whole bounded live = record { bounded = bounded; taken = []; split = refl; has_taken = takes_nothing d live; back = λ more body rest h. h; forth = λ more body rest h. (body, refl, h) }

pub goes_on : (first now next : Decoder) (whole left got piece : List ℕ) (len : ℕ) → Goes first now whole left got → Continues now left next len piece → Goes first next whole (drop len left) (got ++ piece)
goes_on first now next whole left got piece len g c = record {
  bounded = stays_bounded now next left piece len g.bounded c.runs;
  taken = g.taken ++ take len left;
  split = g.split ∙ ap (λ (t : List ℕ). g.taken ++ t) (sym (take-append-drop len left)) ∙ sym (append_assoc g.taken (take len left) (drop len left));
  has_taken = takes_on first now next g.taken left got piece len g.has_taken c.runs;
  back = λ more body rest h. subst (λ (b : Body). Completes first (whole ++ more) b rest) (fronts got piece body) (g.back more (with_front piece body) rest (c.back more body rest h));
  forth = λ more body rest h.
      let a = g.forth more body rest h in
      let b = c.forth more a.0 rest a.2 in
      (b.0, a.1 ∙ ap (with_front got) b.1 ∙ fronts got piece b.0, b.2);
}

-- further bytes came
pub goes_read : (first now : Decoder) (whole left got piece : List ℕ) → Goes first now whole left got → Goes first now (whole ++ piece) (left ++ piece) got
goes_read first now whole left got piece g = record {
  bounded = g.bounded;
  taken = g.taken;
  split = ap (λ (t : List ℕ). t ++ piece) g.split ∙ append_assoc g.taken left piece;
  has_taken = g.has_taken;
  back = λ more body rest h. subst (λ (t : List ℕ). Completes first t (with_front got body) rest) (sym (append_assoc whole piece more)) (g.back (piece ++ more) body rest (subst (λ (t : List ℕ). Completes now t body rest) (append_assoc left piece more) h));
  forth = λ more body rest h.
      let a = g.forth (piece ++ more) body rest (subst (λ (t : List ℕ). Completes first t body rest) (append_assoc whole piece more) h) in
      (a.0, a.1, subst (λ (t : List ℕ). Completes now t a.0 rest) (sym (append_assoc left piece more)) a.2);
}

-- the body is not whole yet
pub not_whole : (first now next : Decoder) (whole left got : List ℕ) (len : ℕ) → Goes first now whole left got → Starves now left next len → (body : Body) (rest : List ℕ) → Completes first whole body rest → ⊥
not_whole first now next whole left got len g starves body rest h =
    let a = g.forth [] body rest (subst (λ (t : List ℕ). Completes first t body rest) (sym (append-nil whole)) h) in
    starves.unfinished g.bounded a.0 rest (subst (λ (t : List ℕ). Completes now t a.0 rest) (append-nil left) a.2)

whole_body : (first now : Decoder) (whole left got : List ℕ) (trailers : List Field) (rest : List ℕ) → Goes first now whole left got → Completes now (left ++ []) (body_of [] trailers) (rest ++ []) → Completes first whole (body_of got trailers) rest
whole_body first now whole left got trailers rest g h =
    let a = g.back [] (body_of [] trailers) (rest ++ []) h in
    let b = subst (λ (t : List ℕ). Completes first t (body_of (got ++ []) trailers) (rest ++ [])) (append-nil whole) a in
    let d = subst (λ (t : List ℕ). Completes first whole (body_of t trailers) (rest ++ [])) (append-nil got) b in
    subst (λ (t : List ℕ). Completes first whole (body_of got trailers) t) (append-nil rest) d

-- ---- bodies behind their heads

-- the body behind this head was read up to a place, and gave these bytes
abbrev pub GoesTo : List ℕ → Start → Decoder → ℕ → List ℕ → Type 0
GoesTo bytes start now at got = Goes (first_decoder start) now (drop start.len bytes) (drop at bytes) got

pub goes_past : (bytes : List ℕ) (start : Start) (now next : Decoder) (at len : ℕ) (got piece : List ℕ) → GoesTo bytes start now at got → Continues now (drop at bytes) next len piece → GoesTo bytes start next (at + len) (got ++ piece)
goes_past bytes start now next at len got piece g c =
    subst (λ (t : List ℕ). Goes (first_decoder start) next (drop start.len bytes) t (got ++ piece)) (drop-drop len at bytes) (goes_on (first_decoder start) now next (drop start.len bytes) (drop at bytes) got piece len g c)

pub goes_further : (bytes : List ℕ) (start : Start) (now : Decoder) (at : ℕ) (got piece : List ℕ) → HasAnswerHead bytes start → at ≤ length bytes → GoesTo bytes start now at got → GoesTo (bytes ++ piece) start now at got
goes_further bytes start now at got piece head within g =
    let a = goes_read (first_decoder start) now (drop start.len bytes) (drop at bytes) got piece g in
    let b = subst (λ (t : List ℕ). Goes (first_decoder start) now t (drop at bytes ++ piece) got) (sym (drop-append-le start.len bytes piece head.within)) a in
    subst (λ (t : List ℕ). Goes (first_decoder start) now (drop start.len (bytes ++ piece)) t got) (sym (drop-append-le at bytes piece within)) b

-- the body ran dry, and further bytes came
pub goes_dry : (bytes : List ℕ) (start : Start) (now next : Decoder) (at len : ℕ) (got piece : List ℕ) → HasAnswerHead bytes start → at ≤ length bytes → GoesTo bytes start now at got → Starves now (drop at bytes) next len → GoesTo (bytes ++ piece) start next (at + len) got
goes_dry bytes start now next at len got piece head within g starves =
    let past = goes_past bytes start now next at len got [] g starves.continues in
    let same = subst (λ (t : List ℕ). GoesTo bytes start next (at + len) t) (append-nil got) past in
    let fits = starves.continues.within in
    goes_further bytes start next (at + len) got piece head (omega (arith, fits, within, length-drop at bytes)) same

completes_of : (bytes : List ℕ) (start : Start) (status : ℕ) (body : List ℕ) (keeps : Bool) → HasAnswerHead bytes start → IsAnswer bytes status body keeps
    → (trailers : List Field) × (rest : List ℕ) × Completes (first_decoder start) (drop start.len bytes) (body_of body trailers) rest × (length trailers ≤ 64)
completes_of bytes start status body keeps head answer =
    let same = same_start bytes answer.start start answer.head head in
    let read = completes_from_body limits answer.start.framing (drop answer.start.len bytes) (body_of body answer.trailers) answer.rest answer.reads in
    let moved = subst (λ (n : ℕ). Completes (first_decoder answer.start) (drop n bytes) (body_of body answer.trailers) answer.rest) same.0 read in
    (answer.trailers, answer.rest, subst (λ (f : Framing). Completes (decoder_for limits f) (drop start.len bytes) (body_of body answer.trailers) answer.rest) same.1 moved, answer.few)

pub no_answer_yet : (bytes : List ℕ) (start : Start) (now next : Decoder) (at len : ℕ) (got : List ℕ) → HasAnswerHead bytes start → GoesTo bytes start now at got → Starves now (drop at bytes) next len → HasNoAnswer bytes
no_answer_yet bytes start now next at len got head g starves = record {
  none = λ status body keeps answer.
      let found = completes_of bytes start status body keeps head answer in
      not_whole (first_decoder start) now next (drop start.len bytes) (drop at bytes) got len g starves (body_of body found.0) found.1 found.2;
}

-- some bytes can follow that end the body
may_answer : (bytes : List ℕ) (start : Start) (now : Decoder) (at : ℕ) (got : List ℕ) → HasAnswerHead bytes start → GoesTo bytes start now at got → drop at bytes ≡ [] → MayAnswer bytes
may_answer bytes start now at got head g none =
    let end = can_end now (is_live (first_decoder start) now g.taken got g.has_taken) (has_room start.framing now g.taken got g.has_taken) in
    let there = subst (λ (t : List ℕ). Completes now (t ++ end.0) (body_of end.1 []) []) (sym none) end.2 in
    let whole = g.back end.0 (body_of end.1 []) [] there in
    let moved = subst (λ (t : List ℕ). Completes (first_decoder start) t (body_of (got ++ end.1) []) []) (sym (drop-append-le start.len bytes end.0 head.within)) whole in
    let answer : IsAnswer (bytes ++ end.0) start.status (got ++ end.1) (start.stays && (length {A = ℕ} [] == 0)) = record {
      start = start;
      head = has_head_more bytes start end.0 head;
      trailers = [];
      rest = [];
      reads = body_from_completes limits start.framing (drop start.len (bytes ++ end.0)) (body_of (got ++ end.1) []) [] moved;
      few = omega arith;
      status_is = refl;
      keeps_is = refl;
    } in
    (end.0, start.status, got ++ end.1, start.stays && (length {A = ℕ} [] == 0), answer)

-- the chunks are whole, and the fields behind them have begun
awaits_fields : (bytes : List ℕ) (start : Start) (now : Decoder) (at : ℕ) (got : List ℕ) → HasAnswerHead bytes start → GoesTo bytes start now at got → AwaitsTrailers now (length (drop at bytes)) → MayBecomeSection (drop at bytes) → AwaitsFields bytes
awaits_fields bytes start now at got head g waits begun =
    let taken = chunks_taken start.framing now (drop start.len bytes) g.taken (drop at bytes) got g.split g.has_taken waits in
    record { start = start; head = head; chunked = taken.0; chunks = taken.1; fields = drop at bytes; reads = taken.2; begun = begun; short = taken.3 }

pub never_whole : (bytes : List ℕ) (start : Start) (now : Decoder) (at room : ℕ) (got : List ℕ) → HasAnswerHead bytes start → GoesTo bytes start now at got → room ≡ 64 → HasNoBody now (drop at bytes) room → NeverAnswers bytes
never_whole bytes start now at room got head g wide none = record {
  never = λ more status body keeps answer.
      let found = completes_of (bytes ++ more) start status body keeps (has_head_more bytes start more head) answer in
      let there = subst (λ (t : List ℕ). Completes (first_decoder start) t (body_of body found.0) found.1) (drop-append-le start.len bytes more head.within) found.2 in
      let tail = g.forth more (body_of body found.0) found.1 there in
      let many = none more tail.0 found.1 tail.2 in
      let same : length found.0 ≡ length tail.0.trailers = ap (λ (b : Body). length b.trailers) tail.1 in
      omega (arith, many, found.3, same, wide);
}

pub answer_found : (bytes : List ℕ) (start : Start) (now : Decoder) (at len count : ℕ) (got : List ℕ) (spans : List HeaderSpan) → HasAnswerHead bytes start → GoesTo bytes start now at got → length spans ≡ 64 → Ends now (drop at bytes) spans len count
    → IsAnswer bytes start.status got (start.stays && (length (drop len (drop at bytes)) == 0))
answer_found bytes start now at len count got spans head g wide ends =
    let lens = ap length ends.covered in
    let fits = ends.within.count_fits in
    record {
      start = start;
      head = head;
      trailers = ends.trailers;
      rest = drop len (drop at bytes);
      reads = body_from_completes limits start.framing (drop start.len bytes) (body_of got ends.trailers) (drop len (drop at bytes)) (whole_body (first_decoder start) now (drop start.len bytes) (drop at bytes) got ends.trailers (drop len (drop at bytes)) g (ends.completes []));
      few = omega (arith, simp (length-map, length-take) at lens, length-take count spans);
      status_is = refl;
      keeps_is = refl;
    }

never_until : (found : Result Framing FramingError) → if_bounded found ≡ Some Framed.UntilClose → ⊥
never_until (Ok Framed.NoBody) e = cc
never_until (Ok (Framed.Length n)) e = cc
never_until (Ok Framed.Chunked) e = cc
never_until (Ok Framed.UntilClose) e = cc
never_until (Err error) e = cc

never_closing : (final : Bool) (found : Result Framing FramingError) → cond final (if_bounded found) None ≡ Some Framed.UntilClose → ⊥
never_closing true found e = never_until found e
never_closing false found e = cc

bounded_by : (final : Bool) (found : Result Framing FramingError) (framing : Framing) → cond final (if_bounded found) None ≡ Some framing → decoder_for limits framing ≢ UntilClose
bounded_by final found Framed.NoBody e = λ until. cc
bounded_by final found (Framed.Length n) e = λ until. cc
bounded_by final found Framed.Chunked e = λ until. cc
bounded_by final found Framed.UntilClose e = absurd (never_closing final found e)

-- a body behind a head begins here, and its end is not that of the connection
pub begins_at : (bytes : List ℕ) (start : Start) (now : Decoder) → HasAnswerHead bytes start → length bytes ≤ most_message → now ≡ first_decoder start → IsBodyAt bytes start now start.len []
begins_at bytes start now h few is = record {
  head = h;
  goes = subst (λ (d : Decoder). Goes (first_decoder start) d (drop start.len bytes) (drop start.len bytes) []) (sym is) (goes_nowhere (first_decoder start) (drop start.len bytes)
      (bounded_by (nat_le 200 (status_code h.head)) (response_framing Other (status_code h.head) h.head.minor (known_of h.head.fields)) start.framing h.framed) (decoder_for-live limits start.framing));
  within = h.within;
  few = few;
}

-- a piece was taken
pub is_past : (bytes : List ℕ) (start : Start) (now next : Decoder) (at len : ℕ) (left got piece all : List ℕ) → IsBodyAt bytes start now at got → left ≡ drop at bytes → Continues now left next len piece → all ≡ got ++ piece → IsBodyAt bytes start next (at + len) all
is_past bytes start now next at len left got piece all is same went grown = let c = subst (λ (t : List ℕ). Continues now t next len piece) same went in record {
  head = is.head;
  goes = subst (λ (t : List ℕ). Goes (first_decoder start) next (drop start.len bytes) (drop (at + len) bytes) t) (sym grown) (goes_past bytes start now next at len got piece is.goes c);
  within = let fits = c.within in omega (arith, fits, is.within, length-drop at bytes);
  few = is.few;
}

-- the body ran dry, and further bytes came
pub is_further : {C : Type 0} (g : Ghosts C) (old new : C) (bytes after left got : List ℕ) (start : Start) (now next : Decoder) (at len : ℕ) → IsBodyAt bytes start now at got → left ≡ drop at bytes → Starves now left next len → ReadsMore g old new bytes after → length after ≤ most_message → IsBodyAt after start next (at + len) got
is_further g old new bytes after left got start now next at len is same dry more few =
    let starves = subst (λ (t : List ℕ). Starves now t next len) same dry in
    let piece = more.piece in
    let grown = more.grown in
    let fits = starves.continues.within in
    let whole : IsBodyAt (bytes ++ piece) start next (at + len) got = record {
      head = has_head_more bytes start piece is.head;
      goes = goes_dry bytes start now next at len got piece is.head is.within is.goes starves;
      within = omega (arith, fits, is.within, length-drop at bytes, length-append bytes piece);
      few = subst (λ (t : List ℕ). length t ≤ most_message) grown few;
    } in
    subst (λ (t : List ℕ). IsBodyAt t start next (at + len) got) (sym grown) whole

-- the body ran dry, and more of it is awaited
pub is_dry : (bytes left got : List ℕ) (start : Start) (now next : Decoder) (at len : ℕ) → IsBodyAt bytes start now at got → left ≡ drop at bytes → Starves now left next len → IsAwaited bytes
is_dry bytes left got start now next at len is same starves =
    let dry = subst (λ (t : List ℕ). Starves now t next len) same starves in
    let past = goes_past bytes start now next at len got [] is.goes dry.continues in
    let on = drop-drop len at bytes in
    record {
      none = no_answer_yet bytes start now next at len got is.head is.goes dry;
      wanted = inr (⊎_elim (λ all. inl (may_answer bytes start next (at + len) (got ++ []) is.head past (sym on ∙ drop_all len (drop at bytes) (omega (arith, all)))))
          (λ waits. inr (awaits_fields bytes start next (at + len) (got ++ []) is.head past (subst (λ (t : List ℕ). AwaitsTrailers next (length t)) on waits) (subst MayBecomeSection on (dry.may_end waits)))) dry.drained);
    }

pub never_at : (bytes : List ℕ) (start : Start) (now : Decoder) (at room : ℕ) (left got : List ℕ) → IsBodyAt bytes start now at got → left ≡ drop at bytes → room ≡ 64 → HasNoBody now left room → NeverAnswers bytes
never_at bytes start now at room left got is same wide none = never_whole bytes start now at room got is.head is.goes wide (subst (λ (t : List ℕ). HasNoBody now t room) same none)

pub ends_at : (bytes : List ℕ) (start : Start) (now : Decoder) (at len count : ℕ) (left got : List ℕ) (spans : List HeaderSpan) (is_last : Bool) → IsBodyAt bytes start now at got → left ≡ drop at bytes → length spans ≡ 64 → Ends now left spans len count
    → is_last ≡ (length (drop len left) == 0) → IsAnswer bytes start.status got (start.stays && is_last)
ends_at bytes start now at len count left got spans is_last is same wide ends last =
    let there = subst (λ (t : List ℕ). Ends now t spans len count) same ends in
    let none : is_last ≡ (length (drop len (drop at bytes)) == 0) = last ∙ ap (λ (t : List ℕ). length (drop len t) == 0) same in
    subst (λ (b : Bool). IsAnswer bytes start.status got (start.stays && b)) (sym none) (answer_found bytes start now at len count got spans is.head is.goes wide there)

-- the bytes that come have one answer
pub one_answer : SaysOneThing
one_answer bytes body other status code keeps stays x y =
    let same = same_start bytes x.start y.start x.head y.head in
    let moved = subst (λ (n : ℕ). ReadsBody limits x.start.framing (drop n bytes) (body_of body x.trailers) x.rest) same.0 x.reads in
    let there = subst (λ (f : Framing). ReadsBody limits f (drop y.start.len bytes) (body_of body x.trailers) x.rest) same.1 moved in
    let bodies = body_unique limits y.start.framing (drop y.start.len bytes) (body_of body x.trailers) (body_of other y.trailers) x.rest y.rest there y.reads in (
      x.status_is ∙ same.2 ∙ sym y.status_is,
      ap (λ (b : Body). b.bytes) bodies.0,
      x.keeps_is ∙ (λ i. same.3 i && (length (bodies.1 i) == 0)) ∙ sym y.keeps_is,
    )
