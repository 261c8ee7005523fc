-- How a body that was read in part can end.
use Rattle.std.proofs.Common.{◌≡◌, ℕ, ◌≤◌, ◌<◌, List, [], ◌∷◌, ◌++◌, length, take, replicate, sym, refl, subst, ap, ◌∙◌, arith, rules}
use Rattle.std.proofs.lemmas.List.{append-nil, length-replicate}
use Rattle.httparse.specs.Grammar.{crlf}
use Rattle.http1.specs.declared.chunked.ChunkedDecoder.{ChunkedDecoder}
use Rattle.http1.specs.declared.decode.Decoder.{Decoder}
use Rattle.http1.specs.declared.decode.Decoder.TheVariants.{Length, Chunked, UntilClose}
use Rattle.http1.specs.declared.framing.Framing.{Framing}
use Rattle.http1.specs.declared.framing.Framing.TheVariants as Framed
use Rattle.http1.specs.Body.{body_of, ReadsTrailers}
use Rattle.http1.specs.ChunkedBody.{Chunks, ReadsChunks}
use Rattle.http1.specs.ChunkedDecoder.{start, HasNotFailed, prepend, run, run_result, use_of}
use Rattle.http1.specs.Decoder.{decoder_for, AwaitsTrailers, Completes, IsLive, Runs}
use Rattle.http1.proofs.ChunksLive.{HasRoomToEnd, chunks_can_finish}
use Rattle.http1.proofs.ChunksSound.{chunks_from_run}
use Rattle.http1.proofs.RunLemmas.{run-append, run-nil, run_after, run_stops}
use Rattle.http_exchange.specs.Bodies.{HasDecoded}
use Rattle.http_exchange.specs.Heads.{limits}

-- an empty line ends the fields behind a body, if there are none
no_fields : (most : ℕ) → 2 ≤ most → ReadsTrailers most (13 ∷ 10 ∷ []) [] []
no_fields most room = record {
  last = crlf;
  reads = search rules;
  strict = search rules;
  within_limit = omega arith;
}

chunks_can_end : (chunks : ChunkedDecoder) (most : ℕ) → HasNotFailed chunks → 2 ≤ most → (more : List ℕ) × (got : List ℕ) × Completes (Chunked chunks most) more (body_of got []) []
chunks_can_end chunks most good room =
    let end = chunks_can_finish chunks good in
    let line = 13 ∷ 10 ∷ [] in
    let stream = end.0 ++ line in
    let whole = run-append chunks end.0 line end.2 ∙ ap (prepend (run chunks end.0).body) (run_stops (run chunks end.0).ends line (ap use_of end.1)) in
    (stream, (run chunks stream).body, (ap (λ r. r.ends.state) whole ∙ end.1, refl, subst (λ r. ReadsTrailers most r.rest [] []) (sym whole) (no_fields most room)))

-- some bytes make a body whole, with no fields behind it
pub can_end : (now : Decoder) → IsLive now → HasRoomToEnd now → (more : List ℕ) × (got : List ℕ) × Completes now more (body_of got []) []
can_end (Length left) live room = let bytes = replicate {A = ℕ} left 0 in (bytes, bytes, (length-replicate left 0, sym (append-nil bytes), refl))
can_end (Chunked chunks most) live room = chunks_can_end chunks most live room
can_end UntilClose live room = ([], [], (refl, refl, refl))

pub takes_nothing : (d : Decoder) → IsLive d → HasDecoded d d [] []
takes_nothing (Length left) live = (left, refl)
takes_nothing (Chunked chunks most) live = (chunks, refl, run-nil chunks, live)
takes_nothing UntilClose live = refl

pub takes_on : (first now next : Decoder) (taken left got piece : List ℕ) (len : ℕ) → HasDecoded first now taken got → Runs now left next len piece → HasDecoded first next (taken ++ take len left) (got ++ piece)
takes_on (Length n) now next taken left got piece len has runs =
    let went = subst (λ (d : Decoder). Runs d left next len piece) has.1 runs in
    (_, went)
takes_on (Chunked chunks most) now next taken left got piece len has runs =
    let went = subst (λ (d : Decoder). Runs d left next len piece) has.1 runs in
    (went.0, went.1, run_after chunks has.0 taken got (take len left) has.2 ∙ ap (prepend got) went.2, went.3)
takes_on UntilClose now next taken left got piece len has runs = subst (λ (d : Decoder). Runs d left next len piece) has runs

pub is_live : (first now : Decoder) (taken got : List ℕ) → HasDecoded first now taken got → IsLive now
is_live (Length n) now taken got has = subst IsLive (sym has.1) tt
is_live (Chunked chunks most) now taken got has = subst IsLive (sym has.1) has.3
is_live UntilClose now taken got has = subst IsLive (sym has) tt

pub has_room : (framing : Framing) (now : Decoder) (taken got : List ℕ) → HasDecoded (decoder_for limits framing) now taken got → HasRoomToEnd now
has_room Framed.NoBody now taken got has = subst HasRoomToEnd (sym has.1) tt
has_room (Framed.Length n) now taken got has = subst HasRoomToEnd (sym has.1) tt
has_room Framed.Chunked now taken got has = subst HasRoomToEnd (sym has.1) (omega arith)
has_room Framed.UntilClose now taken got has = subst HasRoomToEnd (sym has) tt

-- what awaits its fields are chunks, and they are whole
pub chunks_taken : (framing : Framing) (now : Decoder) (whole taken left got : List ℕ) → whole ≡ taken ++ left → HasDecoded (decoder_for limits framing) now taken got → AwaitsTrailers now (length left)
    → (is : framing ≡ Framed.Chunked) × (chunks : Chunks) × ReadsChunks limits.max_extensions_len whole chunks left × (length left < limits.max_trailers_len)
chunks_taken Framed.NoBody now whole taken left got split has waits = absurd (subst (λ (d : Decoder). AwaitsTrailers d (length left)) has.1 waits)
chunks_taken (Framed.Length n) now whole taken left got split has waits = absurd (subst (λ (d : Decoder). AwaitsTrailers d (length left)) has.1 waits)
chunks_taken Framed.UntilClose now whole taken left got split has waits = absurd (subst (λ (d : Decoder). AwaitsTrailers d (length left)) has waits)
chunks_taken Framed.Chunked now whole taken left got split has waits =
    let done = subst (λ (d : Decoder). AwaitsTrailers d (length left)) has.1 waits in
    let ran : run (start 16384) whole ≡ run_result has.0 (got ++ []) left = ap (run (start 16384)) split ∙ run_after (start 16384) has.0 taken got left has.2 ∙ ap (prepend got) (run_stops has.0 left (ap use_of done.0)) in
    let found = chunks_from_run 16384 whole (ap (λ r. r.ends.state) ran ∙ done.0) in
    (refl, found.0, subst (λ (t : List ℕ). ReadsChunks 16384 whole found.0 t) (ap (λ r. r.rest) ran) found.1, done.1)
