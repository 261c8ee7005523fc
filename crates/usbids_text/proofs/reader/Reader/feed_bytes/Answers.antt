use Rattle.std.proofs.Common.{ℕ, List, sym, ap, ◌∙◌, drop, ◌+◌}
use Rattle.std.proofs.lemmas.Result.{on_ok_weaker}
use Rattle.usbids_text.specs.Feeding.{Fed, fed, ended}
use Rattle.usbids_text.specs.Readers.{reader_state}
use Rattle.usbids_text.proofs.PieceLemmas.{fed_line, fed_rest}
use Rattle.usbids_text.proofs.reader.Reader.feed_bytes.Goals as goal

pub loop-i-preserved : goal.loop-i-preserved
loop-i-preserved c =
    let s = reader_state c.loop-i.self in
    let rest = c.loop-i.rest.now in
    let step = fed_line s rest c.in-Some.i (sym c.in-Some.ensures.value) in
    ap (fed (reader_state c.end_line.new.self)) c.past-rest.ensures.value
    ∙ (ap (λ (x : Fed). fed x (drop (c.in-Some.i + 1) rest)) (c.in_ok-end_line.ensures ∙ ap (λ (p : List ℕ). ended s p) c.front.ensures)
    ∙ (sym step ∙ c.loop-i.invariant))

pub returns : goal.returns
returns c = on_ok_weaker c.keep.result (λ e. e ∙ (sym (fed_rest (reader_state c.loop-i.self) c.loop-i.rest.now (sym c.in_default.ensures.value)) ∙ c.loop-i.invariant)) c.keep.ensures
