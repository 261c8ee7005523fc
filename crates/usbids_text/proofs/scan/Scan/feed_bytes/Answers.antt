use Rattle.std.proofs.Common.{sym, ap, ◌∙◌}
use Rattle.std.proofs.lemmas.Result.{on_ok_weaker}
use Rattle.usbids_text.specs.declared.seen.Wanted.{Wanted}
use Rattle.usbids_text.specs.Scanning.{scan_ended, scanned_of}
use Rattle.usbids_text.specs.Scans.{scan_state}
use Rattle.usbids_text.proofs.ScanLemmas.{scan_line, scan_rest}
use Rattle.usbids_text.proofs.scan.Scan.feed_bytes.Goals as goal

pub loop-i-preserved : goal.loop-i-preserved
loop-i-preserved c = (
  c.end_line.ensures.wanted ∙ c.loop-i.invariant.0,
  λ s is.
      let so_far = c.loop-i.invariant.1 s is in
      let state = scan_state c.loop-i.self in
      let rest = c.loop-i.rest.now in
      let step = c.in_ok-end_line.ensures.done ∙ (ap (λ (w : Wanted). scan_ended w state c.front.result.now) c.loop-i.invariant.0 ∙ ap (scan_ended c.args.self.now.wanted state) c.front.ensures) in
      let on = scan_line c.args.self.now.wanted so_far.0 state (scan_state c.end_line.new.self) rest c.past-rest.result.now c.in-Some.i (sym c.in-Some.ensures.value) so_far.1 step c.past-rest.ensures.value in
      (on.0, on.1, on.2 ∙ so_far.2),
)

pub returns-clause-done : goal.returns-clause-done
returns-clause-done c = λ s is.
    let so_far = c.loop-i.invariant.1 s is in
    on_ok_weaker c.keep.result
    (λ e. scan_rest c.args.self.now.wanted so_far.0 (scan_state c.loop-i.self) (scan_state c.keep.new.self) c.loop-i.rest.now (sym c.in_default.ensures.value) so_far.1 e ∙ ap (scanned_of c.args.self.now.wanted) so_far.2)
    c.keep.ensures.done
