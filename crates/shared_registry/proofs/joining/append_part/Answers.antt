use Rattle.shared_registry.specs.Asks.{AppendsLines, AppendsRecord}
use Rattle.shared_registry.proofs.AskLemmas.{asked_weaker}
use Rattle.shared_registry.proofs.JoinLemmas.{part_of_record}
use Rattle.shared_registry.proofs.joining.append_part.Goals as goal

pub returns-clause-ok : goal.returns-clause-ok
returns-clause-ok g c lines kept h stands valid passed clean =
    let part = c.in_ok-ours.ensures.ok h stands valid clean in
    let appended = rw c.as_slice.ensures at c.in_ok-append_lines.ensures.ok in
    let done = appended lines kept h part.rest part.next passed in
    (done.0, done.1, λ no. absurd (cc no))

pub returns-clause-asks : goal.returns-clause-asks
returns-clause-asks g c h stands valid clean =
    let start = c.args.cursor.now in
    let part = c.in_ok-ours.ensures.ok h stands valid clean in
    asked_weaker g.L.Log (AppendsLines c.in_ok-ours.ours start.next) (AppendsRecord h) (part_of_record h start.next c.in_ok-ours.ours part.rest part.next) start.log c.append_lines.new.cursor.log (rw c.as_slice.ensures at c.in_ok-append_lines.ensures.asks)

pub returns-in_err-append_lines-clause-asks : goal.returns-in_err-append_lines-clause-asks
returns-in_err-append_lines-clause-asks g c h stands valid clean =
    let start = c.args.cursor.now in
    let part = c.in_ok-ours.ensures.ok h stands valid clean in
    asked_weaker g.L.Log (AppendsLines c.in_ok-ours.ours start.next) (AppendsRecord h) (part_of_record h start.next c.in_ok-ours.ours part.rest part.next) start.log c.append_lines.new.cursor.log (rw c.as_slice.ensures at c.in_err-append_lines.ensures.asks)
