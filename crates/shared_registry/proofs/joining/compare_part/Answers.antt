use Rattle.std.proofs.Common.{◌∙◌, sym}
use Rattle.std.proofs.lemmas.Result.{err_from_is_err_and}
use Rattle.shared_registry.proofs.FollowLemmas.{at_instant_grows, failed_here, not_none}
use Rattle.shared_registry.proofs.JoinLemmas.{page_other, page_passed}
use Rattle.shared_registry.specs.Asks.{AppendsNothing}
use Rattle.shared_registry.proofs.AskLemmas.{asked_in_vain, asked_read}
use Rattle.shared_registry.proofs.joining.compare_part.Goals as goal

pub returns-clause-ok : goal.returns-clause-ok
returns-clause-ok g c lines kept h stands valid passed clean =
    let start = c.args.cursor.now in
    let end = record start { log = c.page.new.self; next = c.in_ok-cursor.field-0 } in
    let page = c.in_ok-page.page in
    let part = c.in_ok-ours.ensures.ok h stands valid clean in
    let at = kept.reads start.log c.page.new.self start.next page c.in_ok-page.ensures.reads in
    let same = c.in_ok-cursor.ensures.ok in
    (page_passed g.L.Log lines h start end c.in_ok-ours.ours page same.0 passed part at same.2 same.1, at_instant_grows (lines start.log) (lines c.page.new.self) _ at, λ no. absurd (cc no))

pub returns-in_err-cursor-clause-err : goal.returns-in_err-cursor-clause-err
returns-in_err-cursor-clause-err g c lines kept h stands valid passed clean =
    let p = err_from_is_err_and c.from_residual-in_err-cursor.result c.from_residual-in_err-cursor.ensures.1 in
    let start = c.args.cursor.now in
    let page = c.in_ok-page.page in
    let part = c.in_ok-ours.ensures.ok h stands valid clean in
    let reads = c.in_ok-page.ensures.reads in
    let at = kept.reads start.log c.page.new.self start.next page reads in
    rw (p.1, p.2) (page_other g.L.Log lines h start c.page.new.self c.in_ok-ours.ours page passed part (not_none c.in_ok-ours.ours (sym c.is_empty.ensures ∙ c.if-is_empty.false)) at reads c.in_err-cursor.field-0.0 c.in_err-cursor.ensures.err)

pub returns-clause-asks : goal.returns-clause-asks
returns-clause-asks g c = asked_read g.L.Log AppendsNothing c.args.cursor.now.log c.page.new.self c.args.cursor.now.next c.in_ok-page.page c.in_ok-page.ensures.reads

pub returns-in_err-cursor-clause-asks : goal.returns-in_err-cursor-clause-asks
returns-in_err-cursor-clause-asks g c = asked_read g.L.Log AppendsNothing c.args.cursor.now.log c.page.new.self c.args.cursor.now.next c.in_ok-page.page c.in_ok-page.ensures.reads

pub returns-in_err-page-clause-asks : goal.returns-in_err-page-clause-asks
returns-in_err-page-clause-asks g c = asked_in_vain g.L.Log AppendsNothing c.args.cursor.now.log c.page.new.self c.in_err-page.ensures.failed

pub returns-in_err-page-clause-err : goal.returns-in_err-page-clause-err
returns-in_err-page-clause-err g c lines kept h stands valid passed clean =
    let p = err_from_is_err_and c.from_residual-in_err-page.result c.from_residual-in_err-page.ensures.1 in
    rw (p.1, p.2) (failed_here g.L.Log lines c.args.cursor.now.log c.page.new.self c.in_err-page.field-0.0 c.in_err-page.ensures.failed)
