use Rattle.std.proofs.Common.{◌∙◌, sym, arith, refl}
use Rattle.std.proofs.lemmas.Result.{err_from_is_err_and}
use Rattle.shared_registry.proofs.FollowLemmas.{empty_page, is_read, no_lines, page_failed, page_followed, page_stopped, some_lines}
use Rattle.shared_registry.specs.Asks.{AppendsNothing}
use Rattle.shared_registry.proofs.AskLemmas.{asked_in_vain, asked_read}
use Rattle.shared_registry.proofs.following.read_and_follow.Goals as goal
use Rattle.shared_registry.proofs.following.read_and_follow.Goals.{else-page-via-then-page+else-is_empty, else-page-via-else-page}

pub returns-then-is_empty-clause-err : goal.returns-then-is_empty-clause-err
returns-then-is_empty-clause-err g c lines kept h follows clean =
    empty_page g.L.Log lines kept c.args.registry.now c.args.cursor.now (record c.args.cursor.now { log = c.page.new.self }) h follows c.in_ok-page.page c.in_ok-page.ensures.reads refl
    (no_lines c.in_ok-page.page.lines (sym c.is_empty.ensures ∙ c.if-is_empty.true)) c.if-page.true

pub returns-clause-ok : goal.returns-clause-ok
returns-clause-ok g c lines kept h follows clean =
    let start = c.args.cursor.now in
    let end = record start { log = c.page.new.self; next = c.act_on_lines.new.next } in
    let page = c.in_ok-page.page in
    let read = is_read (lines start.log) (lines c.page.new.self) h start.next page follows.of_machine.begins follows.next (kept.reads start.log c.page.new.self start.next page c.in_ok-page.ensures.reads) in
    let goes = rw c.as_slice.ensures at (c.in_ok-act_on_lines.ensures.goes_on h follows.represents clean) in
    let passed = rw c.as_slice.ensures at c.in_ok-act_on_lines.ensures.passes in
    page_followed g.L.Log lines c.args.registry.now start c.act_on_lines.new.registry end h goes.0 page follows read goes.1 goes.2 passed

pub returns-clause-passes : goal.returns-clause-passes
returns-clause-passes g c =
    let passed = rw c.as_slice.ensures at c.in_ok-act_on_lines.ensures.passes in (
      omega (arith, passed),
      λ more. elim c.else-page.branch [
        | else-page-via-then-page+else-is_empty w ↦ (let some = some_lines c.in_ok-page.page.lines (sym w.is_empty.ensures ∙ w.if-is_empty.false) in omega (arith, passed, some))
        | else-page-via-else-page w ↦ absurd (cc (more, w.if-page.false))
      ],
    )

pub returns-in_err-act_on_lines-clause-err : goal.returns-in_err-act_on_lines-clause-err
returns-in_err-act_on_lines-clause-err g c lines kept h follows clean =
    let p = err_from_is_err_and c.from_residual-in_err-act_on_lines.result c.from_residual-in_err-act_on_lines.ensures.1 in
    let start = c.args.cursor.now in
    let end = record start { log = c.page.new.self; next = c.act_on_lines.new.next } in
    let page = c.in_ok-page.page in
    let read = is_read (lines start.log) (lines c.page.new.self) h start.next page follows.of_machine.begins follows.next (kept.reads start.log c.page.new.self start.next page c.in_ok-page.ensures.reads) in
    rw (p.1, p.2) (page_stopped g.L.Log lines c.args.registry.now start c.act_on_lines.new.registry end h page follows read c.in_err-act_on_lines.field-0.0 (rw c.as_slice.ensures at (c.in_err-act_on_lines.ensures.stopped h follows.represents clean)))

pub returns-then-is_empty-clause-asks : goal.returns-then-is_empty-clause-asks
returns-then-is_empty-clause-asks g c = asked_read g.L.Log AppendsNothing c.args.cursor.now.log c.page.new.self c.args.cursor.now.next c.in_ok-page.page c.in_ok-page.ensures.reads

pub returns-clause-asks : goal.returns-clause-asks
returns-clause-asks g c = asked_read g.L.Log AppendsNothing c.args.cursor.now.log c.page.new.self c.args.cursor.now.next c.in_ok-page.page c.in_ok-page.ensures.reads

pub returns-in_err-act_on_lines-clause-asks : goal.returns-in_err-act_on_lines-clause-asks
returns-in_err-act_on_lines-clause-asks g c = asked_read g.L.Log AppendsNothing c.args.cursor.now.log c.page.new.self c.args.cursor.now.next c.in_ok-page.page c.in_ok-page.ensures.reads

pub returns-in_err-page-clause-asks : goal.returns-in_err-page-clause-asks
returns-in_err-page-clause-asks g c = asked_in_vain g.L.Log AppendsNothing c.args.cursor.now.log c.page.new.self c.in_err-page.ensures.failed

pub returns-in_err-page-clause-err : goal.returns-in_err-page-clause-err
returns-in_err-page-clause-err g c lines kept h follows clean =
    let p = err_from_is_err_and c.from_residual.result c.from_residual.ensures.1 in
    rw (p.1, p.2) (page_failed g.L.Log lines kept c.args.registry.now c.args.cursor.now (record c.args.cursor.now { log = c.page.new.self }) h follows c.in_err-page.field-0.0 c.in_err-page.ensures.failed refl)

pub returns-in_err-page-clause-notes : goal.returns-in_err-page-clause-notes
returns-in_err-page-clause-notes g c =
    let p = err_from_is_err_and c.from_residual.result c.from_residual.ensures.1 in
    rw (p.1, p.2) refl

pub returns-in_err-act_on_lines-clause-notes : goal.returns-in_err-act_on_lines-clause-notes
returns-in_err-act_on_lines-clause-notes g c =
    let p = err_from_is_err_and c.from_residual-in_err-act_on_lines.result c.from_residual-in_err-act_on_lines.ensures.1 in
    rw (p.1, p.2) c.in_err-act_on_lines.ensures.notes
