use Rattle.std.proofs.Common.{subst}
use Rattle.std.specs.Prelude.{IfErr, IfOk}
use Rattle.shared_log.specs.Calls.{LogLines}
use Rattle.shared_registry.specs.Asks.{AppendsNothing}
use Rattle.shared_registry.specs.Founded.{BeginsWithFounding, HasNoFoundingLine}
use Rattle.shared_registry.proofs.AskLemmas.{asked_in_vain, asked_read}
use Rattle.shared_registry.proofs.FoundedLemmas.{read_founded, read_unfounded}
use Rattle.shared_registry.proofs.founded.read_founding.Goals as goal

pub returns-in_err-page-clause-asks : goal.returns-in_err-page-clause-asks
returns-in_err-page-clause-asks g c = asked_in_vain g.L.Log AppendsNothing c.args.log.now c.page.new.self c.in_err-page.ensures.failed

pub returns-clause-ok : goal.returns-clause-ok
returns-clause-ok g c lines kept =
    let reads = c.in_ok-page.ensures.reads in
    let result = c.founding_in_page.result in
    read_founded g.L.Log lines c.args.log.now c.page.new.self c.in_ok-page.page reads (kept.reads c.args.log.now c.page.new.self 0 c.in_ok-page.page reads) result
    (subst (λ (page : LogLines). IfOk result (λ founding. BeginsWithFounding founding page)) c.as_slice.ensures c.founding_in_page.ensures.ok)

pub returns-clause-err : goal.returns-clause-err
returns-clause-err g c lines kept =
    let reads = c.in_ok-page.ensures.reads in
    let result = c.founding_in_page.result in
    read_unfounded g.L.Log lines c.args.log.now c.page.new.self c.in_ok-page.page reads (kept.reads c.args.log.now c.page.new.self 0 c.in_ok-page.page reads) result
    (subst (λ (page : LogLines). IfErr result (HasNoFoundingLine page c.in_ok-page.page.more)) c.as_slice.ensures c.founding_in_page.ensures.err)

pub returns-clause-asks : goal.returns-clause-asks
returns-clause-asks g c = asked_read g.L.Log AppendsNothing c.args.log.now c.page.new.self 0 c.in_ok-page.page c.in_ok-page.ensures.reads
