use Rattle.std.proofs.Common.{◌∙◌, sym, ap, arith}
use Rattle.sqlite.specs.State.{HasCleanDisk}
use Rattle.sqlite.specs.Held.{state}
use Rattle.registry_rules.specs.Run.{reply_of}
use Rattle.registry_rules.specs.declared.verdict.Reply.TheVariants.{Done}
use Rattle.registry_store.proofs.TransactionLemmas.{accepts, answers_quiet, asks_if_new, asks_late, goes_on_then, misses, quiet_then, sees}
use Rattle.registry_store.proofs.attempt.act_on.Goals as goal

pub returns-in-Kept-clause-ok : goal.returns-in-Kept-clause-ok
returns-in-Kept-clause-ok g c clean inside =
    answers_quiet (state g.S.Store c.args.tx.now.conn.now) (state g.S.Store c.judged.new.tx.conn.now) c.args.summary.now c.args.request.now _ (c.in_ok-text.ensures.found clean inside) (Done c.in-Kept.text)
    (ap reply_of c.in-Kept.is) (λ d new. let both = sym c.in-Kept.is ∙ new in cc)

pub returns-in-New-clause-ok : goal.returns-in-New-clause-ok
returns-in-New-clause-ok g c clean inside =
    let mid = c.judged.new.tx.conn.now in
    let early : HasCleanDisk (state g.S.Store mid) = omega (arith, clean, c.accept.ensures.survives.clean) in
    let found = c.in_ok-text.ensures.found early inside in
    accepts (state g.S.Store c.args.tx.now.conn.now) (state g.S.Store mid) c.args.summary.now c.args.request.now _ found (state g.S.Store c.accept.new.tx.conn.now) c.accept.new.summary
    c.in-New.deed c.in-New.is c.accept.result (c.accept.ensures.ok clean found.0.mode found.0.is_open) c.accept.ensures.answer

pub returns-in-New-clause-goes_on : goal.returns-in-New-clause-goes_on
returns-in-New-clause-goes_on g c clean inside =
    let mid = c.judged.new.tx.conn.now in
    let early : HasCleanDisk (state g.S.Store mid) = omega (arith, clean, c.accept.ensures.survives.clean) in
    let found = c.in_ok-text.ensures.found early inside in
    goes_on_then (state g.S.Store c.args.tx.now.conn.now) (state g.S.Store mid) (state g.S.Store c.accept.new.tx.conn.now) found.0 c.accept.result (c.accept.ensures.goes_on clean found.0.mode found.0.is_open)

pub returns-in-New-clause-missed : goal.returns-in-New-clause-missed
returns-in-New-clause-missed g c = misses g.W.Witness.saw g.W.Witness.missed c.args.witness.now c.accept.new.witness c.args.request.now c.in-New.deed c.accept.result c.accept.ensures.heard

pub returns-in-New-clause-seen : goal.returns-in-New-clause-seen
returns-in-New-clause-seen g c = sees g.W.Witness.saw g.W.Witness.missed c.args.witness.now c.accept.new.witness c.args.request.now c.in-New.deed c.accept.result c.accept.ensures.heard c.accept.ensures.answer

pub returns-in-New-clause-asked : goal.returns-in-New-clause-asked
returns-in-New-clause-asked g c clean inside =
    let mid = c.judged.new.tx.conn.now in
    let early : HasCleanDisk (state g.S.Store mid) = omega (arith, clean, c.accept.ensures.survives.clean) in
    asks_if_new (state g.S.Store c.args.tx.now.conn.now) (state g.S.Store mid) c.args.summary.now c.args.request.now _ (c.in_ok-text.ensures.found early inside)
    _ _ _ c.in-New.deed c.in-New.is c.accept.ensures.heard

pub returns-in-New-clause-late : goal.returns-in-New-clause-late
returns-in-New-clause-late g c clean inside =
    let mid = c.judged.new.tx.conn.now in
    let early : HasCleanDisk (state g.S.Store mid) = omega (arith, clean, c.accept.ensures.survives.clean) in
    let found = c.in_ok-text.ensures.found early inside in
    asks_late (state g.S.Store c.args.tx.now.conn.now) (state g.S.Store mid) c.args.summary.now c.args.request.now _ found c.args.witness.now c.accept.new.witness (state g.S.Store c.accept.new.tx.conn.now)
    c.in-New.deed c.in-New.is (c.accept.ensures.late clean found.0.mode found.0.is_open)

pub returns-in-New-clause-foreign : goal.returns-in-New-clause-foreign
returns-in-New-clause-foreign g c clean inside foreign = absurd (c.accept.ensures.kind foreign)

pub returns-in-New-clause-survives : goal.returns-in-New-clause-survives
returns-in-New-clause-survives g c =
    quiet_then (state g.S.Store c.args.tx.now.conn.now) (state g.S.Store c.judged.new.tx.conn.now) (state g.S.Store c.accept.new.tx.conn.now) c.judged.ensures.survives c.accept.ensures.survives
