use Rattle.std.proofs.Common.{arith}
use Rattle.std.proofs.lemmas.Result.{err_from_is_err_and}
use Rattle.registry_rules.specs.Run.{after_one}
use Rattle.registry_store.specs.Promise.{state_of}
use Rattle.registry_store.proofs.IsQueryLemmas.{notes_then}
use Rattle.shared_registry.specs.Lines.{fault_of_stop}
use Rattle.shared_registry.proofs.ActLemmas.{answered_then, followed_gone, tried_gone, turned_now}
use Rattle.shared_registry.proofs.AskLemmas.{asked_and_read}
use Rattle.shared_registry.proofs.FollowLemmas.{followed_again, left_later, shows_line}
use Rattle.shared_registry.proofs.LineLemmas.{clean_first}
use Rattle.shared_registry.proofs.acting.act_and_look.Goals as goal

pub returns-then-cursor-before-clause-ok : goal.returns-then-cursor-before-clause-ok
returns-then-cursor-before-clause-ok g c lines kept h follows clean =
    turned_now g.L.Log lines c.args.cursor.now c.try_to_act.new.registry c.try_to_act.new.cursor h c.args.request.now c.in_ok-tried.tried (c.in_ok-tried.ensures.ok lines kept h follows clean) c.in_ok-tried.ensures.same_place c.if-cursor-before.true

pub returns-in_err-tried-clause-err : goal.returns-in_err-tried-clause-err
returns-in_err-tried-clause-err g c lines kept h follows clean =
    let p = err_from_is_err_and c.from_residual.result c.from_residual.ensures.1 in
    rw (p.1, p.2) (c.in_err-tried.ensures.err lines kept h follows clean)

pub returns-in_err-tried-clause-notes : goal.returns-in_err-tried-clause-notes
returns-in_err-tried-clause-notes g c =
    let p = err_from_is_err_and c.from_residual.result c.from_residual.ensures.1 in
    rw (p.1, p.2) c.in_err-tried.ensures.notes

pub returns-in_err-follow-clause-err : goal.returns-in_err-follow-clause-err
returns-in_err-follow-clause-err g c lines kept h follows clean =
    let p = err_from_is_err_and c.from_residual-in_err-follow.result c.from_residual-in_err-follow.ensures.1 in
    let middle = clean_first (state_of c.try_to_act.new.registry) (state_of c.follow.new.registry) c.in_err-follow.ensures.endures clean in
    let gone = tried_gone g.L.Log lines c.args.cursor.now c.try_to_act.new.registry c.try_to_act.new.cursor h c.args.request.now c.in_ok-tried.tried (c.in_ok-tried.ensures.ok lines kept h follows middle) in
    rw (p.1, p.2) (left_later g.L.Log lines c.args.cursor.now c.try_to_act.new.cursor c.try_to_act.new.registry c.follow.new.registry c.follow.new.cursor h gone c.in_err-follow.field-0.0 (c.in_err-follow.ensures.err lines kept gone.now gone.follows clean))

pub returns-then-cursor-before-2-clause-ok : goal.returns-then-cursor-before-2-clause-ok
returns-then-cursor-before-2-clause-ok g c lines kept h follows clean =
    let middle = clean_first (state_of c.try_to_act.new.registry) (state_of c.follow.new.registry) c.in_ok-follow.ensures.endures clean in
    let gone = tried_gone g.L.Log lines c.args.cursor.now c.try_to_act.new.registry c.try_to_act.new.cursor h c.args.request.now c.in_ok-tried.tried (c.in_ok-tried.ensures.ok lines kept h follows middle) in
    followed_gone g.L.Log lines c.args.cursor.now c.follow.new.registry c.follow.new.cursor h
    (followed_again g.L.Log lines c.args.cursor.now c.try_to_act.new.registry c.try_to_act.new.cursor c.follow.new.registry c.follow.new.cursor h gone (c.in_ok-follow.ensures.ok lines kept gone.now gone.follows clean))

pub returns-in-Some-clause-ok : goal.returns-in-Some-clause-ok
returns-in-Some-clause-ok g c lines kept h follows clean =
    let middle = clean_first (state_of c.try_to_act.new.registry) (state_of c.follow.new.registry) c.in_ok-follow.ensures.endures clean in
    let acted = rw c.in-Some.is at (c.in_ok-tried.ensures.ok lines kept h follows middle) in
    answered_then g.L.Log lines c.args.registry.now c.args.cursor.now c.try_to_act.new.registry c.try_to_act.new.cursor c.follow.new.registry c.follow.new.cursor h c.args.request.now c.in-Some.reply follows acted c.if-cursor-before.false
    (c.in_ok-follow.ensures.ok lines kept (after_one h c.args.request.now) acted.follows clean) (let stays = c.if-cursor-before-2.false in omega (arith, stays))

pub returns-in-None-clause-err : goal.returns-in-None-clause-err
returns-in-None-clause-err g c lines kept h follows clean =
    let middle = clean_first (state_of c.try_to_act.new.registry) (state_of c.follow.new.registry) c.in_ok-follow.ensures.endures clean in
    let none = rw c.in-None.is at (c.in_ok-tried.ensures.ok lines kept h follows middle) in
    let shown = shows_line g.L.Log lines c.try_to_act.new.registry c.try_to_act.new.cursor c.follow.new.registry c.follow.new.cursor h none.0 none.2 (c.in_ok-follow.ensures.ok lines kept h none.0 clean) in
    let same = c.if-cursor-before.false in
    let stays = c.if-cursor-before-2.false in
    absurd (omega (arith, shown, same, stays))

pub returns-in_err-follow-clause-asks : goal.returns-in_err-follow-clause-asks
returns-in_err-follow-clause-asks g c lines kept h follows clean =
    let middle = clean_first (state_of c.try_to_act.new.registry) (state_of c.follow.new.registry) c.in_err-follow.ensures.endures clean in
    asked_and_read g.L.Log lines kept h c.args.request.now c.args.cursor.now.log c.try_to_act.new.cursor.log c.follow.new.cursor.log (c.in_ok-tried.ensures.asks lines kept h follows middle) c.in_err-follow.ensures.asks

pub returns-then-cursor-before-2-clause-asks : goal.returns-then-cursor-before-2-clause-asks
returns-then-cursor-before-2-clause-asks g c lines kept h follows clean =
    let middle = clean_first (state_of c.try_to_act.new.registry) (state_of c.follow.new.registry) c.in_ok-follow.ensures.endures clean in
    asked_and_read g.L.Log lines kept h c.args.request.now c.args.cursor.now.log c.try_to_act.new.cursor.log c.follow.new.cursor.log (c.in_ok-tried.ensures.asks lines kept h follows middle) c.in_ok-follow.ensures.asks

pub returns-in-Some-clause-asks : goal.returns-in-Some-clause-asks
returns-in-Some-clause-asks g c lines kept h follows clean =
    let middle = clean_first (state_of c.try_to_act.new.registry) (state_of c.follow.new.registry) c.in_ok-follow.ensures.endures clean in
    asked_and_read g.L.Log lines kept h c.args.request.now c.args.cursor.now.log c.try_to_act.new.cursor.log c.follow.new.cursor.log (c.in_ok-tried.ensures.asks lines kept h follows middle) c.in_ok-follow.ensures.asks

pub returns-in-None-clause-asks : goal.returns-in-None-clause-asks
returns-in-None-clause-asks g c lines kept h follows clean =
    let middle = clean_first (state_of c.try_to_act.new.registry) (state_of c.follow.new.registry) c.in_ok-follow.ensures.endures clean in
    asked_and_read g.L.Log lines kept h c.args.request.now c.args.cursor.now.log c.try_to_act.new.cursor.log c.follow.new.cursor.log (c.in_ok-tried.ensures.asks lines kept h follows middle) c.in_ok-follow.ensures.asks

pub returns-in_err-follow-clause-notes : goal.returns-in_err-follow-clause-notes
returns-in_err-follow-clause-notes g c =
    let p = err_from_is_err_and c.from_residual-in_err-follow.result c.from_residual-in_err-follow.ensures.1 in
    rw (p.1, p.2) (notes_then c.args.registry.now c.try_to_act.new.registry c.follow.new.registry (fault_of_stop c.in_err-follow.field-0.0) c.in_ok-tried.ensures.notes c.in_err-follow.ensures.notes)
