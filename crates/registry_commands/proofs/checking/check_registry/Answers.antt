use Rattle.std.proofs.Common.{◌≡◌, ◌∙◌, sym, subst, ap, refl}
use Rattle.std.specs.Prelude.{None, Ok, Err}
use Rattle.std.proofs.lemmas.Result.{err_from_is_err_and}
use Rattle.registry_rules.specs.Accepted.{AreValid}
use Rattle.registry_rules.specs.History.{History, founded}
use Rattle.registry_store.specs.declared.fault.Fault.TheVariants as fault
use Rattle.registry_store.proofs.IsQueryLemmas.{notes_then}
use Rattle.registry_commands.specs.declared.checking.CheckStop.TheVariants as stop
use Rattle.registry_commands.specs.Checks.{StopsOver}
use Rattle.registry_commands.specs.Messages.{failure_of}
use Rattle.registry_commands.proofs.CheckLemmas.{IsWay, err_over, notes_on, of_memory, ok_over, over_earlier, record_leads}
use Rattle.registry_commands.proofs.RecordedLemmas.{clean_before, untouched_then}
use Rattle.registry_commands.proofs.ShownLemmas.{of_query}
use Rattle.registry_commands.proofs.checking.check_registry.Goals as goal

pub returns-in_err-founding-clause-err : goal.returns-in_err-founding-clause-err
returns-in_err-founding-clause-err g c =
    let p = err_from_is_err_and c.from_residual.result c.from_residual.ensures.1 in
    rw (p.1, p.2) (of_query c.in_err-founding.field-0.0 c.in_err-founding.ensures.query)

pub returns-in_err-founding-clause-when_poisoned : goal.returns-in_err-founding-clause-when_poisoned
returns-in_err-founding-clause-when_poisoned g c is =
    let p = err_from_is_err_and c.from_residual.result c.from_residual.ensures.1 in
    let failed = c.in_err-founding.ensures.query.when_poisoned is in
    let spent : c.in_err-founding.field-0.0 ≡ fault.Poisoned = cc failed.0 in
    (rw (p.1, p.2) (ap (λ why. Err (stop.Failure (failure_of why))) spent), failed.1)

pub returns-in_err-replayed-clause-err : goal.returns-in_err-replayed-clause-err
returns-in_err-replayed-clause-err g c =
    let p = err_from_is_err_and c.from_residual-in_err-replayed.result c.from_residual-in_err-replayed.ensures.1 in
    rw (p.1, p.2) (of_memory c.args.registry.now c.first_founding.new.self c.in_err-replayed.field-0.0 c.in_ok-founding.ensures.query.notes c.in_err-replayed.ensures.err)

pub returns-in_err-replayed-clause-when_poisoned : goal.returns-in_err-replayed-clause-when_poisoned
returns-in_err-replayed-clause-when_poisoned g c is = let failed = c.in_ok-founding.ensures.query.when_poisoned is in absurd (cc failed.0)

pub returns-clause-left : goal.returns-clause-left
returns-clause-left g c = untouched_then c.args.registry.now c.first_founding.new.self c.check_over-found.new.registry c.in_ok-founding.ensures.query.left c.check_over-found.ensures.left

pub returns-clause-when_poisoned : goal.returns-clause-when_poisoned
returns-clause-when_poisoned g c is = let failed = c.in_ok-founding.ensures.query.when_poisoned is in absurd (cc failed.0)

pub returns-clause-notes : goal.returns-clause-notes
returns-clause-notes g c = notes_on c.args.registry.now c.first_founding.new.self c.check_over-found.new.registry c.check_over-found.result c.in_ok-founding.ensures.query.notes c.check_over-found.ensures.notes

pub returns-clause-ok : goal.returns-clause-ok
returns-clause-ok g c =
    ok_over c.args.registry.now c.check_over-found.new.registry (λ h. AreValid h.deeds) c.check_over-found.result
    (over_earlier c.args.registry.now c.first_founding.new.self c.check_over-found.new.registry (IsWay (founded c.in_ok-founding.founding)) (λ h. AreValid h.deeds) c.in_ok-founding.ensures.query.left c.in_ok-founding.ensures.query.notes c.check_over-found.ensures.left
    (λ h at clean valid. (valid, record_leads c.is_made_by_its_requests.ensures c.args.registry.now c.in_ok-founding.founding h at (c.in_ok-founding.ensures.query.answered h at clean)))
    c.check_over-found.result (c.check_over-found.ensures.over (founded c.in_ok-founding.founding) c.in_ok-replayed.ensures.ok))

pub returns-clause-err : goal.returns-clause-err
returns-clause-err g c =
    err_over c.args.registry.now c.check_over-found.new.registry (λ h. AreValid h.deeds) c.check_over-found.result
    (over_earlier c.args.registry.now c.first_founding.new.self c.check_over-found.new.registry (IsWay (founded c.in_ok-founding.founding)) (λ h. AreValid h.deeds) c.in_ok-founding.ensures.query.left c.in_ok-founding.ensures.query.notes c.check_over-found.ensures.left
    (λ h at clean valid. (valid, record_leads c.is_made_by_its_requests.ensures c.args.registry.now c.in_ok-founding.founding h at (c.in_ok-founding.ensures.query.answered h at clean)))
    c.check_over-found.result (c.check_over-found.ensures.over (founded c.in_ok-founding.founding) c.in_ok-replayed.ensures.ok))
