use Rattle.std.proofs.Common.{◌∙◌, ap, refl}
use Rattle.std.proofs.lemmas.Result.{err_from_is_err_and}
use Rattle.registry_rules.specs.Run.{reply_of}
use Rattle.registry_store.proofs.IsQueryLemmas.{fails, lacks_memory, made, queried}
use Rattle.registry_store.proofs.registry.Registry.dry_run.Goals as goal

pub returns-in_err-verdict : goal.returns-in_err-verdict
returns-in_err-verdict g c =
    let p = err_from_is_err_and c.from_residual-in_err-verdict.result c.from_residual-in_err-verdict.ensures.1 in
    rw (p.1, p.2) (record { query = fails (queried c.in_ok-check_not_poisoned.ensures.sound refl refl refl c.judged_alone-judged.ensures.looked_up c.in_err-verdict.ensures) })

pub returns-in_err-reply_by : goal.returns-in_err-reply_by
returns-in_err-reply_by g c =
    let p = err_from_is_err_and c.from_residual-in_err-reply_by.result c.from_residual-in_err-reply_by.ensures.1 in
    rw (p.1, p.2) (record { query = lacks_memory (queried c.in_ok-check_not_poisoned.ensures.sound refl refl refl c.judged_alone-judged.ensures.looked_up c.in_ok-verdict.ensures) })

pub returns : goal.returns
returns g c = record {
  query = made (queried c.in_ok-check_not_poisoned.ensures.sound refl refl refl c.judged_alone-judged.ensures.looked_up c.in_ok-verdict.ensures)
      (λ h stands is. c.in_ok-reply_by.ensures ∙ ap reply_of (is stands.legal_with.totals_are));
}
