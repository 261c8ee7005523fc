use Rattle.std.proofs.Common.{◌∙◌, refl}
use Rattle.std.proofs.lemmas.Result.{err_from_is_err_and}
use Rattle.registry_store.proofs.IsQueryLemmas.{fails, lacks_memory, made, queried}
use Rattle.registry_store.proofs.QueryLemmas.{founding_is}
use Rattle.registry_store.proofs.registry.Registry.first_founding.Goals as goal

pub returns-in_err-first : goal.returns-in_err-first
returns-in_err-first g c =
    let p = err_from_is_err_and c.from_residual-in_err-first.result c.from_residual-in_err-first.ensures.1 in
    rw (p.1, p.2) (record { query = fails (queried c.in_ok-check_not_poisoned.ensures.sound refl refl refl c.first_licences-licences.ensures.looked_up c.in_err-first.ensures) })

pub returns-in_err-with_licences : goal.returns-in_err-with_licences
returns-in_err-with_licences g c =
    let p = err_from_is_err_and c.from_residual-in_err-with_licences.result c.from_residual-in_err-with_licences.ensures.1 in
    rw (p.1, p.2) (record { query = lacks_memory (queried c.in_ok-check_not_poisoned.ensures.sound refl refl refl c.first_licences-licences.ensures.looked_up c.in_ok-first.ensures) })

pub returns : goal.returns
returns g c =
    let q = queried c.in_ok-check_not_poisoned.ensures.sound refl refl refl c.first_licences-licences.ensures.looked_up c.in_ok-first.ensures in
    record {
      query = made q (λ h stands is.
          c.in_ok-with_licences.ensures
          ∙ founding_is h c.founding-2.result.now c.in_ok-first.first (c.founding-2.ensures h (q.left.stays h stands)) (is (c.founding.ensures h stands.legal_with.totals_are).allowed));
    }
