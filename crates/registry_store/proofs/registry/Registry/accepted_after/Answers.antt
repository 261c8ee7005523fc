use Rattle.std.proofs.Common.{◌≡◌, refl, rules}
use Rattle.registry_store.proofs.IsQueryLemmas.{queried, queried_as}
use Rattle.registry_store.proofs.registry.Registry.accepted_after.Goals as goal

pub returns : goal.returns
returns g c =
    let same : c.in-Ok.after ≡ c.args.after = search rules in
    record { query = queried_as (λ h stands found is. rw same at is) (queried c.in_ok-check_not_poisoned.ensures.sound refl refl refl c.accepted_after-accepted.ensures.looked_up c.note.ensures) }
