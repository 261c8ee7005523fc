use Rattle.std.proofs.Common.{◌≡◌, ℕ, refl, subst, rules}
use Rattle.registry_rules.specs.Accepted.{AreValid}
use Rattle.registry_tables.specs.Head.{digest_at}
use Rattle.registry_store.proofs.IsQueryLemmas.{queried, queried_as}
use Rattle.registry_store.proofs.registry.Registry.digest_after.Goals as goal

pub returns : goal.returns
returns g c =
    let same : c.in-Ok.n ≡ c.args.n = search rules in
    let asked = queried c.in_ok-check_not_poisoned.ensures.sound refl refl refl c.find_digest-digest.ensures.looked_up c.note.ensures in
    record { query = queried_as (λ h stands found is. subst (λ (n : ℕ). AreValid h.deeds → found ≡ digest_at h n) same is) asked }
