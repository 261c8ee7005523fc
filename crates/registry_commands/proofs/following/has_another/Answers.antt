use Rattle.std.proofs.Common.{◌∙◌, inl, inr, sym}
use Rattle.registry_commands.proofs.following.has_another.Goals as goal

pub returns-in-Ok-clause-has : goal.returns-in-Ok-clause-has
returns-in-Ok-clause-has g c is h stands =
    rw c.in-Some.is (λ valid.
    let head = c.in-Ok.ensures.answered h stands valid in
    let other = c.is_other.ensures.other is in
    (λ e. other.0 (head.count ∙ e), λ e. other.1 (e ∙ sym head.digest)))

pub returns-in-Ok-clause-hasnt : goal.returns-in-Ok-clause-hasnt
returns-in-Ok-clause-hasnt g c is h stands =
    rw c.in-Some.is (λ valid.
    let head = c.in-Ok.ensures.answered h stands valid in
    elim (c.is_other.ensures.same is) [ inl none ↦ inl (sym head.count ∙ none) | inr same ↦ inr (same ∙ head.digest) ])

pub returns-in-Err-clause-hasnt : goal.returns-in-Err-clause-hasnt
returns-in-Err-clause-hasnt g c is h stands = absurd (cc (c.in-Err.ensures.only_poisoned, stands.not_poisoned))
