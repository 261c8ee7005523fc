-- The verdict by the key or the caller alone is the verdict by the history.
use Rattle.std.proofs.Common.{◌∙◌, ap, sym}
use Rattle.registry_rules.specs.Verdict.{outcome, verdict, verdict_by}
use Rattle.registry_rules.proofs.SettledLemmas.{refused_verdict}
use Rattle.registry_rules.proofs.judging.settled.Goals as goal

pub returns-in-Some-clause-verdict : goal.returns-in-Some-clause-verdict
unfolding verdict
returns-in-Some-clause-verdict c = λ h founding kept.
    let request = c.args.request.now in
    let o = outcome h request.caller request.order in
    c.in_ok-repeated.ensures o ∙ ap (λ k. verdict_by k request o) (rw c.in-Some.is at kept)

pub returns-then-not-contains-clause-verdict : goal.returns-then-not-contains-clause-verdict
returns-then-not-contains-clause-verdict c = λ h founding kept.
    refused_verdict h c.args.request.now (rw c.in_default.is at (sym kept)) (sym c.is_for_curators.ensures ∙ c.if-is_for_curators.true)
    (rw founding.curators at (sym c.contains.ensures ∙ c.if-not-contains.true))
