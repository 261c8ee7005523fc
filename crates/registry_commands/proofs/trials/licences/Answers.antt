use Rattle.std.proofs.Common.{rules, ◌≡◌, ◌∷◌, [], subst}
use Rattle.std.specs.Prelude.{codes, List, ℕ}
use Rattle.registry_rules.specs.Texts.{AreSorted}
use Rattle.registry_commands.proofs.trials.licences.Goals as goal

pub returns : goal.returns
returns c =
    let given : c.in_ok-titles.titles.items ≡ codes "MIT" ∷ codes "GPL-3.0-only" ∷ [] = search rules in
    subst (λ (texts : List (List ℕ)). AreSorted texts c.in-Some.licences) given c.in-Some.ensures.same
