use Rattle.std.proofs.Common.{filter, not, subst, ap, ◌∙◌}
use Rattle.registry_rules.specs.Texts.{AreSorted}
use Rattle.registry_tables.specs.FirstLicences.{was_added}
use Rattle.registry_tables.proofs.founded_licences.licences_left.Goals as goal

pub returns-in-Some-clause-left : goal.returns-in-Some-clause-left
returns-in-Some-clause-left c =
    subst (λ titles. AreSorted titles c.in-Some.left) (c.in-Ok.ensures ∙ ap (filter (λ licence. not (was_added c.args.rows.now licence))) c.as_slice.ensures.titles) c.in-Some.ensures.same
