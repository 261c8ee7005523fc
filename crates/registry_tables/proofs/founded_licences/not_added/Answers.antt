use Rattle.std.proofs.Common.{◌≡◌, ℕ, List, Bool, true, false, ◌++◌, ◌∷◌, [], not, ap, ◌∙◌, rules}
use Rattle.registry_tables.specs.FirstLicences.{was_added}
use Rattle.registry_tables.proofs.FirstLicencesLemmas.{one_kept, one_dropped}
use Rattle.registry_tables.proofs.founded_licences.not_added.Goals as goal
use Rattle.registry_tables.proofs.founded_licences.not_added.Goals.{then-not-branch+in_ok-clone+in_ok-push, else-not-branch}

pub loop-licence-preserved : goal.loop-licence-preserved
loop-licence-preserved c =
    let front = c.loop-licence.left.items in
    let licence = c.licence-item.result in
    let left : List ℕ → Bool = λ x. not (was_added c.args.rows.now x) in
    elim c.if-not-branch.branch [
      | then-not-branch+in_ok-clone+in_ok-push w ↦
          let kept : left licence ≡ true = search rules in
          let pushed : c.if-not-branch.left.items ≡ front ++ licence ∷ [] = rw w.left-is (w.in_ok-push.ensures.items ∙ ap (λ x. front ++ x ∷ []) w.in_ok-clone.ensures.cases) in
          rw pushed (one_kept left c.args.licences.now c.loop-licence.licence-index licence front _ c.loop-licence-test.true c.licence-item.is kept c.loop-licence.invariant)
      | else-not-branch w ↦
          let dropped : left licence ≡ false = search rules in
          rw w.left-is (one_dropped left c.args.licences.now c.loop-licence.licence-index licence front _ c.loop-licence-test.true c.licence-item.is dropped c.loop-licence.invariant)
    ]
