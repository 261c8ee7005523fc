use Rattle.std.proofs.Common.{◌≡◌, ◌∙◌, ℕ, List, ap, arith, drop, map, subst, suc, sym, take}
use Rattle.std.specs.Prelude.{IfOk}
use Rattle.std.proofs.lemmas.Result.{IfOk-weaker}
use Rattle.registry_laws.specs.Records.{record_of}
use Rattle.registry_rules.specs.Accepted.{accepted_of}
use Rattle.registry_wire.specs.Record.{accepted_line}
use Rattle.shared_registry.specs.Records.{IsNextPart}
use Rattle.shared_registry.proofs.JoinLemmas.{next_founding, next_requests, valid_deeds}
use Rattle.shared_registry.proofs.record.record_part.Goals as goal

pub returns-in_default-clause-ok : goal.returns-in_default-clause-ok
returns-in_default-clause-ok g c h stands valid clean =
    let none : c.args.n ≡ 0 = omega (arith, c.in_default.ensures) in
    subst (λ (n : ℕ). IfOk c.first_line.result (IsNextPart (record_of h) n)) (sym none) (IfOk-weaker c.first_line.result _ _ (next_founding h) (c.first_line.ensures.ok h stands clean))

pub returns-clause-ok : goal.returns-clause-ok
returns-clause-ok g c h stands valid clean =
    let before = c.in-Some.before in
    let list = c.in_ok-list.list.items in
    let is : list ≡ take 1000 (drop before (accepted_of h.deeds)) = rw c.from.ensures at (c.in_ok-list.ensures.query.answered h stands clean (valid_deeds h.deeds valid.accepted)) in
    let n_is : c.args.n ≡ suc before = omega (arith, c.in-Some.ensures) in
    let lines : c.in_ok-lines_of.field-0 ≡ map accepted_line list = c.in_ok-lines_of.ensures ∙ ap (map accepted_line) c.deref.ensures.value in
    subst (λ (n : ℕ). IsNextPart (record_of h) n c.in_ok-lines_of.field-0) (sym n_is) (subst (λ (l : List (List ℕ)). IsNextPart (record_of h) (suc before) l) (sym lines) (next_requests h before 999 list is))
