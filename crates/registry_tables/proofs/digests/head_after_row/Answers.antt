use Rattle.std.proofs.Common.{◌≡◌, ◌+◌, ◌∙◌, ℕ, List, Option, Some, IfOk, sym, ap, subst}
use Rattle.registry_rules.proofs.FormLemmas.{same_some}
use Rattle.registry_rules.specs.declared.accepted.Accepted.{Accepted}
use Rattle.registry_wire.specs.Digests.{line_digest}
use Rattle.registry_wire.specs.Record.{accepted_line}
use Rattle.registry_tables.specs.Rows.{timed}
use Rattle.registry_tables.specs.declared.head.Head.{Head}
use Rattle.registry_tables.proofs.digests.head_after_row.Goals as goal

pub returns-in-Ok-Some-clause-next : goal.returns-in-Ok-Some-clause-next
returns-in-Ok-Some-clause-next c x has row untimed =
    let same : c.in-Ok-Some.accepted ≡ x = same_some c.in-Ok-Some.accepted x (sym c.in-Ok-Some.field-0-is ∙ c.in-Ok-Some.ensures x has row ∙ ap (λ (time : Option (List ℕ)). Some (timed x time)) (sym untimed)) in
    subst (λ (a : Accepted). IfOk c.next_head.result (λ (next : Head). (next.count ≡ c.args.head.now.count + 1) × (next.digest ≡ line_digest c.args.head.now.digest (accepted_line a)))) same c.next_head.ensures.next
