use Rattle.std.proofs.Common.{◌≡◌, ◌∙◌, inl, inr, refl, ap, subst, sym}
use Rattle.registry_rules.specs.Accepted.{AreValid}
use Rattle.registry_rules.specs.History.{History}
use Rattle.registry_tables.specs.declared.head.Head.{Head}
use Rattle.registry_tables.specs.Head.{IsHeadOf}
use Rattle.registry_store.specs.declared.fault.Fault.TheVariants.{Poisoned}
use Rattle.registry_commands.specs.Heads.{IsOfHead, head_line, head_line_of}
use Rattle.registry_commands.specs.Messages.{failure_of}
use Rattle.registry_commands.proofs.ApplyLemmas.{keeps_same}
use Rattle.registry_commands.proofs.heading.head.Goals as goal

-- the line of a head is that of its history
same_line : (h : History) (head : Head) → IsHeadOf h head → head_line head ≡ head_line_of h
same_line h head is = rw (is.count, is.digest, is.time) refl

pub returns-in-Ok : goal.returns-in-Ok
returns-in-Ok g c = record {
  shown = elim c.put_head.ensures [
    | inl printed ↦ inl (head_line c.in-Ok.head.now, λ h stands valid. same_line h c.in-Ok.head.now (c.in-Ok.ensures.answered h stands valid), printed)
    | inr none ↦ inr (none.0, none.1, (none.2.0, subst (IsOfHead c.args.registry.now) (sym none.2.1) tt, none.2.2))
  ];
  poisoned = λ e. let failed = c.in-Ok.ensures.when_poisoned e in absurd (cc failed);
}

pub returns-in-Err : goal.returns-in-Err
returns-in-Err g c =
    let poisoned = c.in-Err.ensures.only_poisoned in
    let spent : c.in-Err.fault ≡ Poisoned = cc (c.in-Err.ensures.when_poisoned poisoned) in
    let is = c.failure_of.ensures ∙ ap failure_of spent in
    record {
      shown = inr (c.fail.ensures.status, (keeps_same _, refl), (c.failure_of.result, subst (IsOfHead c.args.registry.now) (sym is) poisoned, c.fail.ensures.told));
      poisoned = λ e. (c.fail.ensures.status, refl, (c.failure_of.result, is, c.fail.ensures.told));
    }
