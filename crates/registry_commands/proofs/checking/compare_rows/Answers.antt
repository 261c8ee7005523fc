use Rattle.std.proofs.Common.{◌≡◌, inl, inr, refl, ap, sym, subst}
use Rattle.std.specs.Prelude.{Some, None}
use Rattle.registry_rules.specs.History.{History}
use Rattle.registry_store.specs.Promise.{Represents}
use Rattle.registry_views.proofs.ViewLemmas.{sound}
use Rattle.registry_commands.specs.Messages.{failure_of}
use Rattle.registry_commands.proofs.CheckLemmas.{memory_fault, of_memory}
use Rattle.registry_commands.proofs.EndLemmas.{memory_is_clean}
use Rattle.registry_commands.proofs.ShownLemmas.{of_query}
use Rattle.registry_commands.proofs.checking.compare_rows.Goals as goal

pub returns-in-Err-clause-err : goal.returns-in-Err-clause-err
returns-in-Err-clause-err g c x stands = rw c.failure_of.ensures (of_query c.in-Err.fault c.in-Err.ensures)

pub returns-in-Err-lists_of-clause-err : goal.returns-in-Err-lists_of-clause-err
returns-in-Err-lists_of-clause-err g c x stands =
    rw c.failure_of-in-Err-lists_of.ensures (of_memory c.args.registry.now c.lists_of.new.registry _ c.in-Ok.ensures.notes
    (memory_fault c.in-Err-lists_of.fault (c.in-Err-lists_of.ensures.kind x stands (memory_is_clean c.lists_of-2.new.registry))))

pub returns-in-Ok-Some-clause-err : goal.returns-in-Ok-Some-clause-err
returns-in-Ok-Some-clause-err g c x stands = (
  c.in-Ok.ensures.notes,
  λ h at clean same.
      let there = c.in-Ok.ensures.answered h at clean in
      let here = c.in-Ok-lists_of.ensures.answered h (subst (Represents c.args.replayed.now) same.0 stands) (memory_is_clean c.lists_of-2.new.registry) in
      let none = c.in-Ok-Some.ensures h there here in cc (none, c.in-Ok-Some.field-0-is),
)
