-- The failure of a command that shows something of a registry.
use Rattle.std.proofs.Common.{inl, inr, refl}
use Rattle.std.specs.Prelude.{Err}
use Rattle.sqlite.specs.Store.{Ghosts}
use Rattle.registry_rules.specs.History.{History}
use Rattle.registry_store.specs.declared.fault.Fault.{Fault}
use Rattle.registry_store.specs.declared.fault.Fault.TheVariants as faults
use Rattle.registry_store.specs.declared.registry.Registry.{Registry}
use Rattle.registry_store.specs.Queries.{IsQuery}
use Rattle.registry_commands.specs.Messages.{failure_of}
use Rattle.registry_commands.specs.Shown.{IsOfReading}

module _ {S : Type 0} {g : Ghosts S} {it new : Registry S g} {A : Type 0} {Is : History → A → Type 0} where
  -- the failure for the fault of a query
  pub of_query : (fault : Fault) → IsQuery it new (Err fault) Is → IsOfReading it new (failure_of fault)
  of_query faults.Store q = q.notes
  of_query faults.NoMemory q = q.notes
  of_query faults.Foreign q = λ at. elim (q.kind at.0 at.1 at.2) [ inl e ↦ absurd cc | inr e ↦ absurd cc ]
  of_query faults.Taken q = absurd (q.never_taken refl)
  of_query faults.Poisoned q = q.only_poisoned refl
