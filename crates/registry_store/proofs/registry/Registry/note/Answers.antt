use Rattle.std.proofs.Common.{Err, refl, sym, ap}
use Rattle.registry_schema.specs.declared.fault.TableFault.{TableFault}
use Rattle.registry_store.specs.Faults.{fault_of}
use Rattle.registry_store.proofs.registry.Registry.note.Goals as goal

pub returns-in-Ok : goal.returns-in-Ok
returns-in-Ok g c = record { same_connection = refl; same_summary = refl; same_fault = refl; foreign = refl; told = rw c.in-Ok.is refl }

pub returns-in-Store : goal.returns-in-Store
returns-in-Store g c = record { same_connection = refl; same_summary = refl; same_fault = refl; foreign = refl; told = rw c.in-Err.is (ap (λ (fault : TableFault). Err (fault_of fault)) (sym c.in-Store.is)) }

pub returns-in-NoMemory : goal.returns-in-NoMemory
returns-in-NoMemory g c = record { same_connection = refl; same_summary = refl; same_fault = refl; foreign = refl; told = rw c.in-Err.is (ap (λ (fault : TableFault). Err (fault_of fault)) (sym c.in-NoMemory.is)) }

pub returns-in-Foreign : goal.returns-in-Foreign
returns-in-Foreign g c = record { same_connection = refl; same_summary = refl; same_fault = refl; foreign = refl; told = rw c.in-Err.is (ap (λ (fault : TableFault). Err (fault_of fault)) (sym c.in-Foreign.is)) }
