-- Which faults come, and their texts.
use Rattle.std.specs.Prelude.{Bool, true, false, ℕ, List, Option, Some, None, codes}
use Rattle.registry_schema.specs.declared.fault.TableFault.{TableFault}
use Rattle.registry_schema.specs.declared.fault.TableFault.TheVariants as tables
use Rattle.registry_store.specs.declared.fault.Fault.{Fault}
use Rattle.registry_store.specs.declared.fault.Fault.TheVariants as faults
use Rattle.registry_store.specs.declared.replies.RunStop.{RunStop}
use Rattle.registry_store.specs.declared.replies.RunStop.TheVariants as stops

-- the fault of the registry for one of its tables
abbrev pub fault_of : TableFault → Fault
fault_of tables.Store = faults.Store
fault_of tables.NoMemory = faults.NoMemory
fault_of tables.Foreign = faults.Foreign

-- whether there is a fault that says that the tables hold the rows of no history
abbrev pub is_foreign_fault : Option Fault → Bool
is_foreign_fault None = false
is_foreign_fault (Some faults.Store) = false
is_foreign_fault (Some faults.NoMemory) = false
is_foreign_fault (Some faults.Foreign) = true
is_foreign_fault (Some faults.Taken) = false
is_foreign_fault (Some faults.Poisoned) = false

abbrev pub fault_text : Fault → List ℕ
fault_text faults.Store = codes "the store failed"
fault_text faults.NoMemory = codes "out of memory"
fault_text faults.Foreign = codes "not the tables of a registry"
fault_text faults.Taken = codes "the store holds a registry already"
fault_text faults.Poisoned = codes "the registry had a fault before and is poisoned"

abbrev pub stop_text : {C : Type 0} → RunStop C → List ℕ
stop_text (stops.Fault fault) = fault_text fault
stop_text (stops.Cut cut) = codes "a reply was not taken"
