-- What is sent where the registry has a fault or memory runs out.
use Rattle.std.specs.Prelude.{ℕ, List, codes, Option, Some, None, Result, Ok, Err}
use Rattle.registry_store.specs.declared.fault.Fault.{Fault}
use Rattle.registry_store.specs.declared.fault.Fault.TheVariants as faults
use Rattle.registry_http.specs.declared.response.Response.{Response}
use Rattle.registry_http.specs.declared.unavailable.Unavailable.{Unavailable}
use Rattle.registry_http.specs.declared.unavailable.Unavailable.TheVariants as unavailable
use Rattle.registry_store.specs.Faults as store_faults
use Rattle.registry_desk.specs.declared.server.ServerStop.{ServerStop}
use Rattle.registry_desk.specs.declared.server.ServerStop.TheVariants as stops
use Rattle.registry_desk.specs.declared.fault.DeskFault.{DeskFault}
use Rattle.registry_desk.specs.declared.fault.DeskFault.TheVariants.{Registry, NoMemory}

-- the refusal for a fault: 31 when out of memory, 30 for any other
abbrev pub unavailable_of : DeskFault → Unavailable
unavailable_of NoMemory = unavailable.NoMemory
unavailable_of (Registry faults.NoMemory) = unavailable.NoMemory
unavailable_of (Registry faults.Store) = unavailable.StoreFault
unavailable_of (Registry faults.Foreign) = unavailable.StoreFault
unavailable_of (Registry faults.Taken) = unavailable.StoreFault
unavailable_of (Registry faults.Poisoned) = unavailable.StoreFault

-- the fault of the registry behind this one
abbrev pub registry_fault : DeskFault → Option Fault
registry_fault (Registry fault) = Some fault
registry_fault NoMemory = None

-- the fault of the registry behind what was done for a message
abbrev pub fault_of_done : Result Response DeskFault → Option Fault
fault_of_done (Ok response) = None
fault_of_done (Err why) = registry_fault why

-- the fault for one of a query: memory that runs out for a query is no fault of the registry
abbrev pub failed_by : Fault → DeskFault
failed_by faults.NoMemory = NoMemory
failed_by fault = Registry fault

-- why a server stops
abbrev pub server_stop_text : ServerStop → List ℕ
server_stop_text stops.Connections = codes "no connection can come"
server_stop_text (stops.Registry fault) = store_faults.fault_text fault
