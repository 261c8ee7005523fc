-- What a message gets if the registry does not go on with its log.
use Rattle.std.specs.Prelude.{Bool, true, false, Option, Some, None}
use Rattle.registry_http.specs.declared.unavailable.Unavailable.{Unavailable}
use Rattle.registry_http.specs.declared.unavailable.Unavailable.TheVariants as unavailable
use Rattle.registry_desk.specs.declared.fault.DeskFault.{DeskFault}
use Rattle.registry_desk.specs.declared.fault.DeskFault.TheVariants as desk
use Rattle.registry_desk.specs.Faults.{unavailable_of}
use Rattle.registry_store.specs.declared.fault.Fault.{Fault}
use Rattle.shared_log.specs.declared.fault.LogFault.TheVariants as log_faults
use Rattle.shared_registry.specs.Lines.{fault_of_stop}
use Rattle.shared_registry.specs.declared.stop.ShareStop.{ShareStop}
use Rattle.shared_registry.specs.declared.stop.ShareStop.TheVariants as stops

-- the refusal for this stop: 31 if memory ran out, 30 for any other
abbrev pub unavailable_for : ShareStop → Unavailable
unavailable_for (stops.Registry fault) = unavailable_of (desk.Registry fault)
unavailable_for (stops.Log log_faults.NoMemory) = unavailable.NoMemory
unavailable_for (stops.Log log_faults.NoQuorum) = unavailable.StoreFault
unavailable_for (stops.Log log_faults.Unreachable) = unavailable.StoreFault
unavailable_for (stops.Log log_faults.Refused) = unavailable.StoreFault
unavailable_for (stops.Log log_faults.BadAnswer) = unavailable.StoreFault
unavailable_for (stops.OtherRecord n) = unavailable.StoreFault
unavailable_for stops.Ahead = unavailable.StoreFault
unavailable_for stops.Empty = unavailable.StoreFault
unavailable_for stops.Full = unavailable.StoreFault
unavailable_for stops.NoMemory = unavailable.NoMemory

-- The server goes on after a call of the log without an answer, and where memory ran out.
abbrev pub may_pass : ShareStop → Bool
may_pass (stops.Log fault) = true
may_pass stops.NoMemory = true
may_pass (stops.Registry fault) = false
may_pass (stops.OtherRecord n) = false
may_pass stops.Ahead = false
may_pass stops.Empty = false
may_pass stops.Full = false

-- the stop for the fault of a query
abbrev pub stop_of : DeskFault → ShareStop
stop_of (desk.Registry fault) = stops.Registry fault
stop_of desk.NoMemory = stops.NoMemory

-- the fault of the registry behind a response
abbrev pub fault_behind_stop : Option ShareStop → Option Fault
fault_behind_stop None = None
fault_behind_stop (Some stop) = fault_of_stop stop
