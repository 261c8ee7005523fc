-- The texts of faults.
use Rattle.std.specs.Prelude.{◌≡◌, ◌≢◌, ◌↔◌, ℕ, List, codes}
use Rattle.sqlite.specs.declared.error.Error.{Error}
use Rattle.sqlite.specs.declared.error.Error.TheVariants.{SqliteFailure}
use Rattle.sqlite.specs.declared.error.ErrorCode.TheVariants.{OutOfMemory}
use Rattle.registry_schema.specs.declared.fault.TableFault.{TableFault}
use Rattle.registry_schema.specs.declared.fault.TableFault.TheVariants.{Store, NoMemory, Foreign}

abbrev pub table_fault_text : TableFault → List ℕ
table_fault_text Store = codes "the store failed"
table_fault_text NoMemory = codes "out of memory"
table_fault_text Foreign = codes "not the tables of a registry"

-- the fault that an error of the store means: out of memory if the error says so, and never Foreign
abbrev pub IsFaultOf : Error → TableFault → Type 0
IsFaultOf error fault = ((fault ≡ NoMemory) ↔ (error ≡ SqliteFailure OutOfMemory)) × (fault ≢ Foreign)
