-- The names of the keys of a founding file.
use Rattle.std.specs.Prelude.{ℕ, List, codes}
use Rattle.registry_wire.specs.declared.refusal.FoundingFault.{FoundingFault}
use Rattle.registry_wire.specs.declared.refusal.FoundingFault.TheVariants as faults

-- the bad key of a founding file, or `toml`
abbrev pub fault_name : FoundingFault → List ℕ
fault_name faults.Toml = codes "toml"
fault_name faults.Vendor = codes "vendor"
fault_name faults.Name = codes "name"
fault_name faults.Curators = codes "curators"
fault_name faults.Licences = codes "licences"
fault_name faults.Fixed = codes "fixed"
