use Rattle.std.proofs.Common.{take}
use Rattle.registry_rules.specs.History.{History}
use Rattle.registry_store.specs.Promise.{Represents}
use Rattle.registry_views.specs.Reports.{AreReserved}
use Rattle.registry_views.proofs.reports.reserved_of.Given as goal

abbrev pub invariant-loop-vendor : goal.invariant-loop-vendor
invariant-loop-vendor g l = (h : History) → Represents l.registry h → AreReserved h (take l.vendor-index l.vendors) l.pairs.items
