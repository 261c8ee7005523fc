use Rattle.std.proofs.Common.{ℕ}
use Rattle.sqlite.specs.WalReads.{AreClean}
use Rattle.registry_rules.specs.History.{History}
use Rattle.registry_rules.specs.Run.{Legal}
use Rattle.registry_store.specs.Files.{HoldEither}
use Rattle.registry_reopening.proofs.crashing.open_through.Given as goal

abbrev pub invariant-loop : goal.invariant-loop
invariant-loop g l = record {
  honest : AreClean g.D.Disk l.left.log l.left.db → AreClean g.D.Disk l.fn.files.log l.fn.files.db;
  holds : (from : ℕ) (h next : History) → Legal h → Legal next → (AreClean g.D.Disk l.fn.files.log l.fn.files.db → HoldEither g.D.Disk from l.fn.files h next)
      → AreClean g.D.Disk l.left.log l.left.db → HoldEither g.D.Disk from l.left h next;
}
