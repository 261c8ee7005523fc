use Rattle.std.proofs.Common.{◌≡◌, length, take}
use Rattle.sqlite.specs.State.{HasCleanDisk}
use Rattle.registry_rules.specs.History.{History}
use Rattle.registry_rules.specs.Run.{replies_to}
use Rattle.registry_store.specs.Promise.{Represents, state_of}
use Rattle.registry_store.specs.Run.{HasAnswered}
use Rattle.registry_reopening.proofs.resuming.run_through.Given as goal

abbrev pub invariant-stops : goal.invariant-stops
invariant-stops g l = record {
  clean : HasCleanDisk (state_of l.registry) → HasCleanDisk (state_of l.fn.first);
  at : (h : History) → Represents l.fn.first h → HasCleanDisk (state_of l.registry)
      → ∥ (HasAnswered l.registry h l.requests (length l.replies.items) × (l.replies.items ≡ take (length l.replies.items) (replies_to h l.requests))) ∥₁;
}
