-- An order whose fault is passed on, and what a crash leaves if a registry represents one of two histories.
use Rattle.std.proofs.Common.{◌≡◌, inl, inr, ap}
use Rattle.std.specs.Prelude.{Result, Ok, Err, IsErrAnd, MatchResult}
use Rattle.sqlite.specs.Store.{Ghosts}
use Rattle.sqlite.specs.State.{HasCleanDisk}
use Rattle.registry_rules.specs.History.{History}
use Rattle.registry_store.specs.declared.fault.Fault.{Fault}
use Rattle.registry_store.specs.declared.registry.Registry.{Registry as TheRegistry}
use Rattle.registry_store.specs.Promise.{Represents, state_of}
use Rattle.registry_desk.specs.declared.fault.DeskFault.{DeskFault}
use Rattle.registry_desk.specs.declared.fault.DeskFault.TheVariants.{NoMemory, Registry}
use Rattle.registry_desk.specs.Acting.{IsLeftUnavailable}

-- where no fault was passed on, there was none
pub was_done : {A : Type 0} (act : Result A Fault) (told : Result A DeskFault) (it : A) → MatchResult act (λ done. told ≡ Ok done) (λ fault. IsErrAnd told (λ why. why ≡ Registry fault)) → told ≡ Ok it → act ≡ Ok it
was_done (Ok done) told it is same = let here : done ≡ it = cc (is, same) in ap Ok here
was_done (Err fault) (Ok done) it is same = absurd is
was_done (Err fault) (Err why) it is same = absurd cc

module _ {S : Type 0} {g : Ghosts S} where
  -- a crash leaves the history that the registry represents: the first of two
  pub left_first : (it : TheRegistry S g) (h next : History) → Represents it h → HasCleanDisk (state_of it) → IsLeftUnavailable NoMemory it h next
  left_first it h next stands clean = record {
    leaves = λ db may. let l = stands.at.left clean db may in (l.0, inl l.1, l.2);
    ends = inl stands;
  }

  -- or the second
  pub left_second : (it : TheRegistry S g) (h next : History) → Represents it next → HasCleanDisk (state_of it) → IsLeftUnavailable NoMemory it h next
  left_second it h next stands clean = record {
    leaves = λ db may. let l = stands.at.left clean db may in (l.0, inr l.1, l.2);
    ends = inr stands;
  }
