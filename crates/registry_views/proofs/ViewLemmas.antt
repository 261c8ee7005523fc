-- What is made of what one query found, or two.
use Rattle.std.proofs.Common.{◌≡◌, Bool, true, false, Result, Ok, refl, sym, ◌∙◌, arith}
use Rattle.std.specs.Result.{result_err}
use Rattle.std.proofs.lemmas.Result.{IfOk-weaker}
use Rattle.sqlite.specs.Store.{Ghosts}
use Rattle.sqlite.specs.State.{HasCleanDisk}
use Rattle.registry_rules.specs.History.{History}
use Rattle.registry_store.specs.declared.fault.Fault.{Fault}
use Rattle.registry_store.specs.declared.registry.Registry.{Registry}
use Rattle.registry_store.specs.Promise.{Represents, is_poisoned, state_of}
use Rattle.registry_store.specs.Queries.{IsUntouched, IsQuery}
use Rattle.registry_store.proofs.TransactionLemmas.{quiet_then}
use Rattle.registry_store.proofs.IsQueryLemmas.{notes_then}
pub use Rattle.registry_store.proofs.IsQueryLemmas.{fails, lacks_memory, made}

module _ {S : Type 0} {g : Ghosts S} where
  pub left_then : (it mid new : Registry S g) → IsUntouched it mid → IsUntouched mid new → IsUntouched it new
  left_then it mid new a b = record {
    stays = λ h stands. b.stays h (a.stays h stands);
    poisons_nothing = b.poisons_nothing ∙ a.poisons_nothing;
    survives = quiet_then (state_of it) (state_of mid) (state_of new) a.survives b.survives;
  }

  -- a disk that is clean after a query was clean before it
  pub clean_before : (mid new : Registry S g) → IsUntouched mid new → HasCleanDisk (state_of new) → HasCleanDisk (state_of mid)
  clean_before mid new b clean = let more = b.survives.clean in omega (arith, more, clean)

module _ {S : Type 0} {g : Ghosts S} {it new : Registry S g} {A : Type 0} {Is : History → A → Type 0} where
  -- a registry in which a query found something is not poisoned
  pub sound : {found : A} → IsQuery it new (Ok found) Is → is_poisoned new ≡ false
  sound {found} q = go (is_poisoned it) refl
    where
      go : (b : Bool) → is_poisoned it ≡ b → is_poisoned new ≡ false
      go true is = let failed = q.when_poisoned is in absurd (cc failed.0)
      go false is = q.left.poisons_nothing ∙ is

module _ {S : Type 0} {g : Ghosts S} {it mid new : Registry S g} {A B : Type 0} {Is : History → A → Type 0} {Then : History → B → Type 0} where
  -- two queries, one after the other
  pub both : {found : A} {r : Result B Fault} → IsQuery it mid (Ok found) Is → IsQuery mid new r Then → IsQuery it new r (λ h b. Is h found × Then h b)
  both {found} {r} first second = record {
    when_poisoned = λ is. let failed = first.when_poisoned is in absurd (cc failed.0);
    only_poisoned = λ is. sym first.left.poisons_nothing ∙ second.only_poisoned is;
    never_taken = second.never_taken;
    answered = λ h stands clean.
        IfOk-weaker r _ _ (λ b is. (first.answered h stands (clean_before mid new second.left clean), is)) (second.answered h (first.left.stays h stands) clean);
    kind = λ h stands clean. second.kind h (first.left.stays h stands) clean;
    left = left_then it mid new first.left second.left;
    notes = notes_then it mid new (result_err r) first.notes second.notes;
  }
