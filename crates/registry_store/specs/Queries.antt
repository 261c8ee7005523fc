-- What a query of a registry promises.
use Rattle.std.specs.Prelude.{◌≡◌, ◌≢◌, ◌⊎◌, ◌||◌, true, Result, Ok, Err, IfOk, IfErr, MatchResult}
use Rattle.std.specs.Result.{result_err}
use Rattle.sqlite.specs.Store.{Ghosts}
use Rattle.sqlite.specs.State.{HasCleanDisk}
use Rattle.table_laws.specs.Inside.{CommitsNothing}
use Rattle.registry_schema.specs.declared.fault.TableFault.{TableFault}
use Rattle.registry_rules.specs.History.{History}
use Rattle.registry_store.specs.declared.fault.Fault.{Fault}
use Rattle.registry_store.specs.declared.fault.Fault.TheVariants as of
use Rattle.registry_store.specs.declared.registry.Registry.{Registry}
use Rattle.registry_store.specs.Faults.{fault_of, is_foreign_fault}
use Rattle.registry_store.specs.Promise.{NotesForeign, Represents, is_poisoned, poisoned_by, state_of}

module _ {S : Type 0} {g : Ghosts S} (it new : Registry S g) where
  -- the registry still represents each history that it represented, and nothing was committed
  pub record IsUntouched : Type 0 where
    pub stays : (h : History) → Represents it h → Represents new h
    pub poisons_nothing : is_poisoned new ≡ is_poisoned it
    pub survives : CommitsNothing (state_of it) (state_of new)

  -- The result is what the tables gave, and the registry notes whether they hold the rows of no history.
  pub record IsNoted {A : Type 0} (found : Result A TableFault) (result : Result A Fault) : Type 0 where
    pub same_connection : new.conn ≡ it.conn
    pub same_summary : new.summary ≡ it.summary
    pub same_fault : poisoned_by new ≡ poisoned_by it
    pub foreign : new.foreign ≡ (is_foreign_fault (result_err result) || it.foreign)
    pub told : MatchResult found (λ value. result ≡ Ok value) (λ fault. result ≡ Err (fault_of fault))

  -- A query: over a clean disk the result is that of each history that the registry represented, and a fault is of the store
  -- or of memory. A poisoned registry gives Poisoned and stays the same value, and no other gives that. The fault Foreign is
  -- noted.
  pub record IsQuery {A : Type 0} (result : Result A Fault) (Is : History → A → Type 0) : Type 0 where
    pub when_poisoned : is_poisoned it ≡ true → (result ≡ Err of.Poisoned) × (new ≡ it)
    pub only_poisoned : result ≡ Err of.Poisoned → is_poisoned it ≡ true
    pub never_taken : result ≢ Err of.Taken
    pub answered : (h : History) → Represents it h → HasCleanDisk (state_of new) → IfOk result (Is h)
    pub kind : (h : History) → Represents it h → HasCleanDisk (state_of new) → IfErr result (λ e. (e ≡ of.Store) ⊎ (e ≡ of.NoMemory))
    pub left : IsUntouched
    pub notes : NotesForeign it new (result_err result)
