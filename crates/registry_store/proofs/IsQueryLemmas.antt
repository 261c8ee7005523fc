-- Queries of a registry, whatever they look up.
use Rattle.std.proofs.Common.{◌≡◌, ◌≢◌, ◌⊎◌, ◌||◌, Bool, true, false, Option, Some, None, inl, inr, Result, Ok, Err, refl, sym, ap, subst, ◌∙◌}
use Rattle.std.specs.Prelude.{MatchResult, is_some}
use Rattle.std.specs.Result.{result_err}
use Rattle.std.proofs.lemmas.Result.{IfOk-weaker}
use Rattle.sqlite.specs.Store.{Ghosts}
use Rattle.sqlite.specs.State.{State, HasCleanDisk}
use Rattle.sqlite.specs.Held.{Held, state}
use Rattle.registry_schema.specs.declared.fault.TableFault.{TableFault}
use Rattle.registry_schema.specs.declared.fault.TableFault.TheVariants as tables
use Rattle.registry_rules.specs.History.{History}
use Rattle.registry_rules.specs.Run.{Legal}
use Rattle.registry_tables.specs.Calls.{IsForeign, IsLookUp}
use Rattle.registry_tables.specs.Rows.{newest}
use Rattle.registry_store.specs.declared.fault.Fault.{Fault}
use Rattle.registry_store.specs.declared.fault.Fault.TheVariants as of
use Rattle.registry_store.specs.declared.registry.Registry.{Registry}
use Rattle.registry_store.specs.Faults.{fault_of, is_foreign_fault}
use Rattle.registry_store.specs.Promise.{IsAt, IsLegalWith, NotesForeign, Represents, has_met_foreign, is_poisoned, poisoned_by, state_of}
use Rattle.registry_store.specs.Queries.{IsNoted, IsQuery, IsUntouched}
use Rattle.registry_store.proofs.OpeningLemmas.{earlier, rows_now, still_at}
use Rattle.registry_store.proofs.QueryLemmas.{listed}
use Rattle.registry_store.proofs.TransactionLemmas.{quiet_itself}

-- ---- the faults of the tables

never_poisoned : (fault : TableFault) → fault_of fault ≢ of.Poisoned
never_poisoned tables.Store is = cc
never_poisoned tables.NoMemory is = cc
never_poisoned tables.Foreign is = cc

never_taken : (fault : TableFault) → fault_of fault ≢ of.Taken
never_taken tables.Store is = cc
never_taken tables.NoMemory is = cc
never_taken tables.Foreign is = cc

pub foreign_of : (fault : TableFault) → fault_of fault ≡ of.Foreign → fault ≡ tables.Foreign
foreign_of tables.Store is = absurd cc
foreign_of tables.NoMemory is = absurd cc
foreign_of tables.Foreign is = refl

-- the tables hold the rows of a history, so the fault is of the store or of memory
kind_of : {A : Type 0} (old new : State) (h : History) → IsAt newest old h → Legal h → HasCleanDisk old → (fault : TableFault) (result : Result A TableFault) → result ≡ Err fault → IsForeign old new result
    → (fault_of fault ≡ of.Store) ⊎ (fault_of fault ≡ of.NoMemory)
kind_of old new h at legal clean tables.Store result is foreign = inl refl
kind_of old new h at legal clean tables.NoMemory result is foreign = inr refl
kind_of old new h at legal clean tables.Foreign result is foreign = let none = foreign is in absurd (none.1 h legal (rows_now old h at clean none.0))

-- ---- a look-up, and the note of it

swap : (a b c : Bool) → (a || (b || c)) ≡ (b || (a || c))
swap true true c = refl
swap true false c = refl
swap false b c = refl

noted : {S : Type 0} {g : Ghosts S} (it new : Registry S g) → poisoned_by new ≡ poisoned_by it → (fault : Option Fault) → new.foreign ≡ (is_foreign_fault fault || it.foreign) → NotesForeign it new fault
noted it new same fault is =
    ap (λ (b : Bool). is_foreign_fault (poisoned_by new) || b) is
    ∙ (swap (is_foreign_fault (poisoned_by new)) (is_foreign_fault fault) it.foreign ∙ ap (λ (f : Option Fault). is_foreign_fault fault || (is_foreign_fault f || it.foreign)) same)

module _ {S : Type 0} {g : Ghosts S} {it new : Registry S g} {A : Type 0} {Is : History → A → Type 0} (sound : is_poisoned it ≡ false) (totals : new.summary ≡ it.summary) (fault : poisoned_by new ≡ poisoned_by it) where
  left : (found : Result A TableFault) → IsLookUp (state_of it) (state_of new) found Is → IsUntouched it new
  left found looked = record {
    stays = λ h stands. record {
      not_poisoned = ap (λ (f : Option Fault). is_some f) fault ∙ sound;
      legal_with = subst (λ t. IsLegalWith t h) (sym totals) stands.legal_with;
      at = still_at (state_of it) (state_of new) h stands.at looked.same looked.survives;
    };
    poisons_nothing = ap (λ (f : Option Fault). is_some f) fault;
    survives = looked.survives;
  }

  found_by : (found : A) → IsLookUp (state_of it) (state_of new) (Ok found) Is → new.foreign ≡ it.foreign → IsQuery it new (Ok found) Is
  found_by found looked note = record {
    when_poisoned = λ is. absurd cc;
    only_poisoned = λ never. absurd cc;
    never_taken = λ never. cc;
    answered = λ h stands clean. listed (state_of it) (state_of new) h stands.at stands.legal_with.legal (earlier (state_of it) (state_of new) _ looked.survives clean) Is found (looked.answer clean);
    kind = λ h stands clean. tt;
    left = left (Ok found) looked;
    notes = noted it new fault None note;
  }

  failed_by : (was : TableFault) → IsLookUp (state_of it) (state_of new) (Err was) Is → new.foreign ≡ (is_foreign_fault (Some (fault_of was)) || it.foreign) → IsQuery it new (Err (fault_of was)) Is
  failed_by was looked note = record {
    when_poisoned = λ is. absurd cc;
    only_poisoned = λ is. absurd (never_poisoned was cc);
    never_taken = λ is. never_taken was cc;
    answered = λ h stands clean. tt;
    kind = λ h stands clean. kind_of (state_of it) (state_of new) h stands.at stands.legal_with.legal (earlier (state_of it) (state_of new) _ looked.survives clean) was (Err was) refl (looked.foreign clean);
    left = left (Err was) looked;
    notes = noted it new fault (Some (fault_of was)) note;
  }

  told : (found : Result A TableFault) (result : Result A Fault) → IsLookUp (state_of it) (state_of new) found Is
      → MatchResult found (λ value. result ≡ Ok value) (λ fault. result ≡ Err (fault_of fault)) → new.foreign ≡ (is_foreign_fault (result_err result) || it.foreign) → IsQuery it new result Is
  told (Ok found) result looked is =
      subst (λ (r : Result A Fault). new.foreign ≡ (is_foreign_fault (result_err r) || it.foreign) → IsQuery it new r Is) (sym is) (found_by found looked)
  told (Err was) result looked is =
      subst (λ (r : Result A Fault). new.foreign ≡ (is_foreign_fault (result_err r) || it.foreign) → IsQuery it new r Is) (sym is) (failed_by was looked)

-- a look-up whose fault is noted is a query
pub queried : {S : Type 0} {g : Ghosts S} {it mid new : Registry S g} {A : Type 0} {Is : History → A → Type 0} {found : Result A TableFault} {result : Result A Fault} → is_poisoned it ≡ false → mid.summary ≡ it.summary → poisoned_by mid ≡ poisoned_by it
    → mid.foreign ≡ it.foreign → IsLookUp (state_of it) (state_of mid) found Is → IsNoted mid new found result → IsQuery it new result Is
queried {S} {g} {it} {mid} {new} {A} {Is} {found} {result} sound totals fault foreign looked note =
    told sound (note.same_summary ∙ totals) (note.same_fault ∙ fault) found result
    (subst (λ (c : Held S). IsLookUp (state_of it) (state g c) found Is) (sym note.same_connection) looked) note.told
    (note.foreign ∙ ap (λ (b : Bool). is_foreign_fault (result_err result) || b) foreign)

no_fault : (fault : Option Fault) → is_some fault ≡ false → is_foreign_fault fault ≡ false
no_fault None is = refl
no_fault (Some fault) is = absurd cc

-- what an `act` notes with its fault: the registry was not poisoned before
pub not_met : {S : Type 0} {g : Ghosts S} (it : Registry S g) (fault : Fault) → is_poisoned it ≡ false → (is_foreign_fault (Some fault) || has_met_foreign it) ≡ (is_foreign_fault (Some fault) || it.foreign)
not_met it fault sound = ap (λ (b : Bool). is_foreign_fault (Some fault) || (b || it.foreign)) (no_fault (poisoned_by it) sound)

-- a registry that stays as it is
pub untouched_itself : {S : Type 0} {g : Ghosts S} (it : Registry S g) → IsUntouched it it
untouched_itself it = record { stays = λ h stands. stands; poisons_nothing = refl; survives = quiet_itself (state_of it) }

-- what a call notes after one without a fault
pub notes_then : {S : Type 0} {g : Ghosts S} (it mid new : Registry S g) (fault : Option Fault) → NotesForeign it mid None → NotesForeign mid new fault → NotesForeign it new fault
notes_then it mid new fault a b = b ∙ ap (λ (met : Bool). is_foreign_fault fault || met) a

-- ---- what is made of a query

module _ {S : Type 0} {g : Ghosts S} {it new : Registry S g} {A : Type 0} {Is Also : History → A → Type 0} where
  -- what was found is also this
  pub queried_as : {result : Result A Fault} → ((h : History) → Represents it h → (found : A) → Is h found → Also h found) → IsQuery it new result Is → IsQuery it new result Also
  queried_as {result} means q = record {
    when_poisoned = q.when_poisoned;
    only_poisoned = q.only_poisoned;
    never_taken = q.never_taken;
    answered = λ h stands clean. IfOk-weaker result _ _ (means h stands) (q.answered h stands clean);
    kind = q.kind;
    left = q.left;
    notes = q.notes;
  }

module _ {S : Type 0} {g : Ghosts S} {it new : Registry S g} {A B : Type 0} {Is : History → A → Type 0} {To : History → B → Type 0} where
  -- something is made of what was found
  pub made : {found : A} {b : B} → IsQuery it new (Ok found) Is → ((h : History) → Represents it h → Is h found → To h b) → IsQuery it new (Ok b) To
  made {found} {b} q make = record {
    when_poisoned = λ is. let failed = q.when_poisoned is in absurd (cc failed.0);
    only_poisoned = λ never. absurd cc;
    never_taken = λ never. cc;
    answered = λ h stands clean. make h stands (q.answered h stands clean);
    kind = λ h stands clean. tt;
    left = q.left;
    notes = q.notes;
  }

  -- memory runs out for it
  pub lacks_memory : {found : A} → IsQuery it new (Ok found) Is → IsQuery it new (Err of.NoMemory) To
  lacks_memory {found} q = record {
    when_poisoned = λ is. let failed = q.when_poisoned is in absurd (cc failed.0);
    only_poisoned = λ never. absurd cc;
    never_taken = λ never. cc;
    answered = λ h stands clean. tt;
    kind = λ h stands clean. inr refl;
    left = q.left;
    notes = q.notes;
  }

  -- a query that fails finds nothing to make it of
  pub fails : {e : Fault} → IsQuery it new (Err e) Is → IsQuery it new (Err e) To
  fails {e} q = record {
    when_poisoned = λ is. let failed = q.when_poisoned is in let spent : e ≡ of.Poisoned = cc failed.0 in (ap Err spent, failed.1);
    only_poisoned = λ is. let spent : e ≡ of.Poisoned = cc is in q.only_poisoned (ap Err spent);
    never_taken = λ is. let taken : e ≡ of.Taken = cc is in q.never_taken (ap Err taken);
    answered = λ h stands clean. tt;
    kind = q.kind;
    left = q.left;
    notes = q.notes;
  }
