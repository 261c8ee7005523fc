-- The response to a query, by what the registry found.
use Rattle.std.proofs.Common.{◌≡◌, Result, Ok, Err, ◌⊎◌, inl, inr, refl, sym, ap, subst}
use Rattle.std.specs.Prelude.{◌≢◌, true, IfOk, IfErr}
use Rattle.std.proofs.lemmas.Result.{IfOk-weaker}
use Rattle.sqlite.specs.Store.{Ghosts}
use Rattle.registry_rules.specs.History.{History}
use Rattle.registry_store.specs.declared.fault.Fault.{Fault}
use Rattle.registry_store.specs.declared.fault.Fault.TheVariants as faults
use Rattle.registry_store.specs.declared.registry.Registry.{Registry as TheRegistry}
use Rattle.registry_store.specs.Promise.{Represents, is_poisoned}
use Rattle.registry_store.proofs.IsQueryLemmas.{untouched_itself}
use Rattle.registry_store.specs.Queries.{IsQuery}
use Rattle.registry_http.specs.declared.response.Response.{Response}
use Rattle.registry_desk.specs.declared.fault.DeskFault.{DeskFault}
use Rattle.registry_desk.specs.declared.fault.DeskFault.TheVariants.{NoMemory, Registry}
use Rattle.registry_desk.specs.Acting.{IsAsked, IsOfQuery}
use Rattle.registry_desk.specs.Faults.{failed_by}

-- a query may have this fault
of_query : (e : Fault) → e ≢ faults.NoMemory → (e ≡ faults.Store) ⊎ (e ≡ faults.NoMemory) → IsOfQuery (Registry e)
of_query e other (inl is) = inr (ap Registry is)
of_query e other (inr is) = absurd (other is)

-- a result of this type, with a fault
abbrev failure : (A : Type 0) → Fault → Result A Fault
failure A e = Err e

module _ {S : Type 0} {g : Ghosts S} {it new : TheRegistry S g} {A : Type 0} {Is : History → A → Type 0} {To : History → Response → Type 0} where
  -- a response is made of what was found
  pub answers : {found : A} {response : Response} → IsQuery it new (Ok found) Is → ((h : History) → Represents it h → Is h found → To h response) → IsAsked it new (Ok response) To
  answers {found} {response} q make = record {
    when_poisoned = λ is. let failed = q.when_poisoned is in absurd (cc failed.0);
    only_poisoned = λ never. absurd cc;
    answered = λ h stands clean. make h stands (q.answered h stands clean);
    kind = λ h stands clean. tt;
    left = q.left;
    notes = q.notes;
  }

  -- memory runs out for it
  pub lacks_memory : {found : A} → IsQuery it new (Ok found) Is → IsAsked it new (Err NoMemory) To
  lacks_memory {found} q = record {
    when_poisoned = λ is. let failed = q.when_poisoned is in absurd (cc failed.0);
    only_poisoned = λ never. absurd cc;
    answered = λ h stands clean. tt;
    kind = λ h stands clean. inl refl;
    left = q.left;
    notes = q.notes;
  }

  -- one or the other
  pub told : {found : A} (result : Result Response DeskFault) → IsQuery it new (Ok found) Is → IfErr result (λ fault. fault ≡ NoMemory)
      → ((h : History) → Represents it h → Is h found → IfOk result (To h)) → IsAsked it new result To
  told {found} (Ok response) q err make = answers q make
  told {found} (Err fault) q err make = subst (λ (f : DeskFault). IsAsked it new (Err f) To) (sym err) (lacks_memory q)

  -- a fault that is not of memory
  failed_with : {e : Fault} → e ≢ faults.NoMemory → IsQuery it new (Err e) Is → IsAsked it new (Err (Registry e)) To
  failed_with {e} other q = record {
    when_poisoned = λ is. let spent = q.when_poisoned is in let same : e ≡ faults.Poisoned = cc spent.0 in (ap (λ (f : Fault). Err (Registry f)) same, spent.1);
    only_poisoned = λ is. let same : e ≡ faults.Poisoned = cc is in q.only_poisoned (ap Err same);
    answered = λ h stands clean. tt;
    kind = λ h stands clean. of_query e other (q.kind h stands clean);
    left = q.left;
    notes = q.notes;
  }

  -- the fault of a query
  pub failed : (e : Fault) → IsQuery it new (Err e) Is → IsAsked it new (Err (failed_by e)) To
  failed faults.Store q = failed_with (λ never. absurd cc) q
  failed faults.NoMemory q = record {
    when_poisoned = λ is. let spent = q.when_poisoned is in absurd (cc spent.0);
    only_poisoned = λ never. absurd cc;
    answered = λ h stands clean. tt;
    kind = λ h stands clean. inl refl;
    left = q.left;
    notes = q.notes;
  }
  failed faults.Foreign q = failed_with (λ never. absurd cc) q
  failed faults.Taken q = failed_with (λ never. absurd cc) q
  failed faults.Poisoned q = failed_with (λ never. absurd cc) q

module _ {S : Type 0} {g : Ghosts S} {it new : TheRegistry S g} {Is To : History → Response → Type 0} where
  -- the response is what one that promises more asked for
  pub asked_as : {result : Result Response DeskFault} → IsAsked it new result Is → ((h : History) → Represents it h → (response : Response) → Is h response → To h response) → IsAsked it new result To
  asked_as {result} q make = record {
    when_poisoned = q.when_poisoned;
    only_poisoned = q.only_poisoned;
    answered = λ h stands clean. IfOk-weaker result _ _ (make h stands) (q.answered h stands clean);
    kind = q.kind;
    left = q.left;
    notes = q.notes;
  }

module _ {S : Type 0} {g : Ghosts S} {it : TheRegistry S g} {To : History → Response → Type 0} where
  -- the response is made of what the registry has in memory
  pub told_same : (result : Result Response DeskFault) → (is_poisoned it ≡ true → ⊥) → IfErr result (λ fault. fault ≡ NoMemory)
      → ((h : History) → Represents it h → IfOk result (To h)) → IsAsked it it result To
  told_same (Ok response) sound err make = record {
    when_poisoned = λ is. absurd (sound is);
    only_poisoned = λ never. absurd cc;
    answered = λ h stands clean. make h stands;
    kind = λ h stands clean. tt;
    left = untouched_itself it;
    notes = refl;
  }
  told_same (Err fault) sound err make = subst (λ (f : DeskFault). IsAsked it it (Err f) To) (sym err) (record {
    when_poisoned = λ is. absurd (sound is);
    only_poisoned = λ never. absurd cc;
    answered = λ h stands clean. tt;
    kind = λ h stands clean. inl refl;
    left = untouched_itself it;
    notes = refl;
  })

  -- and the registry has nothing in memory, since it is poisoned
  pub failed_same : {A : Type 0} {e : Fault} (v : History → A) → is_poisoned it ≡ true → (is_poisoned it ≡ true → failure A e ≡ failure A faults.Poisoned) → ((h : History) → Represents it h → failure A e ≡ Ok (v h))
      → IsAsked it it (Err (failed_by e)) To
  failed_same {A} {e} v spent fault found =
      let same : e ≡ faults.Poisoned = cc (fault spent) in
      subst (λ (f : Fault). IsAsked it it (Err (failed_by f)) To) (sym same) (record {
        when_poisoned = λ is. (refl, refl);
        only_poisoned = λ is. spent;
        answered = λ h stands clean. tt;
        kind = λ h stands clean. let never = found h stands in absurd (cc never);
        left = untouched_itself it;
        notes = refl;
      })

  -- the same where what it has in memory is said by a relation
  pub failed_alone : {A : Type 0} {e : Fault} → is_poisoned it ≡ true → (is_poisoned it ≡ true → failure A e ≡ failure A faults.Poisoned) → ((h : History) → ¬ Represents it h) → IsAsked it it (Err (failed_by e)) To
  failed_alone {A} {e} spent fault never =
      let same : e ≡ faults.Poisoned = cc (fault spent) in
      subst (λ (f : Fault). IsAsked it it (Err (failed_by f)) To) (sym same) (record {
        when_poisoned = λ is. (refl, refl);
        only_poisoned = λ is. spent;
        answered = λ h stands clean. tt;
        kind = λ h stands clean. absurd (never h stands);
        left = untouched_itself it;
        notes = refl;
      })
