-- A transaction that reads and is rolled back.
use Rattle.std.proofs.Common.{◌≡◌, ◌≤◌, inl, inr, IsTrue, true, refl, sym, ap, subst, ◌∙◌, arith, Result, Ok, Err, IfOk}
use Rattle.std.specs.Borrow.{MutBor}
use Rattle.sqlite.specs.Store.{Ghosts}
use Rattle.sqlite.specs.State.{State, HasCleanDisk, IsLive, IsRolledBack, KeepsCommit}
use Rattle.sqlite.specs.Held.{Held, state}
use Rattle.sqlite.proofs.StateLemmas.{survives_then}
use Rattle.sqlite.proofs.Callers.{survives_begin}
use Rattle.table_laws.specs.Inside.{CommitsNothing, StoreFailed}
use Rattle.registry_schema.specs.declared.fault.TableFault.{TableFault}
use Rattle.registry_schema.specs.declared.fault.TableFault.TheVariants.{Foreign}
use Rattle.registry_rules.specs.History.{History}
use Rattle.registry_tables.specs.Rows.{newest, Rows, HoldsRows}
use Rattle.registry_tables.specs.Calls.{Lists, IsForeign, IsStoreFault, IsLookUp}
use Rattle.registry_tables.specs.Finds.{Finds, ReadsHistory, TellsStore}
use Rattle.registry_tables.proofs.FindLemmas.{goes_keeps}
use Rattle.registry_tables.proofs.ReadLemmas.{is_open_or_not}
use Rattle.registry_tables.proofs.RowsLemmas.{enters}

-- the store failed by then, and so by now
failed_on : (a b c : State) → b.faults ≤ c.faults → StoreFailed a b → StoreFailed a c
failed_on a b c le (inl more) = inl (omega (arith, le, more))
failed_on a b c le (inr other) = inr other

module _ {S : Type 0} (g : Ghosts S) (old begun mid end : Held S) (is : begun ≡ record old { in_transaction = true }) where
  inside : IsTrue (state g begun).in_transaction
  inside = subst (λ b. IsTrue (state g b).in_transaction) (sym is) refl

  opened : IsTrue (state g begun).is_open → IsTrue (state g old).is_open
  opened = subst (λ b. IsTrue (state g b).is_open) is

  pub quiet_all : CommitsNothing (state g begun) (state g mid) → CommitsNothing (state g mid) (state g end) → CommitsNothing (state g old) (state g end)
  quiet_all first last =
      survives_begin g old (state g end) _
      (subst (λ b. CommitsNothing (state g b) (state g end)) is (survives_then (state g begun) (state g mid) (state g end) _ _ (λ _. ⊥) (λ _ db none. none) (λ _ db none. none) first last))

  keeps_by : {A : Type 0} (Is : History → A → Type 0) (result : Result A TableFault) → Finds (state g begun) (state g mid) result Is → KeepsCommit (state g begun) (state g mid)
  keeps_by Is (Ok a) told = goes_keeps (state g begun) (state g mid) told.0
  keeps_by Is (Err e) told = told.1

  module _ (live : IsLive (state g old)) where
    held : (h : History) → IsTrue (state g old).is_open → Rows newest (state g old).now.trees h → HoldsRows newest (state g begun).now h
    held h is_open rows = subst (λ b. HoldsRows newest (state g b).now h) (sym is) (enters (state g old) h live is_open rows)

    lists_by : {A : Type 0} (Is : History → A → Type 0) (result : Result A TableFault) → Finds (state g begun) (state g mid) result Is → IfOk result (λ a. Lists (state g old) (state g end) Is a)
    lists_by Is (Ok a) told = let is_open = opened told.0.was_open in (is_open, λ h legal rows. (told.1 h legal (held h is_open rows)).1)
    lists_by Is (Err e) told = tt

    foreign_by : {A : Type 0} (Is : History → A → Type 0) (result : Result A TableFault) → Finds (state g begun) (state g mid) result Is → IsForeign (state g old) (state g end) result
    foreign_by Is (Ok a) told never = absurd cc
    foreign_by Is (Err e) told same =
        let e_is : e ≡ Foreign = cc in
        let none = told.0 e_is in
        let is_open = opened none.0 in
        (is_open, λ h legal rows. none.1 h legal (held h is_open rows))

pub look_up : {S A : Type 0} {g : Ghosts S} {end shown : Held S} {begun mid : MutBor (Held S)} {result : Result A TableFault} {Is : History → A → Type 0} (old : Held S) → begun.now ≡ record old { in_transaction = true } → IsLive (state g old)
    → ReadsHistory g begun mid result Is → CommitsNothing (state g mid.now) (state g end) → (HasCleanDisk (state g end) → IsRolledBack (state g mid.now) (state g end)) → end ≡ shown → IsLookUp (state g old) (state g shown) result Is
look_up {S} {A} {g} {end} {shown} {begun} {mid} {result} {Is} old is live reads last undone same = subst (λ e. IsLookUp (state g old) (state g e) result Is) same (record {
  answer = λ clean. lists_by g old begun.now mid.now end is live Is result (tells clean);
  same = λ clean is_open.
      let back = undone clean in
      let kept = keeps_by g old begun.now mid.now end is Is result (tells clean) in
      let was = kept.committed (back.was_open is_open) ∙ ap (λ b. (state g b).committed) is in
      (opened g old begun.now mid.now end is (kept.was_open (back.was_open is_open)), (back.undone is_open).0 ∙ was, (back.undone is_open).1 ∙ was);
  foreign = λ clean. foreign_by g old begun.now mid.now end is live Is result (tells clean);
  survives = quiet_all g old begun.now mid.now end is reads.survives last;
})
  where
    tells : HasCleanDisk (state g end) → Finds (state g begun.now) (state g mid.now) result Is
    tells clean = reads.found (omega (arith, last.clean)) (inside g old begun.now mid.now end is)

-- Store comes from it only if the store failed
pub store_fault : {S A : Type 0} {g : Ghosts S} {end shown : Held S} {begun mid : MutBor (Held S)} {result : Result A TableFault} (old : Held S) → begun.now ≡ record old { in_transaction = true } → IsLive (state g old)
    → TellsStore g begun mid result → CommitsNothing (state g mid.now) (state g end) → end ≡ shown → IsStoreFault (state g old) (state g shown) result
store_fault {S} {A} {g} {end} {shown} {begun} {mid} {result} old is live tells last same = subst (λ e. IsStoreFault (state g old) (state g e) result) same
    (λ clean fault h legal rows. elim (is_open_or_not (state g old).is_open) [
      | inl is_open ↦ subst (λ (b : Held S). StoreFailed (state g b) (state g end)) is (failed_on (state g begun.now) (state g mid.now) (state g end) last.counts
          (tells.store (omega (arith, last.clean)) (inside g old begun.now mid.now end is) fault h legal (held g old begun.now mid.now end is live h is_open rows)))
      | inr shut ↦ inr (inr shut)
    ])
