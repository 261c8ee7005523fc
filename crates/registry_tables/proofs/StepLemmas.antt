-- A migration step in a transaction, and its commit.
use Rattle.std.proofs.Common.{◌≡◌, ℕ, IsTrue, true, false, Result, Ok, Err, OnOk, refl, sym, subst, ◌∙◌, arith}
use Rattle.sqlite.specs.Tree.{Trees}
use Rattle.sqlite.specs.Effect.{Database}
use Rattle.sqlite.specs.Store.{Ghosts}
use Rattle.sqlite.specs.State.{HasCleanDisk, Survives, Shows, IsLive}
use Rattle.sqlite.specs.Held.{Held, state}
use Rattle.sqlite.proofs.StateLemmas.{survives_then}
use Rattle.sqlite.proofs.Callers.{survives_begin}
use Rattle.table_laws.specs.Inside.{CommitsNothing, GoesOn}
use Rattle.registry_schema.specs.declared.fault.TableFault.TheVariants.{Foreign}
use Rattle.registry_rules.specs.History.{History}
use Rattle.registry_tables.specs.Rows.{Rows}
use Rattle.registry_tables.specs.Versions.{HoldsOf}
use Rattle.registry_tables.specs.Raising.{raised_to, Raises, CommitsStep, IsMadeBy}
use Rattle.registry_tables.proofs.VersionLemmas.{enters, goes_out}

module _ {S : Type 0} (g : Ghosts S) (version : ℕ) (old begun mid : Held S) (is : begun ≡ record old { in_transaction = true }) (live : IsLive (state g old)) where
  abbrev Commits : Trees → Type 0
  Commits = CommitsStep version (state g old)

  inside : IsTrue (state g begun).in_transaction
  inside = subst (λ b. IsTrue (state g b).in_transaction) (sym is) refl

  opened : IsTrue (state g begun).is_open → IsTrue (state g old).is_open
  opened = subst (λ b. IsTrue (state g b).is_open) is

  held : (h : History) → IsTrue (state g old).is_open → Rows version (state g old).now.trees h → HoldsOf version (state g begun).now h
  held h is_open rows = subst (λ b. HoldsOf version (state g b).now h) (sym is) (enters version (state g old) h live is_open rows)

  -- the commit commits what the transaction shows at its end
  module _ (raised : HasCleanDisk (state g mid) → IsTrue (state g begun).in_transaction → GoesOn (state g begun) (state g mid) × ((h : History) → HoldsOf version (state g begun).now h → HoldsOf (raised_to version) (state g mid).now h))
      (first : CommitsNothing (state g begun) (state g mid)) where
    shown : HasCleanDisk (state g mid) → Commits (state g mid).now.trees
    shown clean =
        let it = raised clean inside in
        let is_open = opened it.0.was_open in
        (is_open, λ h rows. goes_out (raised_to version) (state g mid).now h (it.1 h (held h is_open rows)))

    module _ (end ended : Held S) (last : Survives (state g mid) (state g end) (λ db. db ≡ (state g mid).now.trees)) (same : end ≡ ended) where
      pub step_survives : Survives (state g old) (state g ended) Commits
      step_survives =
          subst (λ e. Survives (state g old) (state g e) Commits) same
          (survives_then (state g old) (state g mid) (state g end) _ _ Commits (λ _ db none. absurd none) (λ clean db there. subst Commits (sym there) (shown (omega (arith, last.clean))))
          (survives_begin g old (state g mid) _ (subst (λ b. CommitsNothing (state g b) (state g mid)) is first)) last)

      made : {E : Type 0} (result : Result (Unit {0}) E) → (HasCleanDisk (state g end) → OnOk result (Shows (state g mid) (state g end) (state g mid).now (state g mid).now false))
          → HasCleanDisk (state g end) → OnOk result (IsMadeBy Commits (state g end))
      made (Err e) ok clean = tt
      made (Ok x) ok clean =
          let done = ok clean in
          (done.is_open, done.now_is ∙ sym done.committed_is, subst (λ d. Commits d.trees) (sym done.committed_is) (shown (omega (arith, last.clean))))

      pub step_made : {E : Type 0} (result : Result (Unit {0}) E) → (HasCleanDisk (state g end) → OnOk result (Shows (state g mid) (state g end) (state g mid).now (state g mid).now false))
          → HasCleanDisk (state g ended) → OnOk result (IsMadeBy Commits (state g ended))
      step_made result ok = subst (λ e. HasCleanDisk (state g e) → OnOk result (IsMadeBy Commits (state g e))) same (made result ok)

  -- what a read of meta says is said of the connection before the transaction
  pub step_named : {E : Type 0} (Says : Database → Type 0) → (HasCleanDisk (state g mid) → IsTrue (state g begun).in_transaction → Says (state g begun).now) → HasCleanDisk (state g mid)
      → (result : Result (Unit {0}) E) → OnOk result (Says (state g old).now)
  step_named Says named clean (Err e) = tt
  step_named Says named clean (Ok x) = subst (λ b. Says (state g b).now) is (named clean inside)

  -- Foreign comes only from the rows of no history
  pub step_foreign : (HasCleanDisk (state g mid) → IsTrue (state g begun).in_transaction → Raises version (state g begun) (state g mid) {A = Unit {0}} (Err Foreign)) → HasCleanDisk (state g mid)
      → IsTrue (state g old).is_open × ((h : History) → ¬ Rows version (state g old).now.trees h)
  step_foreign refused clean =
      let none = refused clean inside refl in
      let is_open = opened none.0 in
      (is_open, λ h rows. none.1 h (held h is_open rows))
