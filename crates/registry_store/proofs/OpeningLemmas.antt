-- What a connection shows after a registry is opened or founded on it.
use Rattle.std.proofs.Common.{◌≡◌, ℕ, inl, inr, IsTrue, false, refl, sym, subst, ◌∙◌, arith}
use Rattle.sqlite.specs.Tree.{Trees}
use Rattle.sqlite.specs.Store.{Ghosts}
use Rattle.sqlite.specs.State.{State, HasCleanDisk, Survives}
use Rattle.sqlite.specs.Held.{Held, state}
use Rattle.table_laws.specs.Inside.{CommitsNothing}
use Rattle.registry_rules.specs.History.{History}
use Rattle.registry_tables.specs.Rows.{Rows, newest}
use Rattle.registry_tables.specs.Calls.{KeepsAll}
use Rattle.registry_rules.specs.Run.{Legal}
use Rattle.registry_tables.specs.Head.{IsSummaryOf}
use Rattle.registry_store.specs.declared.registry.Registry.{Registry}
use Rattle.registry_store.specs.Promise.{IsAt, IsFreshAt, Represents, is_poisoned, state_of}
use Rattle.registry_store.specs.Files.{IsEither}

-- a transaction that was rolled back leaves the connection at the same history, whatever it read
pub still_at : (old new : State) (h : History) → IsAt newest old h → (HasCleanDisk new → KeepsAll old new) → CommitsNothing old new → IsAt newest new h
still_at old new h at back survives = record {
  shown = λ clean is_open.
      let early : HasCleanDisk old = omega (arith, survives.clean) in
      let undone = back clean is_open in
      let rows = (at.shown early undone.0).1 in
      (undone.1 ∙ sym undone.2, subst (λ db. Rows newest db.trees h) (sym undone.2) rows);
  left = λ clean db may.
      let early : HasCleanDisk old = omega (arith, survives.clean) in
      at.left early db (elim (survives.crash clean db may) [ inl before ↦ before | inr none ↦ absurd none ]);
}

-- a crash leaves what an open connection at rest shows
pub at_rest : {S : Type 0} (g : Ghosts S) (it : Held S) (v : ℕ) (h : History)
    → ((s : S) (db : Trees) → IsTrue (g.view s).is_open → g.recovers s db → db ≡ (g.view s).committed)
    → IsFreshAt v (state g it) h → IsAt v (state g it) h
at_rest g it v h settled fresh = record {
  shown = λ clean _. let found = fresh clean in (found.1, found.2);
  left = λ clean db may. let found = fresh clean in (h, refl, subst (λ x. Rows v x h) (sym (settled it.store db found.0 may)) found.2);
}

-- the rows that the connection shows now
pub rows_now : (s : State) (h : History) → IsAt newest s h → HasCleanDisk s → IsTrue s.is_open → Rows newest s.now.trees h
rows_now s h at clean is_open = let shown = at.shown clean is_open in subst (λ db. Rows newest db.trees h) (sym shown.0) shown.1

pub either_legal : (h next x : History) → Legal h → Legal next → IsEither h next x → Legal x
either_legal h next x legal legal_next (inl e) = subst Legal (sym e) legal
either_legal h next x legal legal_next (inr e) = subst Legal (sym e) legal_next

-- a disk that is clean after a call was clean before it
pub earlier : (old new : State) (P : Trees → Type 0) → Survives old new P → HasCleanDisk new → HasCleanDisk old
earlier old new P survives clean = omega (arith, survives.clean)

-- a registry over a connection that shows the rows at rest represents the history
pub stands_fresh : {S : Type 0} (g : Ghosts S) (it : Registry S g) (h : History)
    → ((s : S) (db : Trees) → IsTrue (g.view s).is_open → g.recovers s db → db ≡ (g.view s).committed)
    → is_poisoned it ≡ false → Legal h → IsSummaryOf h it.summary → IsFreshAt newest (state_of it) h → Represents it h
stands_fresh g it h settled not_poisoned legal summary fresh =
    record { not_poisoned = not_poisoned; legal_with = record { legal = legal; totals_are = summary.totals; head_is = summary.head }; at = at_rest g it.conn newest h settled fresh }
