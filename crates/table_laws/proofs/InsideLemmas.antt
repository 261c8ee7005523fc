-- What the calls of a transaction leave.
use Rattle.std.proofs.Common.{◌≡◌, ◌⊎◌, inl, inr, ℕ, Bool, true, cond, IsTrue, List, Option, Some, None, refl, sym, ap, subst, ◌∙◌}
use Rattle.sqlite.specs.Order.{Row}
use Rattle.sqlite.specs.declared.error.Error.{Error}
use Rattle.sqlite.specs.Clock.{timed}
use Rattle.sqlite.specs.Listing.{understood}
use Rattle.sqlite_resolve.specs.declared.compiled.Compiled.{Compiled}
use Rattle.sqlite_schema.specs.declared.command.Returning.{Returning}
use Rattle.sqlite.specs.State.{State, IsUnchanged, IsRolledBack, IsNotRun, IsTooLate, FailsToQuery, FailsToShow, Shown, ShowsRows}
use Rattle.sqlite.proofs.Callers.{IsPlain}
use Rattle.sqlite.proofs.StateLemmas.{survives_then}
use Rattle.table_laws.specs.Inside.{CommitsNothing, GoesOn, StaysInside}

is_true : (b : Bool) → IsTrue b → b ≡ true
is_true b h = h

module _ (old new : State) (inside : IsTrue old.in_transaction) where
  pub unchanged_goes : IsUnchanged old new → GoesOn old new
  unchanged_goes h = record { was_open = h.0.was_open; is_open = h.0.is_open; now_is = refl; committed_is = h.0.committed_is; mode = h.0.mode ∙ is_true _ inside }

  pub kept_or_undone : IsUnchanged old new ⊎ IsRolledBack old new → StaysInside old new
  kept_or_undone (inl h) = inl (unchanged_goes h)
  kept_or_undone (inr h) = inr h

  not_run : (sql : List ℕ) (params : Row) (e : Error) → IsNotRun old new sql params e → IsUnchanged old new ⊎ IsRolledBack old new
  unfolding IsNotRun
  not_run sql params e (inl h) = inl h.1
  not_run sql params e (inr h) = inr h.3

  not_shown : (sql : List ℕ) (c : Compiled) (params : Row) (e : Error) (returning : Option Returning) → FailsToShow old new sql c params e returning → IsUnchanged old new ⊎ IsRolledBack old new
  not_shown sql c params e None h = inl h.3
  not_shown sql c params e (Some what) (inl h) = inl h.1
  not_shown sql c params e (Some what) (inr h) = inr h.3

  pub query_fails : (sql : List ℕ) (params : Row) (e : Error) → FailsToQuery sql params old new e ⊎ IsTooLate sql params old new e → StaysInside old new
  unfolding FailsToQuery
  query_fails sql params e (inl (inl h)) = kept_or_undone (not_run sql params e h)
  query_fails sql params e (inl (inr h)) = kept_or_undone (not_shown sql h.0 _ e h.0.returning h.2)
  query_fails sql params e (inr h) = inl (unchanged_goes h.5)

  shows_goes : (sql : List ℕ) (c : Compiled) (params : Row) (rows : List Row) (returning : Option Returning) → ShowsRows old new sql c params rows returning → GoesOn old new
  shows_goes sql c params rows None h = unchanged_goes h.3
  shows_goes sql c params rows (Some what) h =
      let w = h.1 in
      let mode = is_true _ inside in
      record { was_open = w.shown.was_open; is_open = w.shown.is_open; now_is = refl; committed_is = w.shown.committed_is ∙ ap (λ (b : Bool). cond b old.committed new.now) mode; mode = w.shown.mode ∙ mode }

  pub query_goes : (sql : List ℕ) (params : Row) (rows : List Row) → Shown sql params old new rows → GoesOn old new
  unfolding Shown
  query_goes sql params rows h = shows_goes sql h.0 _ rows h.0.returning h.2

pub query_keeps : (old new : State) (sql : List ℕ) (params : Row) (rows : List Row) → IsPlain (understood old.now.schema sql) → Shown sql params old new rows → IsUnchanged old new
unfolding Shown
query_keeps old new sql params rows plain h =
    let bare = subst IsPlain h.1.is plain in (subst (ShowsRows old new sql h.0 (timed params h.0.formats h.1.now) rows) bare.0 h.2).3

-- one call of a transaction after another
pub goes_then : (a b c : State) → GoesOn a b → GoesOn b c → GoesOn a c
goes_then a b c p q = record { was_open = p.was_open; is_open = q.is_open; now_is = refl; committed_is = q.committed_is ∙ p.committed_is; mode = q.mode }

pub quiet_then : (a b c : State) → CommitsNothing a b → CommitsNothing b c → CommitsNothing a c
quiet_then a b c p q = survives_then a b c _ _ (λ _. ⊥) (λ _ db none. none) (λ _ db none. none) p q

-- ---- after a statement that changed nothing

pub unchanged_inside : (a b : State) → IsUnchanged a b → IsTrue a.in_transaction → IsTrue b.in_transaction
unchanged_inside a b same inside = subst (λ (mode : Bool). IsTrue mode) (sym same.0.mode) inside

pub undone_after : (a b c : State) → IsUnchanged a b → IsRolledBack b c → IsRolledBack a c
undone_after a b c same undone = record {
  was_open = λ _. same.0.was_open;
  undone = λ still. (let it = undone.undone still in (it.0 ∙ same.0.committed_is, it.1 ∙ same.0.committed_is));
  autocommit = undone.autocommit;
  unmarked = undone.unmarked;
  counts = record { changes = undone.counts.changes ∙ same.1.changes; last_rowid = undone.counts.last_rowid ∙ same.1.last_rowid };
}
