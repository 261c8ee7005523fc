-- Why a query of a known table fails, and what a refused row leaves.
use Rattle.std.proofs.Common.{◌≡◌, ◌≢◌, ◌≤◌, ◌⊎◌, inl, inr, ℕ, leb, Bool, true, false, MatchBool, List, [], length, None, Ok, Err, Result, refl, sym, ap, subst, append-nil, ◌∙◌}
use Rattle.std.proofs.lemmas.Bool.{leb-true}
use Rattle.sqlite.specs.Order.{Row}
use Rattle.sqlite.specs.Schema.{Schema}
use Rattle.sqlite.specs.Tree.{Trees}
use Rattle.sqlite.specs.Effect.{Database, RefusesToRead}
use Rattle.sqlite.specs.Command.TheVariants.{Select}
use Rattle.sqlite.specs.Query.{Query, inner, end}
use Rattle.sqlite.specs.Program.{overlay}
use Rattle.sqlite.specs.declared.error.Error.{Error}
use Rattle.sqlite.specs.declared.error.Error.TheVariants.{SqliteFailure, MultipleStatement, InvalidParameterCount, ExecuteReturnedResults}
use Rattle.sqlite.specs.declared.error.ErrorCode.TheVariants.{OutOfMemory, NoClock, ConstraintViolation}
use Rattle.sqlite.specs.Listing.{understood, reads_listing, IsSourceOf}
use Rattle.sqlite.specs.State.{State, ExecutesIn, ExecutesInside, RunsCommand, IsNoStatement, IsNotRun, IsTooLate, IsUnchanged, Fails, HasCause, FailsToQuery, store_error}
use Rattle.sqlite.proofs.Callers.{IsPlain, command_of}
use Rattle.sqlite_schema.specs.declared.schema.Constraint.{Constraint}
use Rattle.sqlite_sql.specs.Program.{QueryOverflows}
use Rattle.sqlite_typing.specs.Types.{accepts_program}
use Rattle.sqlite_trees.specs.declared.error.StoreError.{StoreError}
use Rattle.sqlite_trees.specs.declared.error.StoreError.TheVariants as store
use Rattle.sqlite_resolve.specs.declared.compiled.Compiled.{Compiled}
use Rattle.sqlite_resolve.specs.declared.error.CompileError.{CompileError}
use Rattle.table_laws.specs.Inside.{StoreFailed}
use Rattle.table_laws.proofs.StatementLemmas.{IsSelect}

-- the text is one statement, and has so many parameters
abbrev pub IsOne : List ℕ → ℕ → Result Compiled CompileError → Type 0
IsOne sql count (Ok c) = (leb (length sql) c.tail ≡ true) × (length c.names ≡ count)
IsOne sql count (Err e) = ⊥

-- the schema types the query with these parameters, and no SUM of it can overflow
pub record IsTyped (schema : Schema) (sql : List ℕ) (q : Query) (params : Row) : Type 0 where
  pub one : IsOne sql (length params) (understood schema sql)
  pub accepted : accepts_program schema [] q params ≡ true
  pub counts : (db : Trees) → ¬ QueryOverflows q (overlay db []) params

-- out of memory, or the store failed
abbrev pub IsExcused : State → State → Error → Type 0
IsExcused old new e = (e ≡ SqliteFailure OutOfMemory) ⊎ StoreFailed old new

module _ (old new : State) where
  caused : (cause : StoreError) → HasCause old new ⊥ cause → IsExcused old new (store_error cause)
  caused store.OutOfMemory h = inl refl
  caused store.Io h = inr (inl h)
  caused store.Corrupt h = inr (inl h)
  caused store.Full h = inr (inl h)
  caused store.Broken h = inr (inr (inr h))
  caused store.Unstorable h = absurd h

  failed : (e : Error) → Fails old new ⊥ e → IsExcused old new e
  failed e h = subst (IsExcused old new) (sym h.1) (caused h.0 h.2)

  module _ (sql : List ℕ) (params : Row) (schema : Schema) (has : old.now.schema ≡ schema) (q : Query) (names : List (List ℕ)) (text : IsSelect schema sql q names) (typed : IsTyped schema sql q params) where
    one : IsOne sql (length params) (understood old.now.schema sql)
    one = subst (λ s. IsOne sql (length params) (understood s sql)) (sym has) typed.one

    plain : IsPlain (understood old.now.schema sql)
    plain = subst (λ s. IsPlain (understood s sql)) (sym has) text.plain

    is_one : (e : Error) → ¬ IsNoStatement old sql params e
    is_one e (inl h) = subst (IsOne sql (length params)) h.1 one
    is_one e (inr h) = none h.2
      where
        this : IsOne sql (length params) (Ok h.0)
        this = subst (IsOne sql (length params)) h.1 one

        none : ¬ (((¬ (length sql ≤ h.0.tail)) × (e ≡ MultipleStatement)) ⊎ (((length params ≢ length h.0.names) × (e ≡ InvalidParameterCount (length params) (length h.0.names))) ⊎ ((h.0.formats ≢ []) × (e ≡ SqliteFailure NoClock))))
        none (inl more) = more.0 (leb-true (length sql) h.0.tail this.0)
        none (inr (inl other)) = other.0 (sym this.1)
        none (inr (inr timed)) = timed.0 (subst IsPlain h.1 plain).1

    not_run : (e : Error) → IsNotRun old new sql params e → IsExcused old new e
    unfolding IsNotRun
    not_run e (inl h) = absurd (is_one e h.0)
    not_run e (inr h) = failed e h

    refused : (db : Database) → db.schema ≡ schema → (e : Error) → RefusesToRead old.step_limit (Select (record { lets = []; body = q }) names) db params e → IsExcused old new e
    refused db is e (inl h) = absurd (let never = sym h.1 ∙ ap (λ s. accepts_program s [] q params) is ∙ typed.accepted in cc)
    refused db is e (inr (inl h)) = absurd (typed.counts db.trees h.1)
    refused db is e (inr (inr h)) = inr (inr (inl h.1))

    -- the query is out of memory, or the store failed
    pub query_stops : (e : Error) → FailsToQuery sql params old new e ⊎ IsTooLate sql params old new e → IsExcused old new e
    unfolding FailsToQuery
    query_stops e (inl (inl h)) = not_run e h
    query_stops e (inl (inr h)) =
        let known = sym h.1.is ∙ ap (λ s. understood s sql) has in
        let bare = subst IsPlain (sym known) text.plain in
        let it = rw (bare.0, bare.1, append-nil params) at h.2 in
        let is_now : it.0 ≡ old.now = subst (λ b. IsSourceOf b old.now it.0) (ap (λ s. reads_listing s sql) has ∙ text.own) it.1 in
        refused it.0 (ap (λ (d : Database). d.schema) is_now ∙ has) e (subst (λ k. RefusesToRead old.step_limit k it.0 params e) (ap command_of known ∙ text.is) it.2)
    query_stops e (inr h) = absurd (let some = rw ((subst IsPlain h.1.is plain).0) at h.2 in cc)

-- a query on one table without groups has no SUM
pub never_overflows : (tree : ℕ) (q : Query) (params : Row) → (db : Trees) → ¬ QueryOverflows (record q { from = inner tree end; group = None }) (overlay db []) params
never_overflows tree q params db (inl h) = h
never_overflows tree q params db (inr h) = h.4

-- a row that is refused by a constraint leaves all as it was
pub violation_keeps : (sql : List ℕ) (params : Row) (old new : State) (rule : Constraint) → ExecutesInside 0 sql params old new (Err (SqliteFailure (ConstraintViolation rule))) → IsUnchanged old new
unfolding ExecutesIn IsNotRun
violation_keeps sql params old new rule (inr h) = h.2
violation_keeps sql params old new rule (inl h) = ran h.0
  where
    e : Error
    e = SqliteFailure (ConstraintViolation rule)

    no_fault : (cause : StoreError) → e ≢ store_error cause
    no_fault store.OutOfMemory is = cc
    no_fault store.Io is = cc
    no_fault store.Corrupt is = cc
    no_fault store.Full is = cc
    no_fault store.Broken is = cc
    no_fault store.Unstorable is = cc

    told : (c : Compiled) (given : Row) → RunsCommand old new sql c given (Err e) → IsUnchanged old new
    told c given (inl h) = h.1
    told c given (inr h) = absurd (no_fault h.0 h.1)

    failed : Result ℕ Error
    failed = Err e

    alone : (b : Bool) (c : Compiled) (given : Row) → MatchBool b ((failed ≡ Err ExecuteReturnedResults) × IsUnchanged old new) (RunsCommand old new sql c given (Err e)) → IsUnchanged old new
    alone true c given h = h.1
    alone false c given h = told c given h

    ran : ExecutesIn false sql params old new (Err e) → IsUnchanged old new
    ran (inl (inl h)) = h.1
    ran (inl (inr h)) = absurd (no_fault h.0 h.1)
    ran (inr h) = alone _ h.0 _ h.2
