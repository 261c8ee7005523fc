-- What opening does to a store of any schema.
use Rattle.std.proofs.Common.{◌≡◌, IsTrue, ℕ, inl, inr, Result, Ok, Err, IfErr, MatchResult, IfOk, ◌⊎◌, sym, subst, arith}
use Rattle.sqlite_disk.specs.Disk.{MoreFaults}
use Rattle.sqlite_trees.specs.Tree.{Trees}
use Rattle.sqlite.specs.Store.{Ghosts}
use Rattle.sqlite.specs.Held.{Held, state}
use Rattle.sqlite.specs.State.{State, HasCleanDisk, Survives}
use Rattle.sqlite.proofs.StateLemmas.{survives_then}
use Rattle.table_laws.specs.Inside.{CommitsNothing}
use Rattle.registry_rules.specs.History.{History}
use Rattle.registry_rules.specs.Run.{Legal}
use Rattle.registry_tables.specs.Rows.{newest, Rows}
use Rattle.registry_tables.specs.Known.{IsNamed, IsKnownOlder, IsKnown}
use Rattle.registry_tables.specs.Version.{SaysNewest}
use Rattle.registry_tables.specs.Raising.{CommitsLater, IsAtRest, StaysOpen}
use Rattle.registry_store.specs.declared.fault.Fault.{Fault}
use Rattle.registry_store.specs.declared.fault.Fault.TheVariants.{Foreign}
use Rattle.registry_store.specs.Promise.{IsAt, LeavesLater}

-- after a migration, even one with a fault, a crash leaves the history in one of the schemas
pub leaves_then : (a b : State) → Survives a b (CommitsLater a) → (version : ℕ) (h : History) → IsAt version a h → HasCleanDisk b → LeavesLater version b h
leaves_then a b survives version h at clean db may =
    let early : HasCleanDisk a = omega (arith, survives.clean) in
    elim (survives.crash clean db may) [
      | inl before ↦ let x = at.left early db before in (version, omega arith, subst (Rows version db) x.1 x.2)
      | inr step ↦ let was = at.shown early step.0 in step.1 h version (subst (λ d. Rows version d.trees h) (sym was.0) was.1)
    ]

-- after a call that commits nothing, a crash leaves what it could leave before
pub quiet_after : {X E : Type 0} (b : State) (of : X → State) (st : E → State) (version : ℕ) (h : History) → (HasCleanDisk b → LeavesLater version b h) → (told : Result X E)
    → MatchResult told (λ x. CommitsNothing b (of x)) (λ e. CommitsNothing b (st e)) → IfErr told (λ e. HasCleanDisk (st e) → LeavesLater version (st e) h)
quiet_after b of st version h before (Ok x) quiet = tt
quiet_after b of st version h before (Err e) quiet = λ clean db may.
    (let early : HasCleanDisk b = omega (arith, quiet.clean) in elim (quiet.crash clean db may) [ inl was ↦ before early db was | inr none ↦ absurd none ])

-- a migration, and then a call that commits nothing
pub commits_then : {X E : Type 0} (a b : State) (P : Trees → Type 0) (of : X → State) (st : E → State) → Survives a b P → (told : Result X E)
    → MatchResult told (λ x. CommitsNothing b (of x)) (λ e. CommitsNothing b (st e)) → MatchResult told (λ x. Survives a (of x) P) (λ e. Survives a (st e) P)
commits_then a b P of st first (Ok x) quiet = survives_then a b (of x) _ _ P (λ _ db p. p) (λ _ db none. absurd none) first quiet
commits_then a b P of st first (Err e) quiet = survives_then a b (st e) _ _ P (λ _ db p. p) (λ _ db none. absurd none) first quiet

-- what is foreign in the newest schema was foreign before the migration
pub foreign_after : {X E : Type 0} (a b : State) (of : X → State) (st : E → State) (fault : E → Fault) → (IsTrue a.is_open → a.now ≡ a.committed)
    → (HasCleanDisk b → StaysOpen a b × ((h : History) (version : ℕ) → IsAtRest version a h → IsAtRest newest b h)) → (told : Result X E)
    → MatchResult told (λ x. CommitsNothing b (of x)) (λ e. CommitsNothing b (st e))
    → IfErr told (λ e. HasCleanDisk (st e) → fault e ≡ Foreign → IsTrue b.is_open × ((h : History) → Legal h → ¬ Rows newest b.now.trees h))
    → IfErr told (λ e. HasCleanDisk (st e) → fault e ≡ Foreign → (version : ℕ) (h : History) → Legal h → ¬ Rows version a.now.trees h)
foreign_after a b of st fault settled raised (Ok x) quiet none = tt
foreign_after a b of st fault settled raised (Err e) quiet none = λ clean foreign version h legal rows.
    (let early : HasCleanDisk b = omega (arith, quiet.clean) in
    let made = raised early in
    let found = none clean foreign in
    let still = settled (made.0.1 found.0) in
    let now = made.1 h version (λ _. (still, subst (λ d. Rows version d.trees h) still rows)) found.0 in
    found.1 h legal (subst (λ d. Rows newest d.trees h) (sym now.0) now.1))

-- a connection that is open at the end was open before the migration, and stays open unless its disk fails or refuses
pub open_then : {X E : Type 0} (a b : State) (P : Trees → Type 0) (of : X → State) (st : E → State) → Survives a b P → (HasCleanDisk b → StaysOpen a b) → (told : Result X E)
    → MatchResult told (λ x. CommitsNothing b (of x)) (λ e. CommitsNothing b (st e))
    → IfOk told (λ x. HasCleanDisk (of x) → IsTrue b.is_open × (IsTrue (of x).is_open ⊎ MoreFaults b.faults (of x).faults))
    → IfOk told (λ x. HasCleanDisk (of x) → IsTrue a.is_open × (IsTrue (of x).is_open ⊎ MoreFaults a.faults (of x).faults))
open_then a b P of st first same (Ok x) quiet was = λ clean.
    (let early : HasCleanDisk b = omega (arith, quiet.clean) in
    let shown = was clean in
    let later : MoreFaults b.faults (of x).faults → MoreFaults a.faults (of x).faults = λ more. omega (arith, more, first.counts) in
    ((same early).1 shown.0, elim shown.1 [ inl now ↦ inl now | inr more ↦ inr (later more) ]))
open_then a b P of st first same (Err e) quiet was = tt

-- the version that the migration found, and that of a store of the newest schema, which it leaves alone
pub known_then : {S X E : Type 0} (g : Ghosts S) (old new : Held S) (of : X → State) (st : E → State)
    → (HasCleanDisk (state g new) → IsKnownOlder (state g old).now ⊎ (IsNamed newest (state g old).now × (new ≡ old))) → (told : Result X E)
    → MatchResult told (λ x. CommitsNothing (state g new) (of x)) (λ e. CommitsNothing (state g new) (st e)) → IfOk told (λ x. HasCleanDisk (of x) → SaysNewest (state g new).now)
    → IfOk told (λ x. HasCleanDisk (of x) → IsKnown (state g old).now)
known_then g old new of st known (Ok x) quiet says = λ clean.
    (let early : HasCleanDisk (state g new) = omega (arith, quiet.clean) in
    elim (known early) [ inl older ↦ inl older | inr third ↦ inr (third.0, subst (λ c. SaysNewest (state g c).now) third.1 (says clean)) ])
known_then g old new of st known (Err e) quiet says = tt
