-- A read of `meta` returns the schema version of the store.
use Rattle.std.proofs.Common.{◌≡◌, ◌≢◌, ◌<◌, ℕ, inl, true, nat_eq, List, [], ◌∷◌, ◌++◌, length, Result, Ok, Err, OnOk, MatchResult, sym, ap, subst, ◌∙◌, arith}
use Rattle.std.specs.List.{list_any}
use Rattle.std.proofs.lemmas.Bool.Decides.{nat_tests}
use Rattle.std.specs.Borrow.{MutBor}
use Rattle.sqlite_trees.specs.declared.store.Store.{Ghosts}
use Rattle.sqlite.specs.Held.{Held}
use Rattle.sqlite.specs.State.{State, IsUnchanged}
use Rattle.table_laws.specs.Inside.{GoesOn}
use Rattle.registry_schema.specs.declared.fault.TableFault.{TableFault}
use Rattle.registry_schema.specs.declared.fault.TableFault.TheVariants.{Foreign}
use Rattle.registry_rows.specs.declared.meta.Meta.{Meta}
use Rattle.registry_old_rows.specs.Steps.{Second, IsHeld}
use Rattle.registry_rows.specs.Steps.{Tells, ReadsWithin}
use Rattle.registry_rows.specs.Tables.{Tables, Holds}
use Rattle.registry_rows.proofs.StepLemmas.{reads_by}
use Rattle.registry_tables.proofs.NewestLemmas.{last_passes}
use Rattle.registry_tables.proofs.OpeningLemmas.{last_is_only}
use Rattle.registry_tables.specs.Known.{SaysVersion, names_version}
use Rattle.registry_tables.specs.Raising.{IsMarked, Raised, IsMarkedNewest}

module _ (version : ℕ) (old new : State) (all : List Meta) (read : GoesOn old new × ((x : Second) → IsHeld old.now x → IsUnchanged old new × (all ≡ x.tables.metas))) where
  -- the last row is the only one
  pub marked_told : (rest : List Meta) (meta : Meta) → all ≡ rest ++ meta ∷ [] → (result : Result Meta TableFault)
      → MatchResult result (λ same. (same ≡ meta) × (meta.version ≡ version)) (λ fault. (fault ≡ Foreign) × (meta.version ≢ version))
      → Tells old new (IsMarked version old.now) result (λ x m. x.tables.metas ≡ m ∷ [])
  marked_told rest meta is (Ok m) says = (
    read.0,
    λ x marked.
        (let it = read.1 x marked.held in
        let same : meta ≡ marked.meta = last_is_only rest meta marked.meta (sym marked.only ∙ sym it.1 ∙ is) in
        (it.0, marked.only ∙ ap (λ l. l ∷ []) (sym same ∙ sym says.0))),
  )
  marked_told rest meta is (Err e) says = (
    λ _. (
      read.0,
      λ x marked.
          (let it = read.1 x marked.held in
          let same : meta ≡ marked.meta = last_is_only rest meta marked.meta (sym marked.only ∙ sym it.1 ∙ is) in
          says.1 (ap (λ (m : Meta). m.version) same ∙ marked.named)),
    ),
    inl read.0,
    λ is. (let never = sym says.0 ∙ is in absurd cc),
  )

  -- and so a row of meta names the version
  pub marked_says : (rest : List Meta) (meta : Meta) → all ≡ rest ++ meta ∷ [] → (result : Result Meta TableFault)
      → MatchResult result (λ same. (same ≡ meta) × (meta.version ≡ version)) (λ fault. (fault ≡ Foreign) × (meta.version ≢ version)) → OnOk result (SaysVersion version old.now)
  marked_says rest meta is (Ok m) says = λ x held.
      (let same : all ≡ x.tables.metas = (read.1 x held).1 in
      let names = λ (m : Meta). nat_eq m.version version in
      subst (λ metas. list_any names metas ≡ true) (sym is ∙ same) (last_passes names rest meta (grind (arith, nat_tests, says.1))))
  marked_says rest meta is (Err e) says = tt

  pub none_marked : (0 < length all → ⊥) → Tells old new (IsMarked version old.now) (Err Foreign) (λ x (m : Meta). x.tables.metas ≡ m ∷ [])
  none_marked none = (λ _. (read.0, λ x marked. (let it = read.1 x marked.held in absurd (none (subst (λ l. 0 < length l) (sym (it.1 ∙ marked.only)) (omega arith))))), inl read.0, λ is. absurd cc)

-- a fault that refutes each held store refutes each marked one
pub fails_marked : {S : Type 0} {g : Ghosts S} {a b : MutBor (Held S)} {A B : Type 0} {version : ℕ} {Says : Second → A → Type 0} {Also : Second → B → Type 0} {e : TableFault} {r : Result B TableFault} → r ≡ Err e
    → ReadsWithin g a b (Err e) IsHeld Says → ReadsWithin g a b r (IsMarked version) Also
fails_marked {S} {g} {a} {b} {A} {B} {version} {Says} {Also} {e} {r} is read = subst (λ r. ReadsWithin g a b r (IsMarked version) Also) (sym is) (reads_by (λ read. (λ foreign. (let none = read.0 foreign in (none.0, λ x marked. none.1 x marked.held)), read.1, λ is x marked. read.2 is x marked.held)) read)

-- ---- the same once the tables of the newest schema are there, while meta still names this version

module _ (version : ℕ) (old new : State) (all : List Meta) (read : GoesOn old new × ((t : Tables) → Holds old.now t → IsUnchanged old new × (all ≡ t.metas))) where
  pub newest_told : (rest : List Meta) (meta : Meta) → all ≡ rest ++ meta ∷ [] → (result : Result Meta TableFault)
      → MatchResult result (λ same. (same ≡ meta) × (meta.version ≡ version)) (λ fault. (fault ≡ Foreign) × (meta.version ≢ version))
      → Tells old new (IsMarkedNewest version old.now) result (λ x m. x.tables.metas ≡ m ∷ [])
  newest_told rest meta is (Ok m) says = (
    read.0,
    λ x marked.
        (let it = read.1 x.tables marked.held in
        let same : meta ≡ x.meta = last_is_only rest meta x.meta (sym marked.only ∙ sym it.1 ∙ is) in
        (it.0, marked.only ∙ ap (λ l. l ∷ []) (sym same ∙ sym says.0))),
  )
  newest_told rest meta is (Err e) says = (
    λ _. (
      read.0,
      λ x marked.
          (let it = read.1 x.tables marked.held in
          let same : meta ≡ x.meta = last_is_only rest meta x.meta (sym marked.only ∙ sym it.1 ∙ is) in
          says.1 (ap (λ (m : Meta). m.version) same ∙ marked.named)),
    ),
    inl read.0,
    λ is. (let never = sym says.0 ∙ is in absurd cc),
  )

  pub newest_says : (rest : List Meta) (meta : Meta) → all ≡ rest ++ meta ∷ [] → (result : Result Meta TableFault)
      → MatchResult result (λ same. (same ≡ meta) × (meta.version ≡ version)) (λ fault. (fault ≡ Foreign) × (meta.version ≢ version)) → OnOk result ((t : Tables) → Holds old.now t → names_version version t ≡ true)
  newest_says rest meta is (Ok m) says = λ t held.
      (let same : all ≡ t.metas = (read.1 t held).1 in
      let names = λ (m : Meta). nat_eq m.version version in
      subst (λ metas. list_any names metas ≡ true) (sym is ∙ same) (last_passes names rest meta (grind (arith, nat_tests, says.1))))
  newest_says rest meta is (Err e) says = tt

  pub no_newest : (0 < length all → ⊥) → Tells old new (IsMarkedNewest version old.now) (Err Foreign) (λ x (m : Meta). x.tables.metas ≡ m ∷ [])
  no_newest none =
      (λ _. (read.0, λ x marked. (let it = read.1 x.tables marked.held in absurd (none (subst (λ l. 0 < length l) (sym (it.1 ∙ marked.only)) (omega arith))))), inl read.0, λ is. absurd cc)

pub fails_newest : {S : Type 0} {g : Ghosts S} {a b : MutBor (Held S)} {A B : Type 0} {version : ℕ} {Says : Tables → A → Type 0} {Also : Raised → B → Type 0} {e : TableFault} {r : Result B TableFault} → r ≡ Err e
    → ReadsWithin g a b (Err e) Holds Says → ReadsWithin g a b r (IsMarkedNewest version) Also
fails_newest {S} {g} {a} {b} {A} {B} {version} {Says} {Also} {e} {r} is read = subst (λ r. ReadsWithin g a b r (IsMarkedNewest version) Also) (sym is) (reads_by (λ read. (λ foreign. (let none = read.0 foreign in (none.0, λ x marked. none.1 x.tables marked.held)), read.1, λ is x marked. read.2 is x.tables marked.held)) read)
