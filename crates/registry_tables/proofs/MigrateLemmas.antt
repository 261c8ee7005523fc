-- Migration step by step, and which steps a store needs.
use Rattle.std.proofs.Common.{◌≡◌, ◌≤◌, ℕ, ◌⊎◌, inl, inr, IsTrue, Bool, true, false, nat_eq, Option, Some, None, Result, Ok, Err, OnOk, sym, ap, subst, ◌∙◌, arith}
use Rattle.std.specs.Option.{option_eq}
use Rattle.std.proofs.lemmas.Bool.{eqb-true}
use Rattle.std.proofs.lemmas.Bool.Decides.{nat_tests}
use Rattle.sqlite.specs.Tree.{Trees}
use Rattle.sqlite.specs.State.{State, Survives}
use Rattle.sqlite.proofs.StateLemmas.{survives_weaker}
use Rattle.table_laws.specs.Making.{HasTables}
use Rattle.registry_schema.specs.Texts.{texts_1, texts_2, texts_3, texts_4, texts_5}
use Rattle.registry_rules.specs.History.{History}
use Rattle.registry_tables.specs.Rows.{newest, Rows}
use Rattle.registry_tables.specs.Raising.{IsMadeBy, CommitsStep, CommitsTwo, CommitsLater, IsAtRest, StaysOpen}

-- ---- the schema version of a store

module _ (a : State) (told : Option ℕ) (first : IsTrue a.is_open → HasTables texts_1 a.now.trees → told ≡ Some 1) (second : IsTrue a.is_open → HasTables texts_2 a.now.trees → told ≡ Some 2)
    (third : IsTrue a.is_open → HasTables texts_3 a.now.trees → told ≡ Some 3) (fourth : IsTrue a.is_open → HasTables texts_4 a.now.trees → told ≡ Some 4) (fifth : IsTrue a.is_open → HasTables texts_5 a.now.trees → told ≡ Some 5) where
  -- the version returned is the one its rows are in
  pub version_told : (version : ℕ) (h : History) → IsTrue a.is_open → Rows version a.now.trees h → told ≡ Some version
  unfolding Rows
  version_told version h is_open (t, inl (is, has), rest, kept) = first is_open has.has ∙ ap Some (sym is)
  version_told version h is_open (t, inr (inl (is, has)), rest, kept) = second is_open has.has ∙ ap Some (sym is)
  version_told version h is_open (t, inr (inr (inl (is, has))), rest, kept) = third is_open has.has ∙ ap Some (sym is)
  version_told version h is_open (t, inr (inr (inr (inl (is, has)))), rest, kept) = fourth is_open has.has ∙ ap Some (sym is)
  version_told version h is_open (t, inr (inr (inr (inr (is, has)))), rest, kept) = fifth is_open has.has ∙ ap Some (sym is)

  -- which is one of five
  pub version_among : (h : History) (version : ℕ) → IsTrue a.is_open → Rows version a.now.trees h → (told ≡ Some 1) ⊎ ((told ≡ Some 2) ⊎ ((told ≡ Some 3) ⊎ ((told ≡ Some 4) ⊎ (told ≡ Some 5))))
  unfolding Rows
  version_among h version is_open (t, inl (is, has), rest, kept) = inl (first is_open has.has)
  version_among h version is_open (t, inr (inl (is, has)), rest, kept) = inr (inl (second is_open has.has))
  version_among h version is_open (t, inr (inr (inl (is, has))), rest, kept) = inr (inr (inl (third is_open has.has)))
  version_among h version is_open (t, inr (inr (inr (inl (is, has)))), rest, kept) = inr (inr (inr (inl (fourth is_open has.has))))
  version_among h version is_open (t, inr (inr (inr (inr (is, has)))), rest, kept) = inr (inr (inr (inr (fifth is_open has.has))))

  same_version : (n version : ℕ) → told ≡ Some n → told ≡ Some version → n ≡ version
  same_version n version is told_is = cc

  module _ (n : ℕ) (is : told ≡ Some n) (c : State) where
    pub told_rows : (h : History) (version : ℕ) → IsTrue a.is_open → Rows version a.now.trees h → (n ≡ version) × Rows n a.now.trees h
    told_rows h version is_open rows = let same = same_version n version is (version_told version h is_open rows) in (same, subst (λ v. Rows v a.now.trees h) (sym same) rows)

    -- a step from the returned version keeps what was at rest
    pub raised_by : (P : Trees → Type 0) → ((db : Trees) → P db → IsTrue a.is_open × ((h : History) → Rows n a.now.trees h → Rows newest db h)) → {E : Type 0} (result : Result (Unit {0}) E)
        → OnOk result (IsMadeBy P c) → OnOk result (StaysOpen a c × ((h : History) (version : ℕ) → IsAtRest version a h → IsAtRest newest c h))
    raised_by P means (Err e) made = tt
    raised_by P means (Ok x) made = (
      (λ _. made.0, λ _. (means _ made.2).0),
      λ h version at is_open.
          (let it = means _ made.2 in
          let was = at it.0 in
          let rows = subst (λ d. Rows version d.trees h) (sym was.0) was.1 in
          (made.1, it.1 h (told_rows h version it.0 rows).1)),
    )

    pub foreign_by : IsTrue a.is_open × ((h : History) → ¬ Rows n a.now.trees h) → (h : History) (version : ℕ) → ¬ Rows version a.now.trees h
    foreign_by none h version rows = none.1 h (told_rows h version none.0 rows).1

    pub later_by : (P : Trees → Type 0) → ((db : Trees) → P db → IsTrue a.is_open × ((h : History) → Rows n a.now.trees h → (later : ℕ) × (n ≤ later) × Rows later db h)) → Survives a c P → Survives a c (CommitsLater a)
    later_by P means = survives_weaker a c P (CommitsLater a) (λ _ db p. (let it = means db p in (
      it.0,
      λ h version rows. (let told_is = told_rows h version it.0 rows in let later = it.1 h told_is.1 in
          (later.0, subst (λ v. v ≤ later.0) told_is.0 later.1, later.2)),
    )))

pub second_later : (a : State) (db : Trees) → CommitsStep 2 a db → IsTrue a.is_open × ((h : History) → Rows 2 a.now.trees h → (later : ℕ) × (2 ≤ later) × Rows later db h)
second_later a db step = (step.0, λ h rows. (newest, omega arith, step.1 h rows))

pub third_later : (a : State) (db : Trees) → CommitsStep 3 a db → IsTrue a.is_open × ((h : History) → Rows 3 a.now.trees h → (later : ℕ) × (3 ≤ later) × Rows later db h)
third_later a db step = (step.0, λ h rows. (newest, omega arith, step.1 h rows))

pub fourth_later : (a : State) (db : Trees) → CommitsStep 4 a db → IsTrue a.is_open × ((h : History) → Rows 4 a.now.trees h → (later : ℕ) × (4 ≤ later) × Rows later db h)
fourth_later a db step = (step.0, λ h rows. (newest, omega arith, step.1 h rows))

pub two_later : (a : State) (db : Trees) → CommitsTwo a db → IsTrue a.is_open × ((h : History) → Rows 1 a.now.trees h → (later : ℕ) × (1 ≤ later) × Rows later db h)
two_later a db step = (step.0, λ h rows. one_of h (step.1 h rows))
  where
    one_of : (h : History) → Rows 2 db h ⊎ Rows newest db h → (later : ℕ) × (1 ≤ later) × Rows later db h
    one_of h (inl two) = (2, omega arith, two)
    one_of h (inr last) = (newest, omega arith, last)

pub on_ok : {X E P : Type 0} (result : Result X E) → P → OnOk result P
on_ok (Ok x) p = p
on_ok (Err e) p = tt

-- ---- a test of the returned version

pub option_is : (told : Option ℕ) (n : ℕ) → option_eq nat_eq told (Some n) ≡ true → told ≡ Some n
option_is None n h = absurd cc
option_is (Some m) n h = ap Some (eqb-true m n h)

own : (n : ℕ) → nat_eq n n ≡ true
own n = grind (arith, nat_tests)

pub option_own : (told : Option ℕ) (n : ℕ) → told ≡ Some n → (b : Bool) → b ≡ option_eq nat_eq told (Some n) → b ≡ false → ⊥
option_own told n is b tested refused = let passed : option_eq nat_eq told (Some n) ≡ true = rw is (own n) in cc
