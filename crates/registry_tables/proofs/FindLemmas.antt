-- How lookups return what the history says.
use Rattle.std.proofs.Common.{◌≡◌, inl, inr, Result, Ok, Err, sym, subst, ◌∙◌}
use Rattle.sqlite.specs.State.{State, IsUnchanged, KeepsCommit}
use Rattle.sqlite.proofs.Callers.{unchanged_then}
use Rattle.table_laws.specs.Inside.{GoesOn, StaysInside, StoreFailed}
use Rattle.table_laws.proofs.InsideLemmas.{goes_then}
use Rattle.registry_schema.specs.declared.fault.TableFault.{TableFault}
use Rattle.registry_schema.specs.declared.fault.TableFault.TheVariants.{Store, Foreign}
use Rattle.registry_rules.specs.History.{History}
use Rattle.registry_rules.specs.Run.{Legal}
use Rattle.registry_rows.specs.Steps.{Tells}
use Rattle.registry_rows.specs.Tables.{Tables, Holds}
use Rattle.registry_tables.specs.Finds.{Finds}
use Rattle.registry_tables.specs.Rows.{newest, HoldsRows, AreRecords, AreKeptReplies, IsRecorded}

-- what was read says this of the tables, which are unchanged
abbrev pub Read : State → State → (Tables → Type 0) → Type 0
Read old new Says = GoesOn old new × ((t : Tables) → Holds old.now t → IsUnchanged old new × Says t)

-- the lookups so far succeeded, and say this of the history
abbrev pub Told : State → State → (History → Type 0) → Type 0
Told old new Is = GoesOn old new × ((h : History) → Legal h → HoldsRows newest old.now h → IsUnchanged old new × Is h)

pub goes_keeps : (old new : State) → GoesOn old new → KeepsCommit old new
goes_keeps old new goes = record { was_open = λ _. goes.was_open; committed = λ _. goes.committed_is }

stays_keeps : (old new : State) → StaysInside old new → KeepsCommit old new
stays_keeps old new (inl goes) = goes_keeps old new goes
stays_keeps old new (inr undone) = record { was_open = undone.was_open; committed = λ is_open. (undone.undone is_open).1 }

module _ (old new : State) where
  -- ---- from the tables to a history

  module _ {B : Type 0} (Is : History → B → Type 0) where
    -- a result about the tables becomes one about the history
    pub passes : (Says : Tables → Type 0) (b : B) → ((h : History) (t : Tables) → Legal h → Holds old.now t → AreRecords h t → AreKeptReplies h t.kept → Says t → Is h b) → Read old new Says → Finds old new (Ok b) Is
    unfolding HoldsRows
    passes Says b means read = (read.0, λ h legal rows. (let it = read.1 rows.1 rows.2 in (it.0, means h rows.1 legal rows.2 rows.3 rows.4.kept it.1)))

    -- the same, where the record counts
    pub passes_recorded : (Says : Tables → Type 0) (b : B) → ((h : History) (t : Tables) → Legal h → IsRecorded h t → Says t → Is h b) → Read old new Says → Finds old new (Ok b) Is
    unfolding HoldsRows
    passes_recorded Says b means read = (read.0, λ h legal rows. (let it = read.1 rows.1 rows.2 in (it.0, means h rows.1 legal rows.4 it.1)))

    -- or it refutes every history
    pub refuses : (Says : Tables → Type 0) → ((h : History) (t : Tables) → Legal h → Holds old.now t → AreRecords h t → ¬ Says t) → Read old new Says → Finds old new (Err Foreign) Is
    unfolding HoldsRows
    refuses Says never read = (λ _. (read.0.was_open, λ h legal rows. never h rows.1 legal rows.2 rows.3 (read.1 rows.1 rows.2).1), goes_keeps old new read.0)

    pub fails : (e : TableFault) → (e ≡ Foreign → GoesOn old new × ((t : Tables) → ¬ Holds old.now t)) × StaysInside old new × (e ≡ Store → (t : Tables) → Holds old.now t → StoreFailed old new) → Finds old new (Err e) Is
    unfolding HoldsRows
    fails e read = (λ foreign. (let none = read.0 foreign in (none.0.was_open, λ h legal rows. none.1 rows.1 rows.2)), stays_keeps old new read.1)

    -- a fault other than Foreign says nothing about histories
    pub short : (e : TableFault) → (e ≡ Foreign → ⊥) → GoesOn old new → Finds old new (Err e) Is
    short e never goes = (λ foreign. absurd (never foreign), goes_keeps old new goes)

  -- what the tables say is what the history says
  pub tells : {A : Type 0} (result : Result A TableFault) (Says : Tables → A → Type 0) (Is : History → A → Type 0)
      → ((h : History) (t : Tables) → Legal h → Holds old.now t → AreRecords h t → (a : A) → Says t a → Is h a) → Tells old new (Holds old.now) result Says → Finds old new result Is
  tells (Ok a) Says Is means read = passes Is (λ t. Says t a) a (λ h t legal has had kept says. means h t legal has had a says) read
  tells (Err e) Says Is means read = fails Is e read

  -- Store comes only if the store failed
  pub store_told : {A : Type 0} (result : Result A TableFault) (Says : Tables → A → Type 0) → Tells old new (Holds old.now) result Says → result ≡ Err Store → (h : History) → Legal h → HoldsRows newest old.now h → StoreFailed old new
  unfolding HoldsRows
  store_told (Ok a) Says read is h legal rows = absurd (let never = is in cc)
  store_told (Err e) Says read is h legal rows = let same : e ≡ Store = cc in read.2 same rows.1 rows.2

  -- ---- from one result to another

  -- a result computed from another
  pub finds_ok : {A B : Type 0} (Is : History → A → Type 0) (Also : History → B → Type 0) (a : A) (b : B) → ((h : History) → Legal h → Is h a → Also h b) → Finds old new (Ok a) Is → Finds old new (Ok b) Also
  finds_ok Is Also a b means found = (found.0, λ h legal had. (let it = found.1 h legal had in (it.0, means h legal it.1)))

  -- a result that satisfies one relation satisfies a weaker one
  pub finds_as : {A : Type 0} (Is Also : History → A → Type 0) (result : Result A TableFault) → ((h : History) (a : A) → Legal h → Is h a → Also h a) → Finds old new result Is → Finds old new result Also
  finds_as Is Also (Ok a) means found = (found.0, λ h legal had. (let it = found.1 h legal had in (it.0, means h a legal it.1)))
  finds_as Is Also (Err e) means found = found

-- ---- one lookup after another

module _ (old mid new : State) (First : History → Type 0) (before : Told old mid First) where
  held_on : (h : History) → Legal h → HoldsRows newest old.now h → HoldsRows newest mid.now h
  held_on h legal rows = subst (λ db. HoldsRows newest db h) (sym (before.1 h legal rows).0.0.now_is) rows

  pub told_then : {B : Type 0} (b : B) (Is : History → B → Type 0) → Finds mid new (Ok b) Is → Told old new (λ h. First h × Is h b)
  told_then b Is after = (
    goes_then old mid new before.0 after.0,
    λ h legal rows. (let a = before.1 h legal rows in let c = after.1 h legal (held_on h legal rows) in (unchanged_then old mid new a.0 c.0, (a.1, c.1))),
  )

  pub fails_then : {B C : Type 0} (e : TableFault) (Is : History → B → Type 0) (Also : History → C → Type 0) → Finds mid new (Err e) Is → Finds old new (Err e) Also
  fails_then e Is Also after = (
    λ foreign. (let none = after.0 foreign in (before.0.was_open, λ h legal rows. none.1 h legal (held_on h legal rows))),
    record { was_open = λ is_open. before.0.was_open; committed = λ is_open. after.1.committed is_open ∙ before.0.committed_is },
  )

-- two lookups as one
pub finds_then : (a b c : State) {A B : Type 0} (P : History → A → Type 0) (Q : History → B → Type 0) (x : A) (result : Result B TableFault)
    → Finds a b (Ok x) P → Finds b c result Q → Finds a c result (λ h y. P h x × Q h y)
finds_then a b c P Q x (Ok y) first second = told_then a b c (λ h. P h x) first y Q second
finds_then a b c P Q x (Err e) first second = fails_then a b c (λ h. P h x) first e Q (λ h y. P h x × Q h y) second
