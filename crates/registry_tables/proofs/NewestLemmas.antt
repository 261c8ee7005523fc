-- A read of `meta` returns that the schema is the newest.
use Rattle.std.proofs.Common.{◌≡◌, ◌≢◌, Global, Vec, Bool, true, nat_eq, List, [], ◌∷◌, ◌++◌, IsTrue, Result, Ok, Err, OnOk, MatchResult, refl, sym, ap, subst, ◌∙◌, arith}
use Rattle.std.specs.Borrow.{MutBor}
use Rattle.std.specs.List.{list_any}
use Rattle.std.proofs.lemmas.List.Folds.{list_any-append}
use Rattle.std.proofs.lemmas.Bool.Decides.{nat_tests}
use Rattle.sqlite.specs.Store.{Ghosts}
use Rattle.sqlite.specs.State.{State, HasCleanDisk}
use Rattle.sqlite.specs.Held.{Held, state}
use Rattle.table_laws.specs.Inside.{CommitsNothing}
use Rattle.registry_schema.specs.declared.fault.TableFault.{TableFault}
use Rattle.registry_schema.specs.declared.fault.TableFault.TheVariants.{Foreign}
use Rattle.registry_rows.specs.declared.meta.Meta.{Meta}
use Rattle.registry_rules.specs.History.{History}
use Rattle.registry_rows.specs.Steps.{ReadsWithin}
use Rattle.registry_rows.specs.Tables.{Holds}
use Rattle.registry_tables.specs.Finds.{ReadsHistory}
use Rattle.registry_tables.specs.Rows.{newest, meta_of}
use Rattle.registry_tables.specs.Version.{SaysNewest}
use Rattle.registry_tables.proofs.FindLemmas.{Read}
use Rattle.registry_tables.proofs.OpeningLemmas.{only_meta}
use Rattle.registry_tables.proofs.ReadLemmas.{rows_pass, rows_refuse}

abbrev is_newest : Meta → Bool
is_newest meta = nat_eq meta.version newest

pub last_passes : {X : Type 0} (p : X → Bool) (xs : List X) (x : X) → p x ≡ true → list_any p (xs ++ x ∷ []) ≡ true
last_passes p xs x is = grind (arith, list_any-append p xs (x ∷ []), is)

-- the last row read is the row of meta, if its version is the newest
pub meta_told : {S : Type 0} {g : Ghosts S} {a b : MutBor (Held S)} {all : Vec Meta Global} (rest : List Meta) (meta : Meta) → all.items ≡ rest ++ meta ∷ [] → (result : Result Meta TableFault)
    → MatchResult result (λ same. (same ≡ meta) × (meta.version ≡ newest)) (λ fault. (fault ≡ Foreign) × (meta.version ≢ newest))
    → ReadsWithin g a b (Ok all) Holds (λ t all. all.items ≡ t.metas) → ReadsHistory g a b result (λ h m. m ≡ meta_of h)
meta_told rest meta is (Ok m) says rows = rows_pass (λ h t legal has had kept same. says.0 ∙ only_meta h t had rest meta (sym same ∙ is)) rows
meta_told {S} {g} {a} {b} rest meta is (Err e) says rows =
    subst (λ e. ReadsHistory g a b (Err e) (λ (h : History) (m : Meta). m ≡ meta_of h)) (sym says.0) (rows_refuse (λ h t legal has had same. says.1 (ap (λ (m : Meta). m.version) (only_meta h t had rest meta (sym same ∙ is)))) rows)

module _ (old new : State) (all rest : List Meta) (meta : Meta) (is : all ≡ rest ++ meta ∷ []) (read : Read old new (λ t. all ≡ t.metas)) where
  pub meta_newest : (result : Result Meta TableFault) → MatchResult result (λ same. (same ≡ meta) × (meta.version ≡ newest)) (λ fault. (fault ≡ Foreign) × (meta.version ≢ newest))
      → OnOk result (SaysNewest old.now)
  meta_newest (Ok m) says = λ t holds. (let same : all ≡ t.metas = (read.1 t holds).1 in subst (λ metas. list_any is_newest metas ≡ true) (sym is ∙ same) (last_passes is_newest rest meta (grind (arith, nat_tests, says.1))))
  meta_newest (Err e) says = tt

-- the same for a transaction that is rolled back
pub newest_all : {S A : Type 0} (g : Ghosts S) (old begun mid end : Held S) → begun ≡ record old { in_transaction = true } → (result : Result A TableFault)
    → (HasCleanDisk (state g mid) → IsTrue (state g begun).in_transaction → OnOk result (SaysNewest (state g begun).now)) → CommitsNothing (state g mid) (state g end)
    → HasCleanDisk (state g end) → OnOk result (SaysNewest (state g old).now)
newest_all g old begun mid end is result says last clean =
    let early : HasCleanDisk (state g mid) = omega (arith, last.clean) in
    let inside : IsTrue (state g begun).in_transaction = subst (λ b. IsTrue (state g b).in_transaction) (sym is) refl in
    subst (λ b. OnOk result (SaysNewest (state g b).now)) is (says early inside)
