-- Rows that store values.
use Rattle.std.proofs.Common.{◌≡◌, ◌≢◌, ℕ, ◌+◌, ◌<◌, List, [], ◌∷◌, ◌++◌, map, take, length, get_or, slice_get, Option, Some, None, MatchOption, refl, sym, ap, ap₂, arith, ◌∙◌}
use Rattle.std.specs.List.{AllByRecursion}
use Rattle.std.proofs.lemmas.List.{take_more}
use Rattle.std.proofs.lemmas.Option.{slice_get-map, get_or_from_slice_get, slice_get_read}
use Rattle.std.proofs.lemmas.List.{length-map}
use Rattle.sqlite.specs.declared.types.Value.{Value}
use Rattle.sqlite.specs.declared.types.Value.TheVariants.{Null, Text}
use Rattle.sqlite.specs.Order.{Row, column}
use Rattle.sqlite.specs.Values.{or_null}
use Rattle.sqlite_keyed.proofs.ListLemmas.{all-slice_get}
use Rattle.table_laws.proofs.ReadLemmas.{some_there}
use Rattle.registry_schema.specs.declared.fault.TableFault.{TableFault}
use Rattle.registry_schema.specs.declared.fault.TableFault.TheVariants.{Foreign}
use Rattle.registry_rows.specs.Columns.{HasColumns, AreShown}
use Rattle.registry_rows.specs.Rows.{digest_shown}
use Rattle.registry_rows.specs.declared.digests.DigestRow.{DigestRow}

module _ {X : Type 0} (IsValid : X → Type 0) (show : X → Row) (values : List X) (rows : List Row) (all : AllByRecursion IsValid values) (same : rows ≡ map show values) where
  -- the row at a place stores the value there
  pub value_at : (i : ℕ) (row : Row) → slice_get rows i ≡ Some row → (x : X) × (slice_get values i ≡ Some x) × (row ≡ show x) × IsValid x
  value_at i row there =
      let it = some_there show (slice_get values i) row (sym (slice_get-map show values i) ∙ ap (λ l. slice_get l i) (sym same) ∙ there) in
      (it.0, it.1, it.2, all-slice_get IsValid values i it.0 it.1 all)

  -- so decoding a row gives the value there
  pub one_more : (i : ℕ) (row : Row) (found : X) → i < length rows → row ≡ get_or rows i row → ((x : X) → IsValid x → row ≡ show x → found ≡ x) → take (i + 1) values ≡ take i values ++ found ∷ []
  one_more i row found within is reads =
      let it = value_at i row (slice_get_read rows (length rows) i row refl within is) in
      let here : i < length values = omega (arith, ap length same, length-map values show) in
      take_more values i it.0 here ∙ ap (λ x. take i values ++ x ∷ []) (get_or_from_slice_get values i it.0 it.0 it.1 ∙ sym (reads it.0 it.3 it.2))

  -- and if decoding fails, the fault is out of memory
  pub not_foreign : (i : ℕ) (row : Row) (fault : TableFault) → i < length rows → row ≡ get_or rows i row → ((x : X) → IsValid x → row ≡ show x → fault ≢ Foreign) → fault ≢ Foreign
  not_foreign i row fault within is reads = let it = value_at i row (slice_get_read rows (length rows) i row refl within is) in reads it.0 it.3 it.2

  pub as_many : length values ≡ length rows
  as_many = sym (length-map values show) ∙ ap length (sym same)

-- one more row shows one more value
pub shown_more : {X : Type 0} (show : X → Row) (rows : List Row) (values : List X) (row : Row) (value : X) → AreShown show rows values → HasColumns row 0 (show value) → AreShown show (rows ++ row ∷ []) (values ++ value ∷ [])
shown_more show [] [] row value all one = (one, tt)
shown_more show (r ∷ rs) (x ∷ xs) row value all one = (all.0, shown_more show rs xs row value all.1 one)
shown_more show [] (x ∷ xs) row value all one = absurd all
shown_more show (r ∷ rs) [] row value all one = absurd all

-- a column that may be NULL gives the time that it stores
time_read : (time read : Option (List ℕ)) (value : Value) → value ≡ or_null (λ t. Text t) time → MatchOption read (value ≡ Null) (λ t. value ≡ Text t) → read ≡ time
time_read None None value is told = refl
time_read None (Some t) value is told = absurd (let never = sym is ∙ told in cc)
time_read (Some t) None value is told = absurd (let never = sym is ∙ told in cc)
time_read (Some t) (Some s) value is told = let same : Text t ≡ Text s = sym is ∙ told in cc

-- so do the columns of a digest
pub digest_read : (d : ℕ × DigestRow) (row : Row) (time : Option (List ℕ)) (digest : List ℕ) → row ≡ digest_shown d → MatchOption time (column row 1 ≡ Null) (λ t. column row 1 ≡ Text t) → column row 2 ≡ Text digest
    → ◌≡◌ {A = DigestRow} (record { time = time; digest = digest }) d.1
digest_read d row time digest shows first second =
    let make : Option (List ℕ) → List ℕ → DigestRow = λ t x. record { time = t; digest = x } in
    let texts : Text digest ≡ Text d.1.digest = sym second ∙ ap (λ (r : Row). column r 2) shows in
    let same : digest ≡ d.1.digest = cc in
    ap₂ make (time_read d.1.time time (column row 1) (ap (λ (r : Row). column r 1) shows) first) same
