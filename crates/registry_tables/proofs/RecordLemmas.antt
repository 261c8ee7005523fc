-- The record of accepted requests.
use Rattle.std.proofs.Common.{◌≡◌, ◌≢◌, ℕ, ℤ, ◌+◌, ◌<◌, arith, List, [], ◌∷◌, ◌++◌, Option, Some, None, Result, Ok, Err, IfOk, Vec, Global, map, filter, take, drop, length, get_or, slice_get, refl, sym, ap, ◌∙◌}
use Rattle.std.specs.Borrow.{MutBor}
use Rattle.std.specs.List.{AllByRecursion}
use Rattle.std.specs.Option.{option_map}
use Rattle.std.proofs.lemmas.List.{take-map, drop-map, take_more, length-map}
use Rattle.std.proofs.lemmas.Option.{slice_get-map, get_or_from_slice_get, slice_get_read}
use Rattle.sqlite_keyed.proofs.ListLemmas.{all-slice_get}
use Rattle.registry_rules.proofs.FormLemmas.{same_some}
use Rattle.std.proofs.lemmas.List.Elements.{recursion_from_All}
use Rattle.sqlite_trees.proofs.ListLemmas.{all-append}
use Rattle.sqlite_trees.specs.declared.store.Store.{Ghosts}
use Rattle.sqlite.specs.Held.{Held, state}
use Rattle.registry_schema.specs.declared.fault.TableFault.{TableFault}
use Rattle.registry_schema.specs.declared.fault.TableFault.TheVariants.{Foreign}
use Rattle.registry_rules.specs.History.{History}
use Rattle.registry_rules.specs.Accepted.{IsValid, AreValid, accepted_of, accepted_by}
use Rattle.registry_rules.specs.declared.accepted.Accepted.{Accepted}
use Rattle.registry_rules.specs.declared.deed.Deed.{Deed}
use Rattle.registry_rows.specs.declared.digests.DigestRow.{DigestRow}
use Rattle.registry_rows.specs.declared.kept.KeptRow.{KeptRow}
use Rattle.registry_rows.specs.Steps.{ReadsWithin}
use Rattle.registry_rows.specs.Rows.{is_after, is_digest_after}
use Rattle.registry_rows.specs.Tables.{Holds, replies_after}
use Rattle.registry_rows.proofs.StepLemmas.{valid_part}
use Rattle.registry_tables.specs.Finds.{ReadsHistory}
use Rattle.registry_tables.specs.Rows.{kept_row_of, timed, HasValidOrder}
use Rattle.registry_tables.proofs.DigestLemmas.{time_kept, time_asked, times_past}
use Rattle.registry_tables.proofs.FindLemmas.{short}
use Rattle.registry_tables.proofs.NumberingLemmas.{replies_past}
use Rattle.registry_tables.proofs.ReadLemmas.{rows_pass, recorded_pass, rows_fail, opened, then_open, fails_open, makes}

pub orders_valid : (deeds : List Deed) → AllByRecursion IsValid deeds → AllByRecursion HasValidOrder (accepted_of deeds)
orders_valid [] valid = tt
orders_valid (deed ∷ earlier) valid = all-append HasValidOrder (accepted_of earlier) (accepted_by deed ∷ []) (orders_valid earlier valid.1) (valid.0.order, tt)

-- a part of the rows is that of the record
pub rows_part : (most after : ℕ) (accepted : List Accepted) → take most (drop after (map kept_row_of accepted)) ≡ map kept_row_of (take most (drop after accepted))
rows_part most after accepted = ap (take most) (drop-map kept_row_of after accepted) ∙ take-map kept_row_of most (drop after accepted)

-- the rows of a page, and their digests
abbrev ArePage : ℕ → ℕ → History → Vec KeptRow Global → Type 0
ArePage most after h rows = rows.items ≡ take most (drop after (map kept_row_of (accepted_of h.deeds)))

abbrev AreTimed : ℕ → ℕ → History → Vec (ℕ × DigestRow) Global → Type 0
AreTimed most after h digests = AreValid h.deeds → map time_kept digests.items ≡ map time_asked (take most (drop after (accepted_of h.deeds)))

page_read : {S : Type 0} {g : Ghosts S} {a b : MutBor (Held S)} (most after : ℕ) {rows : Vec KeptRow Global}
    → ReadsWithin g a b (Ok rows) Holds (λ t all. all.items ≡ take most (replies_after after t)) → ReadsHistory g a b (Ok rows) (ArePage most after)
page_read most after = rows_pass (λ h t legal has had kept is.
    is ∙ ap (λ (rows : List (ℤ × KeptRow)). take most (map (λ (k : ℤ × KeptRow). k.1) (filter (is_after after) rows))) kept.in_order
    ∙ ap (take most) (replies_past after (map kept_row_of (accepted_of h.deeds))))

times_read : {S : Type 0} {g : Ghosts S} {a b : MutBor (Held S)} (most after : ℕ) {digests : Vec (ℕ × DigestRow) Global}
    → ReadsWithin g a b (Ok digests) Holds (λ t all. all.items ≡ take most (filter (is_digest_after after) t.digests)) → ReadsHistory g a b (Ok digests) (AreTimed most after)
times_read most after = recorded_pass (λ h t legal recorded is valid.
    ap (map time_kept) is ∙ sym (take-map time_kept most (filter (is_digest_after after) t.digests))
    ∙ ap (λ (rows : List (ℕ × DigestRow)). take most (map time_kept (filter (is_digest_after after) rows))) (recorded.digests legal valid)
    ∙ ap (take most) (times_past after h) ∙ take-map time_asked most (drop after (accepted_of h.deeds)))

-- a fault other than Foreign says nothing about histories
fails_short : {S : Type 0} {g : Ghosts S} {a b : MutBor (Held S)} {A B : Type 0} {P : History → A → Type 0} {Is : History → B → Type 0} {x : A} {e : TableFault} → e ≢ Foreign
    → ReadsHistory g a b (Ok x) P → ReadsHistory g a b (Err e) Is
fails_short {S} {g} {a} {b} {A} {B} {P} {Is} {x} {e} other one =
    record { same_reference = one.same_reference; found = λ clean inside. short (state g a.now) (state g b.now) Is e other (one.found clean inside).0; survives = one.survives }

module _ {S : Type 0} {g : Ghosts S} {a b c : MutBor (Held S)} (most after : ℕ) {rows : Vec KeptRow Global} where
  -- the list that is made of the rows and their digests
  pub accepted_tell : {digests : Vec (ℕ × DigestRow) Global} (result : Result (Vec Accepted Global) TableFault)
      → ((values : List Accepted) → AllByRecursion HasValidOrder values → rows.items ≡ map kept_row_of values → map time_kept digests.items ≡ map time_asked values → IfOk result (λ all. all.items ≡ values)) → result ≢ Err Foreign
      → ReadsWithin g a b (Ok rows) Holds (λ t all. all.items ≡ take most (replies_after after t)) → ReadsWithin g b c (Ok digests) Holds (λ t all. all.items ≡ take most (filter (is_digest_after after) t.digests))
      → ReadsHistory g a c result (λ h list. AreValid h.deeds → list.items ≡ take most (drop after (accepted_of h.deeds)))
  accepted_tell (Ok list) reads kind page times =
      makes (λ h legal it valid.
      reads (take most (drop after (accepted_of h.deeds))) (valid_part HasValidOrder most after (accepted_of h.deeds) (orders_valid h.deeds (recursion_from_All IsValid h.deeds valid)))
      (it.0 ∙ rows_part most after (accepted_of h.deeds)) (it.1 valid))
      (then_open (page_read most after page) (opened (times_read most after times)))
  accepted_tell (Err e) reads kind page times = fails_short (λ foreign. kind (ap Err foreign)) (then_open (page_read most after page) (opened (times_read most after times)))

  -- the digests cannot be read
  pub times_fail : {e : TableFault} {r : Result (Vec Accepted Global) TableFault} → r ≡ Err e → ReadsWithin g a b (Ok rows) Holds (λ t all. all.items ≡ take most (replies_after after t))
      → ReadsWithin g b c {A = Vec (ℕ × DigestRow) Global} (Err e) Holds (λ t all. all.items ≡ take most (filter (is_digest_after after) t.digests))
      → ReadsHistory g a c r (λ h list. AreValid h.deeds → list.items ≡ take most (drop after (accepted_of h.deeds)))
  times_fail is page times = fails_open is (page_read most after page) (opened (rows_fail {Is = AreTimed most after} refl times))

-- ---- the rows one by one

pub there : {X Y : Type 0} (show : X → Y) (o : Option X) (y : Y) → option_map show o ≡ Some y → (x : X) × (o ≡ Some x) × (y ≡ show x)
there show None y h = absurd cc
there show (Some x) y h = (x, refl, cc)

-- the time in a row of the digests
pub time_there : (digests : List (ℕ × DigestRow)) (at : ℕ) (d : ℕ × DigestRow) (times : List (Option (List ℕ))) → slice_get digests at ≡ Some d → map time_kept digests ≡ times → slice_get times at ≡ Some d.1.time
time_there digests at d times here is = ap (λ l. slice_get l at) (sym is) ∙ slice_get-map time_kept digests at ∙ ap (option_map time_kept) here

module _ (values : List Accepted) (rows : List KeptRow) (all : AllByRecursion HasValidOrder values) (same : rows ≡ map kept_row_of values) where
  accepted_at : (i : ℕ) (row : KeptRow) → i < length rows → row ≡ get_or rows i row → (x : Accepted) × (slice_get values i ≡ Some x) × (row ≡ kept_row_of x) × HasValidOrder x
  accepted_at i row within is =
      let it = there kept_row_of (slice_get values i) row (sym (slice_get-map kept_row_of values i) ∙ ap (λ l. slice_get l i) (sym same) ∙ slice_get_read rows (length rows) i row refl within is) in
      (it.0, it.1, it.2, all-slice_get HasValidOrder values i it.0 it.1 all)

  -- reading a row and its time gives the accepted request there
  pub one_more : (i : ℕ) (row : KeptRow) (found : Accepted) (time : Option (List ℕ)) → i < length rows → row ≡ get_or rows i row → slice_get (map time_asked values) i ≡ Some time
      → ((x : Accepted) → HasValidOrder x → row ≡ kept_row_of x → Some found ≡ Some (timed x None)) → take (i + 1) values ≡ take i values ++ timed found time ∷ []
  one_more i row found time within is at_time reads =
      let it = accepted_at i row within is in
      let here : i < length values = omega (arith, ap length same, length-map values kept_row_of) in
      let same_time : time ≡ it.0.request.time = same_some time it.0.request.time (sym at_time ∙ slice_get-map time_asked values i ∙ ap (option_map time_asked) it.1) in
      let untimed : found ≡ timed it.0 None = same_some found (timed it.0 None) (reads it.0 it.3 it.2) in
      let read : timed found time ≡ it.0 = ap (λ x. timed x time) untimed ∙ ap (timed it.0) same_time in
      take_more values i it.0 here ∙ ap (λ x. take i values ++ x ∷ []) (get_or_from_slice_get values i it.0 it.0 it.1 ∙ sym read)
