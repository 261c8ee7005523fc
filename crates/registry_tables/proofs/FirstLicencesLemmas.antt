-- The licences of the founding are the allowed ones that no order added.
use Rattle.std.proofs.Common.{◌≡◌, ◌≢◌, ℕ, ℤ, suc, ◌+◌, ◌<◌, length, get_or, drop, append_assoc, Bool, true, false, cond, not, ◌&&◌, ◌||◌, List, [], ◌∷◌, ◌++◌, Option, Some, None, Result, Ok, Err, IfOk, Vec, Global, codes, filter, map, refl, sym, ap, ap₂, ◌∙◌, nat_cmp, arith}
use Rattle.std.specs.Borrow.{MutBor}
use Rattle.std.specs.List.{AllByRecursion, IsDistinct, list_any}
use Rattle.std.specs.Option.{option_to_list}
use Rattle.std.specs.Str.{bytes_eq}
use Rattle.std.specs.Ordering.{is_le}
use Rattle.std.specs.Cmp.Lexicographic.{slice_cmp}
use Rattle.std.proofs.Math.Bool.{or-false}
use Rattle.std.proofs.Math.Seq.{drop-cons}
use Rattle.std.proofs.lemmas.List.{map-append}
use Rattle.std.proofs.lemmas.List.Elements.{filter-append}
use Rattle.std.proofs.lemmas.List.Folds.{list_any-append}
use Rattle.sqlite_trees.specs.declared.store.Store.{Ghosts}
use Rattle.sqlite.specs.Held.{Held}
use Rattle.registry_schema.specs.declared.fault.TableFault.{TableFault}
use Rattle.registry_schema.specs.declared.fault.TableFault.TheVariants.{Foreign}
use Rattle.registry_rules.specs.Accepted.{accepted_of, accepted_by}
use Rattle.registry_rules.specs.History.{History, all_of, with_answer}
use Rattle.registry_rules.specs.Query.{adds_licence, is_licence}
use Rattle.registry_rules.specs.Run.{Legal}
use Rattle.registry_rules.specs.Texts.{AreSorted}
use Rattle.registry_rules.specs.declared.deed.Act.{Act}
use Rattle.registry_rules.specs.declared.deed.Act.TheVariants.{Enrolled, OrgAmended, Asked, Granted, Declined, Withdrawn, CardAmended, Returned, Reserved, Released, Imported, VendorAdded, LicenceAdded, HandedOver, CardCorrected, OrgCorrected, Revoked}
use Rattle.registry_rules.specs.declared.deed.Deed.{Deed}
use Rattle.registry_rules.proofs.NoRepeatLemmas.{licences_once}
use Rattle.registry_rules.proofs.RunLemmas.{legal_licences}
use Rattle.registry_rows.specs.declared.kept.KeptRow.{KeptRow}
use Rattle.registry_rows.specs.Rows.{has_reply_within}
use Rattle.registry_rows.specs.Steps.{ReadsWithin}
use Rattle.registry_rows.specs.Tables.{Holds, replies}
use Rattle.registry_tables.specs.Finds.{ReadsHistory}
use Rattle.registry_tables.specs.FirstLicences.{is_reply_of, was_added}
use Rattle.registry_tables.specs.Rows.{kept_row_of}
use Rattle.registry_tables.proofs.NumberingLemmas.{numbered_values}
use Rattle.registry_tables.proofs.OpeningLemmas.{same_names}
use Rattle.registry_tables.proofs.ReadLemmas.{rows_pass, rows_short}
use Rattle.registry_tables.proofs.ViewLemmas.{same_bytes}

-- ---- the replies that name a licence

abbrev pub names_licence : KeptRow → Bool
names_licence = has_reply_within (codes "added licence ") (codes "added licence!")

abbrev added : Deed → Option (List ℕ)
added deed = adds_licence deed.act

same_turned : (a b : List ℕ) → bytes_eq a b ≡ bytes_eq b a
same_turned a b = go (bytes_eq a b) (bytes_eq b a) refl refl
  where
    go : (p q : Bool) → bytes_eq a b ≡ p → bytes_eq b a ≡ q → bytes_eq a b ≡ bytes_eq b a
    go true q is also = let same = same_bytes a b is in rw same refl
    go false true is also = let same = same_bytes b a also in rw same refl
    go false false is also = is ∙ sym also

above : (licence : List ℕ) → is_le (slice_cmp nat_cmp (codes "added licence ") (codes "added licence " ++ licence)) ≡ true
above [] = refl
above (byte ∷ licence) = refl

one : (deed : Deed) (licence : List ℕ) → list_any (is_reply_of (codes "added licence " ++ licence)) (filter names_licence (kept_row_of (accepted_by deed) ∷ [])) ≡ list_any (bytes_eq licence) (option_to_list (added deed))
one deed licence = go deed.act refl
  where
    go : (act : Act) → deed.act ≡ act → list_any (is_reply_of (codes "added licence " ++ licence)) (filter names_licence (kept_row_of (accepted_by deed) ∷ [])) ≡ list_any (bytes_eq licence) (option_to_list (adds_licence deed.act))
    go (Enrolled org) is = rw is refl
    go (OrgAmended org) is = rw is refl
    go (Asked id petition) is = rw is refl
    go (Granted id petition name) is = rw is refl
    go (Declined id petition reason) is = rw is refl
    go (Withdrawn id petition) is = rw is refl
    go (CardAmended name card) is = rw is refl
    go (Returned name) is = rw is refl
    go (Reserved name) is = rw is refl
    go (Released name) is = rw is refl
    go (Imported vid org fresh tally) is = rw is refl
    go (VendorAdded vendor name) is = rw is refl
    go (HandedOver org) is = rw is refl
    go (CardCorrected name card) is = rw is refl
    go (OrgCorrected org) is = rw is refl
    go (Revoked name) is = rw is refl
    go (LicenceAdded other) is = rw (is, above other) (ap (λ b. b || false) (same_turned other licence))

any_answer : (licence : List ℕ) (xs : List (List ℕ)) (o : Option (List ℕ)) → list_any (bytes_eq licence) (with_answer xs o) ≡ (list_any (bytes_eq licence) xs || list_any (bytes_eq licence) (option_to_list o))
any_answer licence xs None = sym (or-false (list_any (bytes_eq licence) xs))
any_answer licence xs (Some x) = list_any-append (bytes_eq licence) xs (x ∷ [])

-- the replies in the record tell which licences were added
told : (deeds : List Deed) (licence : List ℕ) → was_added (filter names_licence (map kept_row_of (accepted_of deeds))) licence ≡ list_any (bytes_eq licence) (all_of added deeds)
told [] licence = refl
told (deed ∷ earlier) licence =
    let says = is_reply_of (codes "added licence " ++ licence) in
    ap (λ rows. list_any says (filter names_licence rows)) (map-append kept_row_of (accepted_of earlier) (accepted_by deed ∷ []))
    ∙ ap (list_any says) (filter-append names_licence (map kept_row_of (accepted_of earlier)) (kept_row_of (accepted_by deed) ∷ []))
    ∙ list_any-append says (filter names_licence (map kept_row_of (accepted_of earlier))) (filter names_licence (kept_row_of (accepted_by deed) ∷ []))
    ∙ ap₂ ◌||◌ (told earlier licence) (one deed licence)
    ∙ sym (any_answer licence (all_of added earlier) (added deed))

-- ---- no added licence was there before

none_any : (x : List ℕ) (xs ys : List (List ℕ)) → AllByRecursion (λ y. bytes_eq x y ≡ false) (xs ++ ys) → list_any (bytes_eq x) ys ≡ false
none_any x [] [] none = refl
none_any x [] (y ∷ ys) none = rw none.0 (none_any x [] ys none.1)
none_any x (z ∷ xs) ys none = none_any x xs ys none.1

apart : (x : List ℕ) (xs ys : List (List ℕ)) → IsDistinct bytes_eq (xs ++ ys) → list_any (bytes_eq x) xs ≡ true → list_any (bytes_eq x) ys ≡ false
unfolding IsDistinct
apart x [] ys once here = absurd cc
apart x (y ∷ xs) ys once here = go (bytes_eq x y) refl here (λ there. apart x xs ys once.1 there)
  where
    go : (b : Bool) → bytes_eq x y ≡ b → (b || list_any (bytes_eq x) xs) ≡ true → (list_any (bytes_eq x) xs ≡ true → list_any (bytes_eq x) ys ≡ false) → list_any (bytes_eq x) ys ≡ false
    go true is here rest = let same = same_bytes x y is in rw same (none_any y xs ys once.0)
    go false is here rest = rest here

left_over : (a b : Bool) → (a ≡ true → b ≡ false) → ((a || b) && not b) ≡ a
left_over true b none = let no : b ≡ false = none refl in rw no refl
left_over false true none = refl
left_over false false none = refl

and_false : (b : Bool) → (b && false) ≡ false
and_false true = refl
and_false false = refl

any_filter : (x : List ℕ) (p : List ℕ → Bool) (xs : List (List ℕ)) → list_any (bytes_eq x) (filter p xs) ≡ (list_any (bytes_eq x) xs && p x)
any_filter x p [] = refl
any_filter x p (y ∷ ys) = go (bytes_eq x y) (p y) refl refl (any_filter x p ys)
  where
    go : (b c : Bool) → bytes_eq x y ≡ b → p y ≡ c → list_any (bytes_eq x) (filter p ys) ≡ (list_any (bytes_eq x) ys && p x)
        → list_any (bytes_eq x) (cond c (y ∷ filter p ys) (filter p ys)) ≡ ((b || list_any (bytes_eq x) ys) && p x)
    go true true is passes rest = let same = same_bytes x y is in rw (is, ap p same ∙ passes) refl
    go true false is passes rest = let fails : p x ≡ false = ap p (same_bytes x y is) ∙ passes in rw fails (rest ∙ rw fails (and_false (list_any (bytes_eq x) ys)))
    go false true is passes rest = rw is rest
    go false false is passes rest = rest

-- ---- what is left

pub first_is : (h : History) → Legal h → (rows : List KeptRow) → rows ≡ filter names_licence (map kept_row_of (accepted_of h.deeds)) → (names first : List (List ℕ))
    → ((licence : List ℕ) → list_any (bytes_eq licence) names ≡ is_licence h licence) → AreSorted (filter (λ licence. not (was_added rows licence)) names) first → first ≡ h.founding.licences
first_is h legal rows is names first allowed sorted =
    same_names first h.founding.licences sorted.ascending (legal_licences h.founding h.deeds legal).ascending (λ licence.
    (let new = list_any (bytes_eq licence) (all_of added h.deeds) in
    let old = list_any (bytes_eq licence) h.founding.licences in
    let tells : was_added rows licence ≡ new = ap (λ l. was_added l licence) is ∙ told h.deeds licence in
    sorted.same licence ∙ any_filter licence (λ l. not (was_added rows l)) names
    ∙ ap₂ ◌&&◌ (allowed licence ∙ list_any-append (bytes_eq licence) h.founding.licences (all_of added h.deeds)) (ap not tells)
    ∙ left_over old new (apart licence h.founding.licences (all_of added h.deeds) (licences_once h.founding h.deeds legal))))

pub first_tell : {S : Type 0} {g : Ghosts S} {a b : MutBor (Held S)} (names : List (List ℕ)) {rows : Vec KeptRow Global} (result : Result (List (List ℕ)) TableFault)
    → IfOk result (λ left. AreSorted (filter (λ licence. not (was_added rows.items licence)) names) left) → result ≢ Err Foreign
    → ReadsWithin g a b (Ok rows) Holds (λ t all. all.items ≡ filter names_licence (replies t))
    → ReadsHistory g a b result (λ h first. ((licence : List ℕ) → list_any (bytes_eq licence) names ≡ is_licence h licence) → first ≡ h.founding.licences)
first_tell names {rows} (Ok first) sorted kind = rows_pass (λ h t legal has had kept is allowed.
    first_is h legal rows.items (is ∙ ap (filter names_licence) (ap (map (λ (k : ℤ × KeptRow). k.1)) kept.in_order ∙ numbered_values 1 (map kept_row_of (accepted_of h.deeds)))) names first allowed sorted)
first_tell names (Err e) sorted kind = rows_short (λ foreign. kind (ap Err foreign))

-- ---- one licence after another

plus_one : (i : ℕ) → i + 1 ≡ suc i
plus_one i = omega arith

next_is : (licences : List (List ℕ)) (i : ℕ) (licence : List ℕ) → i < length licences → licence ≡ get_or licences i licence → drop i licences ≡ licence ∷ drop (suc i) licences
next_is licences i licence lt is = drop-cons licences i licence lt ∙ ap (λ x. x ∷ drop (suc i) licences) (sym is)

kept_first : (left : List ℕ → Bool) (licence : List ℕ) (rest : List (List ℕ)) → left licence ≡ true → filter left (licence ∷ rest) ≡ licence ∷ filter left rest
kept_first left licence rest kept = rw kept refl

dropped_first : (left : List ℕ → Bool) (licence : List ℕ) (rest : List (List ℕ)) → left licence ≡ false → filter left (licence ∷ rest) ≡ filter left rest
dropped_first left licence rest dropped = rw dropped refl

pub one_kept : (left : List ℕ → Bool) (licences : List (List ℕ)) (i : ℕ) (licence : List ℕ) (front whole : List (List ℕ)) → i < length licences → licence ≡ get_or licences i licence → left licence ≡ true
    → front ++ filter left (drop i licences) ≡ whole → (front ++ licence ∷ []) ++ filter left (drop (i + 1) licences) ≡ whole
one_kept left licences i licence front whole lt is kept so_far =
    ap (λ j. (front ++ licence ∷ []) ++ filter left (drop j licences)) (plus_one i)
    ∙ append_assoc front (licence ∷ []) (filter left (drop (suc i) licences))
    ∙ ap (λ rest. front ++ rest) (sym (ap (filter left) (next_is licences i licence lt is) ∙ kept_first left licence (drop (suc i) licences) kept)) ∙ so_far

pub one_dropped : (left : List ℕ → Bool) (licences : List (List ℕ)) (i : ℕ) (licence : List ℕ) (front whole : List (List ℕ)) → i < length licences → licence ≡ get_or licences i licence → left licence ≡ false
    → front ++ filter left (drop i licences) ≡ whole → front ++ filter left (drop (i + 1) licences) ≡ whole
one_dropped left licences i licence front whole lt is dropped so_far =
    ap (λ j. front ++ filter left (drop j licences)) (plus_one i)
    ∙ ap (λ rest. front ++ rest) (sym (ap (filter left) (next_is licences i licence lt is) ∙ dropped_first left licence (drop (suc i) licences) dropped)) ∙ so_far
