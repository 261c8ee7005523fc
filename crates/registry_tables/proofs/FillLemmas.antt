-- The digests that a migration writes are those of the history.
use Rattle.std.proofs.Common.{◌≡◌, ◌≤◌, ◌<◌, ◌+◌, ℕ, ℤ, zero, suc, inr, List, [], ◌∷◌, ◌++◌, length, map, filter, take, drop, slice_get, Option, None, Some, Result, Ok, Err, OnOk, IsTrue, refl, sym, ap, subst, ◌∙◌, arith}
use Rattle.std.specs.Prelude.{All}
use Rattle.std.specs.List.{AllByRecursion}
use Rattle.std.proofs.lemmas.Int.{ints}
use Rattle.std.proofs.lemmas.List.{length-map, take_all}
use Rattle.std.proofs.lemmas.List.Elements.{All-nil, All-cons, recursion_from_All}
use Rattle.std.proofs.lemmas.Option.{none-some, slice_get-map, slice_get_within}
use Rattle.sqlite_keyed.specs.Keyed.{insert_by}
use Rattle.sqlite_keyed.proofs.ListLemmas.{all-slice_get}
use Rattle.sqlite_trees.proofs.ListLemmas.{all-append}
use Rattle.sqlite.specs.State.{State, IsUnchanged}
use Rattle.table_laws.specs.Inside.{GoesOn}
use Rattle.table_laws.proofs.InsideLemmas.{goes_then}
use Rattle.table_laws.proofs.UnnumberedLemmas.{insert_above}
use Rattle.registry_schema.specs.declared.fault.TableFault.{TableFault}
use Rattle.registry_schema.specs.declared.fault.TableFault.TheVariants.{Foreign}
use Rattle.registry_rules.proofs.FormLemmas.{same_some}
use Rattle.registry_rules.specs.Accepted.{IsValid, AreValid, accepted_of, accepted_by}
use Rattle.registry_rules.specs.History.{History}
use Rattle.registry_rules.specs.Query.{opened_at, closed_at}
use Rattle.registry_rules.specs.declared.accepted.Accepted.{Accepted}
use Rattle.registry_rules.specs.declared.deed.Deed.{Deed}
use Rattle.registry_rules.specs.declared.founding.Founding.{Founding}
use Rattle.registry_wire.specs.Digests.{line_digest, founding_digest}
use Rattle.registry_wire.specs.Record.{accepted_line}
use Rattle.registry_rows.specs.declared.digests.DigestRow.{DigestRow}
use Rattle.registry_rows.specs.declared.kept.KeptRow.{KeptRow}
use Rattle.registry_rows.specs.Rows.{digest_key, is_after}
use Rattle.registry_rows.specs.Steps.{Changes}
use Rattle.registry_rows.specs.Tables.{Tables, Holds, replies_after}
use Rattle.registry_old_rows.specs.Old.{IsOlder}
use Rattle.registry_tables.specs.Rows.{newest, digest_rows_from, digest_rows, AreRecords, AreReasons, AreTimes, AreKeptReplies, IsRecorded, kept_row_of, HasValidOrder}
use Rattle.registry_tables.specs.Raising.{Raises, raised_to}
use Rattle.registry_tables.specs.Versions.{HoldsOf}
use Rattle.registry_tables.specs.Written.{IsWritten, AreOf, HasNoTime, IsFilledTo, FillsLines, FillsTo, FillsRest, FillsAll, digest_after_lines}
use Rattle.registry_tables.specs.declared.head.Head.{Head}
use Rattle.registry_tables.specs.declared.written.Written.{Written}
use Rattle.registry_tables.proofs.DigestLemmas.{accepted_count, after_more, row_of, row_after, rows_more, ids_below}
use Rattle.registry_tables.proofs.NumberingLemmas.{replies_past}
use Rattle.registry_tables.proofs.RecordLemmas.{orders_valid, there}

-- the values before the digests are written
abbrev pub undigested : Tables → Tables
undigested t = record t { digests = []; reasons = []; opened = []; closed = [] }

-- ---- no request of an older store has a time

abbrev Untimed : List (ℕ × DigestRow) → Type 0
Untimed = AllByRecursion (λ (d : ℕ × DigestRow). d.1.time ≡ None)

last_untimed : (id : ℕ) (before : List ℕ) (xs : List Accepted) (x : Accepted) → Untimed (digest_rows_from id before (xs ++ x ∷ [])) → Untimed (digest_rows_from id before xs) × (x.request.time ≡ None)
last_untimed id before [] x all = (tt, all.0)
last_untimed id before (y ∷ ys) x all = let rest = last_untimed (suc id) (line_digest before (accepted_line y)) ys x all.1 in ((all.0, rest.0), rest.1)

no_times : (before : List ℕ) (deeds : List Deed) → Untimed (digest_rows_from 1 before (accepted_of deeds)) → All (λ (deed : Deed). deed.time ≡ None) deeds
no_times before [] all = All-nil (λ (deed : Deed). deed.time ≡ None)
no_times before (deed ∷ earlier) all =
    let it = last_untimed 1 before (accepted_of earlier) (accepted_by deed) all in
    All-cons (λ (deed : Deed). deed.time ≡ None) deed earlier it.1 (no_times before earlier it.0)

pub has_no_time : (h : History) (t : Tables) → IsOlder t → t.digests ≡ digest_rows h → HasNoTime h
has_no_time h t older same = no_times (founding_digest h.founding) h.deeds (subst Untimed same older.times).1

-- ---- the history in the newest schema

pub filled_now : (old new : State) (vendor : ℕ) (name : List ℕ) (h : History) (t : Tables) → vendor ≡ h.founding.vendor → name ≡ h.founding.name → IsOlder t → AreRecords h t → IsRecorded h t
    → Holds old.now (undigested t) → FillsAll vendor name old new → HoldsOf newest new.now h
unfolding HoldsOf
filled_now old new vendor name h t vid named older had recorded holds fills =
    let it = fills.1 (undigested t) holds in
    let none = subst (λ (rs : List (ℕ × List ℕ)). AreReasons h rs) older.reasons had.reasons in
    let records : (digests : List (ℕ × DigestRow)) → AreRecords h (record t { digests = digests; reasons = []; opened = []; closed = [] }) = λ digests. record {
      founding = had.founding;
      metas = had.metas;
      curators = had.curators;
      licences = had.licences;
      fixed = had.fixed;
      orgs = had.orgs;
      vendors = had.vendors;
      spans = had.spans;
      entries = had.entries;
      petitions = had.petitions;
      reasons = none;
    } in (
      record t { digests = it.0; reasons = []; opened = []; closed = [] },
      inr (inr (inr (inr (refl, it.1)))),
      records it.0,
      record {
        kept = recorded.kept;
        digests = λ legal valid. it.2 refl h (record { legal = legal; records = records []; kept = recorded.kept }) vid named valid (has_no_time h t older (recorded.digests legal valid));
        times = λ legal valid. (let was = recorded.times legal valid in record { opened_then = subst (AreTimes (opened_at h)) older.opened was.opened_then; closed_then = subst (AreTimes (closed_at h)) older.closed was.closed_then });
      },
    )

-- ---- lists

-- the last of the first elements
split_last : {X : Type 0} (before : List X) (x : X) (l : List X) → before ++ x ∷ [] ≡ take (length (before ++ x ∷ [])) l → (before ≡ take (length before) l) × (slice_get l (length before) ≡ Some x)
split_last [] x [] same = absurd cc
split_last [] x (y ∷ ys) same = (refl, let first : x ≡ y = cc in ap Some (sym first))
split_last (b ∷ bs) x [] same = absurd cc
split_last (b ∷ bs) x (y ∷ ys) same =
    let first : b ≡ y = cc in
    let rest : bs ++ x ∷ [] ≡ take (length (bs ++ x ∷ [])) ys = cc in
    let it = split_last bs x ys rest in
    (rw first (ap (λ l. y ∷ l) it.0), it.1)

get_past : {X : Type 0} (n i : ℕ) (l : List X) → slice_get (drop n l) i ≡ slice_get l (n + i)
get_past zero i l = let on : i ≡ zero + i = omega arith in ap (slice_get l) on
get_past (suc n) i [] = refl
get_past (suc n) i (x ∷ xs) = let on : suc (n + i) ≡ suc n + i = omega arith in get_past n i xs ∙ ap (slice_get (x ∷ xs)) on

take_next : {X : Type 0} (n : ℕ) (l : List X) (x : X) → slice_get l n ≡ Some x → take (suc n) l ≡ take n l ++ x ∷ []
take_next n [] x at = absurd (none-some x at)
take_next zero (y ∷ ys) x at = let same : y ≡ x = same_some y x at in ap (λ z. z ∷ []) same
take_next (suc n) (y ∷ ys) x at = ap (λ l. y ∷ l) (take_next n ys x at)

length_first : {X : Type 0} (n : ℕ) (l : List X) (x : X) → slice_get l n ≡ Some x → length (take n l) ≡ n
length_first n [] x at = absurd (none-some x at)
length_first zero (y ∷ ys) x at = refl
length_first (suc n) (y ∷ ys) x at = ap suc (length_first n ys x at)

pub take_own : {X : Type 0} (n : ℕ) (l : List X) → take n l ≡ take (length (take n l)) l
take_own zero l = refl
take_own (suc n) [] = refl
take_own (suc n) (x ∷ xs) = ap (λ l. x ∷ l) (take_own n xs)

pub none_left : {X : Type 0} (most n : ℕ) (l : List X) → 0 < most → [] ≡ take most (drop n l) → length l ≤ n
none_left zero n l some none = absurd (omega (arith, some))
none_left (suc most) n [] some none = omega arith
none_left (suc most) zero (x ∷ xs) some none = absurd cc
none_left (suc most) (suc n) (x ∷ xs) some none = omega (arith, none_left (suc most) n xs some none)

-- a list of no values
pub none_there : {X : Type 0} (l : List X) → length l ≡ 0 → [] ≡ l
none_there [] none = refl
none_there (x ∷ xs) none = absurd (omega (arith, none))

-- ---- the rows of one more line

take_rows : (n id : ℕ) (before : List ℕ) (xs : List Accepted) → take n (digest_rows_from id before xs) ≡ digest_rows_from id before (take n xs)
take_rows zero id before xs = refl
take_rows (suc n) id before [] = refl
take_rows (suc n) id before (x ∷ xs) = ap (λ (l : List (ℕ × DigestRow)). (id, record { time = x.request.time; digest = line_digest before (accepted_line x) }) ∷ l) (take_rows n (suc id) (line_digest before (accepted_line x)) xs)

count_rows : (id : ℕ) (before : List ℕ) (xs : List Accepted) → length (digest_rows_from id before xs) ≡ length xs
count_rows id before [] = refl
count_rows id before (x ∷ xs) = ap suc (count_rows (suc id) (line_digest before (accepted_line x)) xs)

-- inserting the next row gives one more of the first rows
module _ (h : History) (n : ℕ) (x : Accepted) (at : slice_get (accepted_of h.deeds) n ≡ Some x) where
  abbrev new_row : ℕ × DigestRow
  new_row = row_after (suc n) (digest_after_lines (founding_digest h.founding) (take n (accepted_of h.deeds))) x

  row_put : insert_by digest_key (take (suc n) (digest_rows h)) new_row ≡ take (suc (suc n)) (digest_rows h)
  row_put =
      let xs = accepted_of h.deeds in
      let first = founding_digest h.founding in
      let zeroth : ℕ × DigestRow = (0, record { time = None; digest = first }) in
      let long : length (take n xs) ≡ n = length_first n xs x at in
      let below = ids_below 1 (suc n) first (take n xs) new_row refl (omega (arith, long)) in
      let count : 1 + length (take n xs) ≡ suc n = omega (arith, long) in
      let row : row_after (1 + length (take n xs)) (digest_after_lines first (take n xs)) x ≡ new_row = ap (λ (k : ℕ). row_after k (digest_after_lines first (take n xs)) x) count in
      ap (λ (l : List (ℕ × DigestRow)). insert_by digest_key (zeroth ∷ l) new_row) (take_rows n 1 first xs)
      ∙ insert_above digest_key (zeroth ∷ digest_rows_from 1 first (take n xs)) new_row (grind (arith, ints), below)
      ∙ sym (ap (λ (l : List (ℕ × DigestRow)). zeroth ∷ l) (take_rows (suc n) 1 first xs ∙ ap (digest_rows_from 1 first) (take_next n xs x at) ∙ rows_more 1 first (take n xs) x ∙ ap (λ (r : ℕ × DigestRow). digest_rows_from 1 first (take n xs) ++ r ∷ []) row))

  line_next : digest_after_lines (founding_digest h.founding) (take (suc n) (accepted_of h.deeds)) ≡ line_digest (digest_after_lines (founding_digest h.founding) (take n (accepted_of h.deeds))) (accepted_line x)
  line_next = ap (digest_after_lines (founding_digest h.founding)) (take_next n (accepted_of h.deeds) x at) ∙ after_more (founding_digest h.founding) (take n (accepted_of h.deeds)) x

-- ---- no request has a time

untimed_of : (deeds : List Deed) → AllByRecursion (λ (deed : Deed). deed.time ≡ None) deeds → AllByRecursion (λ (x : Accepted). x.request.time ≡ None) (accepted_of deeds)
untimed_of [] all = tt
untimed_of (deed ∷ earlier) all = all-append (λ (x : Accepted). x.request.time ≡ None) (accepted_of earlier) (accepted_by deed ∷ []) (untimed_of earlier all.1) (all.0, tt)

untimed_at : (h : History) (n : ℕ) (x : Accepted) → HasNoTime h → slice_get (accepted_of h.deeds) n ≡ Some x → x.request.time ≡ None
untimed_at h n x none at = all-slice_get (λ (x : Accepted). x.request.time ≡ None) (accepted_of h.deeds) n x at (untimed_of h.deeds (recursion_from_All (λ (deed : Deed). deed.time ≡ None) h.deeds none))

valid_at : (h : History) (n : ℕ) (x : Accepted) → AreValid h.deeds → slice_get (accepted_of h.deeds) n ≡ Some x → HasValidOrder x
valid_at h n x valid at = all-slice_get HasValidOrder (accepted_of h.deeds) n x at (orders_valid h.deeds (recursion_from_All IsValid h.deeds valid))

-- ---- one more line is written

-- what the next head is, if the row is that of an accepted request without a time
abbrev pub IsAfterRow : Head → KeptRow → Head → Type 0
IsAfterRow reached row next = (x : Accepted) → HasValidOrder x → row ≡ kept_row_of x → x.request.time ≡ None → (next.count ≡ reached.count + 1) × (next.digest ≡ line_digest reached.digest (accepted_line x))

line_filled : (h : History) (reached next : Head) (row : KeptRow) (digests : List (ℕ × DigestRow)) → AreValid h.deeds → HasNoTime h → IsFilledTo h reached digests → slice_get (map kept_row_of (accepted_of h.deeds)) reached.count ≡ Some row → IsAfterRow reached row next
    → IsFilledTo h next (insert_by digest_key digests (next.count, record { time = None; digest = next.digest })) × (next.count ≡ reached.count + 1)
line_filled h reached next row digests valid untimed filled at means =
    let xs = accepted_of h.deeds in
    let n = reached.count in
    let first = founding_digest h.founding in
    let found = there kept_row_of (slice_get xs n) row (sym (slice_get-map kept_row_of xs n) ∙ at) in
    let x = found.0 in
    let here : slice_get xs n ≡ Some x = found.1 in
    let no_time = untimed_at h n x untimed here in
    let is = means x (valid_at h n x valid here) found.2 no_time in
    let count : next.count ≡ suc n = omega (arith, is.0) in
    let before : reached.digest ≡ digest_after_lines first (take n xs) = filled.digest in
    let digest : next.digest ≡ line_digest (digest_after_lines first (take n xs)) (accepted_line x) = is.1 ∙ ap (λ (d : List ℕ). line_digest d (accepted_line x)) before in
    let new : row_of next.count None next.digest ≡ new_row h n x here =
    ap (λ (k : ℕ). row_of k None next.digest) count ∙ ap (row_of (suc n) None) digest
    ∙ ap (λ (time : Option (List ℕ)). row_of (suc n) time (line_digest (digest_after_lines first (take n xs)) (accepted_line x))) (sym no_time) in (
      record {
        within = let lt = slice_get_within xs n x here in omega (arith, lt, count, accepted_count h.deeds);
        rows = ap (λ (r : ℕ × DigestRow). insert_by digest_key digests r) new ∙ ap (λ (l : List (ℕ × DigestRow)). insert_by digest_key l (new_row h n x here)) filled.rows ∙ row_put h n x here
            ∙ ap (λ (k : ℕ). take (suc k) (digest_rows h)) (sym count);
        digest = digest ∙ sym (line_next h n x here) ∙ ap (λ (k : ℕ). digest_after_lines first (take k xs)) (sym count);
      },
      is.0,
    )

pub lines_begin : (a : State) (head : Head) → GoesOn a a → FillsLines [] head head a a
lines_begin a head goes = (goes, λ t had. (t.digests, had, λ h valid untimed filled rows. (filled, omega arith)))

pub lines_more : (a b c : State) (head reached next : Head) (before : List KeptRow) (row : KeptRow) → FillsLines before head reached a b → IsAfterRow reached row next
    → Changes (λ t. record t { digests = insert_by digest_key t.digests (next.count, record { time = None; digest = next.digest }) }) b c → FillsLines (before ++ row ∷ []) head next a c
lines_more a b c head reached next before row first means later = (
  goes_then a b c first.0 later.0,
  λ t had.
      (let it = first.1 t had in (
        insert_by digest_key it.0 (next.count, record { time = None; digest = next.digest }),
        later.1 (record t { digests = it.0 }) it.1,
        λ h valid untimed filled rows.
            (let l = map kept_row_of (accepted_of h.deeds) in
            let split = split_last before row (drop head.count l) rows in
            let was = it.2 h valid untimed filled split.0 in
            let at : slice_get l reached.count ≡ Some row = ap (slice_get l) was.1 ∙ sym (get_past head.count (length before) l) ∙ split.1 in
            let now = line_filled h reached next row it.0 valid untimed was.0 at means in
            (now.0, omega (arith, now.1, was.1, length_more before row))),
      )),
)
  where
    length_more : {X : Type 0} (xs : List X) (x : X) → length (xs ++ x ∷ []) ≡ length xs + 1
    length_more [] x = refl
    length_more (y ∷ ys) x = omega (arith, length_more ys x)

-- ---- page after page

pub pages_begin : (a : State) (head : Head) → GoesOn a a → FillsTo head head a a
pages_begin a head goes = (goes, λ t had. (t.digests, had, λ h kept valid untimed filled. filled))

module _ (a b c : State) (head reached : Head) (most : ℕ) (rows : List KeptRow) (so_far : FillsTo head reached a b)
    (read : GoesOn b c × ((t : Tables) → Holds b.now t → IsUnchanged b c × (rows ≡ take most (replies_after reached.count t)))) where
  -- the rows of a page are those that come next
  rows_next : (h : History) (t : Tables) (digests : List (ℕ × DigestRow)) → Holds b.now (record t { digests = digests }) → AreKeptReplies h t.kept → rows ≡ take most (drop reached.count (map kept_row_of (accepted_of h.deeds)))
  rows_next h t digests held kept =
      (read.1 _ held).1 ∙ ap (λ (rows : List (ℤ × KeptRow)). take most (map (λ (k : ℤ × KeptRow). k.1) (filter (is_after reached.count) rows))) kept.in_order
      ∙ ap (take most) (replies_past reached.count (map kept_row_of (accepted_of h.deeds)))

  pub pages_more : (d : State) (next : Head) → FillsLines rows reached next c d → FillsTo head next a d
  pages_more d next page = (
    goes_then a c d (goes_then a b c so_far.0 read.0) page.0,
    λ t had.
        (let it = so_far.1 t had in
        let held = subst (λ db. Holds db (record t { digests = it.0 })) (sym (read.1 _ it.1).0.0.now_is) it.1 in
        let more = page.1 (record t { digests = it.0 }) held in (
          more.0,
          more.1,
          λ h kept valid untimed filled.
              (let are = rows_next h t it.0 it.1 kept in
              let l = drop reached.count (map kept_row_of (accepted_of h.deeds)) in
              let own : rows ≡ take (length rows) l = are ∙ take_own most l ∙ ap (λ (rs : List KeptRow). take (length rs) l) (sym are) in
              (more.2 h valid untimed (it.2 h kept valid untimed filled) own).0),
        )),
  )

  -- an empty page is the end
  pub pages_end : 0 < most → [] ≡ rows → FillsRest head a c
  pages_end some none = (
    goes_then a b c so_far.0 read.0,
    λ t had.
        (let it = so_far.1 t had in (
          it.0,
          subst (λ db. Holds db (record t { digests = it.0 })) (sym (read.1 _ it.1).0.0.now_is) it.1,
          λ h kept valid untimed filled.
              (let xs = accepted_of h.deeds in
              let now = it.2 h kept valid untimed filled in
              let past : length (map kept_row_of xs) ≤ reached.count = none_left most reached.count (map kept_row_of xs) some (none ∙ rows_next h t it.0 it.1 kept) in
              let all : length (digest_rows h) ≤ suc reached.count = omega (arith, past, length-map xs kept_row_of, count_rows 1 (founding_digest h.founding) xs) in
              now.rows ∙ take_all (suc reached.count) (digest_rows h) all),
        )),
  )

-- a row without a value refutes the tables of the beginning
pub pages_refused : (a b c : State) (head reached : Head) (e : TableFault) → FillsTo head reached a b → (e ≡ Foreign → GoesOn b c × ((t : Tables) → ¬ Holds b.now t)) → e ≡ Foreign → (t : Tables) → ¬ Holds a.now t
pages_refused a b c head reached e so_far read foreign t had = let it = so_far.1 t had in (read foreign).1 _ it.1

-- ---- the whole record

-- the founding's line is written
pub founding_filled : (h : History) (head : Head) → head.count ≡ 0 → head.digest ≡ founding_digest h.founding → IsFilledTo h head (insert_by digest_key [] (0, record { time = None; digest = head.digest }))
founding_filled h head none digest = record {
  within = omega (arith, none);
  rows = ap (λ (d : List ℕ). row_of 0 None d ∷ []) digest ∙ ap (λ (k : ℕ). take (suc k) (digest_rows h)) (sym none);
  digest = digest ∙ ap (λ (k : ℕ). digest_after_lines (founding_digest h.founding) (take k (accepted_of h.deeds))) (sym none);
}

pub all_filled : (a b c d : State) (vendor : ℕ) (name : List ℕ) (written : Written) (founding : Founding) (head : Head)
    → GoesOn a b × ((t : Tables) → Holds a.now t → IsUnchanged a b × IsWritten t written)
    → ((h : History) (t : Tables) → AreOf h t → IsWritten t written → vendor ≡ h.founding.vendor → name ≡ h.founding.name → founding ≡ h.founding)
    → head.count ≡ 0 → head.digest ≡ founding_digest founding
    → Changes (λ t. record t { digests = insert_by digest_key t.digests (0, record { time = None; digest = head.digest }) }) b c
    → FillsRest head c d → FillsAll vendor name a d
all_filled a b c d vendor name written founding head read means none digest one rest = (
  goes_then a c d (goes_then a b c read.0 one.0) rest.0,
  λ t had.
      (let told = read.1 t had in
      let held = subst (λ db. Holds db t) (sym told.0.0.now_is) had in
      let put = one.1 t held in
      let it = rest.1 _ put in (
        it.0,
        it.1,
        λ empty h of vid named valid untimed.
            (let same = means h t of told.1 vid named in
            let begun = founding_filled h head none (digest ∙ ap founding_digest same) in
            it.2 h of.kept valid untimed (subst (λ (ds : List (ℕ × DigestRow)). IsFilledTo h head (insert_by digest_key ds (0, record { time = None; digest = head.digest }))) (sym empty) begun)),
      )),
)

-- a fault that is Foreign refutes the tables of the beginning
pub rest_refused : (a b c : State) (Says : Tables → Type 0) (head : Head) → GoesOn a b × ((t : Tables) → Holds a.now t → IsUnchanged a b × Says t)
    → Changes (λ t. record t { digests = insert_by digest_key t.digests (0, record { time = None; digest = head.digest }) }) b c → ((t : Tables) → ¬ Holds c.now t) → (t : Tables) → ¬ Holds a.now t
rest_refused a b c Says head read one never t had = never _ (one.1 t (subst (λ db. Holds db t) (sym (read.1 t had).0.0.now_is) had))

-- ---- a step that ends in writing the digests

-- what is true is said of any result
pub said : {P : Type 0} (result : Result (Unit {0}) TableFault) → P → OnOk result P
said (Ok done) holds = holds
said (Err e) holds = tt

-- the calls before the digests go on, and leave a history of this version only if they leave tables of the newest schema
pub raised_by : {Filled : Type 0} (version : ℕ) (a before new : State) (result : Result (Unit {0}) TableFault) → GoesOn a before → OnOk result Filled → (Filled → GoesOn before new)
    → (Filled → (h : History) → HoldsOf version a.now h → HoldsOf (raised_to version) new.now h) → (result ≡ Err Foreign → IsTrue before.is_open × ((t : Tables) → ¬ Holds before.now t))
    → ((h : History) → HoldsOf version a.now h → (t : Tables) × Holds before.now t) → Raises version a new result
raised_by version a before new (Ok done) goes ok goes_on means refused had = (goes_then a before new goes (goes_on ok), means ok)
raised_by version a before new (Err e) goes ok goes_on means refused had = λ foreign. (goes.was_open, λ h rows. (let it = had h rows in (refused (ap Err foreign)).1 it.0 it.1))
