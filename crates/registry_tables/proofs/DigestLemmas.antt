-- One more digest, and where the record ends.
use Rattle.std.proofs.Common.{◌≡◌, ◌≤◌, ◌<◌, ◌<ℤ◌, int_lt, ℕ, zero, suc, pos, ◌+◌, true, false, Option, List, [], ◌∷◌, ◌++◌, length, map, filter, take, drop, reverse, None, refl, sym, ap, ◌∙◌, arith}
use Rattle.std.specs.List.{AllByRecursion}
use Rattle.std.proofs.lemmas.Bool.Decides.{nat_tests}
use Rattle.std.proofs.lemmas.Int.{ints}
use Rattle.std.proofs.lemmas.List.{reverse-append}
use Rattle.std.proofs.lemmas.List.Elements.{All-tail}
use Rattle.sqlite_keyed.specs.Keyed.{insert_by}
use Rattle.table_laws.proofs.UnnumberedLemmas.{insert_above}
use Rattle.registry_rules.specs.Accepted.{IsValid, AreValid, accepted_of, accepted_by}
use Rattle.registry_rules.specs.History.{History, with_deed}
use Rattle.registry_rules.specs.declared.accepted.Accepted.{Accepted}
use Rattle.registry_rules.specs.declared.deed.Deed.{Deed}
use Rattle.registry_rules.specs.declared.founding.Founding.{Founding}
use Rattle.registry_rules.specs.declared.order.Request.{Request}
use Rattle.registry_wire.specs.Digests.{line_digest, founding_digest, digest_after, digest_of}
use Rattle.registry_wire.specs.Record.{accepted_line}
use Rattle.registry_rows.specs.declared.digests.DigestRow.{DigestRow}
use Rattle.registry_rows.specs.Rows.{digest_key, is_digest_after}
use Rattle.registry_rows.specs.Tables.{Tables}
use Rattle.registry_rules.specs.Run.{Legal}
use Rattle.registry_tables.proofs.OpeningLemmas.{last_is_only}
use Rattle.registry_tables.specs.Calls.{IsKeptAs}
use Rattle.registry_tables.specs.Head.{IsHead, IsHeadOf, last_time}
use Rattle.registry_tables.specs.Rows.{digest_rows_from, digest_rows, IsRecorded}
use Rattle.registry_tables.specs.Written.{digest_after_lines}
use Rattle.registry_tables.specs.declared.head.Head.{Head}

-- ---- lists of accepted requests

pub accepted_count : (deeds : List Deed) → length (accepted_of deeds) ≡ length deeds
accepted_count [] = refl
accepted_count (deed ∷ earlier) = more (accepted_of earlier) (accepted_by deed) ∙ ap suc (accepted_count earlier)
  where
    more : (xs : List Accepted) (x : Accepted) → length (xs ++ x ∷ []) ≡ suc (length xs)
    more [] x = refl
    more (y ∷ ys) x = ap suc (more ys x)

pub after_more : (before : List ℕ) (xs : List Accepted) (x : Accepted) → digest_after_lines before (xs ++ x ∷ []) ≡ line_digest (digest_after_lines before xs) (accepted_line x)
after_more before [] x = refl
after_more before (y ∷ ys) x = after_more (line_digest before (accepted_line y)) ys x

pub after_all_deeds : (founding : Founding) (deeds : List Deed) → digest_after_lines (founding_digest founding) (accepted_of deeds) ≡ digest_after founding deeds
after_all_deeds founding [] = refl
after_all_deeds founding (deed ∷ earlier) =
    after_more (founding_digest founding) (accepted_of earlier) (accepted_by deed) ∙ ap (λ (before : List ℕ). line_digest before (accepted_line (accepted_by deed))) (after_all_deeds founding earlier)

-- ---- one more row

abbrev pub row_of : ℕ → Option (List ℕ) → List ℕ → ℕ × DigestRow
row_of id time digest = (id, record { time = time; digest = digest })

abbrev pub row_after : ℕ → List ℕ → Accepted → ℕ × DigestRow
row_after id before x = row_of id x.request.time (line_digest before (accepted_line x))

pub rows_more : (id : ℕ) (before : List ℕ) (xs : List Accepted) (x : Accepted) →
    digest_rows_from id before (xs ++ x ∷ []) ≡ digest_rows_from id before xs ++ row_after (id + length xs) (digest_after_lines before xs) x ∷ []
rows_more id before [] x = let same : id ≡ id + 0 = omega arith in ap (λ (n : ℕ). row_after n before x ∷ []) same
rows_more id before (y ∷ ys) x =
    let digest = line_digest before (accepted_line y) in
    let next : suc id + length ys ≡ id + suc (length ys) = omega arith in
    ap (λ (l : List (ℕ × DigestRow)). (id, record { time = y.request.time; digest = digest }) ∷ l)
    (rows_more (suc id) digest ys x ∙ ap (λ (n : ℕ). digest_rows_from (suc id) digest ys ++ row_after n (digest_after_lines digest ys) x ∷ []) next)

-- the ID of a new row is above all others
pub ids_below : (id n : ℕ) (before : List ℕ) (xs : List Accepted) (new : ℕ × DigestRow) → new.0 ≡ n → id + length xs ≤ n → AllByRecursion (λ (d : ℕ × DigestRow). digest_key d <ℤ digest_key new) (digest_rows_from id before xs)
ids_below id n before [] new is within = tt
ids_below id n before (x ∷ xs) new is within = (grind (arith, ints, is, within), ids_below (suc id) n (line_digest before (accepted_line x)) xs new is (omega (arith, within)))

pub digest_put : (h : History) (deed : Deed) → insert_by digest_key (digest_rows h) (suc (length h.deeds), record { time = deed.time; digest = digest_of (with_deed h deed) }) ≡ digest_rows (with_deed h deed)
digest_put h deed =
    let first = founding_digest h.founding in
    let accepted = accepted_of h.deeds in
    let new : ℕ × DigestRow = (suc (length h.deeds), record { time = deed.time; digest = digest_of (with_deed h deed) }) in
    let zeroth : ℕ × DigestRow = (0, record { time = None; digest = first }) in
    let many = accepted_count h.deeds in
    let below = ids_below 1 (suc (length h.deeds)) first accepted new refl (omega (arith, many)) in
    let count : 1 + length accepted ≡ suc (length h.deeds) = omega (arith, many) in
    let row : row_after (1 + length accepted) (digest_after_lines first accepted) (accepted_by deed) ≡ new =
    ap (λ (n : ℕ). row_after n (digest_after_lines first accepted) (accepted_by deed)) count ∙ ap (λ (d : List ℕ). row_after (suc (length h.deeds)) d (accepted_by deed)) (after_all_deeds h.founding h.deeds) in
    insert_above digest_key (digest_rows h) new (grind (arith, ints), below)
    ∙ sym (ap (λ (l : List (ℕ × DigestRow)). zeroth ∷ l) (rows_more 1 first accepted (accepted_by deed) ∙ ap (λ (r : ℕ × DigestRow). digest_rows_from 1 first accepted ++ r ∷ []) row))

-- ---- the times

abbrev pub time_kept : ℕ × DigestRow → Option (List ℕ)
time_kept d = d.1.time

abbrev pub time_asked : Accepted → Option (List ℕ)
time_asked accepted = accepted.request.time

is_later : (low n : ℕ) → low < n → int_lt (pos low) (pos n) ≡ true
is_later low n lt = grind (arith, ints, nat_tests)

is_earlier : (low n : ℕ) → n < low + 1 → int_lt (pos low) (pos n) ≡ false
is_earlier low n lt = grind (arith, ints, nat_tests)

times_of : (low id : ℕ) (before : List ℕ) (xs : List Accepted) → low < id → map time_kept (filter (is_digest_after low) (digest_rows_from id before xs)) ≡ map time_asked xs
times_of low id before [] lt = refl
times_of low id before (x ∷ xs) lt = rw (is_later low id lt) (ap (λ (l : List (Option (List ℕ))). x.request.time ∷ l) (times_of low (suc id) (line_digest before (accepted_line x)) xs (omega (arith, lt))))

-- the rows after the first n of them, whose IDs begin at `start`
times_from : (start n low : ℕ) (before : List ℕ) (xs : List Accepted) → low ≡ start + n → map time_kept (filter (is_digest_after low) (digest_rows_from (suc start) before xs)) ≡ map time_asked (drop n xs)
times_from start zero low before xs is = let same : low ≡ start = omega (arith, is) in times_of low (suc start) before xs (omega (arith, same))
times_from start (suc n) low before [] is = refl
times_from start (suc n) low before (x ∷ xs) is = rw (is_earlier low (suc start) (omega (arith, is))) (times_from (suc start) n low (line_digest before (accepted_line x)) xs (omega (arith, is)))

-- the founding's row is after no number
pub times_past : (n : ℕ) (h : History) → map time_kept (filter (is_digest_after n) (digest_rows h)) ≡ map time_asked (drop n (accepted_of h.deeds))
times_past n h = rw (is_earlier n 0 (omega arith)) (times_from 0 n n (founding_digest h.founding) (accepted_of h.deeds) (omega arith))

-- ---- the head

-- the accepted request of a deed is the request with its reply
pub accepted_is : (deed : Deed) (request : Request) (reply : List ℕ) → IsKeptAs deed request reply → accepted_by deed ≡ record { request = request; reply = reply }
accepted_is deed request reply keeps = rw (keeps.caller, keeps.key, keeps.order, keeps.time, keeps.said) refl

pub count_after : (h : History) (deed : Deed) (request : Request) (reply : List ℕ) (head next : Head) → IsKeptAs deed request reply → next.count ≡ head.count + 1
    → next.digest ≡ line_digest head.digest (accepted_line (record { request = request; reply = reply })) → IsHeadOf h head → (next.count ≡ suc (length h.deeds)) × (next.digest ≡ digest_of (with_deed h deed))
count_after h deed request reply head next keeps count digest before = (
  let many = before.count in omega (arith, count, many),
  digest ∙ ap (λ (a : Accepted). line_digest head.digest (accepted_line a)) (sym (accepted_is deed request reply keeps)) ∙ ap (λ (d : List ℕ). line_digest d (accepted_line (accepted_by deed))) before.digest,
)

pub head_after : (h : History) (deed : Deed) (request : Request) (reply : List ℕ) (head next : Head) → IsKeptAs deed request reply → next.count ≡ head.count + 1
    → next.digest ≡ line_digest head.digest (accepted_line (record { request = request; reply = reply })) → next.time ≡ request.time → IsHead h head → IsHead (with_deed h deed) next
head_after h deed request reply head next keeps count digest time was valid =
    let it = count_after h deed request reply head next keeps count digest (was (All-tail IsValid deed h.deeds valid)) in
    record { count = it.0; digest = it.1; time = time ∙ sym keeps.time }

-- ---- the last row

last_of_list : {X : Type 0} (xs : List X) (x : X) → take 1 (reverse (xs ++ x ∷ [])) ≡ x ∷ []
last_of_list xs x = ap (take 1) (reverse-append xs (x ∷ []))

-- the last row is where the record ends
rows_end : (founding : Founding) (deeds : List Deed) → (row : DigestRow) × (row.digest ≡ digest_after founding deeds) × (row.time ≡ last_time deeds)
    × (let h : History = record { founding = founding; deeds = deeds } in take 1 (reverse (digest_rows h)) ≡ (length deeds, row) ∷ [])
rows_end founding [] = (record { time = None; digest = founding_digest founding }, refl, refl, refl)
rows_end founding (deed ∷ earlier) =
    let before : History = record { founding = founding; deeds = earlier } in
    let accepted = accepted_of earlier in
    let first = founding_digest founding in
    let many = accepted_count earlier in
    let new : DigestRow = record { time = deed.time; digest = digest_of (with_deed before deed) } in
    let count : 1 + length accepted ≡ suc (length earlier) = omega (arith, many) in
    let row : row_after (1 + length accepted) (digest_after_lines first accepted) (accepted_by deed) ≡ (suc (length earlier), new) =
    ap (λ (n : ℕ). row_after n (digest_after_lines first accepted) (accepted_by deed)) count ∙ ap (λ (d : List ℕ). row_after (suc (length earlier)) d (accepted_by deed)) (after_all_deeds founding earlier) in
    let zeroth : ℕ × DigestRow = (0, record { time = None; digest = first }) in
    let rows : digest_rows (with_deed before deed) ≡ digest_rows before ++ (suc (length earlier), new) ∷ [] =
    ap (λ (l : List (ℕ × DigestRow)). zeroth ∷ l) (rows_more 1 first accepted (accepted_by deed) ∙ ap (λ (r : ℕ × DigestRow). digest_rows_from 1 first accepted ++ r ∷ []) row) in
    (new, refl, refl, ap (λ (l : List (ℕ × DigestRow)). take 1 (reverse l)) rows ∙ last_of_list (digest_rows before) (suc (length earlier), new))

pub head_read : (h : History) (t : Tables) (rest : List (ℕ × DigestRow)) (count : ℕ) (row : DigestRow) → Legal h → AreValid h.deeds → IsRecorded h t → rest ++ (count, row) ∷ [] ≡ take 1 (reverse t.digests)
    → IsHeadOf h (record { count = count; digest = row.digest; time = row.time })
head_read h t rest count row legal valid recorded is =
    let ends = rows_end h.founding h.deeds in
    let same : (count, row) ≡ (length h.deeds, ends.0) = last_is_only rest (count, row) (length h.deeds, ends.0) (sym ends.3 ∙ sym (is ∙ ap (λ (l : List (ℕ × DigestRow)). take 1 (reverse l)) (recorded.digests legal valid))) in
    record { count = ap (λ (d : ℕ × DigestRow). d.0) same; digest = ap (λ (d : ℕ × DigestRow). d.1.digest) same ∙ ends.1; time = ap (λ (d : ℕ × DigestRow). d.1.time) same ∙ ends.2 }
