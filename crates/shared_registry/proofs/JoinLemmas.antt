-- A record compared with a log, or put into it.
use Rattle.std.proofs.Common.{◌≡◌, ◌≢◌, ◌≤◌, ◌<◌, ◌∙◌, ◌+◌, ◌-◌, ℕ, zero, suc, List, [], ◌∷◌, ◌++◌, length, map, take, drop, slice_get, Some, false, inr, refl, sym, ap, subst, arith}
use Rattle.std.specs.Prelude.{All, ⊤}
use Rattle.std.proofs.lemmas.List.{append-nil, length-append, length-drop, take-append-drop, take-append-le}
use Rattle.std.proofs.lemmas.List.Elements.{All-cons, All-head, All-nil, All-tail}
use Rattle.std.proofs.Math.ListN.{get_or}
use Rattle.std.proofs.Math.Seq.{take-add, take-suc}
use Rattle.std.proofs.lemmas.Option.{get_or_from_slice_get, slice_get-get_or, slice_get_within}
use Rattle.sqlite.specs.Store.{Ghosts}
use Rattle.sqlite.specs.State.{HasCleanDisk}
use Rattle.registry_rules.specs.Accepted.{AreValid, IsValid, accepted_by, accepted_of}
use Rattle.registry_rules.specs.History.{History}
use Rattle.registry_rules.specs.declared.accepted.Accepted.{Accepted}
use Rattle.registry_rules.specs.declared.deed.Deed.{Deed}
use Rattle.registry_wire.specs.Record.{accepted_line, founding_line}
use Rattle.registry_laws.specs.Machines.{HasValidFields}
use Rattle.registry_laws.specs.Records.{IsAccepted, record_of}
use Rattle.registry_laws.proofs.MachineLemmas.{appended_twice, in_beginning}
use Rattle.registry_store.specs.Promise.{Represents, state_of}
use Rattle.registry_store.specs.Queries.{IsUntouched}
use Rattle.registry_store.specs.declared.registry.Registry.{Registry}
use Rattle.registry_store.proofs.TransactionLemmas.{quiet_then}
use Rattle.shared_log.specs.Calls.{LogLines, AtSomeInstant, Grows, KeepsLines, IsLogPage}
use Rattle.shared_log.specs.declared.answers.AppendAnswer.TheVariants as answers
use Rattle.shared_log.specs.declared.answers.PageAnswer.{PageAnswer}
use Rattle.shared_log.specs.declared.log.Log.{Ghosts as LogGhosts}
use Rattle.shared_registry.specs.declared.cursor.AppendFault.TheVariants as faults
use Rattle.shared_registry.specs.declared.cursor.Cursor.{Cursor}
use Rattle.shared_registry.specs.declared.stop.ShareStop.{ShareStop}
use Rattle.shared_registry.specs.declared.stop.ShareStop.TheVariants as stops
use Rattle.shared_registry.specs.Asks.{AppendsLines, AppendsRecord}
use Rattle.shared_registry.specs.Cursors.{HasLine, HasNoLine}
use Rattle.shared_registry.specs.Follows.{Follows}
use Rattle.shared_registry.specs.Records.{HasPassed, IsApart, IsNextPart, IsStopOfReading, IsOtherPage, IsUnshared, Matches}
use Rattle.shared_registry.proofs.AppendLemmas.{did_not_take, line_taken, no_line_grows}
use Rattle.shared_registry.proofs.FollowLemmas.{earlier_start, grows_none, grows_on}
use Rattle.shared_registry.proofs.LineLemmas.{long_front, take_next}

-- ---- the fields of a history are valid

valid_deed : (deed : Deed) → IsAccepted (accepted_by deed) → IsValid deed
valid_deed deed is = record { caller = is.caller; key = is.key; order = is.order; time = is.time }

all_front : {X : Type 0} (P : X → Type 0) (xs ys : List X) → All P (xs ++ ys) → All P xs
all_front P [] ys all = All-nil P
all_front P (x ∷ xs) ys all = All-cons P x xs (All-head P x (xs ++ ys) all) (all_front P xs ys (All-tail P x (xs ++ ys) all))

all_last : {X : Type 0} (P : X → Type 0) (xs : List X) (y : X) → All P (xs ++ y ∷ []) → P y
all_last P [] y all = All-head P y [] all
all_last P (x ∷ xs) y all = all_last P xs y (All-tail P x (xs ++ y ∷ []) all)

pub valid_deeds : (deeds : List Deed) → All IsAccepted (accepted_of deeds) → AreValid deeds
valid_deeds [] all = All-nil IsValid
valid_deeds (deed ∷ earlier) all =
    All-cons IsValid deed earlier (valid_deed deed (all_last IsAccepted (accepted_of earlier) (accepted_by deed) all)) (valid_deeds earlier (all_front IsAccepted (accepted_of earlier) (accepted_by deed ∷ []) all))

-- ---- parts of a record

mapped_drop : {A B : Type 0} (f : A → B) (n : ℕ) (xs : List A) → drop n (map f xs) ≡ map f (drop n xs)
mapped_drop f zero xs = refl
mapped_drop f (suc n) [] = refl
mapped_drop f (suc n) (x ∷ xs) = mapped_drop f n xs

mapped_both : {A B : Type 0} (f : A → B) (xs ys : List A) → map f (xs ++ ys) ≡ map f xs ++ map f ys
mapped_both f [] ys = refl
mapped_both f (x ∷ xs) ys = ap (λ l. f x ∷ l) (mapped_both f xs ys)

none_mapped : {A B : Type 0} (f : A → B) (k : ℕ) (xs : List A) → map f (take (suc k) xs) ≡ [] → map f (drop (suc k) xs) ≡ []
none_mapped f k [] is = refl
none_mapped f k (x ∷ xs) is = absurd cc

pub next_requests : (h : History) (before k : ℕ) (list : List Accepted) → list ≡ take (suc k) (drop before (accepted_of h.deeds)) → IsNextPart (record_of h) (suc before) (map accepted_line list)
next_requests h before k list is =
    let all = drop before (accepted_of h.deeds) in
    record {
      rest = map accepted_line (drop (suc k) all);
      next = mapped_drop accepted_line before (accepted_of h.deeds) ∙ ap (map accepted_line) (sym (take-append-drop (suc k) all)) ∙ mapped_both accepted_line (take (suc k) all) (drop (suc k) all)
          ∙ ap (λ (l : List Accepted). map accepted_line l ++ map accepted_line (drop (suc k) all)) (sym is);
      none = λ none. none_mapped accepted_line k all (sym (ap (map accepted_line) is) ∙ none);
    }

pub next_founding : (h : History) (part : LogLines) → part ≡ founding_line h.founding ∷ [] → IsNextPart (record_of h) 0 part
next_founding h part is = record {
  rest = map accepted_line (accepted_of h.deeds);
  next = ap (λ (l : LogLines). l ++ map accepted_line (accepted_of h.deeds)) (sym is);
  none = λ none. absurd (let some : founding_line h.founding ∷ [] ≡ [] = sym is ∙ none in cc);
}

-- ---- places in lists

at_sum : (xs ys : LogLines) (k : ℕ) → slice_get (xs ++ ys) (length xs + k) ≡ slice_get ys k
at_sum [] ys k = (let none : 0 + k ≡ k = omega arith in ap (slice_get ys) none)
at_sum (x ∷ xs) ys k = (let more : suc (length xs) + k ≡ suc (length xs + k) = omega arith in ap (slice_get (x ∷ (xs ++ ys))) more ∙ at_sum xs ys k)

at_dropped : (n : ℕ) (xs : LogLines) (k : ℕ) → slice_get xs (n + k) ≡ slice_get (drop n xs) k
at_dropped zero xs k = (let none : 0 + k ≡ k = omega arith in ap (slice_get xs) none)
at_dropped (suc n) [] k = refl
at_dropped (suc n) (x ∷ xs) k = (let more : suc n + k ≡ suc (n + k) = omega arith in ap (slice_get (x ∷ xs)) more ∙ at_dropped n xs k)

some_at : (xs : LogLines) (k : ℕ) → k < length xs → (line : List ℕ) × (slice_get xs k ≡ Some line)
some_at [] k lt = absurd (omega (arith, lt))
some_at (x ∷ xs) zero lt = (x, refl)
some_at (x ∷ xs) (suc k) lt = some_at xs k (omega (arith, lt))

all_of : (n : ℕ) (xs : LogLines) → length xs ≤ n → take n xs ≡ xs
all_of zero [] le = refl
all_of zero (x ∷ xs) le = absurd (omega (arith, le))
all_of (suc n) [] le = refl
all_of (suc n) (x ∷ xs) le = ap (λ l. x ∷ l) (all_of n xs (omega (arith, le)))

none_left : (n : ℕ) (xs : LogLines) → drop n xs ≡ [] → n ≤ length xs → n ≡ length xs
none_left n xs none le = let long : 0 ≡ length xs - n = ap length (sym none) ∙ length-drop n xs in omega (arith, long, le)

dropped_front : (xs ys : LogLines) (n : ℕ) → length xs ≡ n → drop n (xs ++ ys) ≡ ys
dropped_front [] ys zero is = refl
dropped_front [] ys (suc n) is = absurd (omega (arith, is))
dropped_front (x ∷ xs) ys zero is = absurd (omega (arith, is))
dropped_front (x ∷ xs) ys (suc n) is = dropped_front xs ys n (omega (arith, is))

-- ---- lines that are the same in two lists

pub same_so_far : (ours theirs : LogLines) (i : ℕ) (line : List ℕ) → i < length ours → line ≡ get_or ours i line → slice_get theirs i ≡ Some line → take i ours ≡ take i theirs → take (i + 1) ours ≡ take (i + 1) theirs
same_so_far ours theirs i line lt is at same =
    let there : line ≡ get_or theirs i line = sym (get_or_from_slice_get theirs i line line at) in
    take_next ours i line lt is ∙ ap (λ (t : LogLines). t ++ line ∷ []) same ∙ sym (take_next theirs i line (slice_get_within theirs i line at) there)

pub ends_apart : (ours theirs : LogLines) (i : ℕ) (line : List ℕ) → i < length ours → line ≡ get_or ours i line → slice_get theirs i ≢ Some line → slice_get ours i ≢ slice_get theirs i
ends_apart ours theirs i line lt is other same = other (sym same ∙ slice_get-get_or ours i line lt ∙ ap Some (sym is))

-- ---- a cursor before the rest of a record

-- a line of the next part is one of the record
pub part_of_record : (h : History) (n : ℕ) (part rest : LogLines) → drop n (record_of h) ≡ part ++ rest → (m : ℕ) (line : List ℕ) → AppendsLines part n m line → AppendsRecord h m line
part_of_record h n part rest is m line it =
    rw it.1 (at_dropped n (record_of h) it.0 ∙ ap (λ (d : LogLines). slice_get d it.0) is ∙ in_beginning part rest it.0 (slice_get_within part it.0 line it.2) ∙ it.2)

module _ {L : Type 0} (l : LogGhosts L) (lines : L → LogLines) (h : History) where
  -- nothing is passed yet
  pub none_passed : (c : Cursor L) → c.next ≡ 0 → HasPassed lines c h
  none_passed c is = record { within = omega (arith, is); begins = subst (λ (n : ℕ). Grows (take n (record_of h)) (lines c.log)) (sym is) (lines c.log, refl) }

  -- all is passed
  pub all_passed : (c : Cursor L) → HasPassed lines c h → c.next ≡ length (record_of h) → Grows (record_of h) (lines c.log)
  all_passed c passed is = subst (λ (front : LogLines). Grows front (lines c.log)) (all_of c.next (record_of h) (omega (arith, is))) passed.begins

  pub no_part : (c : Cursor L) (part : LogLines) → HasPassed lines c h → IsNextPart (record_of h) c.next part → part ≡ [] → c.next ≡ length (record_of h)
  no_part c part passed is none = none_left c.next (record_of h) (is.next ∙ ap (λ (p : LogLines). p ++ is.rest) none ∙ is.none none) passed.within

  -- the record is as long as the lines that are passed, the next part and the rest
  long_record : (c : Cursor L) (part rest : LogLines) → HasPassed lines c h → drop c.next (record_of h) ≡ part ++ rest → length (record_of h) ≡ c.next + (length part + length rest)
  long_record c part rest passed is =
      let long : length part + length rest ≡ length (record_of h) - c.next = sym (length-append part rest) ∙ ap length (sym is) ∙ length-drop c.next (record_of h) in
      let within = passed.within in
      omega (arith, long, within)

  -- The log at the instant of a read: the lines that are passed, the page and the rest.
  record WasRead (c : Cursor L) (now : L) (page : PageAnswer) : Type 0 where
    there : AtSomeInstant (lines c.log) (lines now) (λ _. ⊤)
    rest : LogLines
    is : there.instant ≡ take c.next (record_of h) ++ (page.lines ++ rest)
    last : page.more ≡ false → rest ≡ []

  was_read : (c : Cursor L) (now : L) (page : PageAnswer) → HasPassed lines c h → AtSomeInstant (lines c.log) (lines now) (IsLogPage c.next page) → WasRead c now page
  was_read c now page passed at =
      let front = take c.next (record_of h) in
      let more = grows_on front (lines c.log) at.instant passed.begins at.before in
      let same : more.0 ≡ page.lines ++ at.held.0 = sym (dropped_front front more.0 c.next (long_front c.next (record_of h) passed.within)) ∙ ap (drop c.next) (sym more.1) ∙ at.held.1 in
      record {
        there = record { instant = at.instant; before = at.before; after = at.after; held = tt };
        rest = at.held.0;
        is = more.1 ∙ ap (λ (m : LogLines). front ++ m) same;
        last = at.held.2;
      }

  -- the first lines of the part are those of the page, and so the log begins with the record up to them
  page_begins : (c : Cursor L) (now : L) (part : LogLines) (page : PageAnswer) (count : ℕ) → HasPassed lines c h → IsNextPart (record_of h) c.next part → AtSomeInstant (lines c.log) (lines now) (IsLogPage c.next page)
      → count ≤ length part → take count part ≡ take count page.lines → Grows (take (c.next + count) (record_of h)) (lines now)
  page_begins c now part page count passed is at within same =
      let read = was_read c now page passed at in
      let front = take c.next (record_of h) in
      let cut : page.lines ≡ take count part ++ drop count page.lines = sym (take-append-drop count page.lines) ∙ ap (λ (t : LogLines). t ++ drop count page.lines) (sym same) in
      let ours : take (c.next + count) (record_of h) ≡ front ++ take count part =
      take-add c.next count (record_of h) ∙ ap (λ (d : LogLines). front ++ take count d) is.next ∙ ap (λ (t : LogLines). front ++ t) (take-append-le count part is.rest within) in
      let there : read.there.instant ≡ (front ++ take count part) ++ (drop count page.lines ++ read.rest) =
      read.is ∙ ap (λ (p : LogLines). front ++ (p ++ read.rest)) cut ∙ ap (λ (p : LogLines). front ++ p) (appended_twice (take count part) (drop count page.lines) read.rest)
      ∙ sym (appended_twice front (take count part) (drop count page.lines ++ read.rest)) in
      grows_on (take (c.next + count) (record_of h)) read.there.instant (lines now) (drop count page.lines ++ read.rest, there ∙ ap (λ (f : LogLines). f ++ (drop count page.lines ++ read.rest)) (sym ours)) read.there.after

  pub page_passed : (c c_new : Cursor L) (part : LogLines) (page : PageAnswer) (count : ℕ) → HasPassed lines c h → IsNextPart (record_of h) c.next part → AtSomeInstant (lines c.log) (lines c_new.log) (IsLogPage c.next page)
      → Matches part page.lines count → c_new.next ≡ c.next + count → HasPassed lines c_new h
  page_passed c c_new part page count passed is at same next =
      let long = long_record c part is.rest passed is.next in
      let few = same.within in
      record {
        within = omega (arith, long, few, next);
        begins = subst (λ (n : ℕ). Grows (take n (record_of h)) (lines c_new.log)) (sym next) (page_begins c c_new.log part page count passed is at few same.same);
      }

  -- ---- why a page is another

  page_apart : (c : Cursor L) (now : L) (part : LogLines) (page : PageAnswer) (count : ℕ) → HasPassed lines c h → IsNextPart (record_of h) c.next part → AtSomeInstant (lines c.log) (lines now) (IsLogPage c.next page)
      → count < length part → count < length page.lines → take count part ≡ take count page.lines → slice_get part count ≢ slice_get page.lines count → IsApart (lines c.log) (lines now) h (c.next + count)
  page_apart c now part page count passed is at ours theirs before other =
      let read = was_read c now page passed at in
      let front = take c.next (record_of h) in
      let line = some_at page.lines count theirs in
      let place : c.next + count ≡ length front + count = ap (λ (n : ℕ). n + count) (sym (long_front c.next (record_of h) passed.within)) in
      record {
        same = page_begins c now part page count passed is at (omega (arith, ours)) before;
        line = line.0;
        there = record {
          instant = read.there.instant;
          before = read.there.before;
          after = read.there.after;
          held = ap (λ (log : LogLines). slice_get log (c.next + count)) read.is ∙ ap (slice_get (front ++ (page.lines ++ read.rest))) place ∙ at_sum front (page.lines ++ read.rest) count
              ∙ in_beginning page.lines read.rest count theirs ∙ line.1;
        };
        other = λ same.
            other (sym (in_beginning part is.rest count ours) ∙ ap (λ (d : LogLines). slice_get d count) (sym is.next) ∙ sym (at_dropped c.next (record_of h) count) ∙ same ∙ sym line.1);
      }

  -- the log ends before the record does
  page_short : (c : Cursor L) (now : L) (part : LogLines) (page : PageAnswer) → HasPassed lines c h → IsNextPart (record_of h) c.next part → part ≢ [] → AtSomeInstant (lines c.log) (lines now) (IsLogPage c.next page)
      → page.lines ≡ [] → page.more ≡ false → AtSomeInstant (lines c.log) (lines now) (λ log. length log < length (record_of h))
  page_short c now [] page passed is some at none last = absurd (some refl)
  page_short c now (line ∷ part) page passed is some at none last =
      let read = was_read c now page passed at in
      let front = take c.next (record_of h) in
      let all : read.there.instant ≡ front = read.is ∙ ap (λ (p : LogLines). front ++ (p ++ read.rest)) none ∙ ap (λ (r : LogLines). front ++ r) (read.last last) ∙ append-nil front in
      let count : length read.there.instant ≡ c.next = ap length all ∙ long_front c.next (record_of h) passed.within in
      let long = long_record c (line ∷ part) is.rest passed is.next in
      record { instant = read.there.instant; before = read.there.before; after = read.there.after; held = omega (arith, count, long) }

  pub page_other : (c : Cursor L) (now : L) (part : LogLines) (page : PageAnswer) → HasPassed lines c h → IsNextPart (record_of h) c.next part → part ≢ [] → AtSomeInstant (lines c.log) (lines now) (IsLogPage c.next page)
      → l.reads c.log now c.next page → (stop : ShareStop) → IsOtherPage part page.lines page.more c.next stop → IsUnshared l lines h c.log now stop
  page_other c now part page passed is some at reads (stops.Registry fault) it = absurd it
  page_other c now part page passed is some at reads (stops.Log fault) it = record { old = c.log; grown = grows_none (lines c.log); failed = inr (c.next, page, reads, it.0, it.1, it.2) }
  page_other c now part page passed is some at reads (stops.OtherRecord n) it = subst (IsApart (lines c.log) (lines now) h) (sym it.1) (page_apart c now part page it.0 passed is at it.2 it.3 it.4 it.5)
  page_other c now part page passed is some at reads stops.Ahead it = page_short c now part page passed is some at it.0 it.1
  page_other c now part page passed is some at reads stops.Empty it = absurd it
  page_other c now part page passed is some at reads stops.Full it = let long = long_record c part is.rest passed is.next in omega (arith, it, long)
  page_other c now part page passed is some at reads stops.NoMemory it = absurd it

  -- why lines of the record were not read, before a call of the log
  pub unread : (c : L) (stop : ShareStop) → IsStopOfReading stop → IsUnshared l lines h c c stop
  unread c (stops.Registry fault) it = it
  unread c stops.NoMemory it = grows_none (lines c)
  unread c (stops.Log fault) it = absurd it
  unread c (stops.OtherRecord n) it = absurd it
  unread c stops.Ahead it = absurd it
  unread c stops.Empty it = absurd it
  unread c stops.Full it = absurd it

  -- ---- lines that are appended

  line_of_record : (start : Cursor L) (these rest : LogLines) (i : ℕ) (line : List ℕ) → drop start.next (record_of h) ≡ these ++ rest → i < length these → line ≡ get_or these i line → slice_get (record_of h) (start.next + i) ≡ Some line
  line_of_record start these rest i line is lt here =
      at_dropped start.next (record_of h) i ∙ ap (λ (d : LogLines). slice_get d i) is ∙ in_beginning these rest i lt ∙ slice_get-get_or these i line lt ∙ ap Some (sym here)

  -- a line of the record that the log took is passed
  pub line_passed : KeepsLines l lines → (start c c_new : Cursor L) (these rest : LogLines) (i : ℕ) (line : List ℕ) → drop start.next (record_of h) ≡ these ++ rest → c.next ≡ start.next + i → i < length these → line ≡ get_or these i line
      → HasPassed lines c h → HasLine l c c_new line → HasPassed lines c_new h
  line_passed kept start c c_new these rest i line is counted lt here passed has =
      let at : slice_get (record_of h) c.next ≡ Some line = ap (slice_get (record_of h)) counted ∙ line_of_record start these rest i line is lt here in
      let within = slice_get_within (record_of h) c.next line at in
      let front = take c.next (record_of h) in
      let next : c_new.next ≡ suc c.next = ap (λ (d : Cursor L). d.next) has.passed in
      let more : take (suc c.next) (record_of h) ≡ front ++ line ∷ [] =
      take-suc (record_of h) c.next line within ∙ ap (λ (x : List ℕ). front ++ x ∷ []) (get_or_from_slice_get (record_of h) c.next line line at) in
      record {
        within = omega (arith, next, within);
        begins = subst (λ (n : ℕ). Grows (take n (record_of h)) (lines c_new.log)) (sym next)
            (subst (λ (f : LogLines). Grows f (lines c_new.log)) (sym more) (line_taken l lines kept c c_new front passed.begins (sym (long_front c.next (record_of h) passed.within)) line has));
      }

  -- another line was under the number
  pub taken_apart : KeepsLines l lines → (start c c_new : Cursor L) (these rest : LogLines) (i : ℕ) (line : List ℕ) → drop start.next (record_of h) ≡ these ++ rest → c.next ≡ start.next + i → i < length these → line ≡ get_or these i line
      → HasPassed lines c h → Grows (lines start.log) (lines c.log) → HasNoLine l c c_new line faults.Taken → IsApart (lines start.log) (lines c_new.log) h c_new.next
  taken_apart kept start c c_new these rest i line is counted lt here passed grown it =
      let means = kept.appends c.log c_new.log c.next line (answers.Taken it.0.0) it.0.2 in
      let same : c_new.next ≡ c.next = ap (λ (d : Cursor L). d.next) it.1 in
      let at : slice_get (record_of h) c_new.next ≡ Some line = ap (slice_get (record_of h)) (same ∙ counted) ∙ line_of_record start these rest i line is lt here in
      let there = earlier_start (lines start.log) (lines c.log) (lines c_new.log) _ grown means in
      record {
        same = subst (λ (n : ℕ). Grows (take n (record_of h)) (lines c_new.log)) (sym same) (grows_on (take c.next (record_of h)) (lines c.log) (lines c_new.log) passed.begins (no_line_grows l lines kept c c_new line faults.Taken (did_not_take l c c_new line faults.Taken it)));
        line = it.0.0;
        there = record { instant = there.instant; before = there.before; after = there.after; held = ap (slice_get there.instant) same ∙ there.held };
        other = λ mine. it.0.1 (let both : Some line ≡ Some it.0.0 = sym at ∙ mine in let equal : line ≡ it.0.0 = cc in sym equal);
      }

  -- ---- calls one after another

  pub unshared_since : (start c now : L) → Grows (lines start) (lines c) → (stop : ShareStop) → IsUnshared l lines h c now stop → IsUnshared l lines h start now stop
  unshared_since start c now grown (stops.Registry fault) it = it
  unshared_since start c now grown (stops.Log fault) it = record { old = it.old; grown = grows_on (lines start) (lines c) (lines it.old) grown it.grown; failed = it.failed }
  unshared_since start c now grown (stops.OtherRecord n) it = record { same = it.same; line = it.line; there = earlier_start (lines start) (lines c) (lines now) _ grown it.there; other = it.other }
  unshared_since start c now grown stops.Ahead it = earlier_start (lines start) (lines c) (lines now) _ grown it
  unshared_since start c now grown stops.Empty it = it
  unshared_since start c now grown stops.Full it = it
  unshared_since start c now grown stops.NoMemory it = grows_on (lines start) (lines c) (lines now) grown it

module _ {S : Type 0} {g : Ghosts S} where
  -- the whole record is passed, so the registry follows the log
  pub joined : {L : Type 0} (l : LogGhosts L) (lines : L → LogLines) (it : Registry S g) (c : Cursor L) (h : History) → Represents it h → HasValidFields h → HasPassed lines c h → c.next ≡ length (record_of h) → Follows l lines it c h
  joined l lines it c h stands valid passed all =
      record { represents = stands; of_machine = record { legal = stands.legal_with.legal; valid = valid; begins = all_passed l lines h c passed all }; next = all }

  pub untouched_then : (it mid new : Registry S g) → IsUntouched it mid → IsUntouched mid new → IsUntouched it new
  untouched_then it mid new a b = record {
    stays = λ h stands. b.stays h (a.stays h stands);
    poisons_nothing = b.poisons_nothing ∙ a.poisons_nothing;
    survives = quiet_then (state_of it) (state_of mid) (state_of new) a.survives b.survives;
  }

  pub clean_before : (mid new : Registry S g) → IsUntouched mid new → HasCleanDisk (state_of new) → HasCleanDisk (state_of mid)
  clean_before mid new b clean = let more = b.survives.clean in omega (arith, more, clean)
