-- The times at which petitions were opened and closed.
use Rattle.std.proofs.Common.{◌≡◌, ◌+◌, ◌<◌, ℕ, Bool, true, false, cond, nat_eq, ℤ, List, [], ◌∷◌, ◌++◌, length, take, drop, filter, map, Option, Some, None, Ok, Err, Result, IfOk, Vec, Global, length-append, refl, sym, ap, subst, ◌∙◌, arith}
use Rattle.std.specs.Option.{option_map, option_or}
use Rattle.std.specs.List.{AllByRecursion}
use Rattle.std.proofs.lemmas.List.{take-map, take_all}
use Rattle.std.proofs.lemmas.List.Sums.{fold-append}
use Rattle.std.proofs.lemmas.List.Elements.{recursion_from_All}
use Rattle.sqlite.specs.State.{State, IsUnchanged}
use Rattle.sqlite.proofs.Callers.{unchanged_then}
use Rattle.registry_schema.specs.declared.fault.TableFault.{TableFault}
use Rattle.table_laws.specs.Inside.{GoesOn}
use Rattle.table_laws.proofs.InsideLemmas.{goes_then}
use Rattle.registry_rules.specs.Number.{number}
use Rattle.registry_rules.specs.Accepted.{IsValid, accepted_of, accepted_by}
use Rattle.registry_rules.specs.History.{History, with_deed, with_answer}
use Rattle.registry_rules.specs.Import.{classes_from}
use Rattle.registry_rules.specs.Query.{asks, opened_by, closed_by, time_for, opened_at, closed_at, org_of, enrolled, asked, petition_of, open_count, vendors, has_vendor, vendor_meant, licences, is_licence}
use Rattle.registry_rules.specs.Run.{Legal, request_of}
use Rattle.registry_rules.specs.Verdict.{outcome, standing_of, standing_at, org_owning, org_petitioning, least_for, number_chosen, meets_fixed, all_reserved, least_owned, new_org, new_petition, new_card}
use Rattle.registry_rules.specs.declared.accepted.Accepted.{Accepted}
use Rattle.registry_rules.specs.declared.deed.Act.{Act}
use Rattle.registry_rules.specs.declared.deed.Deed.{Deed}
use Rattle.registry_rules.specs.declared.founding.Founding.{Founding}
use Rattle.registry_rules.specs.declared.order.Order.{Order}
use Rattle.registry_rules.specs.declared.order.Order.TheVariants as orders
use Rattle.registry_rules.proofs.CheckLemmas.{enrol_ok, amend_org_ok, ask_ok, grant_ok, decline_ok, withdraw_ok, amend_ok, return_ok, reserve_ok, release_ok, import_ok, add_vendor_ok, add_licence_ok, hand_over_ok, correct_ok, correct_org_ok, revoke_ok}
use Rattle.registry_rules.proofs.RunLemmas.{IsNew, is_new, legal_before, legal_verdict}
use Rattle.registry_rows.specs.declared.digests.DigestRow.{DigestRow}
use Rattle.registry_rows.specs.declared.kept.KeptRow.{KeptRow}
use Rattle.registry_rows.specs.Rows.{is_after, is_digest_after}
use Rattle.registry_rows.specs.Tables.{Tables, Holds, replies_after}
use Rattle.registry_tables.specs.Rows.{AreTimes, AreTimesOf, kept_row_of, HasValidOrder}
use Rattle.registry_tables.specs.Times.{times_with, PutsTimes, opened_next, asked_then, closed_named, Reached, reached_after, reached_by, reached_at, with_times, PutsPage, IsRecordOf, IsPageOf, PutsRecord}
use Rattle.registry_tables.specs.declared.times.Place.{Place}
use Rattle.registry_tables.proofs.DigestLemmas.{time_kept, time_asked, times_past}
use Rattle.registry_tables.proofs.FillLemmas.{take_own, none_left}
use Rattle.registry_tables.proofs.NumberingLemmas.{replies_past}
use Rattle.registry_tables.proofs.RecordLemmas.{orders_valid, rows_part}
use Rattle.registry_tables.proofs.ViewLemmas.{reason_put}
use Rattle.registry_rows.proofs.StepLemmas.{valid_part}

-- ---- one more time

unless : (b : Bool) (old : Option (List ℕ)) → old ≡ option_or (cond b None None) old
unless true old = refl
unless false old = refl

instead : (b : Bool) (time : List ℕ) (old : Option (List ℕ)) → cond b (Some time) old ≡ option_or (cond b (Some time) None) old
instead true time old = refl
instead false time old = refl

-- the times with one more are those of one more deed
pub times_put : (by : Option ℕ) (time : Option (List ℕ)) (times : List (ℕ × List ℕ)) (at : ℕ → Option (List ℕ)) → AreTimes at times → AreTimes (λ i. option_or (time_for i time by) (at i)) (times_with by time times)
times_put None time times at was = was
times_put (Some id) None times at was = λ i. (let here : List ℕ → ℕ × List ℕ = λ x. (i, x) in was i ∙ ap (option_map here) (unless (nat_eq id i) (at i)))
times_put (Some id) (Some time) times at was = λ i. (let here : List ℕ → ℕ × List ℕ = λ x. (i, x) in reason_put id time times i (at i) (was i) ∙ ap (option_map here) (instead (nat_eq id i) time (at i)))

-- so they are after a request that was just accepted
pub times_kept : (h : History) (deed : Deed) (act : Act) (time : Option (List ℕ)) (opened closed : List (ℕ × List ℕ)) → deed.act ≡ act → deed.time ≡ time → AreTimesOf h opened closed
    → AreTimesOf (with_deed h deed) (times_with (opened_by act) time opened) (times_with (closed_by act) time closed)
times_kept h deed act time opened closed same_act same_time was =
    subst (λ (a : Act). AreTimesOf (with_deed h deed) (times_with (opened_by a) time opened) (times_with (closed_by a) time closed)) same_act
    (subst (λ (m : Option (List ℕ)). AreTimesOf (with_deed h deed) (times_with (opened_by deed.act) m opened) (times_with (closed_by deed.act) m closed)) same_time
    (record { opened_then = times_put (opened_by deed.act) deed.time opened (opened_at h) was.opened_then; closed_then = times_put (closed_by deed.act) deed.time closed (closed_at h) was.closed_then }))

-- ---- what an accepted order does to petitions is what its act does

record Does (h : History) (order : Order) (act : Act) : Type 0 where
  opened : opened_by act ≡ opened_next order (length (asked h))
  count : length (with_answer (asked h) (asks act)) ≡ asked_then order (length (asked h))
  closed : closed_by act ≡ closed_named order

does : (h : History) (caller : List ℕ) (order : Order) (act : Act) → outcome h caller order ≡ Ok act → Does h order act
unfolding outcome
does h caller (orders.Enrol it) act e =
    let is = enrol_ok (org_of h it.org) (length (enrolled h)) (new_org caller it.org it.title it.site) act e in
    subst (Does h (orders.Enrol it)) (sym is.does) (record { opened = refl; count = refl; closed = refl })
does h caller (orders.AmendOrg it) act e =
    let is = amend_org_ok (org_of h it.org) caller it.title it.site act e in
    subst (Does h (orders.AmendOrg it)) (sym is.does) (record { opened = refl; count = refl; closed = refl })
does h caller (orders.Ask it) act e =
    let vid = vendor_meant h it.vendor in
    let is = ask_ok (org_of h it.org) (has_vendor h vid) (is_licence h it.terms.licence) (open_count h it.org) (length (asked h)) (option_map (standing_at h vid) it.want) caller (new_petition vid it.org it.want it.title it.terms) act e in
    subst (Does h (orders.Ask it)) (sym is.does) (record { opened = refl; count = length-append (asked h) (new_petition (vendor_meant h it.vendor) it.org it.want it.title it.terms ∷ []); closed = refl })
does h caller (orders.Grant it) act e =
    let chosen = number_chosen it.number (petition_of h it.petition) (least_for h (petition_of h it.petition)) in
    let is = grant_ok h.founding.curators h.founding.vendor (petition_of h it.petition) (option_map (standing_of h) chosen) caller it.petition act e in
    subst (Does h (orders.Grant it)) (sym is.does) (record { opened = refl; count = refl; closed = refl })
does h caller (orders.Decline it) act e =
    let is = decline_ok h.founding.curators (petition_of h it.petition) caller it.petition it.reason act e in
    subst (Does h (orders.Decline it)) (sym is.does) (record { opened = refl; count = refl; closed = refl })
does h caller (orders.Withdraw it) act e =
    let is = withdraw_ok (petition_of h it.petition) (org_petitioning h it.petition) caller it.petition act e in
    subst (Does h (orders.Withdraw it)) (sym is.does) (record { opened = refl; count = refl; closed = refl })
does h caller (orders.Amend it) act e =
    let n = number (vendor_meant h it.vendor) it.number in
    let is = amend_ok h.founding.vendor (standing_of h n) (org_owning h n) (is_licence h it.terms.licence) caller (new_card it.title it.terms) act e in
    subst (Does h (orders.Amend it)) (sym is.does) (record { opened = refl; count = refl; closed = refl })
does h caller (orders.Return it) act e =
    let n = number (vendor_meant h it.vendor) it.number in
    let is = return_ok h.founding.vendor (standing_of h n) (org_owning h n) caller act e in
    subst (Does h (orders.Return it)) (sym is.does) (record { opened = refl; count = refl; closed = refl })
does h caller (orders.Reserve it) act e =
    let vid = vendor_meant h it.vendor in
    let is = reserve_ok h.founding.curators h.founding.vendor (has_vendor h vid) (meets_fixed h vid it.span) (least_owned h vid it.span) caller vid it.span act e in
    subst (Does h (orders.Reserve it)) (sym is.does) (record { opened = refl; count = refl; closed = refl })
does h caller (orders.Release it) act e =
    let vid = vendor_meant h it.vendor in
    let is = release_ok h.founding.curators h.founding.vendor (has_vendor h vid) (meets_fixed h vid it.span) (all_reserved h vid it.span) caller vid it.span act e in
    subst (Does h (orders.Release it)) (sym is.does) (record { opened = refl; count = refl; closed = refl })
does h caller (orders.Import it) act e =
    let vid = vendor_meant h it.vendor in
    let is = import_ok h.founding.curators (org_of h it.org) (has_vendor h vid) (classes_from (standing_at h vid) [] it.items) caller vid it.org it.items act e in
    subst (Does h (orders.Import it)) (sym is.does) (record { opened = refl; count = refl; closed = refl })
does h caller (orders.AddVendor it) act e =
    let is = add_vendor_ok h.founding.curators (has_vendor h it.vendor) (length (vendors h)) caller it.vendor it.name act e in
    subst (Does h (orders.AddVendor it)) (sym is.does) (record { opened = refl; count = refl; closed = refl })
does h caller (orders.AddLicence it) act e =
    let is = add_licence_ok h.founding.curators (is_licence h it.licence) (length (licences h)) caller it.licence act e in
    subst (Does h (orders.AddLicence it)) (sym is.does) (record { opened = refl; count = refl; closed = refl })
does h caller (orders.HandOver it) act e =
    let is = hand_over_ok h.founding.curators (org_of h it.org) caller it.keeper act e in
    subst (Does h (orders.HandOver it)) (sym is.does) (record { opened = refl; count = refl; closed = refl })
does h caller (orders.Correct it) act e =
    let n = number (vendor_meant h it.vendor) it.number in
    let is = correct_ok h.founding.curators h.founding.vendor (standing_of h n) (is_licence h it.terms.licence) caller (new_card it.title it.terms) act e in
    subst (Does h (orders.Correct it)) (sym is.does) (record { opened = refl; count = refl; closed = refl })
does h caller (orders.CorrectOrg it) act e =
    let is = correct_org_ok h.founding.curators (org_of h it.org) caller it.title it.site act e in
    subst (Does h (orders.CorrectOrg it)) (sym is.does) (record { opened = refl; count = refl; closed = refl })
does h caller (orders.Revoke it) act e =
    let n = number (vendor_meant h it.vendor) it.number in
    let is = revoke_ok h.founding.curators h.founding.vendor (standing_of h n) caller act e in
    subst (Does h (orders.Revoke it)) (sym is.does) (record { opened = refl; count = refl; closed = refl })

deed_does : (founding : Founding) (deed : Deed) (earlier : List Deed) → Legal (record { founding = founding; deeds = deed ∷ earlier }) → Does (record { founding = founding; deeds = earlier }) deed.order deed.act
deed_does founding deed earlier legal =
    let before : History = record { founding = founding; deeds = earlier } in
    let new : IsNew before (request_of deed) deed = is_new before (request_of deed) deed (legal_verdict founding deed earlier legal) in
    subst (λ (d : Deed). Does before deed.order d.act) (sym new.does) (does before deed.caller deed.order new.act new.accepted)

-- ---- the times of the whole record are those of the history

record Reaches (h : History) (r : Reached) : Type 0 where
  petitions : r.petitions ≡ length (asked h)
  times : AreTimesOf h r.opened r.closed

abbrev nothing : Reached
nothing = record { petitions = 0; opened = []; closed = [] }

reaches : (founding : Founding) (deeds : List Deed) → Legal (record { founding = founding; deeds = deeds }) → Reaches (record { founding = founding; deeds = deeds }) (reached_by nothing (accepted_of deeds))
reaches founding [] legal = record { petitions = refl; times = record { opened_then = λ i. refl; closed_then = λ i. refl } }
reaches founding (deed ∷ earlier) legal =
    let before : History = record { founding = founding; deeds = earlier } in
    let after : History = record { founding = founding; deeds = deed ∷ earlier } in
    let was = reaches founding earlier (legal_before founding deed earlier legal) in
    let now = deed_does founding deed earlier legal in
    let r : Reached = reached_by nothing (accepted_of earlier) in
    let next : opened_next deed.order r.petitions ≡ opened_by deed.act = ap (opened_next deed.order) was.petitions ∙ sym now.opened in
    subst (Reaches after) (sym (fold-append reached_after nothing (accepted_of earlier) (accepted_by deed ∷ [])))
    (record {
      petitions = ap (asked_then deed.order) was.petitions ∙ sym now.count;
      times = record {
        opened_then = subst (λ (by : Option ℕ). AreTimes (opened_at after) (times_with by deed.time r.opened)) (sym next) (times_put (opened_by deed.act) deed.time r.opened (opened_at before) was.times.opened_then);
        closed_then = subst (λ (by : Option ℕ). AreTimes (closed_at after) (times_with by deed.time r.closed)) now.closed (times_put (closed_by deed.act) deed.time r.closed (closed_at before) was.times.closed_then);
      };
    })

pub record_times : (h : History) (r : Reached) → Legal h → r ≡ reached_by nothing (accepted_of h.deeds) → AreTimesOf h r.opened r.closed
record_times h r legal is = subst (λ (x : Reached). AreTimesOf h x.opened x.closed) (sym is) (reaches h.founding h.deeds legal).times

-- ---- the times of a page

pub puts_none : (place : Place) (a : State) → GoesOn a a → PutsPage place [] place a a
puts_none place a goes = record { requests = omega arith; goes_on = goes; petitions = λ t had. refl; rows = λ t had. had }

pub puts_one : (a b : State) (place next : Place) (accepted : Accepted) (opened : Option ℕ) → next.requests ≡ place.requests + 1 → next.petitions ≡ asked_then accepted.request.order place.petitions
    → opened ≡ opened_next accepted.request.order place.petitions → PutsTimes opened (closed_named accepted.request.order) accepted.request.time a b → PutsPage place (accepted ∷ []) next a b
puts_one a b place next accepted opened requests petitions is puts = record {
  requests = omega (arith, requests);
  goes_on = puts.0;
  petitions = λ t had. petitions;
  rows = λ t had.
      subst (λ (by : Option ℕ). Holds b.now (record t { opened = times_with by accepted.request.time t.opened; closed = times_with (closed_named accepted.request.order) accepted.request.time t.closed })) is (puts.1 t had);
}

pub puts_then : (a b c : State) (p q r : Place) (xs ys : List Accepted) → PutsPage p xs q a b → PutsPage q ys r b c → PutsPage p (xs ++ ys) r a c
puts_then a b c p q r xs ys one two =
    let first : Tables → Reached = λ t. reached_by (reached_at p.petitions t) xs in
    let whole : (t : Tables) → Holds a.now t → reached_by (reached_at q.petitions (with_times (reached_by (reached_at p.petitions t) xs) t)) ys ≡ reached_by (reached_at p.petitions t) (xs ++ ys) = λ t had.
    (let begins : Reached → ℕ → Reached = λ s n. record { petitions = n; opened = s.opened; closed = s.closed } in
    ap (λ (s : Reached). reached_by s ys) (ap (begins (reached_by (reached_at p.petitions t) xs)) (one.petitions t had)) ∙ sym (fold-append reached_after (reached_at p.petitions t) xs ys)) in
    record {
      requests = omega (arith, one.requests, two.requests, length-append xs ys);
      goes_on = goes_then a b c one.goes_on two.goes_on;
      petitions = λ t had. two.petitions (with_times (first t) t) (one.rows t had) ∙ ap (λ (s : Reached). s.petitions) (whole t had);
      rows = λ t had. subst (λ (s : Reached). Holds c.now (with_times s t)) (whole t had) (two.rows (with_times (first t) t) (one.rows t had));
    }

-- what was read before does not matter
puts_after : (b c d : State) (place next : Place) (page : List Accepted) → GoesOn b c → ((t : Tables) → Holds b.now t → Holds c.now t) → PutsPage place page next c d → PutsPage place page next b d
puts_after b c d place next page goes same puts = record {
  requests = puts.requests;
  goes_on = goes_then b c d goes puts.goes_on;
  petitions = λ t had. puts.petitions t (same t had);
  rows = λ t had. puts.rows t (same t had);
}

-- ---- a page of the record

-- the accepted requests that are made of its rows and their digests
pub page_made : (most after : ℕ) (t : Tables) (rows : List KeptRow) (digests : List (ℕ × DigestRow)) (page : List Accepted) → rows ≡ take most (replies_after after t) → digests ≡ take most (filter (is_digest_after after) t.digests)
    → ((values : List Accepted) → AllByRecursion HasValidOrder values → rows ≡ map kept_row_of values → map time_kept digests ≡ map time_asked values → page ≡ values) → IsPageOf after most t page
page_made most after t rows digests page rows_are digests_are made h of =
    let all = accepted_of h.deeds in
    let values = take most (drop after all) in
    made values (valid_part HasValidOrder most after all (orders_valid h.deeds (recursion_from_All IsValid h.deeds of.valid)))
    (rows_are ∙ ap (λ (l : List (ℤ × KeptRow)). take most (map (λ (k : ℤ × KeptRow). k.1) (filter (is_after after) l))) of.kept.in_order ∙ ap (take most) (replies_past after (map kept_row_of all)) ∙ rows_part most after all)
    (ap (map time_kept) digests_are ∙ sym (take-map time_kept most (filter (is_digest_after after) t.digests))
    ∙ ap (λ (l : List (ℕ × DigestRow)). take most (map time_kept (filter (is_digest_after after) l))) of.digests ∙ ap (take most) (times_past after h) ∙ take-map time_asked most (drop after all))

-- the calls that read them
pub page_read : (a b c : State) (after most : ℕ) (rows : List KeptRow) (digests : List (ℕ × DigestRow)) (result : Result (Vec Accepted Global) TableFault)
    → GoesOn a b × ((t : Tables) → Holds a.now t → IsUnchanged a b × (rows ≡ take most (replies_after after t)))
    → GoesOn b c × ((t : Tables) → Holds b.now t → IsUnchanged b c × (digests ≡ take most (filter (is_digest_after after) t.digests)))
    → ((values : List Accepted) → AllByRecursion HasValidOrder values → rows ≡ map kept_row_of values → map time_kept digests ≡ map time_asked values → IfOk result (λ page. page.items ≡ values))
    → IfOk result (λ page. GoesOn a c × ((t : Tables) → Holds a.now t → IsUnchanged a c × IsPageOf after most t page.items))
page_read a b c after most rows digests (Err e) one two made = tt
page_read a b c after most rows digests (Ok page) one two made = (
  goes_then a b c one.0 two.0,
  λ t had.
      (let first = one.1 t had in
      let second = two.1 t (subst (λ db. Holds db t) (sym first.0.0.now_is) had) in
      (unchanged_then a b c first.0 second.0, page_made most after t rows digests page.items first.1 second.1 made)),
)

pub page_refused : (a b : State) (Says : Tables → Type 0) → GoesOn a b × ((t : Tables) → Holds a.now t → IsUnchanged a b × Says t) → ((t : Tables) → ¬ Holds b.now t) → (t : Tables) → ¬ Holds a.now t
page_refused a b Says one never t had = never t (subst (λ db. Holds db t) (sym (one.1 t had).0.0.now_is) had)

-- ---- page after page

abbrev pub start : Place
start = record { requests = 0; petitions = 0 }

-- the times of the requests up to this place are written
pub record IsReadTo (place : Place) (old new : State) : Type 0 where
  pub so_far : List Accepted
  pub puts : PutsPage start so_far place old new
  pub are : (t : Tables) → Holds old.now t → (h : History) → IsRecordOf h t → so_far ≡ take (length so_far) (accepted_of h.deeds)

-- the first elements and those that come next
next_page : (most : ℕ) (before page l : List Accepted) → before ≡ take (length before) l → page ≡ take most (drop (length before) l) → before ++ page ≡ take (length (before ++ page)) l
next_page most [] page l first is = is ∙ take_own most l ∙ ap (λ (p : List Accepted). take (length p) l) (sym is)
next_page most (y ∷ ys) page [] first is = absurd cc
next_page most (y ∷ ys) page (x ∷ xs) first is =
    let same : y ≡ x = cc in
    let rest : ys ≡ take (length ys) xs = cc in
    rw same (ap (λ (l : List Accepted). x ∷ l) (next_page most ys page xs rest is))

pub read_begins : (a : State) → GoesOn a a → IsReadTo start a a
read_begins a goes = record { so_far = []; puts = puts_none start a goes; are = λ t had h of. refl }

module _ (a b c : State) (place : Place) (most : ℕ) (page : List Accepted) (before : IsReadTo place a b)
    (read : GoesOn b c × ((t : Tables) → Holds b.now t → IsUnchanged b c × IsPageOf place.requests most t page)) where
  -- the page comes next
  page_next : (t : Tables) → Holds a.now t → (h : History) → IsRecordOf h t → page ≡ take most (drop (length before.so_far) (accepted_of h.deeds))
  page_next t had h of =
      let held = before.puts.rows t had in
      let count : place.requests ≡ length before.so_far = omega (arith, before.puts.requests) in
      (read.1 _ held).1 h (record { kept = of.kept; digests = of.digests; valid = of.valid }) ∙ ap (λ (n : ℕ). take most (drop n (accepted_of h.deeds))) count

  still : (t : Tables) → Holds b.now t → Holds c.now t
  still t had = subst (λ db. Holds db t) (sym (read.1 t had).0.0.now_is) had

  pub read_more : (d : State) (next : Place) → PutsPage place page next c d → IsReadTo next a d
  read_more d next puts = record {
    so_far = before.so_far ++ page;
    puts = puts_then a b d start place next before.so_far page before.puts (puts_after b c d place next page read.0 still puts);
    are = λ t had h of. next_page most before.so_far page (accepted_of h.deeds) (before.are t had h of) (page_next t had h of);
  }

  -- an empty page is the end
  pub read_ends : 0 < most → [] ≡ page → PutsRecord a c
  read_ends some none = (
    goes_then a b c before.puts.goes_on read.0,
    λ t had. (
      reached_by (reached_at 0 t) before.so_far,
      still _ (before.puts.rows t had),
      λ h of.
          (let all = accepted_of h.deeds in
          let past = none_left most (length before.so_far) all some (none ∙ page_next t had h of) in
          ap (reached_by (reached_at 0 t)) (before.are t had h of ∙ take_all (length before.so_far) all past)),
    ),
  )

-- a row without a value refutes the tables of the beginning
pub read_refused : (a b : State) (place : Place) → IsReadTo place a b → ((t : Tables) → ¬ Holds b.now t) → (t : Tables) → ¬ Holds a.now t
read_refused a b place before never t had = never _ (before.puts.rows t had)
