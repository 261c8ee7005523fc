-- The outcome of an order by the facts of a history is its outcome by the history.
use Rattle.std.proofs.Common.{◌≡◌, ℕ, ◌+◌, ◌-◌, Ok, Err, Result, List, [], ◌∷◌, ◌++◌, Option, Some, None, Bool, true, false, refl, ap, ap₂, sym, ◌∙◌}
use Rattle.std.proofs.lemmas.Bool.{eq-eqb, and_from}
use Rattle.std.specs.Prelude.{length, nat_eq, unwrap_or, is_none, is_some, if◌then◌else◌}
use Rattle.std.specs.Option.{option_map, option_or}
use Rattle.usbnum_core.specs.Spans.{spans_have}
use Rattle.usbnum_core.specs.declared.number.Number.{Number}
use Rattle.usbnum_core.specs.declared.number.Span.{Span}
use Rattle.registry_rules.specs.Number.{number, number_eq}
use Rattle.registry_rules.specs.History.{History, sooner, first_of, last_of}
use Rattle.registry_rules.specs.Import.{Standing, is_doubled, class_of, classes_from}
use Rattle.registry_rules.specs.Query.{owner_of, is_held, is_reserved, holds, receiver, item_of, answer_if, petition_of, least, org_of, open_count, asked, has_vendor, vendor_meant, is_licence}
use Rattle.registry_rules.specs.Checks.{ask_checks, grant_checks, amend_checks, return_checks, reserve_checks, release_checks, import_checks, correct_checks, revoke_checks}
use Rattle.registry_rules.specs.Verdict.{outcome, deed_for, verdict, verdict_by, standing_of, standing_at, org_owning, number_chosen, pid_chosen, least_for, least_owned, meets_fixed, new_petition, new_card, kept_under}
use Rattle.registry_rules.specs.FactsOf.{AreFactsOf, slug_concerned, petition_named, vendor_concerned, open_concerned, org_concerned, concerns, is_wanted, holding_of, holding_in}
use Rattle.registry_rules.specs.OnFacts.{outcome_on, standing_in, standing_in_at, standing_in_sets, is_owned_by, least_owned_in}
use Rattle.registry_rules.specs.declared.deed.Deed.{Deed}
use Rattle.registry_rules.specs.declared.deed.Act.{Act}
use Rattle.registry_rules.specs.declared.deed.Act.TheVariants.{Granted, Returned, Imported, Revoked}
use Rattle.registry_rules.specs.declared.refusal.Refusal.{Refusal}
use Rattle.registry_rules.specs.declared.verdict.Verdict.{Verdict}
use Rattle.registry_rules.specs.declared.verdict.Verdict.TheVariants.{New, Refused}
use Rattle.registry_rules.specs.declared.facts.Facts.{Facts}
use Rattle.registry_rules.specs.declared.facts.KeptReply.{KeptReply}
use Rattle.registry_rules.specs.declared.item.Item.{Item}
use Rattle.registry_rules.specs.declared.item.ItemClass.TheVariants.{Zero, Untitled, Doubled, Reserved, Owned, Fresh}
use Rattle.registry_rules.specs.declared.record.Holding.{Holding}
use Rattle.registry_rules.specs.declared.record.Petition.{Petition}
use Rattle.registry_rules.specs.declared.order.Order.{Order}
use Rattle.registry_rules.specs.declared.order.Request.{Request}
use Rattle.registry_rules.specs.declared.order.Order.TheVariants as orders
use Rattle.registry_rules.proofs.SpanNumberLemmas.{same_find, same_all}

-- an act that leaves a number held gives it an owner
held_given : (n : Number) (act : Act) (owner : Option (List ℕ)) (held : Option Bool) → sooner owner (receiver n act) ≡ None →
    (owner ≡ None → unwrap_or held false ≡ false) → unwrap_or (option_or (holds n act) held) false ≡ false
held_given n (Granted id petition name) owner held e h =
    elim (number_eq n name.number) as (λ b. sooner owner (answer_if b petition.org) ≡ None → unwrap_or (option_or (answer_if b true) held) false ≡ false)
    [ true ↦ λ no. absurd cc | false ↦ λ no. h no ] e
held_given n (Imported vid org fresh tally) owner held e h =
    elim (item_of vid fresh n) as (λ o. sooner owner (option_map (λ item. org) o) ≡ None → unwrap_or (option_or (option_map (λ item. true) o) held) false ≡ false)
    [ None ↦ λ no. h no | Some item ↦ λ no. absurd cc ] e
held_given n (Returned name) owner held e h =
    elim (number_eq n name.number) as (λ b. unwrap_or (option_or (answer_if b false) held) false ≡ false) [ true ↦ refl | false ↦ h e ]
held_given n (Revoked name) owner held e h =
    elim (number_eq n name.number) as (λ b. unwrap_or (option_or (answer_if b false) held) false ≡ false) [ true ↦ refl | false ↦ h e ]
held_given n _ owner held e h = h e

-- a number without an owner is not held
pub unowned : (n : Number) (deeds : List Deed) → first_of (λ deed. receiver n deed.act) deeds ≡ None → unwrap_or (last_of (λ deed. holds n deed.act) deeds) false ≡ false
unowned n [] e = refl
unowned n (deed ∷ earlier) e =
    held_given n deed.act (first_of (λ d. receiver n d.act) earlier) (last_of (λ d. holds n d.act) earlier) e (unowned n earlier)

-- the state of a number, by the holding that is found
abbrev standing_found : Number → Bool → Option Holding → Standing
standing_found n reserved found = record { number = n; reserved = reserved; owner = option_map (λ holding. holding.org) found; held = unwrap_or (option_map (λ holding. holding.held) found) false }

standing_owned : (n : Number) (reserved : Bool) (owner : Option (List ℕ)) (held : Bool) → (owner ≡ None → held ≡ false) →
    standing_found n reserved (option_map (λ org. record { number = n; org = org; held = held }) owner) ≡ record { number = n; reserved = reserved; owner = owner; held = held }
standing_owned n reserved None held h = ap (λ b. record { number = n; reserved = reserved; owner = None; held = b }) (sym (h refl))
standing_owned n reserved (Some org) held h = refl

-- the state of the number by the facts is its state by the history
pub same_standing : (h : History) (facts : Facts) (n : Number) → spans_have facts.reserved.now n.pid ≡ is_reserved h n → holding_in facts.holdings n ≡ holding_of h n →
    standing_in facts n ≡ standing_of h n
same_standing h facts n reserved holding =
    ap (λ b. standing_found n b (holding_in facts.holdings n)) reserved
    ∙ ap (λ found. standing_found n (is_reserved h n) found) holding
    ∙ standing_owned n (is_reserved h n) (owner_of h n) (is_held h n) (unowned n h.deeds)

pub is_itself : (n : Number) → number_eq n n ≡ true
is_itself n = and_from (nat_eq n.vid n.vid) _ (eq-eqb n.vid n.vid refl) (eq-eqb n.pid n.pid refl)

-- the same for the number that a petition wants, if any
same_wanted : (h : History) (facts : Facts) (vid : ℕ) (want : Option ℕ) → ((pid : ℕ) → spans_have facts.reserved.now pid ≡ is_reserved h (number vid pid)) →
    ((pid : ℕ) → want ≡ Some pid → holding_in facts.holdings (number vid pid) ≡ holding_of h (number vid pid)) →
    option_map (standing_in_at facts vid) want ≡ option_map (standing_at h vid) want
same_wanted h facts vid None reserved holdings = refl
same_wanted h facts vid (Some pid) reserved holdings = ap (λ (s : Standing). Some s) (same_standing h facts (number vid pid) (reserved pid) (holdings pid refl))

-- the same for the number that a grant chooses
same_chosen : (h : History) (facts : Facts) (founding : ℕ) (named : Option ℕ) (petition : Option Petition) →
    ((pid : ℕ) → spans_have facts.reserved.now pid ≡ is_reserved h (number (unwrap_or (option_map (λ there. there.vid) petition) founding) pid)) →
    ((n : Number) → unwrap_or (option_map (number_eq n) (number_chosen named petition (least_for h petition))) false ≡ true → holding_in facts.holdings n ≡ holding_of h n) →
    option_map (standing_in facts) (number_chosen named petition (least h (unwrap_or (option_map (λ there. there.vid) petition) founding))) ≡ option_map (standing_of h) (number_chosen named petition (least_for h petition))
same_chosen h facts founding named None reserved holdings = refl
same_chosen h facts founding named (Some there) reserved holdings = chosen (pid_chosen named (Some there) (least h there.vid)) holdings
  where
    chosen : (pid : Option ℕ) → ((n : Number) → unwrap_or (option_map (number_eq n) (option_map (number there.vid) pid)) false ≡ true → holding_in facts.holdings n ≡ holding_of h n) →
        option_map (standing_in facts) (option_map (number there.vid) pid) ≡ option_map (standing_of h) (option_map (number there.vid) pid)
    chosen None found = refl
    chosen (Some pid) found = ap (λ (s : Standing). Some s) (same_standing h facts (number there.vid pid) (reserved pid) (found (number there.vid pid) (is_itself (number there.vid pid))))

-- the same for the least owned number of a span
same_least : (h : History) (facts : Facts) (vid : ℕ) (span : Span) → ((pid : ℕ) → is_owned_by facts.taken.now facts.reserved.now pid ≡ is_some (owner_of h (number vid pid))) →
    least_owned_in facts.taken.now facts.reserved.now span ≡ least_owned h vid span
same_least h facts vid span owned =
    same_find (is_owned_by facts.taken.now facts.reserved.now) (λ pid. is_some (owner_of h (number vid pid))) span.first (span.last + 1 - span.first) (λ pid from lt. owned pid)

-- the class of an item depends on whether its number is reserved and whether it is owned
same_class : (a b : Standing) (before : List Item) (item : Item) → a.reserved ≡ b.reserved → is_some a.owner ≡ is_some b.owner → class_of a before item ≡ class_of b before item
same_class a b before item reserved owned =
    ap₂ (λ r o. if nat_eq item.code 0 then Zero else if is_none item.title then Untitled else if is_doubled before item.code then Doubled else if r then Reserved else if o then Owned else Fresh) reserved owned

same_classes : (a b : ℕ → Standing) (before items : List Item) → ((code : ℕ) → (a code).reserved ≡ (b code).reserved) → ((code : ℕ) → is_some (a code).owner ≡ is_some (b code).owner) →
    classes_from a before items ≡ classes_from b before items
same_classes a b before [] reserved owned = refl
same_classes a b before (item ∷ items) reserved owned =
    ap₂ ◌∷◌ (same_class (a item.code) (b item.code) before item (reserved item.code) (owned item.code)) (same_classes a b (before ++ item ∷ []) items reserved owned)

has_answer : (b : Bool) → is_some (answer_if {A = List ℕ} b []) ≡ b
has_answer true = refl
has_answer false = refl

same_for : (h : History) (caller : List ℕ) (key : List ℕ) (order : Order) (time : Option (List ℕ)) (facts : Facts) → AreFactsOf h (record { caller = caller; key = key; order = order; time = time }) facts →
    outcome_on facts caller order ≡ outcome h caller order
unfolding outcome outcome_on slug_concerned petition_named vendor_concerned open_concerned org_concerned concerns
same_for h caller key (orders.Enrol it) time facts are = rw (are.org, are.orgs) refl
same_for h caller key (orders.AmendOrg it) time facts are = rw are.org refl
same_for h caller key (orders.Ask it) time facts are =
    rw (are.vendor, are.founding.allowed it.terms.licence, are.vendors.each (vendor_meant h it.vendor), are.org, are.still_open, are.petitions)
    (ap (λ wanted. ask_checks (org_of h it.org) (has_vendor h (vendor_meant h it.vendor)) (is_licence h it.terms.licence) (open_count h it.org) (length (asked h)) wanted caller
    (new_petition (vendor_meant h it.vendor) it.org it.want it.title it.terms))
    (same_wanted h facts (vendor_meant h it.vendor) it.want are.reserved
    (λ pid is. are.holdings (number (vendor_meant h it.vendor) pid)
    (and_from (nat_eq (vendor_meant h it.vendor) (vendor_meant h it.vendor)) _ (eq-eqb (vendor_meant h it.vendor) (vendor_meant h it.vendor) refl) (ap (λ w. is_wanted w pid) is ∙ eq-eqb pid pid refl)))))
same_for h caller key (orders.Grant it) time facts are =
    rw (are.founding.curators, are.founding.vendor, are.petition, are.least)
    (ap (λ chosen. grant_checks h.founding.curators h.founding.vendor (petition_of h it.petition) chosen caller it.petition) (same_chosen h facts h.founding.vendor it.number (petition_of h it.petition) are.reserved are.holdings))
same_for h caller key (orders.Decline it) time facts are = rw (are.founding.curators, are.petition) refl
same_for h caller key (orders.Withdraw it) time facts are = rw (are.petition, are.org) refl
same_for h caller key (orders.Amend it) time facts are =
    rw (are.founding.vendor, are.vendor, are.org, are.founding.allowed it.terms.licence)
    (ap (λ s. amend_checks h.founding.vendor s (org_owning h (number (vendor_meant h it.vendor) it.number)) (is_licence h it.terms.licence) caller (new_card it.title it.terms))
    (same_standing h facts (number (vendor_meant h it.vendor) it.number) (are.reserved it.number) (are.holdings (number (vendor_meant h it.vendor) it.number) (is_itself (number (vendor_meant h it.vendor) it.number)))))
same_for h caller key (orders.Return it) time facts are =
    rw (are.founding.vendor, are.vendor, are.org)
    (ap (λ s. return_checks h.founding.vendor s (org_owning h (number (vendor_meant h it.vendor) it.number)) caller)
    (same_standing h facts (number (vendor_meant h it.vendor) it.number) (are.reserved it.number) (are.holdings (number (vendor_meant h it.vendor) it.number) (is_itself (number (vendor_meant h it.vendor) it.number)))))
same_for h caller key (orders.Reserve it) time facts are =
    rw (are.founding.curators, are.founding.vendor, are.vendor, are.founding.fixed, are.vendors.each (vendor_meant h it.vendor))
    (ap (λ least. reserve_checks h.founding.curators h.founding.vendor (has_vendor h (vendor_meant h it.vendor)) (meets_fixed h (vendor_meant h it.vendor) it.span) least caller (vendor_meant h it.vendor) it.span)
    (same_least h facts (vendor_meant h it.vendor) it.span are.owned))
same_for h caller key (orders.Release it) time facts are =
    rw (are.founding.curators, are.founding.vendor, are.vendor, are.founding.fixed, are.vendors.each (vendor_meant h it.vendor))
    (ap (λ all. release_checks h.founding.curators h.founding.vendor (has_vendor h (vendor_meant h it.vendor)) (meets_fixed h (vendor_meant h it.vendor) it.span) all caller (vendor_meant h it.vendor) it.span)
    (same_all (λ pid. spans_have facts.reserved.now pid) (λ pid. is_reserved h (number (vendor_meant h it.vendor) pid)) it.span.first (it.span.last + 1 - it.span.first) (λ pid from lt. are.reserved pid)))
same_for h caller key (orders.Import it) time facts are =
    rw (are.founding.curators, are.vendor, are.org, are.vendors.each (vendor_meant h it.vendor))
    (ap (λ classes. import_checks h.founding.curators (org_of h it.org) (has_vendor h (vendor_meant h it.vendor)) classes caller (vendor_meant h it.vendor) it.org it.items)
    (same_classes (standing_in_sets facts.taken.now facts.reserved.now (vendor_meant h it.vendor)) (standing_at h (vendor_meant h it.vendor)) [] it.items are.reserved
    (λ code. has_answer (is_owned_by facts.taken.now facts.reserved.now code) ∙ are.owned code)))
same_for h caller key (orders.AddVendor it) time facts are = rw (are.founding.curators, are.vendors.each it.vendor, are.vendors.count) refl
same_for h caller key (orders.AddLicence it) time facts are = rw (are.founding.curators, are.founding.allowed it.licence, are.founding.allowed_count) refl
same_for h caller key (orders.HandOver it) time facts are = rw (are.founding.curators, are.org) refl
same_for h caller key (orders.Correct it) time facts are =
    rw (are.founding.curators, are.founding.vendor, are.vendor, are.founding.allowed it.terms.licence)
    (ap (λ s. correct_checks h.founding.curators h.founding.vendor s (is_licence h it.terms.licence) caller (new_card it.title it.terms))
    (same_standing h facts (number (vendor_meant h it.vendor) it.number) (are.reserved it.number) (are.holdings (number (vendor_meant h it.vendor) it.number) (is_itself (number (vendor_meant h it.vendor) it.number)))))
same_for h caller key (orders.CorrectOrg it) time facts are = rw (are.founding.curators, are.org) refl
same_for h caller key (orders.Revoke it) time facts are =
    rw (are.founding.curators, are.founding.vendor, are.vendor)
    (ap (λ s. revoke_checks h.founding.curators h.founding.vendor s caller)
    (same_standing h facts (number (vendor_meant h it.vendor) it.number) (are.reserved it.number) (are.holdings (number (vendor_meant h it.vendor) it.number) (is_itself (number (vendor_meant h it.vendor) it.number)))))

pub same_outcome : (h : History) (request : Request) (facts : Facts) → AreFactsOf h request facts → outcome_on facts request.caller request.order ≡ outcome h request.caller request.order
same_outcome h request facts are = same_for h request.caller request.key request.order request.time facts are

-- the verdict by the facts is the verdict by the history
same_verdict : (h : History) (request : Request) (facts : Facts) → AreFactsOf h request facts → verdict_by facts.kept request (outcome_on facts request.caller request.order) ≡ verdict h request
unfolding verdict
same_verdict h request facts are =
    ap (λ kept. verdict_by kept request (outcome_on facts request.caller request.order)) are.kept
    ∙ ap (λ o. verdict_by (kept_under h request.caller request.key) request o) (same_outcome h request facts are)

pub verdict_kept : (h : History) (request : Request) (facts : Facts) (kept : KeptReply) (found : Verdict) → AreFactsOf h request facts → facts.kept ≡ Some kept →
    ((o : Result Act Refusal) → found ≡ verdict_by (Some kept) request o) → found ≡ verdict h request
verdict_kept h request facts kept found are is same =
    same (outcome_on facts request.caller request.order) ∙ ap (λ k. verdict_by k request (outcome_on facts request.caller request.order)) (sym is) ∙ same_verdict h request facts are

pub verdict_new : (h : History) (request : Request) (facts : Facts) (act : Act) (deed : Deed) → AreFactsOf h request facts → facts.kept ≡ None →
    outcome_on facts request.caller request.order ≡ Ok act → deed ≡ deed_for request act → New deed ≡ verdict h request
verdict_new h request facts act deed are is e d =
    ap (λ x. New x) d
    ∙ ap (λ o. verdict_by None request o) (sym e)
    ∙ ap (λ k. verdict_by k request (outcome_on facts request.caller request.order)) (sym is)
    ∙ same_verdict h request facts are

pub verdict_refused : (h : History) (request : Request) (facts : Facts) (refusal : Refusal) → AreFactsOf h request facts → facts.kept ≡ None →
    outcome_on facts request.caller request.order ≡ Err refusal → Refused refusal ≡ verdict h request
verdict_refused h request facts refusal are is e =
    ap (λ o. verdict_by None request o) (sym e)
    ∙ ap (λ k. verdict_by k request (outcome_on facts request.caller request.order)) (sym is)
    ∙ same_verdict h request facts are
