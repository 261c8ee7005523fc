-- Totals that are updated with a deed are those of the history with the deed.
use Rattle.std.proofs.Common.{◌≡◌, ◌∙◌, ap, ap₂, subst, sym, refl, ℕ, ◌+◌, ◌-◌, ◌<◌, ◌≤◌, true, false, List, [], ◌∷◌, ◌++◌, Option, None, Some, length, length-append, append_assoc, arith}
use Rattle.std.specs.Prelude.{nat_eq, nat_lt, find, is_some, if◌then◌else◌, ◌&&◌, ◌||◌, not}
use Rattle.std.proofs.lemmas.Bool.{ltb-true}
use Rattle.std.specs.List.{list_any}
use Rattle.std.specs.Str.{bytes_eq}
use Rattle.std.proofs.lemmas.List.Folds.{find-append, list_any-append}
use Rattle.usbnum_core.specs.Spans.{span_has, spans_have}
use Rattle.usbnum_core.specs.declared.number.Number.{Number}
use Rattle.registry_rules.specs.Limits.{greatest_count}
use Rattle.registry_rules.specs.Number.{number_eq}
use Rattle.std.specs.Option.{option_or}
use Rattle.registry_rules.specs.History.{History, with_deed, last_of, all_of}
use Rattle.registry_rules.specs.Query.{enrolled, asked, open_count, petition_of, with_state, is_open, owner_of, is_reserved, is_fixed, is_licence, licences, vendors, item_of, adds_licence, adds_vendor, reserves}
use Rattle.registry_rules.specs.Records.{LeadsTo}
use Rattle.registry_rules.specs.Changes.{act_changes}
use Rattle.registry_rules.specs.Run.{Legal}
use Rattle.registry_rules.specs.Sets.{count_at, spans_at}
use Rattle.registry_rules.specs.FactsOf.{IsCurrentFounding, AreVendorsOf}
use Rattle.registry_rules.specs.TotalsOf.{IsSummary, AreTotalsOf, is_taken}
use Rattle.registry_rules.specs.Carrying.{CarriesAsks, CarriesCloses, HasTaken, CarriesReserves, Releases, CarriesImports, Allows, Carries}
use Rattle.registry_rules.specs.Verdict.{verdict, standing_at}
use Rattle.registry_rules.proofs.FollowLemmas.{CanEnrol, CanAsk, CanGrant, CanClose, CanRelease, CanImport, Follows, new_follows}
use Rattle.registry_rules.proofs.RunLemmas.{legal_new}
use Rattle.registry_rules.proofs.NoRepeatLemmas.{licences_counted, ascending_distinct}
use Rattle.registry_rules.proofs.NumberLemmas.{owned_or_reserved, owned_and_reserved}
use Rattle.registry_rules.proofs.OpenLemmas.{open_after_ask, open_after_close}
use Rattle.registry_rules.proofs.TakenLemmas.{taken_more, same_test, reserves_taken, reserves_reserved, released_taken, released_reserved, unowned_by, in_span, takes_by, imported_taken}
use Rattle.registry_rules.proofs.ChangeLemmas.{leads_to}
use Rattle.registry_rules.specs.declared.deed.Deed.{Deed}
use Rattle.registry_rules.specs.declared.deed.Act.{Act}
use Rattle.registry_rules.specs.declared.deed.Act.TheVariants.{Enrolled, Asked, Granted, Declined, Withdrawn, Reserved, Released, Imported, VendorAdded, LicenceAdded}
use Rattle.registry_rules.specs.declared.founding.Founding.{Founding}
use Rattle.registry_rules.specs.declared.item.Item.{Item}
use Rattle.registry_rules.specs.declared.item.Tally.{Tally}
use Rattle.registry_rules.specs.declared.limits.TheConstants.{MOST_ORGS, MOST_PETITIONS, MOST_OPEN}
use Rattle.registry_rules.specs.declared.order.Order.{Order}
use Rattle.registry_rules.specs.declared.order.Request.{Request}
use Rattle.registry_rules.specs.declared.record.Org.{Org}
use Rattle.registry_rules.specs.declared.record.Petition.{Petition}
use Rattle.registry_rules.specs.declared.record.PetitionState.{PetitionState}
use Rattle.registry_rules.specs.declared.record.PetitionState.TheVariants.{Granted as StateGranted, Declined as StateDeclined, Withdrawn as StateWithdrawn}
use Rattle.registry_rules.specs.declared.record.Vendor.{Vendor}
use Rattle.registry_rules.specs.declared.name.NumberName.{NumberName}
use Rattle.registry_rules.specs.declared.name.SpanName.{SpanName}
use Rattle.registry_rules.specs.declared.totals.Totals.{Totals}
use Rattle.registry_rules.specs.declared.verdict.Verdict.TheVariants.{New}

-- a deed that adds no licence keeps the founding
keeps_founding : (h : History) (deed : Deed) (founding : Founding) → adds_licence deed.act ≡ None → IsCurrentFounding h founding → IsCurrentFounding (with_deed h deed) founding
keeps_founding h deed founding none s = record {
  vendor = s.vendor;
  name = s.name;
  curators = s.curators;
  fixed = s.fixed;
  allowed = λ licence. rw none (s.allowed licence);
  allowed_count = rw none s.allowed_count;
}

-- a deed that adds no vendor keeps the vendors
keeps_vendors : (h : History) (deed : Deed) (list : List Vendor) → adds_vendor deed.act ≡ None → AreVendorsOf h list → AreVendorsOf (with_deed h deed) list
keeps_vendors h deed list none s = record {
  each = λ vid. rw none (s.each vid);
  count = rw none s.count;
}

below_limit : (n limit most : ℕ) → nat_lt n limit ≡ true → limit ≤ most → n < most
below_limit n limit most e within = let less : n < limit = ltb-true n limit e in omega (arith, less, within)

-- the deed of a caller, key, order and act
abbrev the_deed : List ℕ → List ℕ → Order → Option (List ℕ) → Act → Deed
the_deed caller key order time act = record { caller = caller; key = key; order = order; time = time; act = act }

-- an enrolment: one more organisation
enrolled_more : (h : History) (caller key : List ℕ) (order : Order) (time : Option (List ℕ)) (org : Org) (old new : Totals) → CanEnrol h caller org
    → (old.orgs < greatest_count → new ≡ record old { orgs = old.orgs + 1 }) → IsSummary h old → IsSummary (with_deed h (the_deed caller key order time (Enrolled org))) new
enrolled_more h caller key order time org old new can is s =
    let deed = the_deed caller key order time (Enrolled org) in
    let few : length (enrolled h) < greatest_count = below_limit (length (enrolled h)) MOST_ORGS greatest_count can.below (omega arith) in
    let count : old.orgs ≡ length (enrolled h) = s.orgs in
    let now : new ≡ record old { orgs = old.orgs + 1 } = is (omega (arith, few, count)) in
    let more : length (enrolled h ++ org ∷ []) ≡ length (enrolled h) + 1 = length-append (enrolled h) (org ∷ []) in
    subst (λ t. IsSummary (with_deed h deed) t) (sym now) (record {
      founding = keeps_founding h deed old.founding refl s.founding;
      vendors = keeps_vendors h deed old.vendors refl s.vendors;
      orgs = ap (λ n. n + 1) s.orgs ∙ sym more;
      petitions = s.petitions;
      still_open = s.still_open;
      taken = s.taken;
      reserved = s.reserved;
      apart = s.apart;
      nothing = s.nothing;
    })

-- an ask: one more petition, which is open
asked_more : (h : History) (caller key : List ℕ) (order : Order) (time : Option (List ℕ)) (id : ℕ) (petition : Petition) (old new : Totals) → CanAsk h caller id petition
    → LeadsTo (act_changes (Asked id petition)) h (with_deed h (the_deed caller key order time (Asked id petition)))
    → CarriesAsks old new petition.org → IsSummary h old → IsSummary (with_deed h (the_deed caller key order time (Asked id petition))) new
asked_more h caller key order time id petition old new can leads is s =
    let deed = the_deed caller key order time (Asked id petition) in
    let few : length (asked h) < greatest_count = below_limit (length (asked h)) MOST_PETITIONS greatest_count can.below (omega arith) in
    let few_open : open_count h petition.org < greatest_count = below_limit (open_count h petition.org) MOST_OPEN greatest_count can.few_open (omega arith) in
    let count : old.petitions ≡ length (asked h) = s.petitions in
    let count_open : count_at old.still_open petition.org ≡ open_count h petition.org = s.still_open petition.org in
    let more : length (asked h ++ petition ∷ []) ≡ length (asked h) + 1 = length-append (asked h) (petition ∷ []) in
    subst (λ t. IsSummary (with_deed h deed) t) (sym is.same) (record {
      founding = keeps_founding h deed old.founding refl s.founding;
      vendors = keeps_vendors h deed old.vendors refl s.vendors;
      orgs = s.orgs;
      petitions = is.petitions (omega (arith, few, count)) ∙ ap (λ n. n + 1) s.petitions ∙ sym more;
      still_open = λ slug. is.opened (omega (arith, few_open, count_open)) slug
          ∙ ap (λ n. if bytes_eq petition.org slug then n + 1 else n) (s.still_open slug)
          ∙ sym (open_after_ask h (with_deed h deed) id petition leads.petitions can.next can.is_open more slug);
      taken = s.taken;
      reserved = s.reserved;
      apart = s.apart;
      nothing = s.nothing;
    })

-- a grant: one fewer open petition, and one more number that is taken
granted_more : (h : History) (caller key : List ℕ) (order : Order) (time : Option (List ℕ)) (id : ℕ) (petition : Petition) (name : NumberName) (old mid new : Totals) → Legal (with_deed h (the_deed caller key order time (Granted id petition name))) → CanGrant h id petition name
    → LeadsTo (act_changes (Granted id petition name)) h (with_deed h (the_deed caller key order time (Granted id petition name)))
    → CarriesCloses old mid petition.org → HasTaken mid new name.number.vid name.number.pid → IsSummary h old → IsSummary (with_deed h (the_deed caller key order time (Granted id petition name))) new
granted_more h caller key order time id petition name old mid new after can leads closes takes s =
    let deed = the_deed caller key order time (Granted id petition name) in
    let now : new ≡ record old { still_open = mid.still_open; taken = new.taken } = takes.same ∙ ap (λ (m : Totals). record m { taken = new.taken }) closes.same in
    subst (λ t. IsSummary (with_deed h deed) t) (sym now) (record {
      founding = keeps_founding h deed old.founding refl s.founding;
      vendors = keeps_vendors h deed old.vendors refl s.vendors;
      orgs = s.orgs;
      petitions = s.petitions;
      still_open = λ slug. closes.closed slug ∙ ap (λ n. if bytes_eq petition.org slug then n - 1 else n) (s.still_open slug)
          ∙ sym (open_after_close h (with_deed h deed) id petition (StateGranted name.number.pid) leads.petitions can.there can.was_open refl refl slug);
      taken = λ n. takes.taken n
          ∙ ap (λ b. spans_have (spans_at mid.taken n.vid) n.pid || b) (same_test name.number.vid name.number.pid n)
          ∙ ap (λ (m : Totals). spans_have (spans_at m.taken n.vid) n.pid || number_eq n name.number) closes.same
          ∙ ap (λ b. b || number_eq n name.number) (s.taken n)
          ∙ taken_more (owner_of h n) (is_reserved h n) (number_eq n name.number) petition.org;
      reserved = s.reserved;
      apart = λ n. (owned_and_reserved (with_deed h deed) n after).0;
      nothing = s.nothing;
    })

-- a deed that enrols no one, opens no petition, adds no vendor and no licence, and neither gives nor reserves a number
record KeepsTotals (h : History) (deed : Deed) : Type 0 where
  licence : adds_licence deed.act ≡ None
  vendor : adds_vendor deed.act ≡ None
  orgs : length (enrolled h) ≡ length (enrolled (with_deed h deed))
  petitions : length (asked h) ≡ length (asked (with_deed h deed))
  taken : (n : Number) → is_taken h n ≡ is_taken (with_deed h deed) n
  reserved : (n : Number) → is_reserved h n ≡ is_reserved (with_deed h deed) n
  apart : (n : Number) → (is_some (owner_of h n) && is_reserved h n) ≡ (is_some (owner_of (with_deed h deed) n) && is_reserved (with_deed h deed) n)

-- only the open counts change
only_open : (h : History) (deed : Deed) (old new : Totals) → KeepsTotals h deed → new ≡ record old { still_open = new.still_open }
    → ((slug : List ℕ) → count_at new.still_open slug ≡ open_count (with_deed h deed) slug) → IsSummary h old → IsSummary (with_deed h deed) new
only_open h deed old new keeps same opened s = subst (λ t. IsSummary (with_deed h deed) t) (sym same) (record {
  founding = keeps_founding h deed old.founding keeps.licence s.founding;
  vendors = keeps_vendors h deed old.vendors keeps.vendor s.vendors;
  orgs = s.orgs ∙ keeps.orgs;
  petitions = s.petitions ∙ keeps.petitions;
  still_open = opened;
  taken = λ n. s.taken n ∙ keeps.taken n;
  reserved = λ n. s.reserved n ∙ keeps.reserved n;
  apart = λ n. sym (keeps.apart n) ∙ s.apart n;
  nothing = s.nothing;
})

-- any other act, as an amendment or a return: no total changes
no_total : (h : History) (deed : Deed) (old new : Totals) → KeepsTotals h deed → ((slug : List ℕ) → open_count h slug ≡ open_count (with_deed h deed) slug)
    → new ≡ old → IsSummary h old → IsSummary (with_deed h deed) new
no_total h deed old new keeps as_before is s =
    subst (λ t. IsSummary (with_deed h deed) t) (sym is) (only_open h deed old old keeps refl (λ slug. s.still_open slug ∙ as_before slug) s)

-- a petition is declined or withdrawn: one fewer is open
closed_less : (h : History) (deed : Deed) (id : ℕ) (petition : Petition) (state : PetitionState) (old new : Totals) → KeepsTotals h deed → CanClose h id petition
    → is_open state ≡ false → ((i : ℕ) → (if nat_eq id i then Some (with_state state petition) else petition_of h i) ≡ petition_of (with_deed h deed) i)
    → CarriesCloses old new petition.org → IsSummary h old → IsSummary (with_deed h deed) new
closed_less h deed id petition state old new keeps can closed at is s =
    only_open h deed old new keeps is.same (λ slug. is.closed slug ∙ ap (λ n. if bytes_eq petition.org slug then n - 1 else n) (s.still_open slug)
    ∙ sym (open_after_close h (with_deed h deed) id petition state at can.there can.was_open closed (sym keeps.petitions) slug)) s

reserved_more : (h : History) (caller key : List ℕ) (order : Order) (time : Option (List ℕ)) (name : SpanName) (old new : Totals) → Legal (with_deed h (the_deed caller key order time (Reserved name))) → CarriesReserves old new name.vid name.span
    → IsSummary h old → IsSummary (with_deed h (the_deed caller key order time (Reserved name))) new
reserved_more h caller key order time name old new after is s =
    let deed = the_deed caller key order time (Reserved name) in
    subst (λ t. IsSummary (with_deed h deed) t) (sym is.same) (record {
      founding = keeps_founding h deed old.founding refl s.founding;
      vendors = keeps_vendors h deed old.vendors refl s.vendors;
      orgs = s.orgs;
      petitions = s.petitions;
      still_open = s.still_open;
      taken = λ n. is.taken n ∙ ap (λ b. b || (nat_eq name.vid n.vid && span_has name.span n.pid)) (s.taken n)
          ∙ reserves_taken (is_some (owner_of h n)) (is_fixed h n) (nat_eq name.vid n.vid && span_has name.span n.pid) (last_of (λ d. reserves n d.act) h.deeds);
      reserved = λ n. is.reserved n ∙ ap (λ b. b || (nat_eq name.vid n.vid && span_has name.span n.pid)) (s.reserved n)
          ∙ reserves_reserved (is_fixed h n) (nat_eq name.vid n.vid && span_has name.span n.pid) (last_of (λ d. reserves n d.act) h.deeds);
      apart = λ n. (owned_and_reserved (with_deed h deed) n after).0;
      nothing = s.nothing;
    })

released_less : (h : History) (caller key : List ℕ) (order : Order) (time : Option (List ℕ)) (name : SpanName) (old new : Totals) → Legal h → Legal (with_deed h (the_deed caller key order time (Released name))) → CanRelease h name → Releases old new name.vid name.span
    → IsSummary h old → IsSummary (with_deed h (the_deed caller key order time (Released name))) new
released_less h caller key order time name old new legal after can is s =
    let deed = the_deed caller key order time (Released name) in
    let unfixed : (n : Number) → (nat_eq name.vid n.vid && span_has name.span n.pid) ≡ true → is_fixed h n ≡ false
    = λ n e. let at = in_span name.vid name.span n e in subst (λ m. is_fixed h m ≡ false) at.0 (can.unfixed n.pid at.1) in
    let unowned : (n : Number) → (nat_eq name.vid n.vid && span_has name.span n.pid) ≡ true → is_some (owner_of h n) ≡ false
    = λ n e. let at = in_span name.vid name.span n e in
    unowned_by (owner_of h n) (is_reserved h n) (owned_or_reserved h legal n) (subst (λ m. is_reserved h m ≡ true) at.0 (can.reserved n.pid at.1)) in
    subst (λ t. IsSummary (with_deed h deed) t) (sym is.same) (record {
      founding = keeps_founding h deed old.founding refl s.founding;
      vendors = keeps_vendors h deed old.vendors refl s.vendors;
      orgs = s.orgs;
      petitions = s.petitions;
      still_open = s.still_open;
      taken = λ n. is.taken n ∙ ap (λ b. b && not (nat_eq name.vid n.vid && span_has name.span n.pid)) (s.taken n)
          ∙ released_taken (owner_of h n) (is_fixed h n) (nat_eq name.vid n.vid && span_has name.span n.pid) (last_of (λ d. reserves n d.act) h.deeds) (unowned n) (unfixed n);
      reserved = λ n. is.reserved n ∙ ap (λ b. b && not (nat_eq name.vid n.vid && span_has name.span n.pid)) (s.reserved n)
          ∙ released_reserved (is_fixed h n) (nat_eq name.vid n.vid && span_has name.span n.pid) (last_of (λ d. reserves n d.act) h.deeds) (unfixed n);
      apart = λ n. (owned_and_reserved (with_deed h deed) n after).0;
      nothing = s.nothing;
    })

imported_more : (h : History) (caller key : List ℕ) (order : Order) (time : Option (List ℕ)) (vid : ℕ) (org : List ℕ) (fresh : List Item) (tally : Tally) (old new : Totals) → Legal (with_deed h (the_deed caller key order time (Imported vid org fresh tally))) → CanImport h vid org fresh → CarriesImports old new vid fresh
    → IsSummary h old → IsSummary (with_deed h (the_deed caller key order time (Imported vid org fresh tally))) new
imported_more h caller key order time vid org fresh tally old new after can is s =
    let deed = the_deed caller key order time (Imported vid org fresh tally) in
    subst (λ t. IsSummary (with_deed h deed) t) (sym is.same) (record {
      founding = keeps_founding h deed old.founding refl s.founding;
      vendors = keeps_vendors h deed old.vendors refl s.vendors;
      orgs = s.orgs;
      petitions = s.petitions;
      still_open = s.still_open;
      taken = λ n. is.taken n ∙ ap₂ ◌||◌ (s.taken n) (takes_by vid n (standing_at h vid) fresh (nat_eq vid n.vid) refl can.each)
          ∙ imported_taken (owner_of h n) (is_reserved h n) (item_of vid fresh n) org;
      reserved = s.reserved;
      apart = λ n. (owned_and_reserved (with_deed h deed) n after).0;
      nothing = s.nothing;
    })

-- one more vendor
vendor_more : (h : History) (caller key : List ℕ) (order : Order) (time : Option (List ℕ)) (vid : ℕ) (name : List ℕ) (old new : Totals) → new ≡ record old { vendors = old.vendors ++ record { vid = vid; name = name } ∷ [] }
    → IsSummary h old → IsSummary (with_deed h (the_deed caller key order time (VendorAdded vid name))) new
vendor_more h caller key order time vid name old new is s =
    let deed = the_deed caller key order time (VendorAdded vid name) in
    let added : List Vendor = record { vid = vid; name = name } ∷ [] in
    subst (λ t. IsSummary (with_deed h deed) t) (sym is) (record {
      founding = keeps_founding h deed old.founding refl s.founding;
      vendors = record {
        each = λ v. find-append (λ (vendor : Vendor). nat_eq vendor.vid v) old.vendors added
            ∙ ap (λ found. option_or found (find (λ (vendor : Vendor). nat_eq vendor.vid v) added)) (s.vendors.each v)
            ∙ sym (find-append (λ (vendor : Vendor). nat_eq vendor.vid v) (vendors h) added);
        count = length-append old.vendors added ∙ ap (λ n. n + 1) s.vendors.count ∙ sym (length-append (vendors h) added);
      };
      orgs = s.orgs;
      petitions = s.petitions;
      still_open = s.still_open;
      taken = s.taken;
      reserved = s.reserved;
      apart = s.apart;
      nothing = s.nothing;
    })

-- one more licence
licence_more : (h : History) (caller key : List ℕ) (order : Order) (time : Option (List ℕ)) (licence : List ℕ) (old new : Totals) → Legal (with_deed h (the_deed caller key order time (LicenceAdded licence))) → Allows old new licence
    → IsSummary h old → IsSummary (with_deed h (the_deed caller key order time (LicenceAdded licence))) new
licence_more h caller key order time licence old new after is s =
    let deed = the_deed caller key order time (LicenceAdded licence) in
    let allowed : (other : List ℕ) → list_any (bytes_eq other) new.founding.licences ≡ is_licence (with_deed h deed) other = λ other.
    is.licences.same other ∙ list_any-append (bytes_eq other) old.founding.licences (licence ∷ [])
    ∙ ap (λ b. b || list_any (bytes_eq other) (licence ∷ [])) (s.founding.allowed other)
    ∙ sym (list_any-append (bytes_eq other) (licences h) (licence ∷ []))
    ∙ ap (list_any (bytes_eq other)) (append_assoc h.founding.licences (all_of (λ d. adds_licence d.act) h.deeds) (licence ∷ [])) in
    subst (λ t. IsSummary (with_deed h deed) t) (sym is.same) (record {
      founding = record {
        vendor = s.founding.vendor;
        name = s.founding.name;
        curators = s.founding.curators;
        fixed = s.founding.fixed;
        allowed = allowed;
        allowed_count = licences_counted (with_deed h deed) after new.founding.licences allowed (ascending_distinct new.founding.licences is.licences.ascending);
      };
      vendors = keeps_vendors h deed old.vendors refl s.vendors;
      orgs = s.orgs;
      petitions = s.petitions;
      still_open = s.still_open;
      taken = s.taken;
      reserved = s.reserved;
      apart = s.apart;
      nothing = s.nothing;
    })

carries_by : (h : History) (caller key : List ℕ) (order : Order) (time : Option (List ℕ)) (act : Act) (old new : Totals) → Legal h → Legal (with_deed h (the_deed caller key order time act)) → Follows h caller act
    → LeadsTo (act_changes act) h (with_deed h (the_deed caller key order time act)) → Carries old new act → IsSummary h old → IsSummary (with_deed h (the_deed caller key order time act)) new
carries_by h caller key order time (Enrolled org) old new legal after can leads is s = enrolled_more h caller key order time org old new can is s
carries_by h caller key order time (Asked id petition) old new legal after can leads is s = asked_more h caller key order time id petition old new can leads is s
carries_by h caller key order time (Granted id petition name) old new legal after can leads is s = granted_more h caller key order time id petition name old is.0 new after can leads is.1 is.2 s
carries_by h caller key order time (Declined id petition None) old new legal after can leads is s = closed_less h (the_deed caller key order time (Declined id petition None)) id petition StateDeclined old new
    (record { licence = refl; vendor = refl; orgs = refl; petitions = refl; taken = λ n. refl; reserved = λ n. refl; apart = λ n. refl }) can refl leads.petitions is s
carries_by h caller key order time (Declined id petition (Some reason)) old new legal after can leads is s = closed_less h (the_deed caller key order time (Declined id petition (Some reason))) id petition StateDeclined old new
    (record { licence = refl; vendor = refl; orgs = refl; petitions = refl; taken = λ n. refl; reserved = λ n. refl; apart = λ n. refl }) can refl leads.petitions is s
carries_by h caller key order time (Withdrawn id petition) old new legal after can leads is s = closed_less h (the_deed caller key order time (Withdrawn id petition)) id petition StateWithdrawn old new
    (record { licence = refl; vendor = refl; orgs = refl; petitions = refl; taken = λ n. refl; reserved = λ n. refl; apart = λ n. refl }) can refl leads.petitions is s
carries_by h caller key order time (Reserved name) old new legal after can leads is s = reserved_more h caller key order time name old new after is s
carries_by h caller key order time (Released name) old new legal after can leads is s = released_less h caller key order time name old new legal after can is s
carries_by h caller key order time (Imported vid org fresh tally) old new legal after can leads is s = imported_more h caller key order time vid org fresh tally old new after can is s
carries_by h caller key order time (VendorAdded vid name) old new legal after can leads is s = vendor_more h caller key order time vid name old new is s
carries_by h caller key order time (LicenceAdded licence) old new legal after can leads is s = licence_more h caller key order time licence old new after is s
carries_by h caller key order time _ old new legal after can leads is s = no_total h _ old new
    (record { licence = refl; vendor = refl; orgs = refl; petitions = refl; taken = λ n. refl; reserved = λ n. refl; apart = λ n. refl }) (λ slug. refl) is s

-- totals that are updated with a new deed are those of the history with the deed
pub carries : (h : History) (request : Request) (deed : Deed) (old new : Totals) → Legal h → verdict h request ≡ New deed → Carries old new deed.act
    → AreTotalsOf h old → AreTotalsOf (with_deed h deed) new
unfolding AreTotalsOf
carries h request deed old new legal new_deed is s =
    carries_by h deed.caller deed.key deed.order deed.time deed.act old new legal (legal_new h request deed legal new_deed) (new_follows h request deed new_deed)
    (leads_to h request deed (act_changes deed.act) legal new_deed refl) is s
