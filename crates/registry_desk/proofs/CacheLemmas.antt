-- The texts that a server keeps are of the history that its registry represents.
use Rattle.std.proofs.Common.{◌≡◌, Bool, true, false, inl, inr, ℕ, List, Option, Some, None, refl, sym, ap, subst, ◌∙◌}
use Rattle.std.specs.Prelude.{Result, Ok, Err, IfOk, IfSome, OnOk, nat_eq, if◌then◌else◌}
use Rattle.registry_rules.specs.History.{History}
use Rattle.registry_rules.specs.Reply.{act_text}
use Rattle.registry_rules.specs.Run.{after_verdict, reply_of}
use Rattle.registry_rules.specs.Verdict.{verdict}
use Rattle.registry_rules.specs.declared.refusal.Refusal.{Refusal}
use Rattle.registry_rules.specs.declared.refusal.Refusal.TheVariants as rules
use Rattle.registry_rules.specs.declared.verdict.Reply.{Reply}
use Rattle.registry_rules.specs.declared.verdict.Reply.TheVariants.{Done, Refused as ReplyRefused}
use Rattle.registry_rules.specs.declared.verdict.Verdict.{Verdict}
use Rattle.registry_rules.specs.declared.verdict.Verdict.TheVariants.{Kept, Refused, New}
use Rattle.registry_http.specs.Responses.{json_response, reply_response}
use Rattle.registry_http.specs.Statuses.{reply_status, rule_status}
use Rattle.registry_store.specs.declared.fault.Fault.TheVariants as faults
use Rattle.registry_http.specs.declared.response.Response.{Response}
use Rattle.registry_http.specs.declared.refusal.HttpRefusal.{HttpRefusal}
use Rattle.registry_http.specs.declared.route.Query.{Query}
use Rattle.registry_http.specs.declared.route.Query.TheVariants as queries
use Rattle.registry_reports.specs.declared.kinds.ReportKind.TheVariants as reports
use Rattle.registry_http.specs.declared.message.Message.{Message}
use Rattle.registry_http.specs.declared.message.Message.TheVariants as messages
use Rattle.registry_http.specs.Messages.{Says}
use Rattle.registry_http.proofs.MessageLemmas.{message_says_one_thing}
use Rattle.registry_desk.specs.declared.fault.DeskFault.{DeskFault}
use Rattle.registry_desk.specs.declared.fault.DeskFault.TheVariants.{NoMemory, Registry}
use Rattle.registry_desk.specs.declared.cache.Cache.{Cache}
use Rattle.registry_desk.specs.declared.serve.Served.{Served}
use Rattle.registry_store.specs.Files.{IsEither}
use Rattle.registry_desk.specs.Acting.{IsQueryResponse, IsResponse, after_message, first_founding_response}
use Rattle.registry_desk.specs.Serving.{IsNext}
use Rattle.registry_desk.specs.Cache.{no_texts, text_for, with_text, after_order, cache_beside, cache_after, AreTextsOf, AreTextsAfter, AreTextsAfterVisit}

-- where nothing is cached, each text is of each history
pub none_are : (h : History) (cache : Cache) → cache ≡ no_texts → AreTextsOf h cache
none_are h cache is = subst (λ (k : Cache). AreTextsOf h k) (sym is) (record { list = tt; census = tt; holders = tt; petitions = tt; numbers = tt; organisations = tt; first_founding = tt })

-- what is taken out is the response to its query
taken_is : (h : History) (cache : Cache) (query : Query) → AreTextsOf h cache → IfSome (text_for cache query) (IsQueryResponse h query)
taken_is h cache queries.List of = of.list
taken_is h cache (queries.Number vendor pid) of = tt
taken_is h cache (queries.Org org) of = tt
taken_is h cache (queries.Petition id) of = tt
taken_is h cache queries.Founding of = tt
taken_is h cache queries.FirstFounding of = of.first_founding
taken_is h cache queries.Head of = tt
taken_is h cache (queries.History n) of = tt
taken_is h cache (queries.Report reports.Census) of = of.census
taken_is h cache (queries.Report reports.Holders) of = of.holders
taken_is h cache (queries.Report reports.Petitions) of = of.petitions
taken_is h cache (queries.Report reports.Numbers) of = of.numbers
taken_is h cache (queries.Report reports.Organisations) of = of.organisations

pub taken_of : (h : History) (cache : Cache) (query : Query) (response : Response) → Some response ≡ text_for cache query → AreTextsOf h cache → IsQueryResponse h query response
taken_of h cache query response is are = subst (λ (text : Option Response). IfSome text (IsQueryResponse h query)) (sym is) (taken_is h cache query are)

-- and nothing is where nothing is cached
none_taken : (cache : Cache) (query : Query) → cache ≡ no_texts → text_for cache query ≡ None
none_taken cache queries.List is = ap (λ (k : Cache). k.list) is
none_taken cache (queries.Number vendor pid) is = refl
none_taken cache (queries.Org org) is = refl
none_taken cache (queries.Petition id) is = refl
none_taken cache queries.Founding is = refl
none_taken cache queries.FirstFounding is = ap (λ (k : Cache). k.first_founding) is
none_taken cache queries.Head is = refl
none_taken cache (queries.History n) is = refl
none_taken cache (queries.Report reports.Census) is = ap (λ (k : Cache). k.census) is
none_taken cache (queries.Report reports.Holders) is = ap (λ (k : Cache). k.holders) is
none_taken cache (queries.Report reports.Petitions) is = ap (λ (k : Cache). k.petitions) is
none_taken cache (queries.Report reports.Numbers) is = ap (λ (k : Cache). k.numbers) is
none_taken cache (queries.Report reports.Organisations) is = ap (λ (k : Cache). k.organisations) is

pub never_taken : (cache : Cache) (query : Query) (response : Response) → Some response ≡ text_for cache query → cache ≡ no_texts → ⊥
never_taken cache query response is none = let never : Some response ≡ None = is ∙ none_taken cache query none in absurd cc

-- one text more or less
with_are : (h : History) (cache : Cache) (query : Query) (text : Option Response) → AreTextsOf h cache → IfSome text (IsQueryResponse h query) → AreTextsOf h (with_text cache query text)
with_are h cache queries.List text of is = record { list = is; census = of.census; holders = of.holders; petitions = of.petitions; numbers = of.numbers; organisations = of.organisations; first_founding = of.first_founding }
with_are h cache (queries.Number vendor pid) text of is = of
with_are h cache (queries.Org org) text of is = of
with_are h cache (queries.Petition id) text of is = of
with_are h cache queries.Founding text of is = of
with_are h cache queries.FirstFounding text of is = record { list = of.list; census = of.census; holders = of.holders; petitions = of.petitions; numbers = of.numbers; organisations = of.organisations; first_founding = is }
with_are h cache queries.Head text of is = of
with_are h cache (queries.History n) text of is = of
with_are h cache (queries.Report reports.Census) text of is = record { list = of.list; census = is; holders = of.holders; petitions = of.petitions; numbers = of.numbers; organisations = of.organisations; first_founding = of.first_founding }
with_are h cache (queries.Report reports.Holders) text of is = record { list = of.list; census = of.census; holders = is; petitions = of.petitions; numbers = of.numbers; organisations = of.organisations; first_founding = of.first_founding }
with_are h cache (queries.Report reports.Petitions) text of is = record { list = of.list; census = of.census; holders = of.holders; petitions = is; numbers = of.numbers; organisations = of.organisations; first_founding = of.first_founding }
with_are h cache (queries.Report reports.Numbers) text of is = record { list = of.list; census = of.census; holders = of.holders; petitions = of.petitions; numbers = is; organisations = of.organisations; first_founding = of.first_founding }
with_are h cache (queries.Report reports.Organisations) text of is = record { list = of.list; census = of.census; holders = of.holders; petitions = of.petitions; numbers = of.numbers; organisations = is; first_founding = of.first_founding }

the_same : (h x : History) → IsEither h h x → x ≡ h
the_same h x (inl is) = is
the_same h x (inr is) = is

-- ---- orders

-- no refusal has the status of an accepted order
refused_status : (refusal : Refusal) → nat_eq (rule_status refusal) 200 ≡ false
refused_status rules.NotCurator = refl
refused_status rules.NotKeeper = refl
refused_status rules.NoOrg = refl
refused_status rules.NoPetition = refl
refused_status rules.NoVendor = refl
refused_status rules.LicenceUnknown = refl
refused_status rules.ImportTooLong = refl
refused_status _ = refl

reply_has_status : (reply : Reply) → (reply_response reply).status ≡ reply_status reply
unfolding reply_response json_response
reply_has_status reply = refl

-- the first founding is left by an accepted order, and all by a refused one
first_stays : (h x : History) (text : Option Response) → x.founding ≡ h.founding → IfSome text (IsQueryResponse h queries.FirstFounding) → IfSome text (IsQueryResponse x queries.FirstFounding)
first_stays h x None same is = tt
first_stays h x (Some response) same is = is ∙ ap first_founding_response (sym same)

left_by : (cache : Cache) (response : Response) (b : Bool) → nat_eq response.status 200 ≡ b → after_order cache response ≡ (if b then record no_texts { first_founding = cache.first_founding } else cache)
left_by cache response b is = ap (λ (b : Bool). if b then record no_texts { first_founding = cache.first_founding } else cache) is

accepted_leaves : (h x : History) (cache : Cache) (response : Response) → AreTextsOf h cache → response.status ≡ 200 → x.founding ≡ h.founding → AreTextsOf x (after_order cache response)
accepted_leaves h x cache response of is same =
    subst (λ (k : Cache). AreTextsOf x k) (sym (left_by cache response true (ap (λ (status : ℕ). nat_eq status 200) is)))
    (record { list = tt; census = tt; holders = tt; petitions = tt; numbers = tt; organisations = tt; first_founding = first_stays h x cache.first_founding same of.first_founding })

refused_leaves : (h x : History) (cache : Cache) (response : Response) (refusal : Refusal) → AreTextsOf h cache → response.status ≡ rule_status refusal → x ≡ h → AreTextsOf x (after_order cache response)
refused_leaves h x cache response refusal of is same =
    subst (λ (k : Cache). AreTextsOf x k) (sym (left_by cache response false (ap (λ (status : ℕ). nat_eq status 200) is ∙ refused_status refusal)))
    (subst (λ (y : History). AreTextsOf y cache) (sym same) of)

order_leaves : (h x : History) (cache : Cache) (response : Response) (v : Verdict) → AreTextsOf h cache → response ≡ reply_response (reply_of v) → IsEither h (after_verdict h v) x → AreTextsOf x (after_order cache response)
order_leaves h x cache response (Kept text) of is either =
    accepted_leaves h x cache response of (ap (λ (r : Response). r.status) is ∙ reply_has_status (Done text)) (ap (λ (y : History). y.founding) (the_same h x either))
order_leaves h x cache response (Refused refusal) of is either =
    refused_leaves h x cache response refusal of (ap (λ (r : Response). r.status) is ∙ reply_has_status (ReplyRefused refusal)) (the_same h x either)
order_leaves h x cache response (New deed) of is either =
    let same : x.founding ≡ h.founding = elim either [
      | inl first ↦ ap (λ (y : History). y.founding) first
      | inr next ↦ ap (λ (y : History). y.founding) next
    ] in
    accepted_leaves h x cache response of (ap (λ (r : Response). r.status) is ∙ reply_has_status (Done (act_text deed.act))) same

-- what is cached after a message is of both histories that it may lead to
after_are : (h x : History) (cache : Cache) (done : Result Response DeskFault) (said : Result Message HttpRefusal) → AreTextsOf h cache → IfOk done (IsResponse h said)
    → IsEither h (after_message h said) x → AreTextsOf x (cache_after (cache_beside cache said) done said)
after_are h x cache (Err fault) said of is either = none_are x no_texts refl
after_are h x cache (Ok response) (Err refusal) of is either = subst (λ (y : History). AreTextsOf y cache) (sym (the_same h x either)) of
after_are h x cache (Ok response) (Ok (messages.Query query)) of is either =
    subst (λ (y : History). AreTextsOf y (with_text (with_text cache query None) query (Some response))) (sym (the_same h x either))
    (with_are h (with_text cache query None) query (Some response) (with_are h cache query None of tt) is)
after_are h x cache (Ok response) (Ok (messages.Request request)) of is either = order_leaves h x cache response (verdict h request) of is either

only_response : (P : Response → Type 0) (Q : Type 0) (done : Result Response DeskFault) → IfOk done (λ response. P response × Q) → IfOk done P
only_response P Q (Ok response) is = is.0
only_response P Q (Err fault) is = tt

either_by : (h x : History) (bytes : List ℕ) (said : Result Message HttpRefusal) → Says h.founding.vendor bytes said → IsNext h bytes NoMemory x → IsEither h (after_message h said) x
either_by h x bytes said says (inl same) = inl same.1
either_by h x bytes said says (inr it) = inr (it.2 ∙ ap (after_message h) (message_says_one_thing h.founding.vendor bytes it.0 said it.1 says))

-- the same by the bytes of the message
pub texts_after : (Q : Type 0) (h : History) (bytes : List ℕ) (cache mid new : Cache) (done : Result Response DeskFault) (said : Result Message HttpRefusal)
    → mid ≡ cache_beside cache said → new ≡ cache_after mid done said → Says h.founding.vendor bytes said → AreTextsOf h cache
    → IfOk done (λ response. IsResponse h said response × Q) → AreTextsAfter h bytes new
texts_after Q h bytes cache mid new done said beside after says of is = λ x next.
    subst (λ (k : Cache). AreTextsOf x k) (sym (after ∙ ap (λ (k : Cache). cache_after k done said) beside))
    (after_are h x cache done said of (only_response (IsResponse h said) Q done is) (either_by h x bytes said says next))

pub only_done : (P Q : Type 0) (said : Result Message HttpRefusal) → OnOk said (P × Q) → OnOk said P
only_done P Q (Ok message) is = is.0
only_done P Q (Err refusal) is = tt

-- nothing is cached over a poisoned registry
pub none_after : (cache mid new : Cache) (done : Result Response DeskFault) (said : Result Message HttpRefusal)
    → mid ≡ cache_beside cache said → new ≡ cache_after mid done said → cache ≡ no_texts → OnOk said (done ≡ Err (Registry faults.Poisoned)) → new ≡ no_texts
none_after cache mid new (Err fault) said beside after none away = after
none_after cache mid new (Ok response) (Err refusal) beside after none away = after ∙ (beside ∙ none)
none_after cache mid new (Ok response) (Ok (messages.Query query)) beside after none away = absurd cc
none_after cache mid new (Ok response) (Ok (messages.Request request)) beside after none away = absurd cc

-- the history after a connection is one that its bytes lead to
pub texts_after_visit : (h : History) (bytes text : List ℕ) (served : Served) (cache : Cache) → AreTextsAfter h bytes cache → AreTextsAfterVisit h (record { bytes = bytes; text = text; end = Ok served }) cache
texts_after_visit h bytes text served cache are = λ next turn. elim turn [
  | inl it ↦ are next (inr (it.said, it.says, it.next_is, λ other. absurd (other refl)))
  | inr it ↦ are next it.next_is
]
