-- The response to a message over a history, and the history after it.
use Rattle.std.specs.Prelude.{◌≡◌, ◌⊎◌, ⊤, true, Some, None, Result, Ok, Err, IfOk, IfErr, ℕ, List, [], ◌∷◌, ◌++◌, if◌then◌else◌}
use Rattle.sqlite.specs.Store.{Ghosts}
use Rattle.sqlite.specs.State.{HasCleanDisk}
use Rattle.usbids_text.specs.Entries.{TopEntry}
use Rattle.usbids_text.specs.Writing.{written}
use Rattle.registry_rules.specs.History.{History}
use Rattle.registry_rules.specs.Number.{number}
use Rattle.registry_rules.specs.Query.{is_reserved, has_vendor, org_of, petition_of, reason_of, petition_times}
use Rattle.registry_rules.specs.Records.{entry_of}
use Rattle.registry_rules.specs.Run.{after_one, reply_to}
use Rattle.registry_rules.specs.Accepted.{AreValid}
use Rattle.registry_rules.specs.FactsOf.{IsCurrentFounding}
use Rattle.registry_rules.specs.Texts.{IsLicences}
use Rattle.registry_rules.specs.declared.founding.Founding.{Founding}
use Rattle.registry_rules.specs.declared.record.PetitionTimes.{PetitionTimes}
use Rattle.registry_rules.specs.declared.record.Vendor.{Vendor}
use Rattle.registry_rules.specs.declared.refusal.Refusal.TheVariants.{NoVendor}
use Rattle.registry_rules.specs.declared.verdict.Reply.TheVariants.{Refused}
use Rattle.registry_reports.specs.History.{IsListing}
use Rattle.registry_reports.specs.declared.kinds.ReportKind.{ReportKind}
use Rattle.registry_tables.specs.Lists.{IsVendorList}
use Rattle.registry_tables.specs.Rows.{newest}
use Rattle.registry_store.specs.declared.fault.Fault.TheVariants as faults
use Rattle.registry_store.specs.declared.registry.Registry.{Registry as TheRegistry}
use Rattle.registry_store.specs.Files.{IsEither}
use Rattle.registry_store.specs.Promise.{Leaves, NotesForeign, Represents, is_poisoned, poisoned_by, state_of}
use Rattle.registry_store.specs.Queries.{IsUntouched}
use Rattle.registry_views.specs.Records.{IsRecordPage}
use Rattle.registry_views.specs.Reports.{IsReport}
use Rattle.registry_http.specs.declared.response.Response.{Response}
use Rattle.registry_http.specs.declared.refusal.HttpRefusal.{HttpRefusal}
use Rattle.registry_http.specs.declared.route.Query.{Query}
use Rattle.registry_http.specs.declared.route.Query.TheVariants as queries
use Rattle.registry_http.specs.declared.message.Message.{Message}
use Rattle.registry_http.specs.declared.message.Message.TheVariants as messages
use Rattle.registry_wire.specs.Record.{founding_line}
use Rattle.registry_http.specs.Responses.{page_response, refusal_response, reply_response, text_response}
use Rattle.registry_http.specs.Foundings.{founding_response}
use Rattle.registry_http.specs.Resources.{head_response, number_response, org_response, petition_response}
use Rattle.registry_tables.specs.Head.{IsHead, digest_at}
use Rattle.registry_tables.specs.declared.head.Head.{Head}
use Rattle.registry_desk.specs.declared.fault.DeskFault.{DeskFault}
use Rattle.registry_desk.specs.declared.fault.DeskFault.TheVariants.{Registry, NoMemory}
use Rattle.registry_desk.specs.Faults.{fault_of_done}

-- a number of a vendor that the query names; refusal 34 if the registry has no such vendor
abbrev pub vendor_number_at : History → ℕ → ℕ → Response
vendor_number_at h vid pid =
    if has_vendor h vid then number_response (Some vid) pid (is_reserved h (number vid pid)) (entry_of h (number vid pid)) else reply_response (Refused NoVendor)

-- the response has the list of the held numbers, without a stamp
abbrev pub IsListResponse : History → Response → Type 0
IsListResponse h response = (doc : List TopEntry) × IsListing h doc × (response ≡ text_response (written doc None))

-- the response has the report of this kind
abbrev pub IsReportResponse : History → ReportKind → Response → Type 0
IsReportResponse h kind response = (text : List ℕ) × IsReport kind h text × (response ≡ text_response text)

-- the response has the founding with the licences of now, and all vendors
pub record IsFoundingResponse (h : History) (response : Response) : Type 0 where
  pub founding : Founding
  pub current : IsCurrentFounding h founding
  pub sorted : IsLicences founding.licences
  pub vendors : List Vendor
  pub all_vendors : IsVendorList h vendors
  pub response_is : response ≡ founding_response founding vendors

-- the first line of the record: the founding with its first licences
abbrev pub first_founding_response : Founding → Response
first_founding_response founding = text_response (founding_line founding ++ 10 ∷ [])

-- the response has the petition, the reason why it was declined and, if the requests of the history have valid fields, its times
abbrev pub IsPetitionResponse : History → ℕ → Response → Type 0
IsPetitionResponse h id response =
    (times : PetitionTimes) × (AreValid h.deeds → times ≡ petition_times h id) × (response ≡ petition_response h.founding.vendor id (petition_of h id) (reason_of h id) times)

-- the response has the head of the record, if its requests have valid fields
abbrev pub IsHeadResponse : History → Response → Type 0
IsHeadResponse h response = (head : Head) × IsHead h head × (response ≡ head_response head.count head.digest head.time)

-- the response has the page of the record after the first n accepted requests, and the digest after these, if they have valid fields
abbrev pub IsHistoryResponse : History → ℕ → Response → Type 0
IsHistoryResponse h n response = (text : List ℕ) × IsRecordPage h n text × (AreValid h.deeds → response ≡ page_response text (digest_at h n))

-- the response to a query; a number without a vendor is one of the founding vendor
abbrev pub IsQueryResponse : History → Query → Response → Type 0
IsQueryResponse h queries.List response = IsListResponse h response
IsQueryResponse h (queries.Number None pid) response =
    response ≡ number_response None pid (is_reserved h (number h.founding.vendor pid)) (entry_of h (number h.founding.vendor pid))
IsQueryResponse h (queries.Number (Some vid) pid) response = response ≡ vendor_number_at h vid pid
IsQueryResponse h (queries.Org org) response = response ≡ org_response (org_of h org)
IsQueryResponse h (queries.Petition id) response = IsPetitionResponse h id response
IsQueryResponse h (queries.Report kind) response = IsReportResponse h kind response
IsQueryResponse h queries.Founding response = IsFoundingResponse h response
IsQueryResponse h queries.FirstFounding response = response ≡ first_founding_response h.founding
IsQueryResponse h queries.Head response = IsHeadResponse h response
IsQueryResponse h (queries.History n) response = IsHistoryResponse h n response

-- the response to what a message says, over a history
abbrev pub IsResponse : History → Result Message HttpRefusal → Response → Type 0
IsResponse h (Err refusal) response = response ≡ refusal_response refusal
IsResponse h (Ok (messages.Query query)) response = IsQueryResponse h query response
IsResponse h (Ok (messages.Request request)) response = response ≡ reply_response (reply_to h request)

-- the history after a message
abbrev pub after_message : History → Result Message HttpRefusal → History
after_message h (Err refusal) = h
after_message h (Ok (messages.Query query)) = h
after_message h (Ok (messages.Request request)) = after_one h request

-- the faults that a sound registry may have over a clean disk
abbrev pub IsOfSoundRegistry : DeskFault → Type 0
IsOfSoundRegistry NoMemory = ⊤
IsOfSoundRegistry (Registry faults.Store) = ⊤
IsOfSoundRegistry (Registry faults.NoMemory) = ⊤
IsOfSoundRegistry (Registry faults.Foreign) = ⊥
IsOfSoundRegistry (Registry faults.Taken) = ⊥
IsOfSoundRegistry (Registry faults.Poisoned) = ⊥

-- the faults of a query of a sound registry over a clean disk: memory ran out, which is no fault of the registry, or the store
-- failed
abbrev pub IsOfQuery : DeskFault → Type 0
IsOfQuery fault = (fault ≡ NoMemory) ⊎ (fault ≡ Registry faults.Store)

module _ {S : Type 0} {g : Ghosts S} (it new : TheRegistry S g) where
  -- A query over HTTP: over a clean disk the response is that of each history that the registry represented, and a fault is
  -- one of a query. A poisoned registry gives Poisoned and stays the same value, and no other gives that. If the registry found
  -- the rows of no history, the fault says so, and there is no response.
  pub record IsAsked (result : Result Response DeskFault) (Is : History → Response → Type 0) : Type 0 where
    pub when_poisoned : is_poisoned it ≡ true → (result ≡ Err (Registry faults.Poisoned)) × (new ≡ it)
    pub only_poisoned : result ≡ Err (Registry faults.Poisoned) → is_poisoned it ≡ true
    pub answered : (h : History) → Represents it h → HasCleanDisk (state_of new) → IfOk result (Is h)
    pub kind : (h : History) → Represents it h → HasCleanDisk (state_of new) → IfErr result IsOfQuery
    pub left : IsUntouched it new
    pub notes : NotesForeign it new (fault_of_done result)

module _ {S : Type 0} {g : Ghosts S} where
  -- After a fault of the registry it is poisoned by this fault, or it represents the history before the message, and the
  -- message changes none: so an order that changes it gets such a fault only from a registry that acted on it. Memory that runs
  -- out elsewhere does not poison it.
  abbrev pub EndsAt : DeskFault → TheRegistry S g → History → History → Type 0
  EndsAt NoMemory it h next = Represents it h ⊎ Represents it next
  EndsAt (Registry fault) it h next = (poisoned_by it ≡ Some fault) ⊎ (Represents it h × (next ≡ h))

  -- if this is a fault of the registry, it has poisoned it
  abbrev pub HasPoisoned : DeskFault → TheRegistry S g → Type 0
  HasPoisoned NoMemory it = ⊤
  HasPoisoned (Registry fault) it = poisoned_by it ≡ Some fault

  -- The fault of a message that got refusal 30 or 31: memory ran out; or an order has poisoned the registry by this fault, also
  -- one that the rules would refuse; or the store failed at a query.
  abbrev pub IsFaultFor : Result Message HttpRefusal → DeskFault → TheRegistry S g → Type 0
  IsFaultFor (Err refusal) fault it = fault ≡ NoMemory
  IsFaultFor (Ok (messages.Query query)) fault it = IsOfQuery fault
  IsFaultFor (Ok (messages.Request request)) fault it = HasPoisoned fault it

  -- A message got refusal 30 or 31. A crash leaves one history or the other, and a registry that is not poisoned represents
  -- one of them.
  pub record IsLeftUnavailable (fault : DeskFault) (it : TheRegistry S g) (h next : History) : Type 0 where
    pub leaves : Leaves newest (state_of it) (IsEither h next)
    pub ends : EndsAt fault it h next

-- whether a message has one response: a petition, and a page or the head of the record, need requests with valid fields
abbrev pub IsDetermined : History → Result Message HttpRefusal → Type 0
IsDetermined h (Err refusal) = Unit {0}
IsDetermined h (Ok (messages.Request request)) = Unit {0}
IsDetermined h (Ok (messages.Query (queries.History n))) = AreValid h.deeds
IsDetermined h (Ok (messages.Query queries.Head)) = AreValid h.deeds
IsDetermined h (Ok (messages.Query queries.List)) = Unit {0}
IsDetermined h (Ok (messages.Query (queries.Number vendor pid))) = Unit {0}
IsDetermined h (Ok (messages.Query (queries.Org org))) = Unit {0}
IsDetermined h (Ok (messages.Query (queries.Petition id))) = AreValid h.deeds
IsDetermined h (Ok (messages.Query queries.Founding)) = Unit {0}
IsDetermined h (Ok (messages.Query queries.FirstFounding)) = Unit {0}
IsDetermined h (Ok (messages.Query (queries.Report kind))) = Unit {0}

-- a history has one response to what a message says
abbrev pub HasOneResponse : Type 0
HasOneResponse = (h : History) (said : Result Message HttpRefusal) (a b : Response) → IsDetermined h said → IsResponse h said a → IsResponse h said b → a ≡ b
