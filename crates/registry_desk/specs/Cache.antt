-- The last list, the last reports and the first founding, which a server keeps.
--
-- A text that is cached is the response to its query over the history. A query keeps it. A fault drops all; an order that is
-- accepted drops all but the first founding, which no order changes; an order that is refused changes and drops nothing.
use Rattle.std.specs.Prelude.{ℕ, List, Option, Some, None, Result, Ok, Err, IfSome, nat_eq, if◌then◌else◌}
use Rattle.registry_rules.specs.History.{History}
use Rattle.registry_http.specs.declared.response.Response.{Response}
use Rattle.registry_http.specs.declared.refusal.HttpRefusal.{HttpRefusal}
use Rattle.registry_http.specs.declared.route.Query.{Query}
use Rattle.registry_http.specs.declared.route.Query.TheVariants as queries
use Rattle.registry_reports.specs.declared.kinds.ReportKind.TheVariants as reports
use Rattle.registry_http.specs.declared.message.Message.{Message}
use Rattle.registry_http.specs.declared.message.Message.TheVariants as messages
use Rattle.registry_desk.specs.declared.fault.DeskFault.{DeskFault}
use Rattle.registry_desk.specs.declared.fault.DeskFault.TheVariants.{NoMemory}
use Rattle.registry_desk.specs.declared.cache.Cache.{Cache}
use Rattle.registry_desk.specs.Acting.{IsQueryResponse}
use Rattle.registry_desk.specs.Serving.{IsNext}
use Rattle.registry_desk.specs.Server.{Visit, IsTurn}

-- nothing is cached
abbrev pub no_texts : Cache
no_texts = record { list = None; census = None; holders = None; petitions = None; numbers = None; organisations = None; first_founding = None }

-- the response that is cached for a query
abbrev pub text_for : Cache → Query → Option Response
text_for cache queries.List = cache.list
text_for cache (queries.Number vendor pid) = None
text_for cache (queries.Org org) = None
text_for cache (queries.Petition id) = None
text_for cache queries.Founding = None
text_for cache queries.FirstFounding = cache.first_founding
text_for cache queries.Head = None
text_for cache (queries.History n) = None
text_for cache (queries.Report reports.Census) = cache.census
text_for cache (queries.Report reports.Holders) = cache.holders
text_for cache (queries.Report reports.Petitions) = cache.petitions
text_for cache (queries.Report reports.Numbers) = cache.numbers
text_for cache (queries.Report reports.Organisations) = cache.organisations

-- this is cached for a query for the list, a report or the first founding
abbrev pub with_text : Cache → Query → Option Response → Cache
with_text cache queries.List text = record cache { list = text }
with_text cache (queries.Number vendor pid) text = cache
with_text cache (queries.Org org) text = cache
with_text cache (queries.Petition id) text = cache
with_text cache queries.Founding text = cache
with_text cache queries.FirstFounding text = record cache { first_founding = text }
with_text cache queries.Head text = cache
with_text cache (queries.History n) text = cache
with_text cache (queries.Report reports.Census) text = record cache { census = text }
with_text cache (queries.Report reports.Holders) text = record cache { holders = text }
with_text cache (queries.Report reports.Petitions) text = record cache { petitions = text }
with_text cache (queries.Report reports.Numbers) text = record cache { numbers = text }
with_text cache (queries.Report reports.Organisations) text = record cache { organisations = text }

-- what is cached beside the response to a message, while that is written
abbrev pub cache_beside : Cache → Result Message HttpRefusal → Cache
cache_beside cache (Err refusal) = cache
cache_beside cache (Ok (messages.Query query)) = with_text cache query None
cache_beside cache (Ok (messages.Request request)) = cache

-- what is cached after an order: with status 200 it was accepted, and drops all but the first founding
abbrev pub after_order : Cache → Response → Cache
after_order cache response = if nat_eq response.status 200 then record no_texts { first_founding = cache.first_founding } else cache

-- what is cached after a message: a fault drops all
abbrev pub cache_after : Cache → Result Response DeskFault → Result Message HttpRefusal → Cache
cache_after cache (Err fault) said = no_texts
cache_after cache (Ok response) (Err refusal) = cache
cache_after cache (Ok response) (Ok (messages.Query query)) = with_text cache query (Some response)
cache_after cache (Ok response) (Ok (messages.Request request)) = after_order cache response

-- each text that is cached is the response to its query over the history
pub record AreTextsOf (h : History) (cache : Cache) : Type 0 where
  pub list : IfSome cache.list (IsQueryResponse h queries.List)
  pub census : IfSome cache.census (IsQueryResponse h (queries.Report reports.Census))
  pub holders : IfSome cache.holders (IsQueryResponse h (queries.Report reports.Holders))
  pub petitions : IfSome cache.petitions (IsQueryResponse h (queries.Report reports.Petitions))
  pub numbers : IfSome cache.numbers (IsQueryResponse h (queries.Report reports.Numbers))
  pub organisations : IfSome cache.organisations (IsQueryResponse h (queries.Report reports.Organisations))
  pub first_founding : IfSome cache.first_founding (IsQueryResponse h queries.FirstFounding)

-- the texts are of the history that these bytes lead to, whether their message was acted on or not
abbrev pub AreTextsAfter : History → List ℕ → Cache → Type 0
AreTextsAfter h bytes cache = (next : History) → IsNext h bytes NoMemory next → AreTextsOf next cache

-- the texts are of the history that this connection leads to
abbrev pub AreTextsAfterVisit : History → Visit → Cache → Type 0
AreTextsAfterVisit h visit cache = (next : History) → IsTurn h visit next → AreTextsOf next cache
