-- What serving one message over a shared log writes, and what the registry then has.
--
-- The response is the one that is written, and the stop is why it is not that of the message, if it is not.
use Rattle.std.specs.Prelude.{◌≡◌, ◌⊎◌, ⊤, ℕ, List, Option, None, Some, Result, Ok, Err}
use Rattle.sqlite.specs.Store.{Ghosts}
use Rattle.byte_streams.specs.declared.streams.Broken.{Broken}
use Rattle.registry_rules.specs.History.{History}
use Rattle.registry_store.specs.declared.fault.Fault.TheVariants as faults
use Rattle.registry_store.specs.declared.registry.Registry.{Registry}
use Rattle.registry_http.specs.declared.message.Message.{Message}
use Rattle.registry_http.specs.declared.message.Message.TheVariants as messages
use Rattle.registry_http.specs.declared.route.Query.{Query}
use Rattle.registry_http.specs.declared.refusal.HttpRefusal.{HttpRefusal}
use Rattle.registry_http.specs.declared.response.Response.{Response}
use Rattle.registry_http.specs.Messages.{Says}
use Rattle.registry_http.specs.Responses.{IsInPlaceOf, refusal_response, unavailable_response}
use Rattle.registry_desk.specs.declared.cache.Cache.{Cache}
use Rattle.registry_desk.specs.declared.fault.DeskFault.{DeskFault}
use Rattle.registry_desk.specs.declared.fault.DeskFault.TheVariants.{NoMemory}
use Rattle.registry_desk.specs.Cache.{AreTextsOf, no_texts}
use Rattle.shared_log.specs.Calls.{LogLines}
use Rattle.shared_log.specs.declared.log.Log.{Ghosts as LogGhosts}
use Rattle.shared_registry.specs.declared.cursor.Cursor.{Cursor}
use Rattle.shared_registry.specs.declared.stop.ShareStop.{ShareStop}
use Rattle.shared_registry.specs.declared.stop.ShareStop.TheVariants as stops
use Rattle.shared_desk.specs.declared.serve.Turn.{Turn}
use Rattle.shared_registry.specs.Follows.{Follows, HasFollowed, IsLeft}
use Rattle.shared_desk.specs.Answers.{IsAnswerOver}
use Rattle.shared_desk.specs.Refusals.{unavailable_for}

-- What is written for what was done: the response, or refusal 31 if memory ran out for its head; or the refusal for what stopped
-- the message.
abbrev pub IsToldOverLog : Result Response ShareStop → Response → Option ShareStop → Type 0
IsToldOverLog (Ok wanted) response stop = IsInPlaceOf response wanted × (stop ≡ None)
IsToldOverLog (Err why) response stop = (response ≡ unavailable_response (unavailable_for why)) × (stop ≡ Some why)

-- what stopped a message is told by its refusal
abbrev pub IsToldOverLogBy : Option ShareStop → Response → Type 0
IsToldOverLogBy None response = ⊤
IsToldOverLogBy (Some stop) response = response ≡ unavailable_response (unavailable_for stop)

-- what the cache keeps of what was done: whatever stopped a message drops all
abbrev pub done_for_cache : Result Response ShareStop → Result Response DeskFault
done_for_cache (Ok response) = Ok response
done_for_cache (Err stop) = Err NoMemory

-- what stopped the message
abbrev pub stop_behind : Result Turn Broken → Option ShareStop
stop_behind (Ok turn) = turn.stop
stop_behind (Err broken) = None

-- a message that is refused by itself gets its refusal, or refusal 31 if memory ran out
pub record IsRefusedAlone (bytes : List ℕ) (response : Response) : Type 0 where
  pub founding : ℕ
  pub refusal : HttpRefusal
  pub says : Says founding bytes (Err refusal)
  pub written : IsInPlaceOf response (refusal_response refusal)

-- Over a poisoned registry an order or a query is stopped by that, and any message by a lack of memory.
abbrev pub IsTurnedAwayOverLog : List ℕ → Response → Option ShareStop → Type 0
IsTurnedAwayOverLog bytes response None = IsRefusedAlone bytes response
IsTurnedAwayOverLog bytes response (Some stop) = (stop ≡ stops.Registry faults.Poisoned) ⊎ (stop ≡ stops.NoMemory)

module _ {S : Type 0} {g : Ghosts S} {L : Type 0} (l : LogGhosts L) (lines : L → LogLines) (c : Cursor L) (it_new : Registry S g) (c_new : Cursor L) (h : History) where
  -- the response is written in place of the answer to all bytes, and the texts are those of the history after it
  pub record IsAnsweredBeside (bytes : List ℕ) (response : Response) (cache : Cache) : Type 0 where
    pub said : Result Message HttpRefusal
    pub says : Says h.founding.vendor bytes said
    pub wanted : Response
    pub next : History
    pub answer : IsAnswerOver lines c c_new h said wanted next
    pub written : IsInPlaceOf response wanted
    pub follows : Follows l lines it_new c_new next
    pub texts : AreTextsOf next cache

  -- why the message in these bytes got no response of its own, and what is left: memory ran out, or they are an order or a query
  abbrev pub IsUnserved : List ℕ → ShareStop → Type 0
  IsUnserved bytes stop = (IsLeft l lines c it_new c_new h stop × ((stop ≡ stops.NoMemory) ⊎ ((message : Message) × Says h.founding.vendor bytes (Ok message))))
      ⊎ ((query : Query) × Says h.founding.vendor bytes (Ok (messages.Query query)) × HasFollowed l lines c it_new c_new h × (stop ≡ stops.Registry faults.Store))

  -- one message, with the texts that are cached after it
  abbrev pub IsServedBeside : List ℕ → Response → Cache → Option ShareStop → Type 0
  IsServedBeside bytes response cache None = IsAnsweredBeside bytes response cache
  IsServedBeside bytes response cache (Some stop) = IsUnserved bytes stop × (cache ≡ no_texts)
