-- The response to a message over a log that several machines share.
--
-- `lines` is what the log keeps. `c` and `c_new` are the places in it before the message and after it, and h is the history that
-- the registry followed the log with.
use Rattle.std.specs.Prelude.{◌≡◌, ◌⊎◌, Result, Ok, IsErr, IsOk}
use Rattle.sqlite.specs.Store.{Ghosts}
use Rattle.registry_rules.specs.History.{History}
use Rattle.registry_laws.specs.Machines.{LeadsToLater}
use Rattle.registry_store.specs.declared.fault.Fault.TheVariants as faults
use Rattle.registry_store.specs.declared.registry.Registry.{Registry}
use Rattle.registry_http.specs.declared.message.Message.{Message}
use Rattle.registry_http.specs.declared.message.Message.TheVariants as messages
use Rattle.registry_http.specs.declared.route.Query.{Query}
use Rattle.registry_http.specs.declared.refusal.HttpRefusal.{HttpRefusal}
use Rattle.registry_http.specs.declared.response.Response.{Response}
use Rattle.registry_desk.specs.Acting.{IsResponse, after_message}
use Rattle.registry_desk.specs.Cache.{AreTextsOf, cache_beside}
use Rattle.registry_desk.specs.declared.cache.Cache.{Cache}
use Rattle.shared_log.specs.Calls.{LogLines}
use Rattle.shared_log.specs.declared.log.Log.{Ghosts as LogGhosts}
use Rattle.shared_registry.specs.Follows.{Follows, HasFollowed, IsLeft, WasWhole}
use Rattle.shared_registry.specs.declared.cursor.Cursor.{Cursor}
use Rattle.shared_registry.specs.declared.stop.ShareStop.{ShareStop}
use Rattle.shared_registry.specs.declared.stop.ShareStop.TheVariants as stops

module _ {L : Type 0} (lines : L → LogLines) (c c_new : Cursor L) (h : History) where
  -- The response is that of a history which was the whole log at some instant of the call, and the next history is the one after the
  -- message. The log is not asked for a message that is refused by itself.
  pub record IsAnswerOver (said : Result Message HttpRefusal) (response : Response) (next : History) : Type 0 where
    pub before : History
    pub leads : LeadsToLater h before
    pub whole : IsOk said → WasWhole (lines c.log) (lines c_new.log) before
    pub unasked : IsErr said → c_new ≡ c
    pub response_is : IsResponse before said response
    pub next_is : next ≡ after_message before said

module _ {S : Type 0} {g : Ghosts S} {L : Type 0} (l : LogGhosts L) (lines : L → LogLines) (c : Cursor L) (it_new : Registry S g) (c_new : Cursor L) (h : History) where
  -- A message got this response, and the registry follows the log with what it did. The texts that are cached beside the response are
  -- those of the history before the message.
  pub record Answers (said : Result Message HttpRefusal) (response : Response) (cache : Cache) : Type 0 where
    pub next : History
    pub answer : IsAnswerOver lines c c_new h said response next
    pub follows : Follows l lines it_new c_new next
    pub texts : Cache
    pub texts_of : AreTextsOf answer.before texts
    pub beside : cache ≡ cache_beside texts said

  -- Why a message got no response of its own, and what is left: memory ran out, or it is no message that is refused by itself. The
  -- store may fail at a query once the whole log was acted on, which leaves the registry as it was then.
  abbrev pub IsUnanswered : Result Message HttpRefusal → ShareStop → Type 0
  IsUnanswered said stop = (IsLeft l lines c it_new c_new h stop × ((stop ≡ stops.NoMemory) ⊎ IsOk said)) ⊎ ((query : Query) × (said ≡ Ok (messages.Query query)) × HasFollowed l lines c it_new c_new h × (stop ≡ stops.Registry faults.Store))
