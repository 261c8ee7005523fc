-- Serving one message over a log.
use Rattle.std.proofs.Common.{◌≡◌, ◌∙◌, ℕ, List, [], ◌∷◌, Option, inl, inr, refl, sym, ap, subst}
use Rattle.std.specs.Prelude.{Result, Ok, Err, IfErr, IfOk, OnOk}
use Rattle.sqlite.specs.Store.{Ghosts}
use Rattle.registry_rules.specs.History.{History}
use Rattle.registry_rules.specs.Run.{after, after_one, after_verdict}
use Rattle.registry_rules.specs.Verdict.{verdict}
use Rattle.registry_rules.specs.declared.founding.Founding.{Founding}
use Rattle.registry_rules.specs.declared.order.Request.{Request}
use Rattle.registry_rules.specs.declared.verdict.Verdict.{Verdict}
use Rattle.registry_rules.specs.declared.verdict.Verdict.TheVariants.{Kept, Refused, New}
use Rattle.registry_laws.specs.Machines.{LeadsToLater}
use Rattle.registry_store.specs.declared.fault.Fault.TheVariants as faults
use Rattle.registry_store.specs.declared.registry.Registry.{Registry}
use Rattle.registry_http.specs.declared.message.Message.{Message}
use Rattle.registry_http.specs.declared.message.Message.TheVariants as messages
use Rattle.registry_http.specs.declared.refusal.HttpRefusal.{HttpRefusal}
use Rattle.registry_http.specs.declared.response.Response.{Response}
use Rattle.registry_http.specs.Messages.{Says}
use Rattle.registry_http.specs.Responses.{IsInPlaceOf, refusal_response}
use Rattle.registry_desk.specs.declared.cache.Cache.{Cache}
use Rattle.registry_desk.specs.Acting.{after_message}
use Rattle.registry_desk.specs.Cache.{AreTextsOf, cache_after}
use Rattle.registry_desk.proofs.CacheLemmas.{texts_after}
use Rattle.shared_log.specs.Calls.{LogLines}
use Rattle.shared_log.specs.declared.log.Log.{Ghosts as LogGhosts}
use Rattle.shared_registry.specs.Lines.{fault_in_call}
use Rattle.shared_registry.specs.declared.cursor.Cursor.{Cursor}
use Rattle.shared_registry.specs.declared.stop.ShareStop.{ShareStop}
use Rattle.shared_registry.specs.declared.stop.ShareStop.TheVariants as stops
use Rattle.shared_registry.proofs.LineLemmas.{leads_nowhere}
use Rattle.shared_desk.specs.Answers.{Answers, IsUnanswered}
use Rattle.shared_desk.specs.Refusals.{fault_behind_stop}
use Rattle.shared_desk.specs.Serving.{IsServedBeside, IsToldOverLog, IsToldOverLogBy, IsTurnedAwayOverLog, IsUnserved, done_for_cache}

-- ---- histories

founding_by : (h : History) (v : Verdict) → (after_verdict h v).founding ≡ h.founding
founding_by h (Kept text) = refl
founding_by h (Refused refusal) = refl
founding_by h (New deed) = refl

founding_after : (h : History) (requests : List Request) → (after h requests).founding ≡ h.founding
founding_after h [] = refl
founding_after h (r ∷ requests) = founding_after (after_one h r) requests ∙ founding_by h (verdict h r)

-- requests change no founding
pub same_founding : (h x : History) → LeadsToLater h x → x.founding ≡ h.founding
same_founding h x leads = ap (λ (y : History). y.founding) leads.1 ∙ founding_after h leads.0

-- a message leads to the history after it
pub leads_by_message : (h : History) (said : Result Message HttpRefusal) → LeadsToLater h (after_message h said)
leads_by_message h (Err refusal) = leads_nowhere h
leads_by_message h (Ok (messages.Query query)) = leads_nowhere h
leads_by_message h (Ok (messages.Request r)) = (r ∷ [], refl)

-- ---- what is told

pub told_by : (done : Result Response ShareStop) (response : Response) (stop : Option ShareStop) → IsToldOverLog done response stop → IsToldOverLogBy stop response
told_by (Ok wanted) response stop told = subst (λ (s : Option ShareStop). IsToldOverLogBy s response) (sym told.1) tt
told_by (Err why) response stop told = subst (λ (s : Option ShareStop). IsToldOverLogBy s response) (sym told.1) told.0

pub same_fault : (done : Result Response ShareStop) (response : Response) (stop : Option ShareStop) → IsToldOverLog done response stop → fault_behind_stop stop ≡ fault_in_call done
same_fault (Ok wanted) response stop told = ap fault_behind_stop told.1
same_fault (Err why) response stop told = ap fault_behind_stop told.1

-- over a poisoned registry
pub turned_away : {S L : Type 0} {g : Ghosts S} (it new : Registry S g) (c c_new : Cursor L) (founding : ℕ) (bytes : List ℕ) (said : Result Message HttpRefusal) (done : Result Response ShareStop) (response : Response) (stop : Option ShareStop)
    → Says founding bytes said
    → IfErr said (λ refusal. IfOk done (λ response. response ≡ refusal_response refusal) × IfErr done (λ stop. stop ≡ stops.NoMemory) × (new ≡ it) × (c_new ≡ c))
    → OnOk said ((done ≡ Err (stops.Registry faults.Poisoned)) × (new ≡ it) × (c_new ≡ c))
    → IsToldOverLog done response stop → IsTurnedAwayOverLog bytes response stop × (new ≡ it) × (c_new ≡ c)
turned_away it new c c_new founding bytes (Ok message) (Ok wanted) response stop says refused away told = (let never : Ok wanted ≡ Err (stops.Registry faults.Poisoned) = away.0 in absurd cc)
turned_away it new c c_new founding bytes (Ok message) (Err why) response stop says refused away told =
    let both : Err why ≡ Err (stops.Registry faults.Poisoned) = away.0 in
    let same : why ≡ stops.Registry faults.Poisoned = cc in
    (subst (λ (s : Option ShareStop). IsTurnedAwayOverLog bytes response s) (sym told.1) (inl same), away.1, away.2)
turned_away it new c c_new founding bytes (Err refusal) (Ok wanted) response stop says refused away told = (
  subst (λ (s : Option ShareStop). IsTurnedAwayOverLog bytes response s) (sym told.1)
      (record { founding = founding; refusal = refusal; says = says; written = subst (λ (r : Response). IsInPlaceOf response r) refused.0 told.0 }),
  refused.2,
  refused.3,
)
turned_away it new c c_new founding bytes (Err refusal) (Err why) response stop says refused away told =
    (subst (λ (s : Option ShareStop). IsTurnedAwayOverLog bytes response s) (sym told.1) (inr refused.1), refused.2, refused.3)

-- ---- what is served

module _ {S : Type 0} {g : Ghosts S} {L : Type 0} (l : LogGhosts L) (lines : L → LogLines) (c : Cursor L) (new : Registry S g) (c_new : Cursor L) (h : History) where
  texts_then : (bytes : List ℕ) (said : Result Message HttpRefusal) (wanted : Response) (mid cache : Cache) → Says h.founding.vendor bytes said → (it : Answers l lines c new c_new h said wanted mid)
      → cache ≡ cache_after mid (Ok wanted) said → AreTextsOf it.next cache
  texts_then bytes said wanted mid cache says it after =
      let before = it.answer.before in
      let here = subst (λ (f : Founding). Says f.vendor bytes said) (sym (same_founding h before it.answer.leads)) says in
      texts_after (Unit {0}) before bytes it.texts mid cache (Ok wanted) said it.beside after here it.texts_of (it.answer.response_is, tt) it.next (inr (said, here, it.answer.next_is, λ other. absurd (other refl)))

  unserved : (bytes : List ℕ) (said : Result Message HttpRefusal) (stop : ShareStop) → Says h.founding.vendor bytes said → IsUnanswered l lines c new c_new h said stop → IsUnserved l lines c new c_new h bytes stop
  unserved bytes said stop says (inl (left, inl memory)) = inl (left, inl memory)
  unserved bytes (Ok message) stop says (inl (left, inr ok)) = inl (left, inr (message, says))
  unserved bytes (Err refusal) stop says (inl (left, inr ok)) = absurd (cc ok)
  unserved bytes said stop says (inr it) = inr (it.0, rw it.1 at says, it.2, it.3)

  -- the message was read, and this came of it
  pub served_then : (bytes : List ℕ) (said : Result Message HttpRefusal) (done : Result Response ShareStop) (response : Response) (stop : Option ShareStop) (mid cache : Cache) → Says h.founding.vendor bytes said
      → IfOk done (λ wanted. Answers l lines c new c_new h said wanted mid) → IfErr done (IsUnanswered l lines c new c_new h said) → cache ≡ cache_after mid (done_for_cache done) said
      → IsToldOverLog done response stop → IsServedBeside l lines c new c_new h bytes response cache stop
  served_then bytes said (Ok wanted) response stop mid cache says ok err after told =
      subst (λ (s : Option ShareStop). IsServedBeside l lines c new c_new h bytes response cache s) (sym told.1)
      (record { said = said; says = says; wanted = wanted; next = ok.next; answer = ok.answer; written = told.0; follows = ok.follows; texts = texts_then bytes said wanted mid cache says ok after })
  served_then bytes said (Err why) response stop mid cache says ok err after told =
      subst (λ (s : Option ShareStop). IsServedBeside l lines c new c_new h bytes response cache s) (sym told.1) (unserved bytes said why says err, after)
