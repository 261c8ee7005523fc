-- Serving one connection after another over a log.
use Rattle.std.proofs.Common.{◌≡◌, ◌⊎◌, ◌∙◌, ℕ, ◌<◌, ◌≤◌, List, [], ◌∷◌, ◌++◌, length, Bool, true, false, Option, None, Some, inl, inr, refl, sym, ap, subst, arith}
use Rattle.std.specs.Prelude.{All, Result, Ok, Err, OnOk, OnErr, IfOk, if◌then◌else◌}
use Rattle.std.proofs.lemmas.List.Elements.{All-append, All-cons, All-nil}
use Rattle.sqlite.specs.Store.{Ghosts}
use Rattle.sqlite.specs.State.{HasCleanDisk}
use Rattle.byte_streams.specs.declared.streams.Broken.{Broken}
use Rattle.byte_streams.specs.Streams.{MayGive}
use Rattle.registry_rules.specs.History.{History}
use Rattle.registry_laws.specs.Machines.{IsOfMachine}
use Rattle.registry_store.specs.declared.fault.Fault.TheVariants as faults
use Rattle.registry_store.specs.declared.registry.Registry.{Registry}
use Rattle.registry_store.specs.Promise.{is_poisoned, state_of}
use Rattle.registry_http.specs.declared.response.Response.{Response}
use Rattle.registry_http.specs.declared.unavailable.Unavailable.TheVariants as unavailable
use Rattle.registry_http.specs.Incomplete.{FailsAfter, IsIncomplete}
use Rattle.registry_http.specs.Responses.{response_bytes, unavailable_response}
use Rattle.registry_desk.specs.declared.cache.Cache.{Cache}
use Rattle.registry_desk.specs.declared.serve.Served.{Served}
use Rattle.registry_desk.specs.Cache.{AreTextsOf, no_texts}
use Rattle.registry_desk.specs.Server.{Visit, IsVisit, HaveVisited, status_of}
use Rattle.registry_desk.specs.Serving.{Sends}
use Rattle.registry_desk.proofs.CacheLemmas.{none_are}
use Rattle.registry_desk.proofs.ServeLemmas.{status_503}
use Rattle.registry_desk.proofs.ServerLemmas.{length_more, visited_more}
use Rattle.shared_log.specs.Calls.{KeepsLines, LogLines}
use Rattle.shared_log.specs.declared.fault.LogFault.{LogFault}
use Rattle.shared_log.specs.declared.log.Log.{Ghosts as LogGhosts}
use Rattle.shared_registry.specs.Asks.{IsLogAsked}
use Rattle.shared_registry.specs.Follows.{Follows, FollowsLater, HasFailed}
use Rattle.shared_registry.specs.declared.cursor.Cursor.{Cursor}
use Rattle.shared_registry.specs.declared.stop.ShareStop.{ShareStop}
use Rattle.shared_registry.specs.declared.stop.ShareStop.TheVariants as stops
use Rattle.shared_registry.proofs.AskLemmas.{asked_to}
use Rattle.shared_registry.proofs.LineLemmas.{leads_on}
use Rattle.shared_desk.specs.declared.serve.Turn.{Turn}
use Rattle.shared_desk.specs.declared.server.SharedStop.{SharedStop}
use Rattle.shared_desk.specs.declared.server.SharedStop.TheVariants as ends
use Rattle.shared_desk.specs.Asks.{AppendsOrderIn, AppendsOrdersIn}
use Rattle.shared_desk.specs.Refusals.{fault_behind_stop, may_pass, unavailable_for}
use Rattle.shared_desk.specs.Serving.{IsAnsweredBeside, IsServedBeside, IsToldOverLogBy, IsTurnedAwayOverLog, IsUnserved}
use Rattle.shared_desk.specs.Server.{EndsBeside, EndsConnectionsOverLog, EndsOver, IfVisitedOverLog, IsStopTold, IsToldOverLogAt, IsToldLast, IsTurnedAwayOverLogAt, IsTurnOver, TurnsOver, ends_by, served_in, stop_in_server, stop_to_end}
use Rattle.shared_desk.proofs.ServeLemmas.{leads_by_message}
use Rattle.shared_desk.proofs.TurnLemmas.{asked_more}

abbrev served_as : List ℕ → Response → Served → Visit
served_as bytes response served = record { bytes = bytes; text = response_bytes response; end = Ok served }

-- ---- what is told

-- what stopped a message is told by its refusal, with status 503
stop_told : (bytes : List ℕ) (response : Response) (served : Served) (stop : ShareStop) → IfOk served.status (λ sent. sent ≡ response.status) → response ≡ unavailable_response (unavailable_for stop) → IsStopTold (served_as bytes response served) stop
stop_told bytes response served stop sent is =
    let unavailable = ap (λ (r : Response). r.status) is ∙ status_503 (unavailable_for stop) in
    record { text_is = ap response_bytes is; status_is = subst (λ (n : ℕ). IfOk served.status (λ sent. sent ≡ n)) unavailable sent }

told_if : (visit : Visit) (stop : ShareStop) (b : Bool) → may_pass stop ≡ b → IsStopTold visit stop → IsToldOverLogAt visit (if b then None else Some stop)
told_if visit stop true passes told = tt
told_if visit stop false passes told = (told, passes)

told_at : (bytes : List ℕ) (response : Response) (served : Served) (stop : Option ShareStop) → IfOk served.status (λ sent. sent ≡ response.status) → IsToldOverLogBy stop response → IsToldOverLogAt (served_as bytes response served) (ends_by stop)
told_at bytes response served None sent told = tt
told_at bytes response served (Some stop) sent told = told_if (served_as bytes response served) stop (may_pass stop) refl (stop_told bytes response served stop sent told)

-- over a poisoned registry
turned_at : (bytes : List ℕ) (response : Response) (served : Served) (stop : Option ShareStop) → IfOk served.status (λ sent. sent ≡ response.status) → IsToldOverLogBy stop response → IsTurnedAwayOverLog bytes response stop → IsTurnedAwayOverLogAt (served_as bytes response served)
turned_at bytes response served None sent told away = inr (response, refl, away)
turned_at bytes response served (Some stop) sent told away = inl (stop, stop_told bytes response served stop sent told)

pub told_none : (visits : List Visit) (stop : Option ShareStop) → stop ≡ None → IsToldLast visits stop
told_none visits stop none = subst (λ (s : Option ShareStop). IsToldLast visits s) (sym none) tt

-- ---- one connection

module _ {S : Type 0} {g : Ghosts S} {L : Type 0} (l : LogGhosts L) (lines : L → LogLines) (c : Cursor L) (new : Registry S g) (c_new : Cursor L) (h : History) where
  -- the message has its response, or refusal 31 if memory ran out for its head
  responded : (bytes : List ℕ) (response : Response) (served : Served) (cache : Cache) → IfOk served.status (λ sent. sent ≡ response.status) → (it : IsAnsweredBeside l lines c new c_new h bytes response cache)
      → (response ≡ it.wanted) ⊎ (response ≡ unavailable_response unavailable.NoMemory) → EndsBeside l lines c new c_new h (served_as bytes response served) cache None
  responded bytes response served cache sent it (inl same) = (
    it.next,
    inl (record {
      said = it.said;
      says = it.says;
      response = it.wanted;
      text_is = ap response_bytes same;
      status_is = subst (λ (n : ℕ). IfOk served.status (λ sent. sent ≡ n)) (ap (λ (r : Response). r.status) same) sent;
      answer = it.answer;
    }),
    it.follows,
    it.texts,
  )
  responded bytes response served cache sent it (inr short) = (
    it.next,
    inr (record {
      stop = stops.NoMemory;
      passes = refl;
      told = stop_told bytes response served stops.NoMemory sent short;
      leads = rw it.answer.next_is (leads_on h it.answer.before _ it.answer.leads (leads_by_message it.answer.before it.said));
      failed = λ fault never. absurd cc;
    }),
    it.follows,
    it.texts,
  )

  -- what stopped the message passes
  passed : (bytes : List ℕ) (response : Response) (served : Served) (cache : Cache) (stop : ShareStop) → cache ≡ no_texts → IsStopTold (served_as bytes response served) stop → may_pass stop ≡ true
      → (later : FollowsLater l lines new c_new h) → ((fault : LogFault) → stop ≡ stops.Log fault → HasFailed l lines c.log c_new.log fault) → EndsBeside l lines c new c_new h (served_as bytes response served) cache None
  passed bytes response served cache stop none told passes later failed =
      (later.0, inr (record { stop = stop; passes = passes; told = told; leads = later.1; failed = failed }), later.2, none_are later.0 cache none)

  unanswered : (bytes : List ℕ) (response : Response) (served : Served) (cache : Cache) (stop : ShareStop) → IfOk served.status (λ sent. sent ≡ response.status) → response ≡ unavailable_response (unavailable_for stop) → cache ≡ no_texts
      → IsUnserved l lines c new c_new h bytes stop → EndsBeside l lines c new c_new h (served_as bytes response served) cache (ends_by (Some stop))
  unanswered bytes response served cache (stops.Log fault) sent told none (inl it) =
      passed bytes response served cache (stops.Log fault) none (stop_told bytes response served (stops.Log fault) sent told) refl it.0.0 (λ other same. let is : fault ≡ other = cc in subst (HasFailed l lines c.log c_new.log) is it.0.1)
  unanswered bytes response served cache (stops.Log fault) sent told none (inr it) = let never : stops.Log fault ≡ stops.Registry faults.Store = it.3 in absurd cc
  unanswered bytes response served cache stops.NoMemory sent told none (inl it) =
      passed bytes response served cache stops.NoMemory none (stop_told bytes response served stops.NoMemory sent told) refl it.0 (λ other never. absurd cc)
  unanswered bytes response served cache stops.NoMemory sent told none (inr it) = let never : stops.NoMemory ≡ stops.Registry faults.Store = it.3 in absurd cc
  unanswered bytes response served cache (stops.Registry fault) sent told none it = it
  unanswered bytes response served cache (stops.OtherRecord n) sent told none it = it
  unanswered bytes response served cache stops.Ahead sent told none it = it
  unanswered bytes response served cache stops.Empty sent told none it = it
  unanswered bytes response served cache stops.Full sent told none it = it

  served_visit : (bytes : List ℕ) (response : Response) (served : Served) (cache : Cache) (stop : Option ShareStop) → IfOk served.status (λ sent. sent ≡ response.status) → IsToldOverLogBy stop response
      → IsServedBeside l lines c new c_new h bytes response cache stop → EndsBeside l lines c new c_new h (served_as bytes response served) cache (ends_by stop)
  served_visit bytes response served cache None sent told it = responded bytes response served cache sent it it.written
  served_visit bytes response served cache (Some stop) sent told it = unanswered bytes response served cache stop sent told it.1 it.0

module _ {S C R W : Type 0} {g : Ghosts S} {L : Type 0} (l : LogGhosts L) (opens : C → C → R → W → Type 0) (closes : C → C → R → W → Option ℕ → Type 0) (remaining : R → Option (List ℕ)) (reads_failed : R → ℕ) (contents : W → Option (List ℕ)) (writes_failed : W → ℕ) where
  -- one connection came, and this ended the server, if anything did
  abbrev pub Came : C → C → Registry S g → Registry S g → Cursor L → Cursor L → Cache → Cache → Option ShareStop → Type 0
  Came old new it last c c_new cache cache_new stop = (visit : Visit)
      × IsVisit opens closes remaining reads_failed contents writes_failed old new visit
      × IsToldOverLogAt visit stop
      × ((lines : L → LogLines) → KeepsLines l lines → (h : History) → Follows l lines it c h → HasCleanDisk (state_of last) → AreTextsOf h cache → EndsBeside l lines c last c_new h visit cache_new stop)
      × (is_poisoned it ≡ true → IsTurnedAwayOverLogAt visit × (last ≡ it) × (c_new ≡ c))
      × ((lines : L → LogLines) → KeepsLines l lines → (h : History) → Follows l lines it c h → HasCleanDisk (state_of last) → IsLogAsked l (AppendsOrderIn (lines c_new.log) h visit.bytes) c.log c_new.log)

  -- a message was served between the opening and the closing of a connection
  pub visit_of : (old opened new : C) (reader reader_new : R) (writer writer_new : W) (it last : Registry S g) (c c_new : Cursor L) (cache cache_new : Cache) (turn : Result Turn Broken) (status : Option ℕ) (stop : Option ShareStop) (bytes : List ℕ)
      → opens old opened reader writer → closes opened new reader_new writer_new status → status ≡ status_of (served_in turn) → stop ≡ stop_to_end turn → MayGive (remaining reader) bytes
      → IfOk turn (λ turn. (response : Response) × Sends contents writes_failed writer writer_new response turn.served.status
      × (turn.served.fault ≡ fault_behind_stop turn.stop)
      × IsToldOverLogBy turn.stop response
      × ((lines : L → LogLines) → KeepsLines l lines → (h : History) → Follows l lines it c h → HasCleanDisk (state_of last) → AreTextsOf h cache → IsServedBeside l lines c last c_new h bytes response cache_new turn.stop)
      × (is_poisoned it ≡ true → IsTurnedAwayOverLog bytes response turn.stop × (last ≡ it) × (c_new ≡ c))
      × ((lines : L → LogLines) → KeepsLines l lines → (h : History) → Follows l lines it c h → HasCleanDisk (state_of last) → IsLogAsked l (AppendsOrderIn (lines c_new.log) h bytes) c.log c_new.log))
      → OnErr turn (FailsAfter (remaining reader) (remaining reader_new) (reads_failed reader) (reads_failed reader_new) IsIncomplete × (writer_new ≡ writer) × (last ≡ it) × (c_new ≡ c) × (cache_new ≡ cache))
      → OnOk turn (reads_failed reader_new ≡ reads_failed reader)
      → Came old new it last c c_new cache cache_new stop
  visit_of old opened new reader reader_new writer writer_new it last c c_new cache cache_new (Ok turn) status stop bytes opens_with closes_with status_is stop_is gives said failed came =
      rw stop_is (
        served_as bytes said.0 turn.served,
        record { opened = opened; reader = reader; reader_new = reader_new; writer = writer; writer_new = writer_new; opens_with = opens_with; gives = gives; read = came; written = (said.0, refl, said.1); status = status; status_is = status_is; closes_with = closes_with },
        told_at bytes said.0 turn.served turn.stop said.1.1 said.3,
        λ lines kept h follows clean of. served_visit l lines c last c_new h bytes said.0 turn.served cache_new turn.stop said.1.1 said.3 (said.4 lines kept h follows clean of),
        λ poisoned. let away = said.5 poisoned in (turned_at bytes said.0 turn.served turn.stop said.1.1 said.3 away.0, away.1, away.2),
        said.6,
      )
  visit_of old opened new reader reader_new writer writer_new it last c c_new cache cache_new (Err broken) status stop bytes opens_with closes_with status_is stop_is gives said failed came =
      rw stop_is (
        record { bytes = bytes; text = []; end = Err broken },
        record { opened = opened; reader = reader; reader_new = reader_new; writer = writer; writer_new = writer_new; opens_with = opens_with; gives = gives; read = failed.0; written = failed.1; status = status; status_is = status_is; closes_with = closes_with },
        tt,
        λ lines kept h follows clean of.
            (h, (refl, failed.3), rw failed.2 (rw failed.3 follows), rw failed.4 of),
        λ poisoned. (tt, failed.2, failed.3),
        λ lines kept h follows clean. asked_to l (AppendsOrderIn (lines c_new.log) h bytes) c.log c_new.log (ap (λ (d : Cursor L). d.log) failed.3),
      )

-- ---- one connection after another

module _ {L : Type 0} (l : LogGhosts L) (lines : L → LogLines) where
  turns_more : (c middle c_new : Cursor L) (h x next : History) (visits : List Visit) (visit : Visit) → TurnsOver l lines c h visits middle x → IsTurnOver l lines middle x visit c_new next → IsOfMachine (lines c_new.log) next
      → TurnsOver l lines c h (visits ++ visit ∷ []) c_new next
  turns_more c middle c_new h x next [] visit same one of = (c_new, next, rw same.0 at (rw same.1 at one), of, (refl, refl))
  turns_more c middle c_new h x next (first ∷ visits) visit before one of = (before.0, before.1, before.2, before.3, turns_more before.0 middle c_new before.1 x next visits visit before.4 one of)

module _ {S : Type 0} {g : Ghosts S} {L : Type 0} (l : LogGhosts L) (lines : L → LogLines) (start : Cursor L) (h : History) where
  -- these connections were served, and the texts that are cached are of the history after them
  abbrev pub FollowsBeside : Registry S g → Cursor L → Cache → List Visit → Type 0
  FollowsBeside it c cache visits = (next : History) × TurnsOver l lines start h visits c next × Follows l lines it c next × AreTextsOf next cache

  pub follows_more : (mid new : Registry S g) (c c_new : Cursor L) (cache cache_new : Cache) (visits : List Visit) (visit : Visit) → (so_far : FollowsBeside mid c cache visits) → EndsBeside l lines c new c_new so_far.0 visit cache_new None
      → FollowsBeside new c_new cache_new (visits ++ visit ∷ [])
  follows_more mid new c c_new cache cache_new visits visit so_far one =
      (one.0, turns_more l lines start c c_new h so_far.0 one.0 visits visit so_far.1 one.1 one.2.of_machine, one.2, one.3)

  pub ends_after : (it : Registry S g) (c : Cursor L) (cache : Cache) (visits : List Visit) → FollowsBeside it c cache visits → EndsOver l lines start it c h visits None
  ends_after it c cache visits so_far = (so_far.0, so_far.1, so_far.2)

  pub stopped_after : (mid new : Registry S g) (c c_new : Cursor L) (cache cache_new : Cache) (visits : List Visit) (visit : Visit) (stop : ShareStop) → (so_far : FollowsBeside mid c cache visits) → EndsBeside l lines c new c_new so_far.0 visit cache_new (Some stop)
      → EndsOver l lines start new c_new h (visits ++ visit ∷ []) (Some stop)
  stopped_after mid new c c_new cache cache_new visits visit stop so_far left = record { before = visits; last = visit; all = refl; place = c; middle = so_far.0; turns = so_far.1; left = left }

pub all_more : (P : Visit → Type 0) (visits : List Visit) (visit : Visit) → All P visits → P visit → All P (visits ++ visit ∷ [])
all_more P visits visit all one = All-append P visits (visit ∷ []) all (All-cons P visit [] one (All-nil P))

module _ {S C R W : Type 0} {g : Ghosts S} {L : Type 0} (l : LogGhosts L) (opens : C → C → R → W → Type 0) (closes : C → C → R → W → Option ℕ → Type 0) (remaining : R → Option (List ℕ)) (reads_failed : R → ℕ) (contents : W → Option (List ℕ)) (writes_failed : W → ℕ) (fails : C → C → Type 0) where
  abbrev Ends : C → C → Registry S g → Registry S g → Cursor L → Cursor L → ℕ → Result (Unit {0}) SharedStop → Type 0
  Ends old new first last c c_new count result = (visits : List Visit) × (middle : C)
      × HaveVisited opens closes remaining reads_failed contents writes_failed old middle visits
      × EndsConnectionsOverLog fails middle new result
      × (length visits ≤ count) × OnOk result (length visits ≡ count)
      × IsToldLast visits (stop_in_server result)
      × ((lines : L → LogLines) → KeepsLines l lines → (h : History) → Follows l lines first c h → HasCleanDisk (state_of last) → EndsOver l lines c last c_new h visits (stop_in_server result))
      × (is_poisoned first ≡ true → All IsTurnedAwayOverLogAt visits × (last ≡ first) × (c_new ≡ c))
      × ((lines : L → LogLines) → KeepsLines l lines → (h : History) → Follows l lines first c h → HasCleanDisk (state_of last) → IsLogAsked l (AppendsOrdersIn (lines c_new.log) h visits) c.log c_new.log)

  -- a server ends when no more connections come, or at a stop
  pub ended_by : (old middle new : C) (first mid last : Registry S g) (c c_mid c_new : Cursor L) (cache cache_new : Cache) (count : ℕ) (visits : List Visit) (stop : SharedStop)
      → HaveVisited opens closes remaining reads_failed contents writes_failed old middle visits → length visits < count
      → (HasCleanDisk (state_of last) → HasCleanDisk (state_of mid))
      → ((lines : L → LogLines) → KeepsLines l lines → (h : History) → Follows l lines first c h → HasCleanDisk (state_of mid) → FollowsBeside l lines c h mid c_mid cache visits)
      → (is_poisoned first ≡ true → All IsTurnedAwayOverLogAt visits × (mid ≡ first) × (c_mid ≡ c))
      → ((lines : L → LogLines) → KeepsLines l lines → (h : History) → Follows l lines first c h → HasCleanDisk (state_of mid) → IsLogAsked l (AppendsOrdersIn (lines c_mid.log) h visits) c.log c_mid.log)
      → IfVisitedOverLog (Err stop) (Came l opens closes remaining reads_failed contents writes_failed middle new mid last c_mid c_new cache cache_new (stop_in_server (Err stop)))
      → (stop ≡ ends.Connections → fails middle new × (last ≡ mid) × (c_new ≡ c_mid)) → Ends old new first last c c_new count (Err stop)
  ended_by old middle new first mid last c c_mid c_new cache cache_new count visits ends.Connections before less early so_far turned asked came none =
      let ended = none refl in (
        visits,
        middle,
        before,
        ended.0,
        omega (arith, less),
        tt,
        tt,
        λ lines kept h follows clean. rw (ended.1, ended.2) (ends_after l lines c h mid c_mid cache visits (so_far lines kept h follows (early clean))),
        λ poisoned. let away = turned poisoned in (away.0, ended.1 ∙ away.1, ended.2 ∙ away.2),
        λ lines kept h follows clean. subst (λ (d : Cursor L). IsLogAsked l (AppendsOrdersIn (lines d.log) h visits) c.log d.log) (sym ended.2) (asked lines kept h follows (early clean)),
      )
  ended_by old middle new first mid last c c_mid c_new cache cache_new count visits (ends.Share stop) before less early so_far turned asked came none =
      let longer = length_more visits came.0 (length visits) refl in (
        visits ++ came.0 ∷ [],
        new,
        visited_more opens closes remaining reads_failed contents writes_failed old middle new visits came.0 before came.1,
        refl,
        omega (arith, less, longer),
        tt,
        (visits, came.0, refl, came.2),
        λ lines kept h follows clean.
            let before = so_far lines kept h follows (early clean) in
            stopped_after l lines c h mid last c_mid c_new cache cache_new visits came.0 stop before (came.3 lines kept before.0 before.2 clean before.3),
        λ poisoned.
            let away = turned poisoned in
            let one = came.4 (subst (λ (r : Registry S g). is_poisoned r ≡ true) (sym away.1) poisoned) in
            (all_more IsTurnedAwayOverLogAt visits came.0 away.0 one.0, one.1 ∙ away.1, one.2 ∙ away.2),
        λ lines kept h follows clean.
            let before = so_far lines kept h follows (early clean) in
            asked_more l lines kept c h visits c_mid before.0 before.1 came.0 c_new (asked lines kept h follows (early clean)) (came.5 lines kept before.0 before.2 clean),
      )
