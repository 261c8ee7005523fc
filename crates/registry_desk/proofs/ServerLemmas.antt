-- Serving one connection after another.
use Rattle.std.proofs.Common.{◌≡◌, ◌⊎◌, inl, inr, ℕ, ◌+◌, ◌<◌, ◌≤◌, List, [], ◌∷◌, ◌++◌, length, refl, sym, ap, subst, ◌∙◌, arith, length-append}
use Rattle.std.specs.Prelude.{true, false, Option, Some, None, Result, Ok, Err, OnOk, OnErr, IfOk, IfSome}
use Rattle.sqlite.specs.Store.{Ghosts}
use Rattle.sqlite.specs.State.{HasCleanDisk}
use Rattle.byte_streams.specs.declared.streams.Broken.{Broken}
use Rattle.byte_streams.specs.Streams.{MayGive}
use Rattle.registry_rules.specs.History.{History}
use Rattle.registry_store.specs.declared.fault.Fault.{Fault}
use Rattle.registry_store.specs.declared.registry.Registry.{Registry as TheRegistry}
use Rattle.registry_tables.specs.Rows.{newest}
use Rattle.registry_store.specs.Promise.{Represents, Leaves, is_poisoned, state_of}
use Rattle.registry_http.specs.declared.message.Message.{Message}
use Rattle.registry_http.specs.declared.refusal.HttpRefusal.{HttpRefusal}
use Rattle.registry_http.specs.declared.response.Response.{Response}
use Rattle.registry_http.specs.Incomplete.{FailsAfter, IsIncomplete}
use Rattle.registry_http.specs.Messages.{Says}
use Rattle.registry_http.specs.Responses.{response_bytes, unavailable_response}
use Rattle.registry_desk.specs.declared.fault.DeskFault.{DeskFault}
use Rattle.registry_desk.specs.declared.fault.DeskFault.TheVariants.{NoMemory, Registry}
use Rattle.registry_desk.specs.declared.serve.Served.{Served}
use Rattle.registry_desk.specs.Faults.{registry_fault, unavailable_of}
use Rattle.registry_store.specs.Files.{IsEither}
use Rattle.registry_desk.specs.Acting.{after_message, IsOfSoundRegistry, IsLeftUnavailable, IsFaultFor}
use Rattle.registry_desk.specs.Serving.{IsNext, IsServed, IsToldBy, IsTurnedAway, Sends}
use Rattle.registry_desk.specs.declared.server.ServerStop.{ServerStop}
use Rattle.registry_desk.specs.declared.server.ServerStop.TheVariants as stops
use Rattle.registry_desk.specs.Server.{Visit, IsRead, IsVisit, IsToldAt, IsTurnedAwayAt, IsResponseWritten, AreTurnedAway, HaveVisited, IsTurn, Turns, RepresentsAfter, IsServedInPart, IsStoppedServing, EndsVisit, EndsServing, IsLeftAfter, EndsConnections, IfVisited, fault_behind, fault_in_server, status_of}
use Rattle.registry_desk.specs.declared.cache.Cache.{Cache}
use Rattle.registry_desk.specs.Cache.{AreTextsAfter, AreTextsAfterVisit, AreTextsOf, no_texts}
use Rattle.registry_desk.proofs.CacheLemmas.{none_are, texts_after_visit}
use Rattle.registry_desk.proofs.ServeLemmas.{status_503}

-- one more connection
pub visited_more : {C R W : Type 0} (opens : C → C → R → W → Type 0) (closes : C → C → R → W → Option ℕ → Type 0) (remaining : R → Option (List ℕ)) (reads_failed : R → ℕ) (contents : W → Option (List ℕ)) (writes_failed : W → ℕ)
    (old middle new : C) (visits : List Visit) (visit : Visit) → HaveVisited opens closes remaining reads_failed contents writes_failed old middle visits
    → IsVisit opens closes remaining reads_failed contents writes_failed middle new visit → HaveVisited opens closes remaining reads_failed contents writes_failed old new (visits ++ visit ∷ [])
visited_more opens closes remaining reads_failed contents writes_failed old middle new [] visit same one =
    (new, subst (λ c. IsVisit opens closes remaining reads_failed contents writes_failed c new visit) same one, refl)
visited_more opens closes remaining reads_failed contents writes_failed old middle new (first ∷ visits) visit before one =
    (before.0, before.1, visited_more opens closes remaining reads_failed contents writes_failed before.0 middle new visits visit before.2 one)

-- one more connection that a poisoned registry turned away
pub turned_more : (visits : List Visit) (visit : Visit) (fault : Option Fault) → AreTurnedAway visits None → IsTurnedAwayAt visit fault → AreTurnedAway (visits ++ visit ∷ []) fault
turned_more [] visit fault none last = inl (refl, last)
turned_more (first ∷ visits) visit fault (inl only) last = inr (only.1, subst (λ vs. AreTurnedAway (vs ++ visit ∷ []) fault) (sym only.0) (inl (refl, last)))
turned_more (first ∷ visits) visit fault (inr both) last = inr (both.0, turned_more visits visit fault both.1 last)

-- one more turn
pub turns_more : (h middle next : History) (visits : List Visit) (visit : Visit) → Turns h visits middle → IsTurn middle visit next → Turns h (visits ++ visit ∷ []) next
turns_more h middle next [] visit same one = (next, subst (λ x. IsTurn x visit next) same one, refl)
turns_more h middle next (first ∷ visits) visit before one = (before.0, before.1, turns_more before.0 middle next visits visit before.2 one)

-- a fault is told at its connection
told_at : (bytes : List ℕ) (response : Response) (served : Served) (fault : Option Fault) → IfOk served.status (λ sent. sent ≡ response.status) → IsToldBy fault response
    → IsToldAt (record { bytes = bytes; text = response_bytes response; end = Ok served }) fault
told_at bytes response served None sent told = tt
told_at bytes response served (Some fault) sent told =
    let unavailable = ap (λ (r : Response). r.status) told ∙ status_503 (unavailable_of (Registry fault)) in
    (ap response_bytes told, subst (λ (n : ℕ). IfOk served.status (λ sent. sent ≡ n)) unavailable sent)

module _ {S : Type 0} {g : Ghosts S} where
  -- serving a message for which memory ran out, by the history that the registry represents
  short_turn : (new : TheRegistry S g) (h : History) (bytes text : List ℕ) (served : Served) (next : History)
      → text ≡ response_bytes (unavailable_response (unavailable_of NoMemory)) → IfOk served.status (λ sent. sent ≡ 503) → IsNext h bytes NoMemory next → Represents new h ⊎ Represents new next
      → EndsVisit new h (record { bytes = bytes; text = text; end = Ok served }) None
  short_turn new h bytes text served next text_is status_is next_is (inl stands) = (h, inr (record { text_is = text_is; status_is = status_is; next_is = inl (refl, refl) }), stands)
  short_turn new h bytes text served next text_is status_is next_is (inr stands) = (next, inr (record { text_is = text_is; status_is = status_is; next_is = next_is }), stands)

  given_up_visit : (new : TheRegistry S g) (h : History) (bytes text : List ℕ) (served : Served) (why : DeskFault) (next : History)
      → IsOfSoundRegistry why → text ≡ response_bytes (unavailable_response (unavailable_of why)) → IfOk served.status (λ sent. sent ≡ 503)
      → IsNext h bytes why next → IsLeftUnavailable why new h next
      → ((said : Result Message HttpRefusal) → Says h.founding.vendor bytes said → IsFaultFor said why new)
      → EndsVisit new h (record { bytes = bytes; text = text; end = Ok served }) (registry_fault why)
  given_up_visit new h bytes text served NoMemory next kind text_is status_is next_is left fault_of = short_turn new h bytes text served next text_is status_is next_is left.ends
  given_up_visit new h bytes text served (Registry fault) next kind text_is status_is next_is left fault_of =
      record { kind = kind; text_is = text_is; status_is = status_is; next = next; next_is = next_is; left = left; fault_of = fault_of }

  -- serving a message is a visit
  served_visit : (new : TheRegistry S g) (h : History) (bytes : List ℕ) (response : Response) (served : Served) → IfOk served.status (λ sent. sent ≡ response.status)
      → IsServed new h bytes response served.fault → EndsVisit new h (record { bytes = bytes; text = response_bytes response; end = Ok served }) served.fault
  served_visit new h bytes response served sent (inl it) =
      subst (λ (f : Option Fault). EndsVisit new h (record { bytes = bytes; text = response_bytes response; end = Ok served }) f) (sym it.no_fault)
      (after_message h it.said, inl (record { said = it.said; says = it.says; response = response; is = it.is; text_is = refl; status_is = sent; next_is = refl }), it.represents)
  served_visit new h bytes response served sent (inr it) =
      let unavailable = ap (λ (r : Response). r.status) it.response_is ∙ status_503 (unavailable_of it.why) in
      subst (λ (f : Option Fault). EndsVisit new h (record { bytes = bytes; text = response_bytes response; end = Ok served }) f) (sym it.fault_is)
      (given_up_visit new h bytes (response_bytes response) served it.why it.next it.kind (ap response_bytes it.response_is) (subst (λ (n : ℕ). IfOk served.status (λ sent. sent ≡ n)) unavailable sent) it.next_is it.left it.fault_of)

  -- the registry represents the history after these connections, and the texts that are cached are of it
  abbrev pub RepresentsBeside : TheRegistry S g → Cache → History → List Visit → Type 0
  RepresentsBeside it cache h visits = (next : History) × Turns h visits next × Represents it next × AreTextsOf next cache

  pub represents_after : (it : TheRegistry S g) (cache : Cache) (h : History) (visits : List Visit) → RepresentsBeside it cache h visits → RepresentsAfter it h visits
  represents_after it cache h visits so = (so.0, so.1, so.2)

  -- the history after one more connection
  pub represents_more : (mid new : TheRegistry S g) (cache cache_new : Cache) (h : History) (visits : List Visit) (visit : Visit) → RepresentsBeside mid cache h visits
      → ((x : History) → Represents mid x → AreTextsOf x cache → EndsVisit new x visit None × AreTextsAfterVisit x visit cache_new) → RepresentsBeside new cache_new h (visits ++ visit ∷ [])
  represents_more mid new cache cache_new h visits visit before one =
      let it = one before.0 before.2 before.3 in
      (it.0.0, turns_more h before.0 it.0.0 visits visit before.1 it.0.1, it.0.2, it.1 it.0.0 it.0.1)

  -- the fault at one more connection
  pub halted_more : (mid new : TheRegistry S g) (cache : Cache) (h : History) (visits : List Visit) (visit : Visit) (fault : Fault) → RepresentsBeside mid cache h visits
      → ((x : History) → Represents mid x → AreTextsOf x cache → EndsVisit new x visit (Some fault)) → IsStoppedServing new h (visits ++ visit ∷ []) fault
  halted_more mid new cache h visits visit fault before one =
      record { before = visits; last = visit; all = refl; middle = before.0; turns = before.1; halted = one before.0 before.2 before.3 }

  -- after such a fault these connections were served in part
  pub in_part : (it : TheRegistry S g) (h : History) (visits : List Visit) (fault : Fault) (ends : IsStoppedServing it h visits fault) (x : History) → IsEither ends.middle ends.halted.next x → IsServedInPart h visits x
  in_part it h visits fault ends x is = record {
    before = ends.before;
    last = ends.last;
    all = ends.all;
    middle = ends.middle;
    turns = ends.turns;
    fault = fault;
    text_is = ends.halted.text_is;
    status_is = ends.halted.status_is;
    next = ends.halted.next;
    next_is = ends.halted.next_is;
    is = is;
  }

  -- what a crash leaves then
  pub with_crash : (it : TheRegistry S g) (h : History) (visits : List Visit) (fault : Option Fault) → EndsServing it h visits fault → HasCleanDisk (state_of it)
      → EndsServing it h visits fault × Leaves newest (state_of it) (IsLeftAfter h visits)
  with_crash it h visits None ends clean = (
    ends,
    λ db may. let left = ends.2.at.left clean db may in (left.0, inl (subst (λ x. Turns h visits x) (sym left.1) ends.1), left.2),
  )
  with_crash it h visits (Some fault) ends clean = (
    ends,
    λ db may. let left = ends.halted.left.leaves db may in (left.0, inr (in_part it h visits fault ends left.0 left.1), left.2),
  )

pub length_more : (visits : List Visit) (visit : Visit) (n : ℕ) → length visits ≡ n → length (visits ++ visit ∷ []) ≡ n + 1
length_more visits visit n is = length-append visits (visit ∷ []) ∙ ap (λ (k : ℕ). k + 1) is

module _ {C R W : Type 0} (opens : C → C → R → W → Type 0) (closes : C → C → R → W → Option ℕ → Type 0) (remaining : R → Option (List ℕ)) (reads_failed : R → ℕ) (contents : W → Option (List ℕ)) (writes_failed : W → ℕ) where
  -- a connection was opened, this was served, and it was closed
  visit_with : (old opened new : C) (reader reader_new : R) (writer writer_new : W) (visit : Visit) (status : Option ℕ)
      → opens old opened reader writer → closes opened new reader_new writer_new status → status ≡ status_of visit.end → MayGive (remaining reader) visit.bytes
      → IsRead remaining reads_failed reader reader_new visit → IsResponseWritten contents writes_failed writer writer_new visit → IsVisit opens closes remaining reads_failed contents writes_failed old new visit
  visit_with old opened new reader reader_new writer writer_new visit status opens_with closes_with status_is gives read written = record {
    opened = opened;
    reader = reader;
    reader_new = reader_new;
    writer = writer;
    writer_new = writer_new;
    opens_with = opens_with;
    gives = gives;
    read = read;
    written = written;
    status = status;
    status_is = status_is;
    closes_with = closes_with;
  }

module _ {S C R W : Type 0} {g : Ghosts S} (opens : C → C → R → W → Type 0) (closes : C → C → R → W → Option ℕ → Type 0) (remaining : R → Option (List ℕ)) (reads_failed : R → ℕ) (contents : W → Option (List ℕ)) (writes_failed : W → ℕ) (fails : C → C → Type 0) where
  abbrev Ends : C → C → TheRegistry S g → TheRegistry S g → ℕ → Result (Unit {0}) ServerStop → Type 0
  Ends old new first last count result = (visits : List Visit) × (middle : C)
      × HaveVisited opens closes remaining reads_failed contents writes_failed old middle visits
      × EndsConnections fails middle new result
      × (length visits ≤ count) × OnOk result (length visits ≡ count)
      × ((h : History) → Represents first h → HasCleanDisk (state_of last) → EndsServing last h visits (fault_in_server result) × Leaves newest (state_of last) (IsLeftAfter h visits))
      × (is_poisoned first ≡ true → AreTurnedAway visits (fault_in_server result) × (last ≡ first))

  -- a message was served between the opening and the closing of a connection
  pub visit_of : (old opened new : C) (reader reader_new : R) (writer writer_new : W) (mid last : TheRegistry S g) (cache cache_new : Cache) (served : Result Served Broken) (status : Option ℕ) (fault : Option Fault) (bytes : List ℕ)
      → opens old opened reader writer → closes opened new reader_new writer_new status → status ≡ status_of served → fault ≡ fault_behind served → MayGive (remaining reader) bytes
      → IfOk served (λ served. (response : Response) × Sends contents writes_failed writer writer_new response served.status
      × ((h : History) → Represents mid h → HasCleanDisk (state_of last) → AreTextsOf h cache → IsServed last h bytes response served.fault × AreTextsAfter h bytes cache_new)
      × (is_poisoned mid ≡ true → cache ≡ no_texts → IsTurnedAway bytes response served.fault × (last ≡ mid) × (cache_new ≡ no_texts))
      × (is_poisoned mid ≡ false → IsToldBy served.fault response))
      → OnErr served (FailsAfter (remaining reader) (remaining reader_new) (reads_failed reader) (reads_failed reader_new) IsIncomplete × (writer_new ≡ writer) × (last ≡ mid) × (cache_new ≡ cache))
      → OnOk served (reads_failed reader_new ≡ reads_failed reader)
      → (visit : Visit)
      × IsVisit opens closes remaining reads_failed contents writes_failed old new visit
      × ((h : History) → Represents mid h → HasCleanDisk (state_of last) → AreTextsOf h cache → EndsVisit last h visit fault × AreTextsAfterVisit h visit cache_new)
      × (is_poisoned mid ≡ true → cache ≡ no_texts → IsTurnedAwayAt visit fault × (last ≡ mid) × (cache_new ≡ no_texts))
      × (is_poisoned mid ≡ false → IsToldAt visit fault)
  visit_of old opened new reader reader_new writer writer_new mid last cache cache_new (Ok served) status fault bytes opens_with closes_with status_is fault_is gives said failed came =
      let visit : Visit = record { bytes = bytes; text = response_bytes said.0; end = Ok served } in (
        visit,
        visit_with opens closes remaining reads_failed contents writes_failed old opened new reader reader_new writer writer_new visit status opens_with closes_with status_is gives came (said.0, refl, said.1),
        λ h stands clean of.
            let both = said.2 h stands clean of in
            (subst (λ (f : Option Fault). EndsVisit last h visit f) (sym fault_is) (served_visit last h bytes said.0 served said.1.1 both.0), texts_after_visit h bytes visit.text served cache_new both.1),
        λ poisoned none. let away = said.3 poisoned none in ((said.0, refl, said.1.1, away.0, fault_is), away.1, away.2),
        λ sane. subst (λ (f : Option Fault). IsToldAt visit f) (sym fault_is) (told_at bytes said.0 served served.fault said.1.1 (said.4 sane)),
      )
  visit_of old opened new reader reader_new writer writer_new mid last cache cache_new (Err broken) status fault bytes opens_with closes_with status_is fault_is gives said failed came =
      let visit : Visit = record { bytes = bytes; text = []; end = Err broken } in (
        visit,
        visit_with opens closes remaining reads_failed contents writes_failed old opened new reader reader_new writer writer_new visit status opens_with closes_with status_is gives failed.0 failed.1,
        λ h stands clean of. (
          subst (λ (f : Option Fault). EndsVisit last h visit f) (sym fault_is) (h, refl, subst (λ (r : TheRegistry S g). Represents r h) (sym failed.2) stands),
          λ next same. subst (λ (k : Cache). AreTextsOf next k) (sym failed.3) (subst (λ (x : History). AreTextsOf x cache) (sym same) of),
        ),
        λ poisoned none. (fault_is, failed.2, failed.3 ∙ none),
        λ sane. subst (λ (f : Option Fault). IsToldAt visit f) (sym fault_is) tt,
      )

  -- one connection came beside texts that are cached, with this result
  abbrev pub CameBeside : C → C → TheRegistry S g → TheRegistry S g → Cache → Cache → Result (Unit {0}) ServerStop → Type 0
  CameBeside old new mid last cache cache_new result = IfVisited result ((visit : Visit)
      × IsVisit opens closes remaining reads_failed contents writes_failed old new visit
      × ((h : History) → Represents mid h → HasCleanDisk (state_of last) → AreTextsOf h cache → EndsVisit last h visit (fault_in_server result) × AreTextsAfterVisit h visit cache_new)
      × (is_poisoned mid ≡ true → cache ≡ no_texts → IsTurnedAwayAt visit (fault_in_server result) × (last ≡ mid) × (cache_new ≡ no_texts))
      × (is_poisoned mid ≡ false → IsToldAt visit (fault_in_server result)))

  -- the same beside no text
  pub came_alone : (old new : C) (mid last : TheRegistry S g) (cache cache_new : Cache) (result : Result (Unit {0}) ServerStop) → cache ≡ no_texts → CameBeside old new mid last cache cache_new result
      → IfVisited result ((visit : Visit)
      × IsVisit opens closes remaining reads_failed contents writes_failed old new visit
      × ((h : History) → Represents mid h → HasCleanDisk (state_of last) → EndsVisit last h visit (fault_in_server result))
      × (is_poisoned mid ≡ true → IsTurnedAwayAt visit (fault_in_server result) × (last ≡ mid))
      × (is_poisoned mid ≡ false → IsToldAt visit (fault_in_server result)))
  came_alone old new mid last cache cache_new (Ok done) none came = (
    came.0,
    came.1,
    λ h stands clean. (came.2 h stands clean (none_are h cache none)).0,
    λ poisoned. let away = came.3 poisoned none in (away.0, away.1),
    came.4,
  )
  came_alone old new mid last cache cache_new (Err stops.Connections) none came = tt
  came_alone old new mid last cache cache_new (Err (stops.Registry fault)) none came = (
    came.0,
    came.1,
    λ h stands clean. (came.2 h stands clean (none_are h cache none)).0,
    λ poisoned. let away = came.3 poisoned none in (away.0, away.1),
    came.4,
  )

  -- a fault is told at the last connection
  pub told_last : (old middle new : C) (mid last : TheRegistry S g) (cache cache_new : Cache) (visits : List Visit) (result : Result (Unit {0}) ServerStop) (stop : ServerStop) → result ≡ Err stop
      → HaveVisited opens closes remaining reads_failed contents writes_failed old middle visits → CameBeside middle new mid last cache cache_new (Err stop) → is_poisoned mid ≡ false
      → IfSome (fault_in_server result) (λ fault. (visits : List Visit) × (middle : C) × (last : Visit) × HaveVisited opens closes remaining reads_failed contents writes_failed old middle visits
      × IsVisit opens closes remaining reads_failed contents writes_failed middle new last × IsToldAt last (Some fault))
  told_last old middle new mid last cache cache_new visits result stops.Connections is before came sane = rw is tt
  told_last old middle new mid last cache cache_new visits result (stops.Registry fault) is before came sane = rw is (visits, middle, came.0, before, came.1, came.4 sane)

  -- a server stops when no more connections come, or at a fault
  pub stops_at : (old middle new : C) (first mid last : TheRegistry S g) (cache cache_new : Cache) (count : ℕ) (visits : List Visit) (stop : ServerStop)
      → HaveVisited opens closes remaining reads_failed contents writes_failed old middle visits → length visits < count
      → (HasCleanDisk (state_of last) → HasCleanDisk (state_of mid))
      → ((h : History) → Represents first h → HasCleanDisk (state_of mid) → RepresentsBeside mid cache h visits)
      → (is_poisoned first ≡ true → AreTurnedAway visits None × (mid ≡ first) × (cache ≡ no_texts))
      → CameBeside middle new mid last cache cache_new (Err stop)
      → (stop ≡ stops.Connections → fails middle new × (last ≡ mid)) → Ends old new first last count (Err stop)
  stops_at old middle new first mid last cache cache_new count visits stops.Connections before less early so_far turned came none = (
    visits,
    middle,
    before,
    (none refl).0,
    omega (arith, less),
    tt,
    λ h stands clean.
        with_crash last h visits None (subst (λ it. RepresentsAfter it h visits) (sym (none refl).1) (represents_after mid cache h visits (so_far h stands (early clean)))) clean,
    λ poisoned. let away = turned poisoned in (away.0, (none refl).1 ∙ away.1),
  )
  stops_at old middle new first mid last cache cache_new count visits (stops.Registry fault) before less early so_far turned came none =
      let longer = length_more visits came.0 (length visits) refl in (
        visits ++ came.0 ∷ [],
        new,
        visited_more opens closes remaining reads_failed contents writes_failed old middle new visits came.0 before came.1,
        refl,
        omega (arith, less, longer),
        tt,
        λ h stands clean.
            with_crash last h (visits ++ came.0 ∷ []) (Some fault) (halted_more mid last cache h visits came.0 fault (so_far h stands (early clean)) (λ x at are. (came.2 x at clean are).0)) clean,
        λ poisoned.
            let away = turned poisoned in
            let one = came.3 (subst (λ (r : TheRegistry S g). is_poisoned r ≡ true) (sym away.1) poisoned) away.2 in
            (turned_more visits came.0 (Some fault) away.0 one.0, one.1 ∙ away.1),
      )

  pub stopped_at : (result : Result (Unit {0}) ServerStop) (stop : ServerStop) → result ≡ Err stop → (old middle new : C) (first mid last : TheRegistry S g) (cache cache_new : Cache) (count : ℕ) (visits : List Visit)
      → HaveVisited opens closes remaining reads_failed contents writes_failed old middle visits → length visits < count
      → (HasCleanDisk (state_of last) → HasCleanDisk (state_of mid))
      → ((h : History) → Represents first h → HasCleanDisk (state_of mid) → RepresentsBeside mid cache h visits)
      → (is_poisoned first ≡ true → AreTurnedAway visits None × (mid ≡ first) × (cache ≡ no_texts))
      → CameBeside middle new mid last cache cache_new (Err stop)
      → (stop ≡ stops.Connections → fails middle new × (last ≡ mid)) → Ends old new first last count result
  stopped_at result stop is old middle new first mid last cache cache_new count visits before less early so_far turned came none =
      subst (λ (r : Result (Unit {0}) ServerStop). Ends old new first last count r) (sym is) (stops_at old middle new first mid last cache cache_new count visits stop before less early so_far turned came none)
