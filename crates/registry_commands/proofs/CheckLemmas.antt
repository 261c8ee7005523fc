-- A check of a store: the replay of its record in memory, and the comparison.
use Rattle.std.proofs.Common.{◌≡◌, ◌≢◌, ◌⊎◌, inl, inr, ℕ, ◌+◌, ◌<◌, ◌≤◌, zero, suc, Bool, cond, true, false, true≢false, List, [], ◌∷◌, ◌++◌, length, take, drop, get_or, refl, sym, ap, subst, ◌∙◌, arith, append_assoc, add-one, drop-drop, length-append}
use Rattle.std.specs.Prelude.{None, Ok, Err, Result, IfOk, IfErr, OnOk}
use Rattle.std.proofs.Math.Seq.{take-suc, drop-cons}
use Rattle.std.proofs.lemmas.List.{length-drop, take-append-drop}
use Rattle.sqlite.specs.Store.{Ghosts}
use Rattle.sqlite.specs.State.{HasCleanDisk}
use Rattle.sqlite.specs.Steps.{over_memory}
use Rattle.sqlite_trees.specs.declared.memory.MemStore.{MemStore}
use Rattle.registry_rules.specs.Accepted.{AreValid, accepted_of}
use Rattle.registry_rules.specs.declared.accepted.Accepted.{Accepted}
use Rattle.registry_rules.specs.declared.founding.Founding.{Founding}
use Rattle.registry_rules.specs.declared.verdict.Reply.{Reply}
use Rattle.registry_rules.specs.declared.verdict.Reply.TheVariants.{Done}
use Rattle.registry_rules.specs.History.{History, founded}
use Rattle.registry_rules.specs.Laws.{IsMadeByItsRequests}
use Rattle.registry_rules.specs.Run.{after_one, reply_to}
use Rattle.registry_store.specs.declared.fault.Fault.{Fault}
use Rattle.registry_store.specs.declared.fault.Fault.TheVariants as faults
use Rattle.registry_store.specs.declared.registry.Registry.{Registry}
use Rattle.registry_store.specs.Promise.{NotesForeign, Represents, is_poisoned, state_of}
use Rattle.registry_store.specs.Queries.{IsUntouched}
use Rattle.registry_store.proofs.IsQueryLemmas.{notes_then, untouched_itself}
use Rattle.registry_commands.specs.declared.checking.CheckStop.{CheckStop}
use Rattle.registry_commands.specs.declared.checking.CheckStop.TheVariants as stop
use Rattle.registry_commands.specs.declared.checking.Counts.{Counts}
use Rattle.registry_commands.specs.declared.messages.Failure.{Failure}
use Rattle.registry_commands.specs.declared.messages.Failure.TheVariants as of
use Rattle.registry_commands.specs.declared.status.ExitStatus.TheVariants.{Failed}
use Rattle.registry_commands.specs.Checks.{EndsOn, IsCountOf, LeadsOn, StopsCheck, StopsFor, StopsOver, StopsPiece, TellsWhy, unsound_text}
use Rattle.registry_commands.specs.Ends.{Effect, ReceivesNothing}
use Rattle.registry_commands.specs.Failures.{IsOfSoundRun, Prints}
use Rattle.registry_commands.specs.Messages.{failure_line, failure_of}
use Rattle.registry_commands.specs.Replayed.{IsOfActing}
use Rattle.registry_commands.specs.Shown.{HoldsOfHistory, IsOfReading}
use Rattle.registry_commands.proofs.EndLemmas.{memory_is_clean}
use Rattle.registry_commands.proofs.RecordedLemmas.{clean_before, empty, of_later, untouched_then}

pub at_most_one : (b : Bool) → cond b 1 0 ≤ 1
at_most_one true = omega arith
at_most_one false = omega arith

-- ---- texts

-- texts one after another, however they are put together
pub four_texts : (a b c d : List ℕ) → ((a ++ b) ++ c) ++ d ≡ a ++ (b ++ (c ++ d))
four_texts a b c d = append_assoc (a ++ b) c d ∙ append_assoc a b (c ++ d)

pub five_texts : (a b c d e : List ℕ) → (((a ++ b) ++ c) ++ d) ++ e ≡ a ++ (b ++ (c ++ (d ++ e)))
five_texts a b c d e = append_assoc ((a ++ b) ++ c) d e ∙ four_texts a b c (d ++ e)

-- ---- histories that lead to another

-- the first request gets its reply
first_reply : (x h : History) (a : Accepted) (list : List Accepted) → LeadsOn x (a ∷ list) h → reply_to x a.request ≡ Done a.reply
first_reply x h a list is = let both = is.replies_are in cc both

-- and the others lead on from the history after it
rest_leads : (x h : History) (a : Accepted) (list : List Accepted) → LeadsOn x (a ∷ list) h → LeadsOn (after_one x a.request) list h
rest_leads x h a list is = record { after_is = is.after_is; replies_are = let both = is.replies_are in cc both }

take_next : (piece : List Accepted) (i : ℕ) (a : Accepted) (list : List Accepted) → i < length piece → a ≡ get_or piece i a → take (i + 1) piece ++ list ≡ take i piece ++ (a ∷ list)
take_next piece i a list within is =
    ap (λ (l : List Accepted). l ++ list) (rw add-one (take-suc piece i a within))
    ∙ append_assoc (take i piece) (get_or piece i a ∷ []) list
    ∙ ap (λ (y : Accepted). take i piece ++ (y ∷ list)) (sym is)

all_around : (piece : List Accepted) (i : ℕ) (a : Accepted) (list : List Accepted) → i < length piece → a ≡ get_or piece i a → piece ++ list ≡ take i piece ++ (a ∷ (drop (suc i) piece ++ list))
all_around piece i a list within is =
    ap (λ (l : List Accepted). l ++ list) (sym (take-append-drop i piece))
    ∙ append_assoc (take i piece) (drop i piece) list
    ∙ ap (λ (l : List Accepted). take i piece ++ (l ++ list)) (drop-cons piece i a within ∙ ap (λ (y : Accepted). y ∷ drop (suc i) piece) (sym is))

-- what was acted on so far leads from the first history to this one
abbrev pub LeadsSoFar : History → List Accepted → ℕ → History → Type 0
LeadsSoFar now piece i x = (list : List Accepted) (h : History) → LeadsOn now (take i piece ++ list) h → LeadsOn x list h

pub one_more_leads : (now x : History) (piece : List Accepted) (i : ℕ) (a : Accepted) → i < length piece → a ≡ get_or piece i a → LeadsSoFar now piece i x → LeadsSoFar now piece (i + 1) (after_one x a.request)
one_more_leads now x piece i a within is leads list h given =
    rest_leads x h a list (leads (a ∷ list) h (subst (λ (l : List Accepted). LeadsOn now l h) (take_next piece i a list within is) given))

pub other_reply : (now x : History) (piece : List Accepted) (i : ℕ) (a : Accepted) (reply : Reply) → i < length piece → a ≡ get_or piece i a → LeadsSoFar now piece i x → reply_to x a.request ≡ reply → reply ≢ Done a.reply
    → (rest : List Accepted) (h : History) → ¬ LeadsOn now (piece ++ rest) h
other_reply now x piece i a reply within is leads got other rest h given =
    let on = leads (a ∷ (drop (suc i) piece ++ rest)) h (subst (λ (l : List Accepted). LeadsOn now l h) (all_around piece i a rest within is) given) in
    other (sym got ∙ first_reply x h a (drop (suc i) piece ++ rest) on)

-- acting on a request over a registry in memory fails only for want of memory or by its store
pub memory_fails : (it new : Registry MemStore over_memory) (x : History) → Represents it x → (failure : Failure) → IsOfActing it new failure → (failure ≡ of.Store) ⊎ (failure ≡ of.Memory)
memory_fails it new x stands of.Store why = inl refl
memory_fails it new x stands of.Memory why = inr refl
memory_fails it new x stands of.Foreign why = absurd (why.1 (x, stands, memory_is_clean new))
memory_fails it new x stands of.Poisoned why = absurd (true≢false (sym why ∙ stands.not_poisoned))
memory_fails it new x stands of.Taken why = absurd why
memory_fails it new x stands of.File why = absurd why

-- the failure of a query of it, too
pub memory_fault : (fault : Fault) → (fault ≡ faults.Store) ⊎ (fault ≡ faults.NoMemory) → (failure_of fault ≡ of.Store) ⊎ (failure_of fault ≡ of.Memory)
memory_fault fault (inl is) = inl (ap failure_of is)
memory_fault fault (inr is) = inr (ap failure_of is)

-- ---- pieces of the record

split_at : {A : Type 0} (k : ℕ) (xs : List A) → xs ≡ take k xs ++ drop (length (take k xs)) xs
split_at zero xs = refl
split_at (suc k) [] = refl
split_at {A} (suc k) (x ∷ xs) = ap (λ (l : List A). x ∷ l) (split_at k xs)

none_taken : {A : Type 0} (k : ℕ) (xs : List A) → take (suc k) xs ≡ [] → xs ≡ []
none_taken k [] is = refl
none_taken k (x ∷ xs) is = absurd cc

-- the requests of a history that are still to come, after so many
piece_of : (all items : List Accepted) (passed : ℕ) → items ≡ take 64 (drop passed all) → drop passed all ≡ items ++ drop (passed + length items) all
piece_of all items passed is =
    subst (λ (l : List Accepted). drop passed all ≡ l ++ drop (length l) (drop passed all)) (sym is) (split_at 64 (drop passed all))
    ∙ ap (λ (l : List Accepted). items ++ l) (drop-drop (length items) passed all)

within_all : (all items : List Accepted) (passed : ℕ) → passed ≤ length all → items ≡ take 64 (drop passed all) → passed + length items ≤ length all
within_all all items passed less is =
    let whole = ap length (piece_of all items passed is) in
    let left = length-drop passed all in
    let both = length-append items (drop (passed + length items) all) in
    let last = length-drop (passed + length items) all in
    omega (arith, whole, left, both, last, less)

-- that many requests were acted on, and the others lead to the history
pub record Awaits (now : History) (passed : ℕ) (x h : History) : Type 0 where
  pub within : passed ≤ length (accepted_of h.deeds)
  pub leads : LeadsOn x (drop passed (accepted_of h.deeds)) h

abbrev pub IsWay : History → History → Type 0
IsWay now h = AreValid h.deeds × LeadsOn now (accepted_of h.deeds) h

module _ {S : Type 0} {g : Ghosts S} where
  -- the failure of a registry in memory, with no note of the rows of no history
  pub of_memory : (it new : Registry S g) (failure : Failure) → NotesForeign it new None → (failure ≡ of.Store) ⊎ (failure ≡ of.Memory) → IsOfReading it new failure
  of_memory it new failure notes (inl is) = subst (IsOfReading it new) (sym is) notes
  of_memory it new failure notes (inr is) = subst (IsOfReading it new) (sym is) notes

  -- the registry in memory has come so far with the record
  abbrev pub HasCome : Registry S g → Registry S g → Registry MemStore over_memory → Registry MemStore over_memory → ℕ → Type 0
  HasCome it mid mem mem_mid passed = (now : History) → Represents mem now → EndsOn mem_mid (λ x. HoldsOfHistory it mid (λ h. IsWay now h → Awaits now passed x h))

  pub none_come : (it : Registry S g) (mem : Registry MemStore over_memory) → HasCome it it mem mem 0
  none_come it mem now stands = (now, stands, λ h is clean way. record { within = omega arith; leads = way.1 })

  module _ (it mid new : Registry S g) (mem mem_mid : Registry MemStore over_memory) (passed : ℕ) (left : IsUntouched it mid) (come : HasCome it mid mem mem_mid passed)
      (then : IsUntouched mid new) (items : List Accepted) (next_are : HoldsOfHistory mid new (λ h. AreValid h.deeds → items ≡ take 64 (drop passed (accepted_of h.deeds)))) where
    -- one piece more
    pub more_come : (mem_new : Registry MemStore over_memory) (more : ℕ) → more ≡ passed + length items
        → ((now : History) → Represents mem_mid now → EndsOn mem_new (λ x. (rest : List Accepted) (h : History) → LeadsOn now (items ++ rest) h → LeadsOn x rest h))
        → HasCome it new mem mem_new more
    more_come mem_new more is acted now stands =
        let so_far = come now stands in
        let then_x = acted so_far.0 so_far.1 in (
          then_x.0,
          then_x.1,
          λ h at clean way.
              let all = accepted_of h.deeds in
              let early = so_far.2 h at (clean_before mid new then clean) way in
              let are = next_are h (left.stays h at) clean way.0 in
              record {
                within = subst (λ (n : ℕ). n ≤ length all) (sym is) (within_all all items passed early.within are);
                leads = subst (λ (n : ℕ). LeadsOn then_x.0 (drop n all) h) (sym is)
                    (then_x.2 (drop (passed + length items) all) h (subst (λ (l : List Accepted). LeadsOn so_far.0 l h) (piece_of all items passed are) early.leads));
              },
        )

    -- another reply
    pub piece_stops : NotesForeign it new None → (now : History) → Represents mem now → (why : CheckStop) → ((x : History) → Represents mem_mid x → StopsPiece x items why) → StopsFor it new (IsWay now) why
    piece_stops notes now stands (stop.Reply number reply) differs = (
      notes,
      λ h at clean way.
          let so_far = come now stands in
          let early = so_far.2 h at (clean_before mid new then clean) way in
          let are = next_are h (left.stays h at) clean way.0 in
          differs so_far.0 so_far.1 (drop (passed + length items) (accepted_of h.deeds)) h
          (subst (λ (l : List Accepted). LeadsOn so_far.0 l h) (piece_of (accepted_of h.deeds) items passed are) early.leads),
    )
    piece_stops notes now stands (stop.Row difference) differs = let so_far = come now stands in absurd (differs so_far.0 so_far.1)
    piece_stops notes now stands (stop.Failure failure) differs = let so_far = come now stands in of_memory it new failure notes (differs so_far.0 so_far.1)

    -- no piece more
    pub all_come : length items ≡ 0 → (now : History) → Represents mem now
        → EndsOn mem_mid (λ x. HoldsOfHistory it new (λ h. AreValid h.deeds → LeadsOn now (accepted_of h.deeds) h → (x ≡ h) × (passed ≡ length (accepted_of h.deeds))))
    all_come none now stands =
        let so_far = come now stands in (
          so_far.0,
          so_far.1,
          λ h at clean valid leads.
              let all = accepted_of h.deeds in
              let early = so_far.2 h at (clean_before mid new then clean) (valid, leads) in
              let are = next_are h (left.stays h at) clean valid in
              let gone : drop passed all ≡ [] = none_taken 63 (drop passed all) (sym are ∙ empty items none) in
              let size : length (drop passed all) ≡ 0 = ap length gone in
              let left_over = length-drop passed all in
              let last : LeadsOn so_far.0 [] h = subst (λ (l : List Accepted). LeadsOn so_far.0 l h) gone early.leads in
              (last.after_is, omega (arith, size, left_over, early.within)),
        )

  -- ---- one step after another

  -- why a later step stopped, over each history of which something else holds
  pub stops_later : (it mid new : Registry S g) (P Q : History → Type 0) → IsUntouched it mid → NotesForeign it mid None → IsUntouched mid new → HoldsOfHistory it mid (λ h. Q h → P h)
      → (why : CheckStop) → StopsFor mid new P why → StopsFor it new Q why
  stops_later it mid new P Q left notes then given (stop.Reply number reply) is =
      (notes_then it mid new None notes is.0, λ h at clean q. is.1 h (left.stays h at) clean (given h at (clean_before mid new then clean) q))
  stops_later it mid new P Q left notes then given (stop.Row difference) is =
      (notes_then it mid new None notes is.0, λ h at clean q. is.1 h (left.stays h at) clean (given h at (clean_before mid new then clean) q))
  stops_later it mid new P Q left notes then given (stop.Failure failure) is = of_later it mid new left notes failure is

  pub over_earlier : (it mid new : Registry S g) (P Q : History → Type 0) → IsUntouched it mid → NotesForeign it mid None → IsUntouched mid new → HoldsOfHistory it mid (λ h. Q h → P h)
      → (result : Result Counts CheckStop) → StopsOver mid new P result → StopsOver it new Q result
  over_earlier it mid new P Q left notes then given (Ok counts) is = λ h at clean q. is h (left.stays h at) clean (given h at (clean_before mid new then clean) q)
  over_earlier it mid new P Q left notes then given (Err why) is = stops_later it mid new P Q left notes then given why is

  pub notes_on : (it mid new : Registry S g) (result : Result Counts CheckStop) → NotesForeign it mid None → OnOk result (NotesForeign mid new None) → OnOk result (NotesForeign it new None)
  notes_on it mid new (Ok counts) first then = notes_then it mid new None first then
  notes_on it mid new (Err why) first then = tt

  -- what both ends of a check say
  pub ok_over : (it new : Registry S g) (P : History → Type 0) (result : Result Counts CheckStop) → StopsOver it new P result → IfOk result (λ counts. HoldsOfHistory it new (λ h. P h → IsCountOf h counts))
  ok_over it new P (Ok counts) is = is
  ok_over it new P (Err why) is = tt

  pub err_over : (it new : Registry S g) (P : History → Type 0) (result : Result Counts CheckStop) → StopsOver it new P result → IfErr result (StopsFor it new P)
  err_over it new P (Ok counts) is = tt
  err_over it new P (Err why) is = is

  -- the record of a history makes it again, with the replies that it says
  pub record_leads : IsMadeByItsRequests → (it : Registry S g) (founding : Founding) (h : History) → Represents it h → founding ≡ h.founding → LeadsOn (founded founding) (accepted_of h.deeds) h
  record_leads law it founding h stands is =
      let made = law h stands.legal_with.legal in
      subst (λ (f : Founding). LeadsOn (founded f) (accepted_of h.deeds) h) (sym is) (record { after_is = made.0; replies_are = made.1 })

module _ {S : Type 0} {g : Ghosts S} where
  -- why a check stopped is said; without memory for that, this is
  pub told_why : (did : Effect S g) (why : CheckStop) → StopsCheck did.old did.new why → did.ends.status ≡ Failed → ReceivesNothing did.ends.out → TellsWhy why did.ends.errors
      → (why : CheckStop) × StopsCheck did.old did.new why × (did.ends.status ≡ Failed) × ReceivesNothing did.ends.out × Prints did.ends.errors (unsound_text why)
  told_why did (stop.Reply number reply) is failed silent told = elim told [
    | inl said ↦ (stop.Reply number reply, is, failed, silent, said)
    | inr memory ↦ (stop.Failure of.Memory, is.0, failed, silent, memory)
  ]
  told_why did (stop.Row difference) is failed silent told = elim told [
    | inl said ↦ (stop.Row difference, is, failed, silent, said)
    | inr memory ↦ (stop.Failure of.Memory, is.0, failed, silent, memory)
  ]
  told_why did (stop.Failure failure) is failed silent told = (stop.Failure failure, is, failed, silent, told)

  -- over a history whose requests are valid, and over a clean disk, only a failure stops a check
  pub sound_failure : (it new : Registry S g) (h : History) → Represents it h → HasCleanDisk (state_of new) → AreValid h.deeds → (why : CheckStop) → StopsCheck it new why
      → (failure : Failure) × IsOfSoundRun failure × (unsound_text why ≡ failure_line failure)
  sound_failure it new h stands clean valid (stop.Reply number reply) is = absurd (is.1 h stands clean valid)
  sound_failure it new h stands clean valid (stop.Row difference) is = absurd (is.1 h stands clean valid)
  sound_failure it new h stands clean valid (stop.Failure of.Store) is = (of.Store, tt, refl)
  sound_failure it new h stands clean valid (stop.Failure of.Memory) is = (of.Memory, tt, refl)
  sound_failure it new h stands clean valid (stop.Failure of.Poisoned) is = absurd (true≢false (sym is ∙ stands.not_poisoned))
  sound_failure it new h stands clean valid (stop.Failure of.Foreign) is = absurd (is (h, stands, clean))
  sound_failure it new h stands clean valid (stop.Failure of.Taken) is = absurd is
  sound_failure it new h stands clean valid (stop.Failure of.File) is = absurd is
