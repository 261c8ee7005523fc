-- Lines of a record that were acted on, one after another.
use Rattle.std.proofs.Common.{◌≡◌, ◌⊎◌, inl, inr, ℕ, ◌+◌, ◌-◌, ◌^◌, false, true, List, [], ◌∷◌, ◌++◌, length, Option, Result, Ok, Err, refl, sym, ap, subst, ◌∙◌, arith, append-nil, length-append, true≢false}
use Rattle.std.specs.Prelude.{◌≢◌, All, Some, None}
use Rattle.std.proofs.lemmas.List.Elements.{All-nil, All-push}
use Rattle.std.proofs.lemmas.List.{map-append}
use Rattle.sqlite.specs.Store.{Ghosts}
use Rattle.sqlite.specs.State.{State, HasCleanDisk}
use Rattle.registry_rules.specs.declared.accepted.Accepted.{Accepted}
use Rattle.registry_rules.specs.declared.verdict.Reply.{Reply}
use Rattle.registry_rules.specs.declared.verdict.Reply.TheVariants.{Done}
use Rattle.registry_rules.specs.History.{History}
use Rattle.registry_rules.specs.Run.{after, after_one, replies_to, reply_to}
use Rattle.registry_tables.specs.Rows.{newest}
use Rattle.registry_store.specs.declared.fault.Fault.{Fault}
use Rattle.registry_store.specs.declared.fault.Fault.TheVariants as faults
use Rattle.registry_store.specs.declared.registry.Registry.{Registry}
use Rattle.registry_store.specs.Promise.{Endures, Leaves, NotesForeign, Represents, is_poisoned, state_of}
use Rattle.registry_store.proofs.IsQueryLemmas.{notes_then}
use Rattle.registry_commands.specs.declared.entries.Entry.{Entry}
use Rattle.registry_commands.specs.declared.entries.Entry.TheVariants.{End, Blank, Founding, Accepted as Request, Bad}
use Rattle.registry_commands.specs.declared.entries.LineRefusal.{LineRefusal}
use Rattle.registry_commands.specs.declared.following.ReplayStop.{ReplayStop}
use Rattle.registry_commands.specs.declared.following.ReplayStop.TheVariants as stop
use Rattle.registry_commands.specs.declared.input.ReadAllFault.{ReadAllFault}
use Rattle.registry_commands.specs.declared.input.ReadAllFault.TheVariants as inputs
use Rattle.registry_commands.specs.declared.messages.Failure.{Failure}
use Rattle.registry_commands.specs.declared.messages.Failure.TheVariants as of
use Rattle.byte_streams.specs.Streams.{FailsOnce}
use Rattle.registry_commands.specs.Messages.{failure_of, input_failure}
use Rattle.registry_commands.specs.Entries.{FirstSays, PassesOne, entry_in, is_followed}
use Rattle.registry_commands.specs.RecordLines.{MayHaveLines, Passes}
use Rattle.registry_commands.specs.Replayed.{ActsOnNone, AreContinued, IsDigestAfter, IsContinuedBy, GetTheirReplies, IsAnother, IsOfActing, IsOfReplay, IsRefusedFor, IsReplayOf, accepted_in, after_entry, after_lines, foreign_by, replies_of, requests_of, with_entry}
use Rattle.registry_commands.proofs.ApplyLemmas.{endures_itself}
use Rattle.registry_commands.proofs.RecordLineLemmas.{may_have, passes_none, passes_then}

-- ---- one line more

with_last : (front : List (List ℕ)) (line : List ℕ) → accepted_in (front ++ line ∷ []) ≡ accepted_in front ++ with_entry (entry_in line) []
with_last [] line = refl
with_last (first ∷ front) line = go (entry_in first) (with_last front line)
  where
    go : (e : Entry) → accepted_in (front ++ line ∷ []) ≡ accepted_in front ++ with_entry (entry_in line) []
        → with_entry e (accepted_in (front ++ line ∷ [])) ≡ with_entry e (accepted_in front) ++ with_entry (entry_in line) []
    go (Request a d) below = ap (λ (l : List Accepted). a ∷ l) below
    go End below = below
    go Blank below = below
    go (Founding f) below = below
    go (Bad r) below = below

with_blank : (front : List (List ℕ)) (line : List ℕ) → entry_in line ≡ Blank → accepted_in (front ++ line ∷ []) ≡ accepted_in front
with_blank front line is = with_last front line ∙ ap (λ (e : Entry). accepted_in front ++ with_entry e []) is ∙ append-nil (accepted_in front)

with_request : (front : List (List ℕ)) (line : List ℕ) (a : Accepted) (d : Option (List ℕ)) → entry_in line ≡ Request a d → accepted_in (front ++ line ∷ []) ≡ accepted_in front ++ a ∷ []
with_request front line a d is = with_last front line ∙ ap (λ (e : Entry). accepted_in front ++ with_entry e []) is

after_more : (h : History) (list : List Accepted) (a : Accepted) → after h (requests_of (list ++ a ∷ [])) ≡ after_one (after h (requests_of list)) a.request
after_more h [] a = refl
after_more h (first ∷ list) a = after_more (after_one h first.request) list a

replies_more : (h : History) (list : List Accepted) (a : Accepted) → replies_to h (requests_of (list ++ a ∷ [])) ≡ replies_to h (requests_of list) ++ reply_to (after h (requests_of list)) a.request ∷ []
replies_more h [] a = refl
replies_more h (first ∷ list) a = ap (λ (l : List Reply). reply_to h first.request ∷ l) (replies_more (after_one h first.request) list a)

told_more : (list : List Accepted) (a : Accepted) → replies_of (list ++ a ∷ []) ≡ replies_of list ++ Done a.reply ∷ []
told_more list a = map-append (λ (accepted : Accepted). Done accepted.reply) list (a ∷ [])

pub after_request : (h : History) (front : List (List ℕ)) (line : List ℕ) (a : Accepted) (d : Option (List ℕ)) → entry_in line ≡ Request a d → after_lines h (front ++ line ∷ []) ≡ after_one (after_lines h front) a.request
after_request h front line a d is = ap (λ (l : List Accepted). after h (requests_of l)) (with_request front line a d is) ∙ after_more h (accepted_in front) a

pub replied_request : (h : History) (front : List (List ℕ)) (line : List ℕ) (a : Accepted) (d : Option (List ℕ)) → entry_in line ≡ Request a d → GetTheirReplies h front → reply_to (after_lines h front) a.request ≡ Done a.reply
    → GetTheirReplies h (front ++ line ∷ [])
replied_request h front line a d is so_far same =
    ap (λ (l : List Accepted). replies_to h (requests_of l)) (with_request front line a d is)
    ∙ replies_more h (accepted_in front) a
    ∙ ap (λ (l : List Reply). l ++ reply_to (after_lines h front) a.request ∷ []) so_far
    ∙ ap (λ (r : Reply). replies_of (accepted_in front) ++ r ∷ []) same
    ∙ sym (told_more (accepted_in front) a)
    ∙ ap replies_of (sym (with_request front line a d is))

after_first : (h : History) (e : Entry) (list : List Accepted) → after h (requests_of (with_entry e list)) ≡ after (after_entry h e) (requests_of list)
after_first h (Request a d) list = refl
after_first h End list = refl
after_first h Blank list = refl
after_first h (Founding f) list = refl
after_first h (Bad r) list = refl

-- one more line continues the history after those before it
pub continued_more : (h : History) (front : List (List ℕ)) (line : List ℕ) → AreContinued h front → IsContinuedBy (after_lines h front) (entry_in line) → AreContinued h (front ++ line ∷ [])
continued_more h [] line all last = (last, tt)
continued_more h (first ∷ front) line all last =
    let step = after_first h (entry_in first) (accepted_in front) in
    (all.0, continued_more (after_entry h (entry_in first)) front line all.1 (subst (λ (x : History). IsContinuedBy x (entry_in line)) step last))

-- ---- the registry so far

endures_then : (a b c : State) → Endures a b → Endures b c → Endures a c
endures_then a b c p q = record {
  clean = omega (arith, p.clean, q.clean);
  shield = λ s. q.shield (p.shield s);
  faults_grow = omega (arith, p.faults_grow, q.faults_grow);
  limit = q.limit ∙ p.limit;
  closes = λ clean is_open.
      let early : HasCleanDisk b = omega (arith, q.clean, clean) in
      elim (p.closes early is_open) [
        | inl still ↦ elim (q.closes clean still) [
          | inl there ↦ inl there
          | inr more ↦ inr (omega (arith, more, p.faults_grow))
        ]
        | inr more ↦ inr (omega (arith, more, q.faults_grow))
      ];
}

module _ {S : Type 0} {g : Ghosts S} where
  -- After the lines passed so far the registry is this one: each was followed, and got its reply.
  pub record AreReplayed (to_come now : Option (List ℕ)) (before count : ℕ) (it mid : Registry S g) : Type 0 where
    pub front : List (List ℕ)
    pub passed : Passes to_come now front
    pub each : All (λ line. is_followed (entry_in line) ≡ true) front
    pub counted : count ≡ before + length front
    pub replied : (h : History) → Represents it h → HasCleanDisk (state_of mid) → GetTheirReplies h front × Represents mid (after_lines h front) × AreContinued h front
    pub sound : is_poisoned mid ≡ is_poisoned it
    pub poisoned : is_poisoned it ≡ true → (mid ≡ it) × (accepted_in front ≡ [])
    pub endures : Endures (state_of it) (state_of mid)
    pub notes : NotesForeign it mid None

  pub none_yet : (to_come : Option (List ℕ)) (before : ℕ) (it : Registry S g) → AreReplayed to_come to_come before before it it
  none_yet to_come before it = record {
    front = [];
    passed = passes_none to_come;
    each = All-nil (λ line. is_followed (entry_in line) ≡ true);
    counted = omega arith;
    replied = λ h stands clean. (refl, stands, tt);
    sound = refl;
    poisoned = λ _. (refl, refl);
    endures = endures_itself (state_of it);
    notes = refl;
  }

  -- what is noted with the fault of an `act` or a query
  pub noted_fault : (it new : Registry S g) (fault : Fault) → NotesForeign it new (Some fault) → NotesForeign it new (foreign_by (failure_of fault))
  noted_fault it new faults.Store notes = notes
  noted_fault it new faults.NoMemory notes = notes
  noted_fault it new faults.Foreign notes = notes
  noted_fault it new faults.Taken notes = notes
  noted_fault it new faults.Poisoned notes = notes

  -- nothing more is noted with a fault of the record
  pub noted_record : (it new : Registry S g) (fault : ReadAllFault) → NotesForeign it new None → NotesForeign it new (foreign_by (input_failure fault))
  noted_record it new inputs.File notes = notes
  noted_record it new inputs.NoMemory notes = notes

  -- a failure of acting on a request after others
  of_acting : (lines failures failures_new : ℕ) (it mid new : Registry S g) → is_poisoned mid ≡ is_poisoned it
      → ((h : History) → Represents it h → HasCleanDisk (state_of new) → (x : History) × Represents mid x)
      → (failure : Failure) → IsOfActing mid new failure → IsOfReplay lines failures failures_new it new failure
  of_acting lines failures failures_new it mid new sound stands of.Store why = why
  of_acting lines failures failures_new it mid new sound stands of.Memory why = inl why
  of_acting lines failures failures_new it mid new sound stands of.Foreign why = (why.0, λ at. let then = stands at.0 at.1 at.2 in why.1 (then.0, then.1, at.2))
  of_acting lines failures failures_new it mid new sound stands of.Poisoned why = sym sound ∙ why
  of_acting lines failures failures_new it mid new sound stands of.Taken why = absurd why
  of_acting lines failures failures_new it mid new sound stands of.File why = absurd why

  -- a fault of the record
  pub of_record : (lines failures failures_new : ℕ) (it new : Registry S g) (fault : ReadAllFault) → is_poisoned new ≡ is_poisoned it
      → (fault ≡ inputs.File → FailsOnce failures failures_new ⊎ (lines ≡ 2 ^ 64 - 1)) → IsOfReplay lines failures failures_new it new (input_failure fault)
  of_record lines failures failures_new it new inputs.File sound failed = failed refl
  of_record lines failures failures_new it new inputs.NoMemory sound failed = inr sound

  module _ (to_come now : Option (List ℕ)) (before count : ℕ) (it mid : Registry S g) (so_far : AreReplayed to_come now before count it mid) where
    -- the lines passed so far are all that were acted on
    none_acted : (result : Result (Unit {0}) ReplayStop) → ((number : ℕ) (reply : Reply) → result ≢ Err (stop.Reply number reply)) → ((number : ℕ) → result ≢ Err (stop.Digest number)) → is_poisoned it ≡ true → ActsOnNone so_far.front it mid result
    none_acted result unreplied undigested spent = let old = so_far.poisoned spent in record { same = old.0; passed = old.1; unreplied = unreplied; undigested = undigested }

    not_poisoned : is_poisoned mid ≡ false → is_poisoned it ≡ true → ⊥
    not_poisoned sound spent = true≢false (sym spent ∙ sym so_far.sound ∙ sound)

    -- a blank line was passed
    pub then_blank : (next : Option (List ℕ)) (more : ℕ) → PassesOne now next Blank → more ≡ count + 1 → AreReplayed to_come next before more it mid
    then_blank next more one is = record {
      front = so_far.front ++ one.0 ∷ [];
      passed = passes_then to_come now next so_far.front (one.0 ∷ []) so_far.passed one.2;
      each = All-push (λ line. is_followed (entry_in line) ≡ true) so_far.front one.0 so_far.each (rw one.1 refl);
      counted = omega (arith, is, so_far.counted, length-append so_far.front (one.0 ∷ []));
      replied = λ h stands clean.
          let old = so_far.replied h stands clean in
          let same : accepted_in (so_far.front ++ one.0 ∷ []) ≡ accepted_in so_far.front = with_blank so_far.front one.0 one.1 in (
            subst (λ (l : List Accepted). replies_to h (requests_of l) ≡ replies_of l) (sym same) old.0,
            subst (λ (l : List Accepted). Represents mid (after h (requests_of l))) (sym same) old.1,
            continued_more h so_far.front one.0 old.2 (subst (IsContinuedBy (after_lines h so_far.front)) (sym one.1) tt),
          );
      sound = so_far.sound;
      poisoned = λ spent. let old = so_far.poisoned spent in (old.0, with_blank so_far.front one.0 one.1 ∙ old.1);
      endures = so_far.endures;
      notes = so_far.notes;
    }

    -- an accepted request was acted on, and got its reply
    pub then_request : (next : Option (List ℕ)) (more : ℕ) (a : Accepted) (d : Option (List ℕ)) (new : Registry S g) → PassesOne now next (Request a d) → more ≡ count + 1
        → ((h : History) → Represents mid h → HasCleanDisk (state_of new) → Represents new (after_one h a.request) × (reply_to h a.request ≡ Done a.reply) × IsDigestAfter h a.request d)
        → (is_poisoned mid ≡ false) × (is_poisoned new ≡ false) → Endures (state_of mid) (state_of new) → NotesForeign mid new None → AreReplayed to_come next before more it new
    then_request next more a d new one is acted sound more_endures more_notes = record {
      front = so_far.front ++ one.0 ∷ [];
      passed = passes_then to_come now next so_far.front (one.0 ∷ []) so_far.passed one.2;
      each = All-push (λ line. is_followed (entry_in line) ≡ true) so_far.front one.0 so_far.each (rw one.1 refl);
      counted = omega (arith, is, so_far.counted, length-append so_far.front (one.0 ∷ []));
      replied = λ h stands clean.
          let early : HasCleanDisk (state_of mid) = omega (arith, more_endures.clean, clean) in
          let old = so_far.replied h stands early in
          let did = acted (after_lines h so_far.front) old.1 clean in (
            replied_request h so_far.front one.0 a d one.1 old.0 did.1,
            subst (Represents new) (sym (after_request h so_far.front one.0 a d one.1)) did.0,
            continued_more h so_far.front one.0 old.2 (subst (IsContinuedBy (after_lines h so_far.front)) (sym one.1) did.2),
          );
      sound = sound.1 ∙ sym sound.0 ∙ so_far.sound;
      poisoned = λ spent. absurd (not_poisoned sound.0 spent);
      endures = endures_then (state_of it) (state_of mid) (state_of new) so_far.endures more_endures;
      notes = notes_then it mid new None so_far.notes more_notes;
    }

    -- ---- the end

    -- there was no further line
    pub at_end : (failures failures_new : ℕ) → MayHaveLines now [] → IsReplayOf to_come before failures failures_new it mid (Ok tt)
    at_end failures failures_new none = record {
      lines = so_far.front ++ [];
      come = so_far.passed [] none;
      replayed = record {
        front = so_far.front;
        rest = [];
        split = refl;
        each = so_far.each;
        stops = refl;
        replied = so_far.replied;
        cause = λ failure never. absurd cc;
        poisoned = none_acted (Ok tt) (λ number reply never. cc) (λ number never. cc);
      };
      endures = so_far.endures;
      notes = so_far.notes;
    }

    -- the next line is refused
    pub at_refused : (failures failures_new : ℕ) (number : ℕ) (why : LineRefusal) (entry : Entry) (rest : List (List ℕ)) → MayHaveLines now rest → FirstSays rest entry → IsRefusedFor entry why → number ≡ count + 1
        → IsReplayOf to_come before failures failures_new it mid (Err (stop.Line number why))
    at_refused failures failures_new number why entry rest have first refused is = record {
      lines = so_far.front ++ rest;
      come = so_far.passed rest have;
      replayed = record {
        front = so_far.front;
        rest = rest;
        split = refl;
        each = so_far.each;
        stops = (is ∙ ap (λ (n : ℕ). n + 1) so_far.counted, (entry, first, refused));
        replied = so_far.replied;
        cause = λ failure never. absurd cc;
        poisoned = none_acted (Err (stop.Line number why)) (λ n reply never. cc) (λ n never. cc);
      };
      endures = so_far.endures;
      notes = so_far.notes;
    }

    -- the next request got another reply
    pub at_reply : (failures failures_new : ℕ) (number : ℕ) (reply : Reply) (a : Accepted) (d : Option (List ℕ)) (new : Registry S g) (next : Option (List ℕ)) → PassesOne now next (Request a d) → number ≡ count + 1
        → ((h : History) → Represents mid h → HasCleanDisk (state_of new) → Represents new (after_one h a.request) × (reply_to h a.request ≡ reply))
        → reply ≢ Done a.reply → is_poisoned mid ≡ false → Endures (state_of mid) (state_of new) → NotesForeign mid new None
        → IsReplayOf to_come before failures failures_new it new (Err (stop.Reply number reply))
    at_reply failures failures_new number reply a d new next one is acted other sound more_endures more_notes =
        let later = may_have next in
        record {
          lines = so_far.front ++ one.0 ∷ later.0;
          come = so_far.passed (one.0 ∷ later.0) (one.2 later.0 later.1);
          replayed = record {
            front = so_far.front;
            rest = one.0 ∷ later.0;
            split = refl;
            each = so_far.each;
            stops = (is ∙ ap (λ (n : ℕ). n + 1) so_far.counted, (a, (d, one.1), other));
            replied = λ h stands clean.
                let early : HasCleanDisk (state_of mid) = omega (arith, more_endures.clean, clean) in
                let old = so_far.replied h stands early in
                let did = acted (after_lines h so_far.front) old.1 clean in
                (old.0, (a, (d, one.1), sym did.1, did.0), old.2);
            cause = λ failure never. absurd cc;
            poisoned = λ spent. absurd (not_poisoned sound spent);
          };
          endures = endures_then (state_of it) (state_of mid) (state_of new) so_far.endures more_endures;
          notes = notes_then it mid new None so_far.notes more_notes;
        }

    -- the next request got its reply, in another record
    pub at_digest : (failures failures_new : ℕ) (number : ℕ) (a : Accepted) (d : List ℕ) (new : Registry S g) (next : Option (List ℕ)) → PassesOne now next (Request a (Some d)) → number ≡ count + 1
        → ((h : History) → Represents mid h → HasCleanDisk (state_of new) → Represents new (after_one h a.request) × (reply_to h a.request ≡ Done a.reply) × IsAnother h a.request (Some d))
        → is_poisoned mid ≡ false → Endures (state_of mid) (state_of new) → NotesForeign mid new None
        → IsReplayOf to_come before failures failures_new it new (Err (stop.Digest number))
    at_digest failures failures_new number a d new next one is acted sound more_endures more_notes =
        let later = may_have next in
        record {
          lines = so_far.front ++ one.0 ∷ later.0;
          come = so_far.passed (one.0 ∷ later.0) (one.2 later.0 later.1);
          replayed = record {
            front = so_far.front;
            rest = one.0 ∷ later.0;
            split = refl;
            each = so_far.each;
            stops = (is ∙ ap (λ (n : ℕ). n + 1) so_far.counted, (a, d, one.1));
            replied = λ h stands clean.
                let early : HasCleanDisk (state_of mid) = omega (arith, more_endures.clean, clean) in
                let old = so_far.replied h stands early in
                let did = acted (after_lines h so_far.front) old.1 clean in
                (old.0, (a, Some d, one.1, did.1, did.2, did.0), old.2);
            cause = λ failure never. absurd cc;
            poisoned = λ spent. absurd (not_poisoned sound spent);
          };
          endures = endures_then (state_of it) (state_of mid) (state_of new) so_far.endures more_endures;
          notes = notes_then it mid new None so_far.notes more_notes;
        }

    -- acting on the next request failed
    pub at_fault : (failures failures_new : ℕ) (failure : Failure) (a : Accepted) (d : Option (List ℕ)) (new : Registry S g) (next : Option (List ℕ)) → PassesOne now next (Request a d)
        → ((h : History) → Represents mid h → HasCleanDisk (state_of new) → Leaves newest (state_of new) (λ x. (x ≡ h) ⊎ (x ≡ after_one h a.request)))
        → IsOfActing mid new failure → (is_poisoned mid ≡ true → new ≡ mid) → Endures (state_of mid) (state_of new) → NotesForeign mid new (foreign_by failure)
        → IsReplayOf to_come before failures failures_new it new (Err (stop.Failure failure))
    at_fault failures failures_new failure a d new next one crash why same more_endures more_notes =
        let later = may_have next in
        record {
          lines = so_far.front ++ one.0 ∷ later.0;
          come = so_far.passed (one.0 ∷ later.0) (one.2 later.0 later.1);
          replayed = record {
            front = so_far.front;
            rest = one.0 ∷ later.0;
            split = refl;
            each = so_far.each;
            stops = tt;
            replied = λ h stands clean.
                let early : HasCleanDisk (state_of mid) = omega (arith, more_endures.clean, clean) in
                let old = so_far.replied h stands early in (
                  old.0,
                  λ db may.
                      let left = crash (after_lines h so_far.front) old.1 clean db may in
                      (left.0, elim left.1 [ inl before_it ↦ inl before_it | inr after_it ↦ inr (a, (d, one.1), after_it) ], left.2),
                  old.2,
                );
            cause = λ failed told.
                let is : failure ≡ failed = cc in
                subst (λ (f : Failure). IsOfReplay (before + length so_far.front) failures failures_new it new f) is
                (of_acting (before + length so_far.front) failures failures_new it mid new so_far.sound (λ h stands clean.
                let early : HasCleanDisk (state_of mid) = omega (arith, more_endures.clean, clean) in
                (after_lines h so_far.front, (so_far.replied h stands early).1)) failure why);
            poisoned = λ spent.
                let old = so_far.poisoned spent in
                record { same = same (so_far.sound ∙ spent) ∙ old.0; passed = old.1; unreplied = λ number reply never. cc; undigested = λ number never. cc };
          };
          endures = endures_then (state_of it) (state_of mid) (state_of new) so_far.endures more_endures;
          notes = notes_then it mid new (foreign_by failure) so_far.notes more_notes;
        }

    -- the next line could not be read
    pub at_unread : (failures failures_new : ℕ) (failure : Failure) → IsOfReplay (before + length so_far.front) failures failures_new it mid failure
        → NotesForeign it mid (foreign_by failure) → IsReplayOf to_come before failures failures_new it mid (Err (stop.Failure failure))
    at_unread failures failures_new failure why notes =
        let rest = may_have now in
        record {
          lines = so_far.front ++ rest.0;
          come = so_far.passed rest.0 rest.1;
          replayed = record {
            front = so_far.front;
            rest = rest.0;
            split = refl;
            each = so_far.each;
            stops = tt;
            replied = λ h stands clean.
                let old = so_far.replied h stands clean in
                (old.0, λ db may. let left = old.1.at.left clean db may in (left.0, inl left.1, left.2), old.2);
            cause = λ failed same.
                let is : failure ≡ failed = cc in
                subst (λ (f : Failure). IsOfReplay (before + length so_far.front) failures failures_new it mid f) is why;
            poisoned = none_acted (Err (stop.Failure failure)) (λ number reply never. cc) (λ number never. cc);
          };
          endures = so_far.endures;
          notes = notes;
        }
