-- The lines of accepted requests, piece by piece.
use Rattle.std.proofs.Common.{◌≡◌, ◌⊎◌, inl, inr, ℕ, ◌+◌, ◌<◌, zero, suc, List, [], ◌∷◌, ◌++◌, length, take, drop, get_or, Option, refl, sym, ap, subst, ◌∙◌, arith, append_assoc, append-nil, add-one, drop-drop}
use Rattle.std.specs.Prelude.{None, Result, Ok, Err, OnErr}
use Rattle.std.proofs.Math.Seq.{take-suc, drop-cons}
use Rattle.std.proofs.lemmas.List.{take-append-drop}
use Rattle.std.specs.Io.KnownBytes.{Appends}
use Rattle.sqlite.specs.Store.{Ghosts}
use Rattle.sqlite.specs.State.{HasCleanDisk}
use Rattle.byte_streams.specs.Streams.{AppendsPrefix}
use Rattle.byte_streams.proofs.StreamLemmas.{appends_nil, appends_then, appends_prefix_then, appends_prefix_more}
use Rattle.registry_rules.specs.Accepted.{AreValid, accepted_of}
use Rattle.registry_rules.specs.declared.accepted.Accepted.{Accepted}
use Rattle.registry_rules.specs.History.{History}
use Rattle.registry_store.specs.declared.registry.Registry.{Registry}
use Rattle.registry_store.specs.Promise.{NotesForeign, Represents, state_of}
use Rattle.registry_store.specs.Queries.{IsUntouched}
use Rattle.registry_store.proofs.IsQueryLemmas.{notes_then, untouched_itself}
use Rattle.registry_store.proofs.TransactionLemmas.{quiet_then}
use Rattle.registry_commands.specs.declared.messages.Failure.{Failure}
use Rattle.registry_commands.specs.declared.messages.Failure.TheVariants as of
use Rattle.registry_commands.specs.Shown.{HoldsOfHistory, IsOfReading}
use Rattle.registry_wire.specs.Record.{accepted_line}
use Rattle.registry_commands.specs.Recorded.{AreNextRequests, IsOfRecord, accepted_lines}

-- one line with its line feed
abbrev pub line_of : Accepted → List ℕ
line_of accepted = accepted_line accepted ++ 10 ∷ []

pub lines_append : (a b : List Accepted) → accepted_lines (a ++ b) ≡ accepted_lines a ++ accepted_lines b
lines_append [] b = refl
lines_append (x ∷ a) b = ap (λ (l : List ℕ). line_of x ++ l) (lines_append a b) ∙ sym (append_assoc (line_of x) (accepted_lines a) (accepted_lines b))

-- one line more
pub lines_next : (list : List Accepted) (i : ℕ) (x : Accepted) → i < length list → x ≡ get_or list i x → accepted_lines (take (i + 1) list) ≡ accepted_lines (take i list) ++ line_of x
lines_next list i x within is =
    ap accepted_lines (rw add-one (take-suc list i x within))
    ∙ lines_append (take i list) (get_or list i x ∷ [])
    ∙ ap (λ (y : Accepted). accepted_lines (take i list) ++ accepted_lines (y ∷ [])) (sym is)
    ∙ ap (λ (l : List ℕ). accepted_lines (take i list) ++ l) (append-nil (line_of x))

-- the lines before one, that one, and those after it
pub lines_around : (list : List Accepted) (i : ℕ) (x : Accepted) → i < length list → x ≡ get_or list i x
    → accepted_lines list ≡ accepted_lines (take i list) ++ (line_of x ++ accepted_lines (drop (suc i) list))
lines_around list i x within is =
    ap accepted_lines (sym (take-append-drop i list))
    ∙ lines_append (take i list) (drop i list)
    ∙ ap (λ (l : List Accepted). accepted_lines (take i list) ++ accepted_lines l) (drop-cons list i x within ∙ ap (λ (y : Accepted). y ∷ drop (suc i) list) (sym is))

pub on_err_any : {A E : Type 0} (r : Result A E) (P : Type 0) → P → OnErr r P
on_err_any (Ok x) P p = tt
on_err_any (Err e) P p = p

-- ---- pieces

split_at : {A : Type 0} (k : ℕ) (xs : List A) → xs ≡ take k xs ++ drop (length (take k xs)) xs
split_at zero xs = refl
split_at (suc k) [] = refl
split_at {A} (suc k) (x ∷ xs) = ap (λ (l : List A). x ∷ l) (split_at k xs)

pub empty : {A : Type 0} (xs : List A) → length xs ≡ 0 → xs ≡ []
empty [] e = refl
empty (x ∷ xs) e = absurd (omega arith)

none_taken : {A : Type 0} (k : ℕ) (xs : List A) → take (suc k) xs ≡ [] → xs ≡ []
none_taken k [] is = refl
none_taken k (x ∷ xs) is = absurd cc

module _ {S : Type 0} {g : Ghosts S} where
  pub untouched_then : (it mid new : Registry S g) → IsUntouched it mid → IsUntouched mid new → IsUntouched it new
  untouched_then it mid new a b = record {
    stays = λ h stands. b.stays h (a.stays h stands);
    poisons_nothing = b.poisons_nothing ∙ a.poisons_nothing;
    survives = quiet_then (state_of it) (state_of mid) (state_of new) a.survives b.survives;
  }

  pub clean_before : (mid new : Registry S g) → IsUntouched mid new → HasCleanDisk (state_of new) → HasCleanDisk (state_of mid)
  clean_before mid new b clean = let more = b.survives.clean in omega (arith, more, clean)

  -- a failure of a later reading
  pub of_later : (it mid new : Registry S g) → IsUntouched it mid → NotesForeign it mid None → (failure : Failure) → IsOfReading mid new failure → IsOfReading it new failure
  of_later it mid new left notes of.Store why = notes_then it mid new None notes why
  of_later it mid new left notes of.Memory why = notes_then it mid new None notes why
  of_later it mid new left notes of.Poisoned why = sym left.poisons_nothing ∙ why
  of_later it mid new left notes of.Foreign why = λ at. why (at.0, left.stays at.0 at.1, at.2)
  of_later it mid new left notes of.Taken why = why
  of_later it mid new left notes of.File why = why

  -- The lines of the requests after the first `after`, as far as the first `passed`, are written, and nothing else.
  pub record AreWritten (it mid : Registry S g) (old new : Option (List ℕ)) (after passed : ℕ) : Type 0 where
    pub left : IsUntouched it mid
    pub written : List Accepted
    pub gained : Appends old new (accepted_lines written)
    pub split : (h : History) → Represents it h → HasCleanDisk (state_of mid) → AreValid h.deeds → drop after (accepted_of h.deeds) ≡ written ++ drop passed (accepted_of h.deeds)

  pub none_written : (it : Registry S g) (o : Option (List ℕ)) (after : ℕ) → AreWritten it it o o after after
  none_written it o after = record { left = untouched_itself it; written = []; gained = appends_nil o; split = λ h stands clean valid. refl }

  module _ (it mid new : Registry S g) (old now : Option (List ℕ)) (after passed : ℕ) (so_far : AreWritten it mid old now after passed)
      (items : List Accepted) (left : IsUntouched mid new) (next_are : HoldsOfHistory mid new (λ h. AreNextRequests passed h items)) where
    whole : (h : History) → Represents it h → HasCleanDisk (state_of new) → AreValid h.deeds
        → drop after (accepted_of h.deeds) ≡ (so_far.written ++ items) ++ drop (passed + length items) (accepted_of h.deeds)
    whole h stands clean valid =
        let all = accepted_of h.deeds in
        let is : items ≡ take 64 (drop passed all) = next_are h (so_far.left.stays h stands) clean valid in
        let rest : drop passed all ≡ items ++ drop (length items) (drop passed all) =
        subst (λ (l : List Accepted). drop passed all ≡ l ++ drop (length l) (drop passed all)) (sym is) (split_at 64 (drop passed all)) in
        so_far.split h stands (clean_before mid new left clean) valid
        ∙ ap (λ (l : List Accepted). so_far.written ++ l) (rest ∙ ap (λ (l : List Accepted). items ++ l) (drop-drop (length items) passed all))
        ∙ sym (append_assoc so_far.written items (drop (passed + length items) all))

    pub piece_written : (next : Option (List ℕ)) (then : ℕ) → Appends now next (accepted_lines items) → then ≡ passed + length items → AreWritten it new old next after then
    piece_written next then gained is = record {
      left = untouched_then it mid new so_far.left left;
      written = so_far.written ++ items;
      gained = subst (λ (text : List ℕ). Appends old next text) (sym (lines_append so_far.written items)) (appends_then old now next _ _ so_far.gained gained);
      split = λ h stands clean valid. rw is (whole h stands clean valid);
    }

  module _ (it mid new : Registry S g) (old now : Option (List ℕ)) (after passed : ℕ) (so_far : AreWritten it mid old now after passed) where
    -- the next piece is written in part
    pub piece_cut : (next : Option (List ℕ)) → IsUntouched mid new
        → HoldsOfHistory mid new (λ h. AreValid h.deeds → AppendsPrefix now next (accepted_lines (take 64 (drop passed (accepted_of h.deeds)))))
        → HoldsOfHistory it new (λ h. AreValid h.deeds → AppendsPrefix old next (accepted_lines (drop after (accepted_of h.deeds))))
    piece_cut next left cut h stands clean valid =
        let rest = drop passed (accepted_of h.deeds) in
        let later = accepted_lines (drop 64 rest) in
        let text : accepted_lines (drop after (accepted_of h.deeds)) ≡ accepted_lines so_far.written ++ (accepted_lines (take 64 rest) ++ later) =
        ap accepted_lines (so_far.split h stands (clean_before mid new left clean) valid) ∙ lines_append so_far.written rest
        ∙ ap (λ (l : List ℕ). accepted_lines so_far.written ++ l) (ap accepted_lines (sym (take-append-drop 64 rest)) ∙ lines_append (take 64 rest) (drop 64 rest)) in
        subst (λ (l : List ℕ). AppendsPrefix old next l) (sym text)
        (appends_prefix_then old now next _ _ so_far.gained (appends_prefix_more now next _ later (cut h (so_far.left.stays h stands) clean valid)))

    -- nothing more is written
    pub part_written : IsUntouched mid new → HoldsOfHistory it new (λ h. AreValid h.deeds → AppendsPrefix old now (accepted_lines (drop after (accepted_of h.deeds))))
    part_written left h stands clean valid =
        let text = ap accepted_lines (so_far.split h stands (clean_before mid new left clean) valid) ∙ lines_append so_far.written (drop passed (accepted_of h.deeds)) in
        record { front = accepted_lines so_far.written; rest = accepted_lines (drop passed (accepted_of h.deeds)); whole = text; appended = so_far.gained }

  -- the last piece was empty
  pub all_written : (it mid new : Registry S g) (old now next : Option (List ℕ)) (after passed : ℕ) → AreWritten it mid old now after passed → (items : List Accepted) → length items ≡ 0
      → IsUntouched mid new → HoldsOfHistory mid new (λ h. AreNextRequests passed h items) → Appends now next (accepted_lines items)
      → HoldsOfHistory it new (λ h. AreValid h.deeds → Appends old next (accepted_lines (drop after (accepted_of h.deeds))))
  all_written it mid new old now next after passed so_far items none left next_are gained h stands clean valid =
      let is : take 64 (drop passed (accepted_of h.deeds)) ≡ [] = sym (next_are h (so_far.left.stays h stands) clean valid) ∙ empty items none in
      let gone : drop passed (accepted_of h.deeds) ≡ [] = none_taken 63 (drop passed (accepted_of h.deeds)) is in
      let all : drop after (accepted_of h.deeds) ≡ so_far.written = so_far.split h stands (clean_before mid new left clean) valid ∙ ap (λ (l : List Accepted). so_far.written ++ l) gone ∙ append-nil so_far.written in
      let text : accepted_lines (drop after (accepted_of h.deeds)) ≡ accepted_lines so_far.written ++ accepted_lines items =
      ap accepted_lines all ∙ sym (append-nil (accepted_lines so_far.written)) ∙ ap (λ (l : List Accepted). accepted_lines so_far.written ++ accepted_lines l) (sym (empty items none)) in
      subst (λ (l : List ℕ). Appends old next l) (sym text) (appends_then old now next _ _ so_far.gained gained)

module _ {S : Type 0} {g : Ghosts S} where
  -- a failure of writing a later piece
  pub of_later_record : (it mid new : Registry S g) → IsUntouched it mid → NotesForeign it mid None → (failure : Failure) → IsOfRecord mid new failure → IsOfRecord it new failure
  of_later_record it mid new left notes failure why = elim why [ inl file ↦ inl (file.0, notes_then it mid new None notes file.1) | inr reading ↦ inr (of_later it mid new left notes failure reading) ]
