-- Queries for one piece of the record after another.
use Rattle.std.proofs.Common.{◌≡◌, ℕ, ◌+◌, ◌<◌, ◌≤◌, Option, Some, None, Ok, Err, List, [], take, length, true, false, refl, sym, ap, subst, ◌∙◌, inl, inr, arith}
use Rattle.std.specs.Prelude.{MatchOption}
use Rattle.std.specs.String.{string_bytes}
use Rattle.std.proofs.lemmas.Bool.{cases_eq}
use Rattle.sqlite.specs.Store.{Ghosts}
use Rattle.sqlite.specs.State.{HasCleanDisk}
use Rattle.registry_rules.specs.Accepted.{AreValid}
use Rattle.registry_rules.specs.History.{History}
use Rattle.registry_reports.specs.Pages.{HasLines, MayFollow, wanted_lines}
use Rattle.registry_reports.specs.declared.page.Page.{Page}
use Rattle.registry_reports.proofs.PageLemmas.{wants_some}
use Rattle.registry_store.specs.declared.fault.Fault.{Fault}
use Rattle.registry_store.specs.declared.fault.Fault.TheVariants as of
use Rattle.registry_store.specs.declared.registry.Registry.{Registry}
use Rattle.registry_store.specs.Promise.{NotesForeign, Represents, is_poisoned, state_of}
use Rattle.registry_store.specs.Queries.{IsUntouched, IsQuery}
use Rattle.registry_views.specs.Records.{IsBegun, IsPageText, IsRecordPage, lines_after}
use Rattle.registry_views.proofs.RecordLemmas.{begun_empty, ended_full, never_full}
use Rattle.registry_store.proofs.IsQueryLemmas.{notes_then, untouched_itself}
use Rattle.registry_views.proofs.ViewLemmas.{clean_before, left_then, sound}

-- what one piece finds
abbrev Piece : Page → Page → ℕ → ℕ → History → Option ℕ → Type 0
Piece page new place most h next = AreValid h.deeds → (after : ℕ) → place ≡ after + page.count → IsBegun (lines_after h after) page
    → MatchOption next (IsPageText (lines_after h after) (string_bytes new.text)) (λ n. IsBegun (lines_after h after) new × (new.count ≡ page.count + most) × (n ≡ place + most))

-- more is wanted if a line may follow
abbrev Room : Page → ℕ → Type 0
Room page most = (lines : List (List ℕ)) (line : List ℕ) → HasLines page lines → MayFollow lines line → 0 < most

room_of : (page : Page) (most : ℕ) → most ≡ wanted_lines page.count (length (string_bytes page.text)) → Room page most
room_of page most is lines line has may = subst (λ (n : ℕ). 0 < n) (sym is) (wants_some lines line page.count (length (string_bytes page.text)) has.1 (ap length has.0) may)

module _ {S : Type 0} {g : Ghosts S} where
  -- after some pieces of one request or more
  pub record Reads (it now : Registry S g) (after place index : ℕ) (page : Page) : Type 0 where
    pub start : index ≡ 0 → now ≡ it
    pub later : 0 < index → is_poisoned it ≡ false
    pub left : IsUntouched it now
    pub notes : NotesForeign it now None
    pub empty : index ≡ 0 → HasLines page []
    pub begun : (h : History) → Represents it h → HasCleanDisk (state_of now) → AreValid h.deeds → IsBegun (lines_after h after) page × (index ≤ page.count) × (place ≡ after + page.count)

  pub none_read : (it : Registry S g) (after : ℕ) (page : Page) → HasLines page [] → Reads it it after after 0 page
  none_read it after page none = record {
    start = λ is. refl;
    later = λ less. absurd (omega (arith, less));
    left = untouched_itself it;
    notes = refl;
    empty = λ is. none;
    begun = λ h stands clean valid. let count : page.count ≡ 0 = none.1 in (begun_empty (lines_after h after) page none, omega (arith, count), omega (arith, count));
  }

  not_poisoned : (it now new : Registry S g) {A : Type 0} {Is : History → A → Type 0} {found : A} → IsUntouched it now → IsQuery now new (Ok found) Is → is_poisoned it ≡ false
  not_poisoned it now new left q = sym left.poisons_nothing ∙ (sym q.left.poisons_nothing ∙ sound q)

  -- one piece more
  pub more_read : (it now new : Registry S g) (after place most index : ℕ) (page page_new : Page) (n : ℕ) → 0 < most → Reads it now after place index page → IsQuery now new (Ok (Some n)) (Piece page page_new place most) → Reads it new after n (index + 1) page_new
  more_read it now new after place most index page page_new n some reads q = record {
    start = λ is. absurd (omega (arith, is));
    later = λ less. not_poisoned it now new reads.left q;
    left = left_then it now new reads.left q.left;
    notes = notes_then it now new None reads.notes q.notes;
    empty = λ is. absurd (omega (arith, is));
    begun = λ h stands clean valid.
        let so_far = reads.begun h stands (clean_before now new q.left clean) valid in
        let piece = q.answered h (reads.left.stays h stands) clean valid after so_far.2 so_far.0 in
        let count = so_far.1 in
        let at = so_far.2 in
        let size = piece.1 in
        let next = piece.2 in
        (piece.0, omega (arith, count, size, some), omega (arith, at, size, next));
  }

  -- the last piece
  pub all_read : (it now new : Registry S g) (after place most index : ℕ) (page page_new : Page) (text : List ℕ) → Reads it now after place index page → IsQuery now new (Ok None) (Piece page page_new place most) → text ≡ string_bytes page_new.text
      → (h : History) → Represents it h → HasCleanDisk (state_of new) → IsRecordPage h after text
  all_read it now new after place most index page page_new text reads q is h stands clean valid =
      let so_far = reads.begun h stands (clean_before now new q.left clean) valid in
      rw is (q.answered h (reads.left.stays h stands) clean valid after so_far.2 so_far.0)

  -- a query over all pieces
  pub whole : {A : Type 0} (it new : Registry S g) (found : A) (Is : History → A → Type 0) → is_poisoned it ≡ false → IsUntouched it new → NotesForeign it new None → ((h : History) → Represents it h → HasCleanDisk (state_of new) → Is h found) → IsQuery it new (Ok found) Is
  whole it new found Is sane left notes answered = record {
    when_poisoned = λ is. absurd (let never : true ≡ false = sym is ∙ sane in cc);
    only_poisoned = λ never. absurd cc;
    never_taken = λ never. cc;
    answered = answered;
    kind = λ h stands clean. tt;
    left = left;
    notes = notes;
  }

  pub ends_read : {A : Type 0} (it now new : Registry S g) (after place most index : ℕ) (page page_new : Page) (found : A) (Is : History → A → Type 0) → Reads it now after place index page → IsQuery now new (Ok None) (Piece page page_new place most)
      → ((h : History) → Represents it h → HasCleanDisk (state_of new) → Is h found) → IsQuery it new (Ok found) Is
  ends_read it now new after place most index page page_new found Is reads q answered =
      whole it new found Is (not_poisoned it now new reads.left q) (left_then it now new reads.left q.left) (notes_then it now new None reads.notes q.notes) answered

  -- a piece that is not read
  pub fails_read : {A B : Type 0} (it now new : Registry S g) (after place index : ℕ) (page : Page) (e : Fault) {Is : History → A → Type 0} (To : History → B → Type 0) → Reads it now after place index page → IsQuery now new (Err e) Is → IsQuery it new (Err e) To
  fails_read it now new after place index page e To reads q = record {
    when_poisoned = λ is.
        let failed = q.when_poisoned (reads.left.poisons_nothing ∙ is) in
        let spent : e ≡ of.Poisoned = cc failed.0 in
        let first : now ≡ it = elim (cases_eq index 0) [
          | inl none ↦ reads.start none
          | inr some ↦ absurd (let sane = reads.later (omega (arith, some)) in let never : true ≡ false = sym is ∙ sane in cc)
        ] in
        (ap Err spent, failed.1 ∙ first);
    only_poisoned = λ is. let spent : e ≡ of.Poisoned = cc is in sym reads.left.poisons_nothing ∙ q.only_poisoned (ap Err spent);
    never_taken = λ is. let taken : e ≡ of.Taken = cc is in q.never_taken (ap Err taken);
    answered = λ h stands clean. tt;
    kind = λ h stands clean. q.kind h (reads.left.stays h stands) clean;
    left = left_then it now new reads.left q.left;
    notes = notes_then it now new (Some e) reads.notes q.notes;
  }

  -- no more is read for a page that is full
  full_later : (it now : Registry S g) (after place index : ℕ) (page : Page) → Reads it now after place index page → Room page 0 → 0 < index
  full_later it now after place index page reads full = elim (cases_eq index 0) [
    | inl none ↦ absurd (omega (arith, full [] [] (reads.empty none) (inl refl)))
    | inr some ↦ omega (arith, some)
  ]

  pub full_read : {A : Type 0} (it now : Registry S g) (after place index most : ℕ) (page : Page) (text : List ℕ) (found : A) (Is : History → A → Type 0) → Reads it now after place index page → most ≡ wanted_lines page.count (length (string_bytes page.text)) → most ≡ 0 → text ≡ string_bytes page.text
      → ((h : History) → IsRecordPage h after text → Is h found) → IsQuery it now (Ok found) Is
  full_read it now after place index most page text found Is reads wanted none is to =
      let full : Room page 0 = subst (λ (n : ℕ). Room page n) none (room_of page most wanted) in
      whole it now found Is (reads.later (full_later it now after place index page reads full)) reads.left reads.notes (λ h stands clean. to h (λ valid.
      let begun = (reads.begun h stands clean valid).0 in
      rw is (ended_full (lines_after h after) page begun (λ line may. let never = full (take page.count (lines_after h after)) line begun.has may in omega (arith, never)))))

  -- a thousand and one lines do not fit on a page
  pub too_many : {A : Type 0} (it now : Registry S g) (after place index : ℕ) (page : Page) (found : A) → Reads it now after place index page → index ≡ 1001 → (Is : History → A → Type 0) → ((h : History) → (AreValid h.deeds → ⊥) → Is h found) → IsQuery it now (Ok found) Is
  too_many it now after place index page found reads is Is never = whole it now found Is (reads.later (omega (arith, is))) reads.left reads.notes (λ h stands clean. never h (λ valid.
      let so_far = reads.begun h stands clean valid in
      let count = so_far.1 in
      never_full (lines_after h after) page so_far.0 (omega (arith, count, is))))
