-- A run whose replies go to a list.
use Rattle.std.proofs.Common.{◌≡◌, ℕ, ◌≤◌, List, [], ◌∷◌, ◌++◌, length, take, refl, sym, ap, subst, ◌∙◌, arith, append_assoc, vec_capacity}
use Rattle.std.specs.Prelude.{Vec}
use Rattle.std.specs.declared.alloc.Global.{Global}
use Rattle.std.proofs.lemmas.List.{append-nil}
use Rattle.sqlite.specs.Store.{Ghosts}
use Rattle.usbnum_core.specs.declared.error.NoMemory.{NoMemory}
use Rattle.registry_rules.specs.declared.order.Request.{Request}
use Rattle.registry_rules.specs.declared.verdict.Reply.{Reply}
use Rattle.registry_rules.specs.History.{History}
use Rattle.registry_rules.specs.Run.{replies_to}
use Rattle.registry_tables.specs.Rows.{newest}
use Rattle.registry_store.specs.declared.fault.Fault.{Fault}
use Rattle.registry_store.specs.declared.replies.RunStop.TheVariants as stop
use Rattle.registry_store.specs.declared.registry.Registry.{Registry}
use Rattle.registry_store.specs.Promise.{Leaves, state_of}
use Rattle.registry_store.specs.Run.{IsAfterOrNext}
use Rattle.registry_reopening.specs.Runs.{IsStopped}
use Rattle.registry_store.specs.RunTo.{HaveBeenGiven, HaveTaken, IsHalted}
use Rattle.registry_store.specs.Listed.{HasNoRoom, TakesReply}
use Rattle.registry_store.proofs.RunLemmas.{take_answers}
use Rattle.registry_store.proofs.RunToLemmas.{answered_of}

-- the replies are appended, and the capacity does not shrink
pub listed : (old new : Vec Reply Global) (replies : List Reply) → HaveTaken TakesReply old new replies → (new.items ≡ old.items ++ replies) × (vec_capacity old ≤ vec_capacity new)
listed old new [] same = (ap (λ (v : Vec Reply Global). v.items) same ∙ sym (append-nil old.items), subst (λ (v : Vec Reply Global). vec_capacity old ≤ vec_capacity v) (sym same) (omega arith))
listed old new (reply ∷ replies) taken =
    let rest = listed taken.0 new replies taken.2 in
    (rest.0 ∙ ap (λ (xs : List Reply). xs ++ replies) taken.1.0 ∙ append_assoc old.items (reply ∷ []) replies, omega (arith, rest.1, taken.1.1))

module _ {S : Type 0} {g : Ghosts S} (it : Registry S g) (h : History) (rs : List Request) (n : ℕ) (old new : Vec Reply Global) (none : old.items ≡ []) where
  in_list : (middle : Vec Reply Global) → HaveTaken TakesReply old middle (replies_to h (take n rs)) → middle.items ≡ replies_to h (take n rs)
  in_list middle taken = (listed old middle (replies_to h (take n rs)) taken).0 ∙ ap (λ (xs : List Reply). xs ++ replies_to h (take n rs)) none

  -- after a fault the list has the replies so far
  pub stopped_list : (fault : Fault) → IsHalted TakesReply HasNoRoom it h rs n old new (stop.Fault fault) → IsStopped it h rs new.items fault
  stopped_list fault halted =
      let last = halted.reply.2 in
      let items : new.items ≡ replies_to h (take n rs) = ap (λ (v : Vec Reply Global). v.items) last.0 ∙ in_list halted.middle halted.taken in
      let count : length new.items ≡ n = ap (λ (xs : List Reply). length xs) items ∙ answered_of h rs n (omega (arith, halted.within)) in
      record {
        within = omega (arith, count, halted.within);
        front = items ∙ take_answers n h rs ∙ ap (λ k. take k (replies_to h rs)) (sym count);
        leaves = subst (λ k. Leaves newest (state_of it) (IsAfterOrNext h rs k)) (sym count) halted.leaves;
        kind = last.1;
      }

  -- a list with room for all replies is never full
  pub has_room : length rs ≤ vec_capacity old → {cut : NoMemory} → IsHalted TakesReply HasNoRoom it h rs n old new (stop.Cut cut) → ⊥
  has_room room {cut} halted =
      let middle = halted.middle in
      let grown = listed old middle (replies_to h (take n rs)) halted.taken in
      let count : length middle.items ≡ n = ap (λ (xs : List Reply). length xs) (in_list middle halted.taken) ∙ answered_of h rs n (omega (arith, halted.within)) in
      omega (arith, room, grown.1, count, halted.reply.2.1, middle.ok.0, halted.within)

-- a list with room for a reply to each request that is left has room for one more
pub never_full : (old new : Vec Reply Global) (left : ℕ) → old.items ≡ [] → left ≤ vec_capacity old → {cut : NoMemory} → HaveBeenGiven TakesReply HasNoRoom left (stop.Cut cut) old new → ⊥
never_full old new left none room {cut} given =
    let grown = listed old given.middle given.replies given.taken in
    let count : length given.middle.items ≡ length given.replies = ap (λ (xs : List Reply). length xs) (grown.0 ∙ ap (λ (xs : List Reply). xs ++ given.replies) none) in
    omega (arith, room, grown.1, count, given.last.1.1, given.middle.ok.0, given.fewer cut refl)
