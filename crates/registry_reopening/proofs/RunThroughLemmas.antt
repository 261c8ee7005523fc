-- From one run to the next.
use Rattle.std.proofs.Common.{◌≡◌, ◌+◌, ◌&&◌, ℕ, zero, suc, IsTrue, Bool, true, false, refl, inl, inr, List, [], ◌∷◌, ◌++◌, length, take, drop, Option, Some, None, sym, ap, subst, ◌∙◌, arith, length-append, length-drop}
use Rattle.std.proofs.lemmas.List.{take-append-drop}
use Rattle.std.proofs.Math.Seq.{take-add}
use Rattle.sqlite_disk.specs.declared.Disk.{Ghosts as DiskGhosts}
use Rattle.sqlite_trees.specs.View.{doubt}
use Rattle.sqlite_store.specs.declared.store.FileStore.{FileStore}
use Rattle.sqlite_store.specs.FileStore.{view, files}
use Rattle.sqlite.specs.Store.{Ghosts}
use Rattle.registry_rules.specs.declared.order.Request.{Request}
use Rattle.registry_rules.specs.declared.verdict.Reply.{Reply}
use Rattle.registry_rules.specs.History.{History}
use Rattle.registry_rules.specs.Run.{after, after_one, replies_to}
use Rattle.registry_tables.specs.Rows.{newest}
use Rattle.registry_store.specs.declared.fault.Fault.{Fault}
use Rattle.registry_store.specs.declared.registry.Registry.{Registry}
use Rattle.registry_store.specs.Promise.{Leaves, Represents, state_of}
use Rattle.registry_store.specs.Run.{HasAnswered, HasAnsweredNone, IsAfterOrNext}
use Rattle.registry_reopening.specs.Runs.{EndsRun}
use Rattle.registry_store.specs.Files.{IsEither}
use Rattle.registry_store.proofs.CrashLemmas.{sure}
use Rattle.registry_store.proofs.RunLemmas.{after_append, leaves_weaker}
use Rattle.registry_reopening.specs.Recovery.{KeepsItsWord}

-- ---- the first n requests, and the rest

pub after_rest : (n : ℕ) (h : History) (rs : List Request) → after (after h (take n rs)) (drop n rs) ≡ after h rs
after_rest n h rs = sym (after_append h (take n rs) (drop n rs)) ∙ ap (after h) (take-append-drop n rs)

after_more_of_rest : (n k : ℕ) (h : History) (rs : List Request) → after (after h (take n rs)) (take k (drop n rs)) ≡ after h (take (n + k) rs)
after_more_of_rest n k h rs = sym (after_append h (take n rs) (take k (drop n rs))) ∙ ap (after h) (sym (take-add n k rs))

pub replies_to_rest : (n : ℕ) (h : History) (rs : List Request) → replies_to (after h (take n rs)) (drop n rs) ≡ drop n (replies_to h rs)
replies_to_rest zero h rs = refl
replies_to_rest (suc n) h [] = refl
replies_to_rest (suc n) h (r ∷ rs) = replies_to_rest n (after_one h r) rs

-- none of the rest is answered
answered_none_of_rest : {S : Type 0} {g : Ghosts S} (it : Registry S g) (h : History) (rs : List Request) (n : ℕ) → HasAnswered it h rs n → HasAnsweredNone it (after h (take n rs)) (drop n rs)
answered_none_of_rest it h rs n (inl stands) = inl stands
answered_none_of_rest it h rs n (inr more) = inr (omega (arith, more.0, length-drop n rs), subst (Represents it) (sym (after_more_of_rest n 1 h rs)) more.1)

-- ---- one run after another

module _ {S : Type 0} {g : Ghosts S} (h : History) (rs : List Request) (old more : List Reply) where
  -- how a run after so many replies ends
  abbrev pub EndsNext : Registry S g → Option Fault → Type 0
  EndsNext it fault = EndsRun it (after h (take (length old) rs)) (drop (length old) rs) more fault

  pub ends_next : (now it : Registry S g) (n : ℕ) (fault : Option Fault) → n ≡ length old → HasAnswered now h rs (length old)
      → ((x : History) → HasAnsweredNone now x (drop n rs) → EndsRun it x (drop n rs) more fault) → EndsNext it fault
  ends_next now it n fault count at run =
      subst (λ k. EndsRun it (after h (take k rs)) (drop k rs) more fault) count
      (run (after h (take n rs)) (answered_none_of_rest now h rs n (subst (HasAnswered now h rs) (sym count) at)))

module _ {S : Type 0} {g : Ghosts S} (h : History) (rs : List Request) (old more : List Reply) (front : old ≡ take (length old) (replies_to h rs)) where
  -- the last run came to the end
  pub ended : (it : Registry S g) → EndsNext h rs old more it None → (old ++ more ≡ replies_to h rs) × Represents it (after h rs)
  ended it done = (
    ap (λ x. x ++ more) front ∙ ap (λ m. take (length old) (replies_to h rs) ++ m) (done.all ∙ replies_to_rest (length old) h rs) ∙ take-append-drop (length old) (replies_to h rs),
    subst (Represents it) (after_rest (length old) h rs) done.represents,
  )

  -- the replies up to a stop are a prefix of all replies
  pub so_far : (it : Registry S g) (fault : Fault) → EndsNext h rs old more it (Some fault) → old ++ more ≡ take (length (old ++ more)) (replies_to h rs)
  so_far it fault stopped =
      let next : more ≡ take (length more) (drop (length old) (replies_to h rs)) = stopped.front ∙ ap (λ replies. take (length more) replies) (replies_to_rest (length old) h rs) in
      ap (λ y. y ++ more) front ∙ ap (λ m. take (length old) (replies_to h rs) ++ m) next ∙ sym (take-add (length old) (length more) (replies_to h rs))
      ∙ ap (λ k. take k (replies_to h rs)) (sym (length-append old more))

  -- a crash after a stop leaves as many requests as there are replies, or one more
  pub leaves_so_far : (it : Registry S g) (fault : Fault) → EndsNext h rs old more it (Some fault)
      → Leaves newest (state_of it) (IsEither (after h (take (length old + length more) rs)) (after h (take (length old + length more + 1) rs)))
  leaves_so_far it fault stopped =
      let middle = after h (take (length old) rs) in
      let rest = drop (length old) rs in
      let next : length old + (length more + 1) ≡ length old + length more + 1 = omega arith in
      leaves_weaker newest (state_of it) (IsAfterOrNext middle rest (length more)) (IsEither (after h (take (length old + length more) rs)) (after h (take (length old + length more + 1) rs)))
      (λ x. elim [
        | inl e ↦ inl (e ∙ after_more_of_rest (length old) (length more) h rs)
        | inr e ↦ inr (e ∙ after_more_of_rest (length old) (length more + 1) h rs ∙ ap (λ k. after h (take k rs)) next)
      ]) stopped.leaves

  -- the registry that is opened next has answered as many requests as there are replies
  pub goes_on : (it : Registry S g) (fault : Fault) → EndsNext h rs old more it (Some fault)
      → (now : Registry S g) (x : History) → IsEither (after h (take (length old + length more) rs)) (after h (take (length old + length more + 1) rs)) x → Represents now x
      → HasAnswered now h rs (length (old ++ more)) × (old ++ more ≡ take (length (old ++ more)) (replies_to h rs))
  goes_on it fault stopped now x which stands =
      let len = length-append old more in
      let here : HasAnswered now h rs (length old + length more) = elim which [
        | inl e ↦ inl (subst (Represents now) e stands)
        | inr e ↦ inr (omega (arith, stopped.within, length-drop (length old) rs), subst (Represents now) e stands)
      ] in
      (subst (HasAnswered now h rs) (sym len) here, so_far it fault stopped)

pair : (a b : Bool) → IsTrue a → IsTrue b → IsTrue (a && b)
pair true true p q = refl
pair true false p q = absurd cc
pair false b p q = absurd cc

-- no store is in doubt over disks that keep their word
pub always_clean : {D : Type 0} {g : DiskGhosts D} → KeepsItsWord g → (it : FileStore D g) → doubt (view it).is_clean ≡ 0
always_clean {D} {g} word it = sure it (files it).0 (files it).1 refl (pair _ _ (word (files it).0) (word (files it).1))
