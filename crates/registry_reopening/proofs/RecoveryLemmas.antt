-- What a run of all requests leaves.
use Rattle.std.proofs.Common.{◌≡◌, ◌⊎◌, ◌+◌, ◌<◌, inl, List, length, take, Option, Some, None, sym, ap, subst, ◌∙◌, arith}
use Rattle.std.specs.Prelude.{IfSome}
use Rattle.std.proofs.lemmas.List.{take_all}
use Rattle.sqlite.specs.Store.{Ghosts}
use Rattle.sqlite.specs.State.{HasCleanDisk}
use Rattle.registry_rules.specs.declared.order.Request.{Request}
use Rattle.registry_rules.specs.declared.verdict.Reply.{Reply}
use Rattle.registry_rules.specs.History.{History}
use Rattle.registry_rules.specs.Run.{after, replies_to}
use Rattle.registry_tables.specs.Rows.{newest}
use Rattle.registry_store.specs.declared.fault.Fault.{Fault}
use Rattle.registry_store.specs.declared.fault.Fault.TheVariants as faults
use Rattle.registry_store.specs.declared.registry.Registry.{Registry}
use Rattle.registry_store.specs.Promise.{Leaves, state_of}
use Rattle.registry_store.specs.Files.{IsEither}
use Rattle.registry_reopening.specs.Runs.{EndsRun}
use Rattle.registry_store.proofs.RunToLemmas.{length_answers}

module _ {S : Type 0} {g : Ghosts S} (it : Registry S g) (h : History) (rs : List Request) (replies : List Reply) where
  as_many : replies ≡ replies_to h rs → length rs ≡ length replies
  as_many all = sym (ap length all ∙ length_answers h rs)

  -- a crash leaves the answered requests, or one more
  pub run_leaves : (fault : Option Fault) → EndsRun it h rs replies fault → HasCleanDisk (state_of it)
      → Leaves newest (state_of it) (IsEither (after h (take (length replies) rs)) (after h (take (length replies + 1) rs)))
  run_leaves None done clean = λ db may.
      let x = done.represents.at.left clean db may in
      let whole : take (length replies) rs ≡ rs = take_all (length replies) rs (omega (arith, as_many done.all)) in
      (x.0, inl (x.1 ∙ ap (after h) (sym whole)), x.2)
  run_leaves (Some fault) stopped clean = stopped.leaves

  pub run_answers : (fault : Option Fault) → EndsRun it h rs replies fault → replies ≡ take (length replies) (replies_to h rs)
  run_answers None done = done.all ∙ sym (take_all (length replies) (replies_to h rs) (omega (arith, ap length done.all)))
  run_answers (Some fault) stopped = stopped.front

  pub run_is_done : (fault : Option Fault) → EndsRun it h rs replies fault → fault ≡ None → replies ≡ replies_to h rs
  run_is_done None done is = done.all
  run_is_done (Some fault) stopped is = absurd cc

  pub run_stops : (fault : Option Fault) → EndsRun it h rs replies fault → IfSome fault (λ why. (length replies < length rs) × ((why ≡ faults.Store) ⊎ (why ≡ faults.NoMemory)))
  run_stops None done = tt
  run_stops (Some fault) stopped = (stopped.within, stopped.kind)
