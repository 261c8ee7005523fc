use Rattle.registry_store.proofs.CrashLemmas.{both}
use Rattle.registry_reopening.proofs.crashing.open_through.Goals as goal

pub returns-in-Ok-clause-honest : goal.returns-in-Ok-clause-honest
returns-in-Ok-clause-honest g c clean =
    c.loop.invariant.honest (both _ _ _ _ c.crash.ensures.clean c.crash-in-loop.ensures.clean (c.in-Ok.ensures.honest clean))

pub returns-in-Ok-clause-represents : goal.returns-in-Ok-clause-represents
returns-in-Ok-clause-represents g c from h next legal legal_next holds =
    c.in-Ok.ensures.represents from h next legal legal_next (λ honest.
    (c.loop.invariant.holds from h next legal legal_next holds (both _ _ _ _ c.crash.ensures.clean c.crash-in-loop.ensures.clean honest)).crash _ (c.crash.ensures.left, c.crash-in-loop.ensures.left))

pub returns-in-Err-Store-clause-holds : goal.returns-in-Err-Store-clause-holds
returns-in-Err-Store-clause-holds g c from h next legal legal_next holds =
    rw c.in-Err-Store.field-0-is at (c.in-Err-Store.ensures.holds from h next legal legal_next (λ honest.
    (c.loop.invariant.holds from h next legal legal_next holds (both _ _ _ _ c.crash.ensures.clean c.crash-in-loop.ensures.clean honest)).crash _ (c.crash.ensures.left, c.crash-in-loop.ensures.left)))

pub returns-clause-holds : goal.returns-clause-holds
returns-clause-holds g c from h next legal legal_next holds = c.loop.invariant.holds from h next legal legal_next holds

pub loop-preserved : goal.loop-preserved
loop-preserved g c = record {
  honest = λ clean.
      let back = rw c.in-Err-Registry.field-0-is at c.in-Err-Registry.ensures.returned in
      c.loop.invariant.honest (both _ _ _ _ c.crash.ensures.clean c.crash-in-loop.ensures.clean (back clean));
  holds = λ from h next legal legal_next holds clean.
      let kept = rw c.in-Err-Registry.field-0-is at (c.in-Err-Registry.ensures.holds from h next legal legal_next (λ honest.
      (c.loop.invariant.holds from h next legal legal_next holds (both _ _ _ _ c.crash.ensures.clean c.crash-in-loop.ensures.clean honest)).crash _ (c.crash.ensures.left, c.crash-in-loop.ensures.left))) in
      kept clean;
}
