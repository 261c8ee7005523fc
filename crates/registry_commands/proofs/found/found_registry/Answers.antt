use Rattle.std.proofs.Common.{inl, inr, refl}
use Rattle.registry_commands.proofs.ApplyLemmas.{keeps_same}
use Rattle.registry_commands.proofs.EndLemmas.{of_founding}
use Rattle.registry_commands.proofs.found.found_registry.Goals as goal

pub returns-in-Err : goal.returns-in-Err
returns-in-Err g c =
    let of = of_founding g.S.Store c.args.conn c.in-Err.conn c.in-Err.fault c.in-Err.ensures.untaken
    (λ e. let there = c.in-Err.ensures.taken e in (there.0, λ none. let meta = there.1 in absurd cc)) c.in-Err.ensures.kind in
    record {
      survives = c.in-Err.ensures.survives;
      ends = inr (c.fail.ensures.status, (c.failure_of.result, rw c.failure_of.ensures of, c.fail.ensures.told));
      idle = c.in-Err.ensures.idle;
      busy = λ inside. (c.fail.ensures.status, (c.in-Err.ensures.busy inside).1);
    }

pub returns-in-Ok : goal.returns-in-Ok
returns-in-Ok g c = rw c.into_connection.ensures (record {
  survives = c.in-Ok.ensures.survives;
  ends = inl (refl, record { none_before = c.in-Ok.ensures.empty; rows = λ clean. (c.in-Ok.ensures.represents clean).at }, (keeps_same _, refl));
  idle = λ _. c.in-Ok.registry.idle;
  busy = λ inside. absurd (c.in-Ok.ensures.busy inside);
})
