use Rattle.std.proofs.Common.{inl, inr, refl}
use Rattle.registry_program.proofs.following.join_at.Goals as goal

pub returns-in-Ok-join-clause-ok : goal.returns-in-Ok-join-clause-ok
returns-in-Ok-join-clause-ok g c = (
  record {
    log = c.in-Ok.log;
    finds = c.in-Ok.ensures.found;
    joins = record {
      follows = c.in-Ok-join.ensures.ok;
      stopped = λ lines kept h stands valid clean. tt;
      untouched = c.in-Ok-join.ensures.untouched;
      notes = c.in-Ok-join.ensures.notes;
      when_poisoned = c.in-Ok-join.ensures.when_poisoned;
    };
    asks = c.in-Ok-join.ensures.asks;
  },
  refl,
)

pub returns-in-Err-join-clause-err : goal.returns-in-Err-join-clause-err
returns-in-Err-join-clause-err g c out = inr (
  c.log_at.new.self,
  c.in-Err-join.stop,
  c.in-Err-join.log,
  record {
    log = c.in-Ok.log;
    finds = c.in-Ok.ensures.found;
    joins = record {
      follows = λ lines kept h stands valid clean. tt;
      stopped = c.in-Err-join.ensures.err;
      untouched = c.in-Err-join.ensures.untouched;
      notes = c.in-Err-join.ensures.notes;
      when_poisoned = c.in-Err-join.ensures.when_poisoned;
    };
    asks = c.in-Err-join.ensures.asks;
  },
  c.leave_log.ensures,
  c.fail_by.ensures out,
)

pub returns-in-Err-clause-err : goal.returns-in-Err-clause-err
returns-in-Err-clause-err g c out = inl (c.in-Err.why, c.in-Err.ensures.rejected, refl, c.refuse_address.ensures out)
