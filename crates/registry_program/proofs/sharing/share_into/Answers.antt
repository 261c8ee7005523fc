use Rattle.std.proofs.Common.{inl, inr, refl, subst}
use Rattle.std.specs.Prelude.{Ok, Err}
use Rattle.registry_program.proofs.sharing.share_into.Goals as goal

pub returns-in-Ok-share : goal.returns-in-Ok-share
returns-in-Ok-share g c out = inl (record {
  found = c.log_at.new.self;
  log = c.in-Ok.log;
  finds = c.in-Ok.ensures.found;
  end = Ok c.in-Ok-share.cursor;
  shares = record {
    follows = c.in-Ok-share.ensures.ok;
    stopped = λ lines kept h stands valid clean. tt;
    untouched = c.in-Ok-share.ensures.untouched;
    notes = c.in-Ok-share.ensures.notes;
    when_poisoned = c.in-Ok-share.ensures.when_poisoned;
  };
  asks = c.in-Ok-share.ensures.asks;
  never_ahead = tt;
  tells = (subst (λ log. g.H.Logs.closes c.log_at.new.self c.close_log.new.self log) c.into_log.ensures c.close_log.ensures, (refl, refl, refl));
})

pub returns-in-Err-share : goal.returns-in-Err-share
returns-in-Err-share g c out = inl (record {
  found = c.log_at.new.self;
  log = c.in-Ok.log;
  finds = c.in-Ok.ensures.found;
  end = Err (c.in-Err-share.stop, c.in-Err-share.log);
  shares = record {
    follows = λ lines kept h stands valid clean. tt;
    stopped = c.in-Err-share.ensures.err;
    untouched = c.in-Err-share.ensures.untouched;
    notes = c.in-Err-share.ensures.notes;
    when_poisoned = c.in-Err-share.ensures.when_poisoned;
  };
  asks = c.in-Err-share.ensures.asks;
  never_ahead = c.in-Err-share.ensures.never_ahead;
  tells = (c.leave_log.ensures, c.fail_by.ensures out);
})

pub returns-in-Err : goal.returns-in-Err
returns-in-Err g c out = inr (c.in-Err.why, c.in-Err.ensures.rejected, refl, c.refuse_address.ensures out)
