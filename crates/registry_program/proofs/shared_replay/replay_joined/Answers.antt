use Rattle.std.proofs.Common.{refl, subst}
use Rattle.registry_program.proofs.shared_replay.replay_joined.Goals as goal

pub returns-in-Ok : goal.returns-in-Ok
returns-in-Ok g c out = record {
  left = c.follow-end.new.cursor;
  end = c.follow-end.result;
  replays = record {
    whole = c.follow-end.ensures.ok;
    stopped = c.follow-end.ensures.err;
    asks = c.follow-end.ensures.asks;
    notes = c.follow-end.ensures.notes;
    endures = c.follow-end.ensures.endures;
  };
  tells = rw c.in-Ok.is (subst (λ log. g.H.Logs.closes c.args.host.now c.close_log.new.self log) c.into_log-log.ensures c.close_log.ensures, (refl, refl, refl));
}

pub returns-in-Err : goal.returns-in-Err
returns-in-Err g c out = record {
  left = c.follow-end.new.cursor;
  end = c.follow-end.result;
  replays = record {
    whole = c.follow-end.ensures.ok;
    stopped = c.follow-end.ensures.err;
    asks = c.follow-end.ensures.asks;
    notes = c.follow-end.ensures.notes;
    endures = c.follow-end.ensures.endures;
  };
  tells = rw c.in-Err.is (
    subst (λ log. g.H.Logs.leaves c.args.host.now c.leave_log.new.self log c.in-Err.stop) c.into_log-log.ensures c.leave_log.ensures,
    c.fail_by.ensures out,
  );
}
