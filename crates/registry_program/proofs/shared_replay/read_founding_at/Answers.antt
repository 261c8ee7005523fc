use Rattle.std.proofs.Common.{inl, inr, refl}
use Rattle.registry_program.proofs.shared_replay.read_founding_at.Goals as goal

pub returns-in-Ok-read_founding-clause-ok : goal.returns-in-Ok-read_founding-clause-ok
returns-in-Ok-read_founding-clause-ok g c = (
  record {
    found = c.log_at.new.self;
    log = c.in-Ok.log;
    last = c.read_founding.new.log;
    finds = c.in-Ok.ensures.found;
    begins = c.in-Ok-read_founding.ensures.ok;
    asks = c.in-Ok-read_founding.ensures.asks;
    closes = c.close_log.ensures;
  },
  refl,
)

pub returns-in-Err-read_founding-clause-err : goal.returns-in-Err-read_founding-clause-err
returns-in-Err-read_founding-clause-err g c out = inl (record {
  found = c.log_at.new.self;
  log = c.in-Ok.log;
  last = c.read_founding.new.log;
  finds = c.in-Ok.ensures.found;
  stop = c.in-Err-read_founding.stop;
  why = c.in-Err-read_founding.ensures.err;
  asks = c.in-Err-read_founding.ensures.asks;
  leaves = c.leave_log.ensures;
  tells = c.fail_by.ensures out;
})

pub returns-in-Err-clause-err : goal.returns-in-Err-clause-err
returns-in-Err-clause-err g c out = inr (c.in-Err.why, c.in-Err.ensures.rejected, c.refuse_address.ensures out)
