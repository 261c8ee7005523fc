use Rattle.std.proofs.Common.{ap, sym, ◌∙◌, arith}
use Rattle.registry_commands.specs.Messages.{failure_of}
use Rattle.registry_commands.proofs.FoundOrOpenLemmas.{foreign_fault, if_older, is_not, of_opening}
use Rattle.registry_commands.proofs.replaying.open_there.Goals as goal

pub returns-in-Ok-clause-ok : goal.returns-in-Ok-clause-ok
returns-in-Ok-clause-ok g c = record {
  is_new = c.in-Ok.ensures.is_new;
  idle = is_not c.args.conn.in_transaction (λ inside. c.in-Ok.ensures.busy inside);
  survives = if_older _ _ c.in-Ok.ensures.survives c.in-Ok.ensures.untouched;
  opened = c.in-Ok.ensures.fresh;
  known = c.in-Ok.ensures.known;
  clean = λ clean. omega (arith, c.in-Ok.ensures.survives.clean, clean);
}

pub returns-in-Err-clause-err : goal.returns-in-Err-clause-err
returns-in-Err-clause-err g c = record {
  kind = rw c.failure_of.ensures (of_opening c.in-Err.fault c.in-Err.ensures.kind.0 c.in-Err.ensures.kind.1);
  idle = c.in-Err.ensures.idle;
  busy = λ inside. let left = c.in-Err.ensures.busy inside in (c.failure_of.ensures ∙ ap failure_of left.0, left.1);
  survives = if_older _ _ c.in-Err.ensures.survives c.in-Err.ensures.untouched;
  leaves = λ live version h legal fresh clean. c.in-Err.ensures.leaves_fresh version h legal fresh clean;
  clean = λ clean. omega (arith, c.in-Err.ensures.survives.clean, clean);
  foreign = λ told clean. c.in-Err.ensures.foreign clean (foreign_fault c.in-Err.fault (sym c.failure_of.ensures ∙ told));
}
