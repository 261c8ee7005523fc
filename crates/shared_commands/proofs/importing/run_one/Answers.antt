use Rattle.std.proofs.Common.{inl, inr, refl}
use Rattle.shared_commands.proofs.importing.run_one.Goals as goal

pub returns-in-Ok : goal.returns-in-Ok
returns-in-Ok g c = record {
  ends = inl (refl, c.in-Ok.ensures.kept, c.in-Ok.ensures.ok);
  asks = c.in-Ok.ensures.asks;
  when_poisoned = λ e. absurd (let failed = c.in-Ok.ensures.when_poisoned e in cc failed.0);
  notes = c.in-Ok.ensures.notes;
  endures = c.in-Ok.ensures.endures;
}

pub returns-in-Err-Output : goal.returns-in-Err-Output
returns-in-Err-Output g c = record {
  ends = inr (
    c.fail.ensures.status,
    c.in-Err-Output.failure,
    rw c.in-Err-Output.field-0-is at c.in-Err-Output.ensures.writes,
    c.fail.ensures.told,
    λ lines kept h follows clean. rw c.in-Err-Output.field-0-is at (c.in-Err-Output.ensures.err lines kept h follows clean),
  );
  asks = c.in-Err-Output.ensures.asks;
  when_poisoned = λ e. absurd (let failed = c.in-Err-Output.ensures.when_poisoned e in cc (failed.0, c.in-Err-Output.field-0-is));
  notes = rw c.in-Err-Output.field-0-is at c.in-Err-Output.ensures.notes;
  endures = c.in-Err-Output.ensures.endures;
}

pub returns-in-Err-Share : goal.returns-in-Err-Share
returns-in-Err-Share g c = record {
  ends = (
    refl,
    rw c.in-Err-Share.field-0-is at c.in-Err-Share.ensures.silent,
    λ lines kept h follows clean. rw c.in-Err-Share.field-0-is at (c.in-Err-Share.ensures.err lines kept h follows clean),
  );
  asks = c.in-Err-Share.ensures.asks;
  when_poisoned = λ e. let all = c.in-Err-Share.ensures.when_poisoned e in (all.1, all.2, rw c.in-Err-Share.field-0-is at c.in-Err-Share.ensures.silent);
  notes = rw c.in-Err-Share.field-0-is at c.in-Err-Share.ensures.notes;
  endures = c.in-Err-Share.ensures.endures;
}
