use Rattle.std.proofs.Common.{refl}
use Rattle.shared_commands.proofs.applying.run_over.Goals as goal

pub returns-in-Ok : goal.returns-in-Ok
returns-in-Ok g c = record {
  ends = (refl, c.in-Ok.ensures.kept, c.in-Ok.ensures.ok);
  when_poisoned = c.in-Ok.ensures.when_poisoned;
  notes = c.in-Ok.ensures.notes;
  endures = c.in-Ok.ensures.endures;
}

pub returns-in-Err-Output : goal.returns-in-Err-Output
returns-in-Err-Output g c = rw c.fail.ensures.status (record {
  ends = (
    c.in-Err-Output.failure,
    rw c.in-Err-Output.field-0-is at c.in-Err-Output.ensures.writes,
    c.fail.ensures.told,
    λ lines kept h follows clean. rw c.in-Err-Output.field-0-is at (c.in-Err-Output.ensures.err lines kept h follows clean),
  );
  when_poisoned = c.in-Err-Output.ensures.when_poisoned;
  notes = rw c.in-Err-Output.field-0-is at c.in-Err-Output.ensures.notes;
  endures = c.in-Err-Output.ensures.endures;
})

pub returns-in-Err-Share : goal.returns-in-Err-Share
returns-in-Err-Share g c = record {
  ends = (
    refl,
    rw c.in-Err-Share.field-0-is at c.in-Err-Share.ensures.writes,
    λ lines kept h follows clean. rw c.in-Err-Share.field-0-is at (c.in-Err-Share.ensures.err lines kept h follows clean),
  );
  when_poisoned = c.in-Err-Share.ensures.when_poisoned;
  notes = rw c.in-Err-Share.field-0-is at c.in-Err-Share.ensures.notes;
  endures = c.in-Err-Share.ensures.endures;
}
