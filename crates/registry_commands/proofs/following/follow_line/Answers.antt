use Rattle.registry_commands.proofs.following.follow_line.Goals as goal

pub returns : goal.returns
returns g c = record {
  answered = c.follow_given.ensures.answered;
  other = c.follow_given.ensures.other;
  given = c.follow_given.ensures.given;
  crash = c.follow_given.ensures.crash;
  failure = c.follow_given.ensures.failure;
  goes_on = c.follow_given.ensures.goes_on;
  when_poisoned = c.follow_given.ensures.when_poisoned;
  notes = c.follow_given.ensures.notes;
  endures = c.follow_given.ensures.endures;
}
