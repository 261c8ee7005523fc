use Rattle.std.proofs.Common.{inl}
use Rattle.registry_program.proofs.founding.founding_at.Goals as goal

pub returns-in-Ok : goal.returns-in-Ok
returns-in-Ok g c = inl (c.in-Ok.source, c.read_founding.new.source, c.in-Ok.ensures.opened, c.read_founding.ensures)
