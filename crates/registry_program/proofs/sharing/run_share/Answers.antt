use Rattle.std.proofs.Common.{inr}
use Rattle.registry_commands.specs.Ends.{sunk}
use Rattle.registry_program.proofs.sharing.run_share.Goals as goal

pub returns : goal.returns
returns g c out = inr (record {
  opened = c.open_registry.new.host;
  it = c.in-Ok.registry;
  takes = c.in-Ok.ensures.ok;
  done = c.share_into-status.new.host;
  after = c.share_into-status.new.registry;
  errors = sunk g.E.Sink c.share_into-status.new.errors;
  before = c.share_into-status.result;
  does = c.share_into-status.ensures out;
  closes = c.close_registry.ensures;
})
