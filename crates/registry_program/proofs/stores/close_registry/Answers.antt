use Rattle.std.proofs.Common.{subst}
use Rattle.registry_commands.specs.Ends.{sunk}
use Rattle.registry_program.specs.Stores.{Closes}
use Rattle.registry_program.proofs.stores.close_registry.Goals as goal

pub returns : goal.returns
returns g c =
    let close = c.close_connection in
    subst (λ conn. Closes g.H.Host g.H.File.Disk c.args.host.now close.new.host conn (sunk g.E.Sink c.args.errors.now) (sunk g.E.Sink close.new.errors) c.args.status close.result) c.into_connection.ensures close.ensures
