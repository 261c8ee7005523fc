use Rattle.std.proofs.Common.{inl, inr, refl}
use Rattle.std.specs.Prelude.{Ok, Err}
use Rattle.registry_commands.specs.Ends.{sunk}
use Rattle.registry_program.proofs.showing.run_export.Goals as goal

pub returns : goal.returns
returns g c = (
  Ok c.in-Ok.stamp,
  c.in-Ok.ensures,
  inr (record {
    opened = c.open_registry.new.host;
    it = c.in-Ok-open_registry.registry;
    takes = c.in-Ok-open_registry.ensures.ok;
    done = c.open_registry.new.host;
    after = c.export-status.new.registry;
    errors = sunk g.E.Sink c.export-status.new.errors;
    before = c.export-status.result;
    does = (refl, c.export-status.ensures);
    closes = c.close_registry.ensures;
  }),
)

pub returns-in-Err : goal.returns-in-Err
returns-in-Err g c = (Err c.in-Err.argument, c.in-Err.ensures, (refl, (refl, c.reject_argument.ensures.status, c.reject_argument.ensures.told)))

pub returns-in-Err-open_registry : goal.returns-in-Err-open_registry
returns-in-Err-open_registry g c = (Ok c.in-Ok.stamp, c.in-Ok.ensures, inl (c.in-Err-open_registry.failure, c.in-Err-open_registry.ensures.err, (refl, c.fail.ensures.status, c.fail.ensures.told)))
