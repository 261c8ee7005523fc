use Rattle.std.proofs.Common.{inl, inr}
use Rattle.registry_program.proofs.stores.connect.Goals as goal

pub returns-in-Ok-connect_to-clause-ok : goal.returns-in-Ok-connect_to-clause-ok
returns-in-Ok-connect_to-clause-ok g c = record {
  files = c.in-Ok.store.0;
  opens = record { opens = c.in-Ok.ensures.opened; found = c.in-Ok.ensures.found };
  connected = c.in-Ok-connect_to.ensures.ok;
}

pub returns-in-Err-clause-err : goal.returns-in-Err-clause-err
returns-in-Err-clause-err g c = inl (c.in-Err.ensures.missed, c.in-Err.ensures.kind)

pub returns-in-Err-connect_to-clause-err : goal.returns-in-Err-connect_to-clause-err
returns-in-Err-connect_to-clause-err g c = inr (
  c.in-Err-connect_to.ensures.err.0,
  record {
    opened = c.open_store.new.self;
    files = c.in-Ok.store.0;
    opens = record { opens = c.in-Ok.ensures.opened; found = c.in-Ok.ensures.found };
    left = c.in-Err-connect_to.files;
    is_left = c.in-Err-connect_to.ensures.err.1;
    lets_go = c.let_go.ensures;
  },
)
