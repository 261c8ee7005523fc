use Rattle.std.proofs.Common.{inl, inr}
use Rattle.registry_program.proofs.stores.open_registry.Goals as goal

pub returns-in-Ok-open_files-clause-ok : goal.returns-in-Ok-open_files-clause-ok
returns-in-Ok-open_files-clause-ok g c = record {
  files = c.in-Ok.store.0;
  opens = record { opens = c.in-Ok.ensures.opened; found = c.in-Ok.ensures.found };
  opens_files = c.in-Ok-open_files.ensures.ok;
}

pub returns-in-Err-clause-err : goal.returns-in-Err-clause-err
returns-in-Err-clause-err g c = inl (c.in-Err.ensures.missed, c.in-Err.ensures.kind)

pub returns-in-Err-open_files-clause-err : goal.returns-in-Err-open_files-clause-err
returns-in-Err-open_files-clause-err g c = inr (record {
  opened = c.open_store.new.self;
  files = c.in-Ok.store.0;
  opens = record { opens = c.in-Ok.ensures.opened; found = c.in-Ok.ensures.found };
  left = c.in-Err-open_files.files;
  is_left = (c.in-Err-open_files.ensures.err, c.in-Err-open_files.ensures.foreign);
  lets_go = c.let_go.ensures;
})
