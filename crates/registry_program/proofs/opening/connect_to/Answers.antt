use Rattle.std.proofs.Common.{inl, inr}
use Rattle.registry_program.proofs.opening.connect_to.Goals as goal

pub returns-in-Ok-clause-ok : goal.returns-in-Ok-clause-ok
returns-in-Ok-clause-ok g c clean = (c.in-Ok.ensures.opened clean, c.in-Ok.ensures.found clean, c.in-Ok.ensures.sums clean)

pub returns-in-Err-clause-err : goal.returns-in-Err-clause-err
returns-in-Err-clause-err g c = (
  elim c.store_failure.ensures [ inl memory ↦ inr memory.0 | inr store ↦ inl store.0 ],
  (c.in-Err.left, c.into_files.ensures, c.in-Err.ensures.unharmed),
)
