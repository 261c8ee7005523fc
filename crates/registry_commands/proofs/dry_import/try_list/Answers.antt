use Rattle.std.proofs.Common.{[], inl, inr, refl}
use Rattle.registry_commands.specs.declared.messages.Failure.TheVariants.{File}
use Rattle.registry_commands.proofs.ApplyLemmas.{keeps_same}
use Rattle.registry_commands.proofs.dry_import.try_list.Goals as goal

pub returns-in-Ok : goal.returns-in-Ok
returns-in-Ok g c =
    let read = c.in-Ok.ensures.ok in
    (read.0, read.1, inl (c.finish.result, read.2, c.finish.ensures.answers read.0 (read.3 tt [] c.new-reader.ensures.was_fed), c.try_read.ensures), inl c.in-Ok.ensures.kept)

pub returns-in-Err : goal.returns-in-Err
returns-in-Err g c =
    let read = c.in-Err.ensures.err in
    (read.0, read.1, inr (refl, (c.fail.ensures.status, (keeps_same _, refl), (File, read.2, c.fail.ensures.told))), inr (c.fail.ensures.status, c.fail.ensures.told, read.2))
