use Rattle.std.proofs.Common.{[], inl, inr, refl}
use Rattle.usbids_text.specs.declared.seen.Wanted.{Wanted}
use Rattle.registry_commands.specs.declared.messages.Failure.TheVariants.{File}
use Rattle.registry_commands.proofs.ApplyLemmas.{keeps_same}
use Rattle.registry_commands.proofs.looking.look_up.Goals as goal

pub returns-in-Ok : goal.returns-in-Ok
returns-in-Ok g c =
    let read = c.in-Ok.ensures.ok in
    let wanted : Wanted = record { vendor = c.args.vendor; code = c.args.code } in
    (read.0, read.1, inl (c.finish.result, read.2, c.finish.ensures wanted read.0 (read.3 wanted [] c.new-scan.ensures), c.put_answer.ensures), inl c.in-Ok.ensures.kept)

pub returns-in-Err : goal.returns-in-Err
returns-in-Err g c =
    let read = c.in-Err.ensures.err in
    (read.0, read.1, inr (c.fail.ensures.status, (keeps_same _, refl), (File, read.2, c.fail.ensures.told)), inr (c.fail.ensures.status, c.fail.ensures.told, read.2))
