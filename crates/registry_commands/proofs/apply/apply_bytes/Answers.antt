use Rattle.std.proofs.Common.{◌≡◌, ◌∙◌, Ok, ap, refl, sym}
use Rattle.registry_commands.specs.declared.messages.Failure.TheVariants.{Memory}
use Rattle.registry_commands.specs.Failures.{IsOfMemory}
use Rattle.registry_commands.specs.Lines.{requests_in}
use Rattle.registry_commands.proofs.ApplyLemmas.{fails_before}
use Rattle.registry_commands.proofs.apply.apply_bytes.Goals as goal

pub returns-in-Err-NoMemory : goal.returns-in-Err-NoMemory
returns-in-Err-NoMemory g c =
    fails_before IsOfMemory c.args.registry.now (requests_in c.args.bytes.now) c.args.answered _ _ c.fail.result c.fail.ensures.status (Memory, refl, c.fail.ensures.told)

pub returns-in-Ok : goal.returns-in-Ok
returns-in-Ok g c =
    let read : requests_in c.args.bytes.now ≡ Ok c.as_slice.result.now = c.in-Ok.ensures ∙ ap Ok (sym c.as_slice.ensures.value) in
    rw read c.apply_requests.ensures
