use Rattle.std.proofs.Common.{◌∙◌, ap, inl, inr, refl}
use Rattle.registry_http.specs.declared.response.Response.{Response}
use Rattle.registry_commands.specs.declared.messages.Failure.TheVariants.{Memory}
use Rattle.registry_commands.proofs.ApplyLemmas.{keeps_same}
use Rattle.registry_commands.proofs.heading.put_head.Goals as goal

pub returns-in-Ok : goal.returns-in-Ok
returns-in-Ok g c =
    let made = rw c.as_ref.ensures.value at c.in-Ok.ensures in
    inl (rw (← (c.as_slice.ensures ∙ ap (λ (r : Response). r.body) made)) c.print.ensures)

pub returns-in-Err : goal.returns-in-Err
returns-in-Err g c = inr (c.fail.ensures.status, (keeps_same _, refl), (Memory, refl, c.fail.ensures.told))
