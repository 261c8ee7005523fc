use Rattle.std.proofs.Common.{◌≡◌, inl, inr, refl, ap}
use Rattle.std.specs.Prelude.{Ok}
use Rattle.registry_commands.specs.declared.status.ExitStatus.TheVariants.{Failed}
use Rattle.shared_commands.proofs.applying.apply_shared.Goals as goal

pub returns-in-Ok : goal.returns-in-Ok
returns-in-Ok g c =
    let read = c.in-Ok.ensures in (
      read.0,
      read.1,
      (let rest = rw c.after_first.ensures at c.run_over.ensures in inr (c.as_slice.result.now, rw c.as_slice.ensures.value read.2.0, rw c.as_slice.ensures.value read.2.1, rw read.2.2 at rest)),
      λ long. absurd (let failed = read.4 long in cc failed),
      elim read.5 [ inl same ↦ inl same | inr it ↦ absurd (let failed = it.0 in cc failed) ],
    )

pub returns-in-Err : goal.returns-in-Err
returns-in-Err g c =
    let read = c.in-Err.ensures in (
      read.0,
      read.1,
      inl (record { status = c.in-Err.status; end_is = refl; same = refl; same_place = refl; silent = refl; told = read.3 }),
      λ long. (let failed = read.4 long in let is : c.in-Err.status ≡ Failed = cc failed in ap Ok is),
      elim read.5 [ inl same ↦ inl same | inr it ↦ inr (let failed = it.0 in let is : c.in-Err.status ≡ Failed = cc failed in (ap Ok is, it.1, it.2)) ],
    )
