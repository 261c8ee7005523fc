use Rattle.std.proofs.Common.{◌≡◌, ◌∙◌, ℕ, inl, inr, refl, ap}
use Rattle.std.specs.Prelude.{Ok}
use Rattle.registry_commands.specs.declared.status.ExitStatus.TheVariants.{Failed}
use Rattle.registry_commands.specs.Imports.{request_of_import}
use Rattle.shared_commands.proofs.importing.import_shared.Goals as goal

pub returns-in-Ok : goal.returns-in-Ok
returns-in-Ok g c =
    let read = c.in-Ok.ensures in
    let list = read.2 in (
      read.0,
      read.1,
      inr (
        list.0,
        c.in-Ok.request,
        list.1,
        list.2,
        λ h stands. list.3 ∙ ap (λ (vid : ℕ). request_of_import c.args.import vid list.0) (c.founding.ensures h stands).vendor,
        rw list.4 at c.run_one.ensures,
      ),
      elim read.4 [ inl same ↦ inl same | inr it ↦ absurd (let failed = it.0 in cc failed) ],
    )

pub returns-in-Err : goal.returns-in-Err
returns-in-Err g c =
    let read = c.in-Err.ensures in (
      read.0,
      read.1,
      inl (record { status = c.in-Err.status; end_is = refl; same = refl; same_place = refl; silent = refl; told = read.3 }),
      elim read.4 [ inl same ↦ inl same | inr it ↦ inr (let failed = it.0 in let is : c.in-Err.status ≡ Failed = cc failed in (ap Ok is, it.1, it.2)) ],
    )
