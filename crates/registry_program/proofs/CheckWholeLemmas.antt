-- What the files of a store hold after a check, and what it says of them.
use Rattle.std.proofs.Common.{◌≡◌, ◌≢◌, inl, inr, ℕ, List, refl, sym, subst, ◌∙◌, arith}
use Rattle.sqlite_disk.specs.declared.Disk as disk
use Rattle.sqlite.specs.State.{HasCleanDisk}
use Rattle.registry_rules.specs.Accepted.{AreValid}
use Rattle.registry_rules.specs.History.{History}
use Rattle.registry_store.specs.Promise.{Represents, state_of}
use Rattle.registry_commands.specs.declared.checking.Counts.{Counts}
use Rattle.registry_commands.specs.declared.status.ExitStatus.TheVariants.{Success}
use Rattle.registry_commands.specs.Checks.{IsCountOf, sound_text}
use Rattle.registry_commands.specs.Ends.{Ends, Receives, Sunk}
use Rattle.registry_commands.specs.Failures.{IsOfSoundRun, Prints, PrintsFailure}
use Rattle.registry_commands.proofs.CheckLemmas.{sound_failure}
use Rattle.registry_program.specs.declared.host.Host as host
use Rattle.registry_program.specs.Checking.{ChecksRows}
use Rattle.registry_program.specs.Stores.{IsRunOver, Runs}
use Rattle.registry_program.specs.Whole.{ChecksWholly, IsCarriedOn, IsCheckedOn}
use Rattle.registry_program.proofs.LeavesLemmas.{leaves_itself}
use Rattle.registry_program.proofs.WholeLemmas.{carried, runs_whole}

module _ {H F I : Type 0} (m : host.Ghosts H F I) (d : disk.Ghosts F) where
  module _ (old new : H) (path : List ℕ) (ends : Ends) (over : IsRunOver m d old new path ends ChecksRows) (same : ends.status ≡ over.before) where
    says_counts : (h : History) → Represents over.it h → HasCleanDisk (state_of over.after) → ends.status ≡ Success → AreValid h.deeds → (counts : Counts) × IsCountOf h counts × Receives ends.out (sound_text counts)
    says_counts h stands clean success valid = elim over.does.1.shown [
      | inl sound ↦ (sound.0, sound.2 h stands clean valid, elim sound.3 [ inl whole ↦ whole.1 | inr cut ↦ absurd (let done = sym same ∙ success in cc (cut.0, done)) ])
      | inr why ↦ absurd (let done = sym same ∙ success in cc (why.2, done))
    ]

    -- the error output took nothing more when the store was closed
    says_no_more : ends.status ≢ Success → ends.errors.new ≡ over.errors
    says_no_more failed = (over.closes.closed.kept (λ success. failed (same ∙ success))).1

    says_failure : (h : History) → Represents over.it h → HasCleanDisk (state_of over.after) → ends.status ≢ Success → AreValid h.deeds → PrintsFailure IsOfSoundRun ends.errors
    says_failure h stands clean failed valid =
        subst (λ (errors : Sunk). PrintsFailure IsOfSoundRun (record { old = ends.errors.old; new = errors })) (sym (says_no_more failed))
        (elim over.does.1.shown [
          | inl sound ↦ elim sound.3 [
            | inl whole ↦ absurd (failed (same ∙ whole.0))
            | inr cut ↦ let told = cut.2 in (told.0, subst IsOfSoundRun (sym told.1.0) tt, told.2)
          ]
          | inr why ↦
              let is = sound_failure over.it over.after h stands clean valid why.0 why.1 in
              (is.0, is.1, subst (λ (text : List ℕ). Prints (record { old = ends.errors.old; new = over.errors }) text) is.2 why.4)
        ])

  pub check_whole : (old new : H) (path : List ℕ) (ends : Ends) → Runs m d old new path ends ChecksRows → ChecksWholly m d old new path ends
  check_whole old new path ends = runs_whole m d old new path ends ChecksRows (IsCarriedOn m d old new path (IsCheckedOn ends)) (λ over same.
      let left = over.does.1.left in
      carried m d old new path ends ChecksRows over same (λ clean. omega (arith, left.survives.clean, clean)) (IsCheckedOn ends)
      (λ h stands clean. (h, h, ((refl, refl), says_counts old new path ends over same h stands clean, says_failure old new path ends over same h stands clean), leaves_itself over.after h (left.stays h stands) clean)))
