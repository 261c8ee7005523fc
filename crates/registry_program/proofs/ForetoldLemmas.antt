-- What the dry run of an import says, by the history that its registry represented, which stays.
use Rattle.std.proofs.Common.{◌≡◌, inl, inr, ℕ, List, sym, ap, subst, ◌∙◌, arith}
use Rattle.std.specs.Prelude.{◌≢◌, Result, Ok, Err}
use Rattle.sqlite.specs.State.{HasCleanDisk}
use Rattle.sqlite.specs.Store.{Ghosts}
use Rattle.usbids_text.specs.Entries.{TopEntry}
use Rattle.usbids_text.specs.Reading.{ReadsAs}
use Rattle.usbids_text.specs.declared.fault.ReadFault.{ReadFault}
use Rattle.usbids_text.specs.declared.fault.ReadFault.TheVariants as faults
use Rattle.registry_rules.specs.declared.order.Request.{Request}
use Rattle.registry_rules.specs.declared.verdict.Reply.{Reply}
use Rattle.registry_rules.specs.History.{History}
use Rattle.registry_rules.specs.Run.{reply_to}
use Rattle.registry_store.specs.declared.registry.Registry.{Registry}
use Rattle.registry_store.specs.Promise.{Represents, state_of}
use Rattle.registry_commands.specs.declared.importing.Import.{Import}
use Rattle.registry_commands.specs.declared.messages.Failure.{Failure}
use Rattle.registry_commands.specs.declared.status.ExitStatus.{ExitStatus}
use Rattle.registry_commands.specs.declared.status.ExitStatus.TheVariants.{Failed, Rejected}
use Rattle.registry_commands.specs.DryRuns.{IsForetold, IsImportTried, IsTriedAs, dry_status_of}
use Rattle.registry_commands.specs.Ends.{Effect, Ends, Output, Receives}
use Rattle.registry_commands.specs.Imports.{request_of_import}
use Rattle.registry_commands.specs.LookUp.{IsListRefused}
use Rattle.registry_commands.specs.Messages.{reply_line}
use Rattle.registry_program.specs.Whole.{Foretells}

-- a list that is refused ends with the status Rejected, unless the command failed
refused : (fault : ReadFault) (errors : Output) (status : ExitStatus) → IsListRefused fault errors status → status ≢ Failed → status ≡ Rejected
refused (faults.Line line) errors status is other = elim is [ inl said ↦ said.0 | inr failed ↦ absurd (other failed.0) ]
refused faults.NoMemory errors status is other = absurd (other is.0)

-- the reply to this request was foretold, unless the command failed
told : (reply : Reply) (ends : Ends) → IsForetold reply ends → ends.status ≢ Failed → (ends.status ≡ dry_status_of reply) × Receives ends.out (reply_line reply)
told reply ends (inl all) other = (all.0, all.1)
told reply ends (inr cut) other = absurd (other cut.0)

module _ {S : Type 0} {g : Ghosts S} where
  -- the history stays, the disk was clean before, and this is said unless the command failed
  pub record IsSaid (did : Effect S g) (import : Import) (bytes : List ℕ) : Type 0 where
    pub clean : HasCleanDisk (state_of did.new) → HasCleanDisk (state_of did.old)
    pub stays : (h : History) → Represents did.old h → Represents did.new h
    pub says : (h : History) → Represents did.old h → HasCleanDisk (state_of did.new) → did.ends.status ≢ Failed → Foretells bytes import did.ends.out did.ends.status h

  unmade : (did : Effect S g) (import : Import) (bytes : List ℕ) → did.new ≡ did.old → ((h : History) → did.ends.status ≢ Failed → Foretells bytes import did.ends.out did.ends.status h) → IsSaid did import bytes
  unmade did import bytes same says = record {
    clean = subst (λ (x : Registry S g). HasCleanDisk (state_of x)) same;
    stays = λ h. subst (λ (x : Registry S g). Represents x h) (sym same);
    says = λ h stands clean other. says h other;
  }

  said_as : (did : Effect S g) (import : Import) (bytes : List ℕ) (read : Result (List TopEntry) ReadFault) → ReadsAs bytes read → IsTriedAs did import read → IsSaid did import bytes
  said_as did import bytes (Ok doc) answers (inl tried) =
      let left = tried.2.left in
      record {
        clean = λ clean. omega (arith, left.survives.clean, clean);
        stays = left.stays;
        says = λ h stands clean other. elim tried.2.shown [
          | inl shown ↦
              let reply_is : shown.0 ≡ reply_to h (request_of_import import h.founding.vendor doc) = shown.2 h stands clean ∙ ap (λ (r : Request). reply_to h r) (tried.1 h stands) in
              let both = told shown.0 did.ends shown.3 other in
              inr (doc, answers, both.0 ∙ ap dry_status_of reply_is, subst (λ (reply : Reply). Receives did.ends.out (reply_line reply)) reply_is both.1)
          | inr none ↦ absurd (other none.0)
        ];
      }
  said_as did import bytes (Ok doc) answers (inr none) = unmade did import bytes none.0 (λ h other. absurd (other none.1.0))
  said_as did import bytes (Err fault) answers is = unmade did import bytes is.0 (λ h other. inl (fault, answers, refused fault did.ends.errors did.ends.status is.2 other, is.1.0))

  pub import_said : (OfInput : Failure → Type 0) (did : Effect S g) (import : Import) (bytes : List ℕ) → IsImportTried OfInput did import bytes → IsSaid did import bytes
  import_said OfInput did import bytes (inl read) = said_as did import bytes read.0 read.2 read.3
  import_said OfInput did import bytes (inr none) = unmade did import bytes none.0 (λ h other. absurd (other none.1.0))
