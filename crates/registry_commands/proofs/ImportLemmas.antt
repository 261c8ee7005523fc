-- Acting on one request, and its reply.
use Rattle.std.proofs.Common.{◌≡◌, ◌⊎◌, inl, inr, subst}
use Rattle.std.specs.Prelude.{false, None}
use Rattle.sqlite.specs.Store.{Ghosts}
use Rattle.sqlite.specs.State.{HasCleanDisk}
use Rattle.registry_rules.specs.declared.order.Request.{Request}
use Rattle.registry_rules.specs.declared.verdict.Reply.{Reply}
use Rattle.registry_rules.specs.History.{History}
use Rattle.registry_rules.specs.Run.{after_one, reply_to}
use Rattle.registry_tables.specs.Rows.{newest}
use Rattle.registry_store.specs.declared.fault.Fault.{Fault}
use Rattle.registry_store.specs.declared.fault.Fault.TheVariants as faults
use Rattle.registry_store.specs.declared.registry.Registry.{Registry}
use Rattle.registry_store.specs.Promise.{NotesForeign, Represents, is_poisoned, state_of}
use Rattle.registry_store.specs.RunTo.{MayHaveBeenActedOn}
use Rattle.registry_store.proofs.RunLemmas.{leaves_weaker}
use Rattle.registry_commands.specs.declared.messages.Failure.TheVariants.{Memory, File}
use Rattle.registry_commands.specs.Ends.{Effect, ReceivesPrefix, Output}
use Rattle.registry_commands.specs.Failures.{IsOfOutput}
use Rattle.registry_commands.specs.Imports.{GivesReply, IsCut, IsFailed, IsReplied}
use Rattle.registry_commands.specs.Messages.{reply_line}
use Rattle.registry_commands.proofs.FailureLemmas.{of_reply}

module _ {S : Type 0} {g : Ghosts S} where
  -- a request that was acted on before has the same kinds of fault as the first time
  pub kind_of : (it new : Registry S g) (h : History) (r : Request) (fault : Fault)
      → ((x : History) → Represents it x → HasCleanDisk (state_of new) → (fault ≡ faults.Store) ⊎ (fault ≡ faults.NoMemory))
      → MayHaveBeenActedOn it h r → HasCleanDisk (state_of new) → (fault ≡ faults.Store) ⊎ (fault ≡ faults.NoMemory)
  kind_of it new h r fault kind (inl s) clean = kind h s clean
  kind_of it new h r fault kind (inr s) clean = kind (after_one h r) s clean

  -- only a prefix of a reply's line is written
  cut_at : (new : Registry S g) (h : History) (r : Request) (out : Output) (reply : Reply)
      → (reply ≡ reply_to h r) × Represents new (after_one h r) → HasCleanDisk (state_of new) → ReceivesPrefix out (reply_line reply) → IsCut new h r out
  cut_at new h r out reply acted clean part = record {
    gained = subst (λ (x : Reply). ReceivesPrefix out (reply_line x)) acted.0 part;
    leaves = leaves_weaker newest (state_of new) (λ y. y ≡ after_one h r) (λ y. (y ≡ h) ⊎ (y ≡ after_one h r)) (λ y e. inr e) (acted.1.at.left clean);
    ends = inr acted.1;
  }

  -- a request gets its reply, whose line is written whole or in part
  pub replied : (did : Effect S g) (r : Request) (reply : Reply) → is_poisoned did.new ≡ false → NotesForeign did.old did.new None
      → ((h : History) → MayHaveBeenActedOn did.old h r → HasCleanDisk (state_of did.new) → (reply ≡ reply_to h r) × Represents did.new (after_one h r))
      → IsReplied (λ failure. ((failure ≡ Memory) ⊎ (failure ≡ File)) × IsOfOutput did.ends.out.old.failures did.ends.out.new.failures failure) reply did.ends
      → GivesReply did r ⊎ IsFailed did r
  replied did r reply on notes acted (inl done) = inl (record { reply = reply; status_is = done.0; gained = done.1; quiet = done.2; sound = on; notes = notes; answered = acted })
  replied did r reply on notes acted (inr failed) = inr (record {
    status_is = failed.0;
    cut = λ h may clean. cut_at did.new h r did.ends.out reply (acted h may clean) clean failed.1;
    told = let t = failed.2 in (t.0, (of_reply did.old did.new (λ h. MayHaveBeenActedOn did.old h r) t.0 on notes t.1.0.0, t.1.0.1, λ other. t.1.1 (elim t.1.0.0 [ inl memory ↦ memory | inr file ↦ absurd (other file) ])), t.2);
  })
