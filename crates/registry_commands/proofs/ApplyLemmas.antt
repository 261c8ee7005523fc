-- Requests that are acted on one after another, and their reply lines.
use Rattle.std.proofs.Common.{◌≡◌, ◌⊎◌, inl, inr, ℕ, List, [], length, drop, Option, Some, None, refl, sym, subst, arith}
use Rattle.std.specs.Prelude.{Result, Ok, Err}
use Rattle.std.proofs.lemmas.Bool.{cases_lt}
use Rattle.std.specs.Io.KnownBytes.{Appends, Keeps}
use Rattle.sqlite.specs.Store.{Ghosts}
use Rattle.sqlite.specs.State.{State, HasCleanDisk}
use Rattle.byte_streams.specs.Streams.{AppendsPrefix, MayGive}
use Rattle.byte_streams.proofs.StreamLemmas.{appends_nil}
use Rattle.registry_rules.specs.declared.order.Request.{Request}
use Rattle.registry_rules.specs.History.{History}
use Rattle.registry_store.specs.declared.registry.Registry.{Registry}
use Rattle.registry_store.specs.Promise.{Endures, state_of}
use Rattle.registry_store.specs.Run.{HasAnsweredNone}
use Rattle.registry_store.proofs.RunToLemmas.{place_left}
use Rattle.registry_store.proofs.TransactionLemmas.{quiet_itself}
use Rattle.registry_commands.specs.declared.lines.BadLine.{BadLine}
use Rattle.registry_commands.specs.declared.messages.Failure.{Failure}
use Rattle.registry_commands.specs.declared.messages.Failure.TheVariants.{Poisoned}
use Rattle.registry_commands.specs.declared.status.ExitStatus.{ExitStatus}
use Rattle.registry_commands.specs.declared.status.ExitStatus.TheVariants.{Failed}
use Rattle.registry_commands.specs.Ends.{Effect, Output, Sunk, effect}
use Rattle.registry_commands.specs.Failures.{PrintsFailure}
use Rattle.registry_commands.specs.Messages.{bad_line_text, exceeds_text}
use Rattle.registry_commands.specs.Apply.{IsApplied, IsRejected, IsRun, IsStoppedAt, lines_between}
use Rattle.registry_commands.proofs.FailureLemmas.{tells_more}

-- the empty text is a prefix of any text
pub prefix_of_any : (o : Option (List ℕ)) (bytes : List ℕ) → AppendsPrefix o o bytes
prefix_of_any o bytes = record { front = []; rest = bytes; whole = refl; appended = appends_nil o }

pub keeps_same : (o : Option (List ℕ)) → Keeps o o
keeps_same None = tt
keeps_same (Some xs) = refl

pub may_give : (o : Option (List ℕ)) → (bytes : List ℕ) × MayGive o bytes
may_give None = ([], tt)
may_give (Some bytes) = (bytes, refl)

-- a state endures as it is
pub endures_itself : (s : State) → Endures s s
endures_itself s = record { clean = omega arith; shield = λ shielded. shielded; faults_grow = omega arith; limit = refl; closes = λ _ is_open. inl is_open }

-- nothing was written
abbrev pub silent : Sunk → Output
silent out = record { old = out; new = out }

module _ {S : Type 0} {g : Ghosts S} where
  -- nothing was acted on or written, but on the error output
  abbrev pub idle : Registry S g → Sunk → Output → ExitStatus → Effect S g
  idle it out errors status = effect it it (record { out = silent out; errors = errors; status = status })

  -- the run stops before its first request
  pub stopped_before : (it : Registry S g) (h : History) (rs : List Request) (out : Sunk) → HasAnsweredNone it h rs → HasCleanDisk (state_of it) → IsStoppedAt it h rs (silent out)
  stopped_before it h rs out at clean = record {
    n = 0;
    within = omega arith;
    gained = (out.contents, appends_nil out.contents, prefix_of_any out.contents (lines_between h rs 0 1), inl (keeps_same out.contents));
    leaves = place_left it h rs 0 at clean;
    ends = inr at;
  }

  -- ---- the whole command

  -- a failure before the first request
  pub fails_before : (OfInput : Failure → Type 0) (it : Registry S g) (read : Result (List Request) BadLine) (a : ℕ) (out : Sunk) (errors : Output) (status : ExitStatus)
      → status ≡ Failed → PrintsFailure OfInput errors → IsApplied OfInput (idle it out errors status) read a
  fails_before OfInput it (Err bad) a out errors status failed told = record { same = refl; silent = (keeps_same out.contents, refl); told = inr (failed, told) }
  fails_before OfInput it (Ok rs) a out errors status failed told = (
    λ more. record { same = refl; silent = (keeps_same out.contents, refl); told = inr (failed, told) },
    λ within. record {
      statuses = inr failed;
      through = λ success. absurd (cc (failed, success));
      sound = λ success. absurd (cc (failed, success));
      quiet = λ success. absurd (cc (failed, success));
      kept = λ success. absurd (cc (failed, success));
      notes = λ success. absurd (cc (failed, success));
      stopped = λ _ h at clean. stopped_before it h (drop a rs) out at clean;
      told = λ _. inl (record { same = refl; silent = (keeps_same out.contents, refl); told = told });
      no_deed = λ h stands none clean. quiet_itself (state_of it);
      poisoned = λ _. (failed, refl, refl, tells_more OfInput (λ failure. (failure ≡ Poisoned) ⊎ OfInput failure) errors (λ failure is. inr is) told);
      endures = endures_itself (state_of it);
    },
  )

  module _ (OfMemory OfInput : Failure → Type 0) (more : (failure : Failure) → OfMemory failure → OfInput failure) (did : Effect S g) where
    rejected_more : (text : List ℕ) → IsRejected OfMemory did text → IsRejected OfInput did text
    rejected_more text is = record {
      same = is.same;
      silent = is.silent;
      told = elim is.told [ inl said ↦ inl said | inr failed ↦ inr (failed.0, tells_more OfMemory OfInput did.ends.errors more failed.1) ];
    }

    run_more : (rs : List Request) → IsRun OfMemory did rs → IsRun OfInput did rs
    run_more rs is = record {
      statuses = is.statuses;
      through = is.through;
      sound = is.sound;
      quiet = is.quiet;
      kept = is.kept;
      notes = is.notes;
      stopped = is.stopped;
      told = λ failed. elim (is.told failed) [
        | inl unread ↦ inl (record { same = unread.same; silent = unread.silent; told = tells_more OfMemory OfInput did.ends.errors more unread.told })
        | inr told ↦ inr told
      ];
      poisoned = λ e. let all = is.poisoned e in (
        all.0,
        all.1,
        all.2,
        tells_more (λ failure. (failure ≡ Poisoned) ⊎ OfMemory failure) (λ failure. (failure ≡ Poisoned) ⊎ OfInput failure) did.ends.errors
            (λ failure. elim [ inl e ↦ inl e | inr m ↦ inr (more failure m) ]) all.3,
      );
      no_deed = is.no_deed;
      endures = is.endures;
    }

    -- the requests were read from an input, which may fail too
    pub applied_more : (read : Result (List Request) BadLine) (a : ℕ) → IsApplied OfMemory did read a → IsApplied OfInput did read a
    applied_more (Err bad) a is = rejected_more (bad_line_text bad) is
    applied_more (Ok rs) a is = (λ more_answered. rejected_more exceeds_text (is.0 more_answered), λ within. run_more (drop a rs) (is.1 within))

  -- whatever the lines were
  pub applied_endures : (OfInput : Failure → Type 0) (did : Effect S g) (read : Result (List Request) BadLine) (a : ℕ) → IsApplied OfInput did read a → Endures (state_of did.old) (state_of did.new)
  applied_endures OfInput did (Err bad) a is = subst (λ (x : Registry S g). Endures (state_of did.old) (state_of x)) (sym is.same) (endures_itself (state_of did.old))
  applied_endures OfInput did (Ok rs) a is = elim (cases_lt (length rs) a) [
    | inl more ↦ subst (λ (x : Registry S g). Endures (state_of did.old) (state_of x)) (sym (is.0 more).same) (endures_itself (state_of did.old))
    | inr within ↦ (is.1 within).endures
  ]
