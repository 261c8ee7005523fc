-- What a registry leaves after a command, by the history that it represented.
use Rattle.std.proofs.Common.{◌≡◌, ◌⊎◌, inl, inr, ℕ, ◌+◌, ◌≤◌, ◌<◌, List, length, take, drop, Option, Some, None, refl, sym, ap, subst, ◌∙◌, arith}
use Rattle.std.specs.Prelude.{◌≢◌, Result, Ok, Err}
use Rattle.std.proofs.lemmas.List.{take_all}
use Rattle.std.specs.Io.KnownBytes.{Appends, Keeps}
use Rattle.sqlite.specs.State.{HasCleanDisk}
use Rattle.sqlite.specs.Store.{Ghosts}
use Rattle.usbids_text.specs.Entries.{TopEntry}
use Rattle.usbids_text.specs.Reading.{ReadsAs}
use Rattle.usbids_text.specs.declared.fault.ReadFault.{ReadFault}
use Rattle.registry_rules.specs.declared.order.Request.{Request}
use Rattle.registry_rules.specs.declared.verdict.Reply.{Reply}
use Rattle.registry_rules.specs.History.{History}
use Rattle.registry_rules.specs.Run.{after, after_one}
use Rattle.registry_tables.specs.Rows.{newest}
use Rattle.registry_store.specs.declared.fault.Fault.{Fault}
use Rattle.registry_store.specs.declared.registry.Registry.{Registry}
use Rattle.registry_store.specs.Promise.{Endures, Leaves, Represents, state_of}
use Rattle.registry_store.specs.Files.{IsEither}
use Rattle.registry_store.specs.Run.{HasAnsweredNone, IsAfterOrNext}
use Rattle.registry_store.proofs.RunLemmas.{leaves_weaker}
use Rattle.registry_store.proofs.RunToLemmas.{between_all}
use Rattle.registry_commands.specs.declared.importing.Import.{Import}
use Rattle.registry_commands.specs.declared.lines.BadLine.{BadLine}
use Rattle.registry_commands.specs.declared.messages.Failure.{Failure}
use Rattle.registry_commands.specs.Apply.{IsApplied, IsRun, lines_between}
use Rattle.registry_commands.specs.declared.status.ExitStatus.{ExitStatus}
use Rattle.registry_commands.specs.declared.status.ExitStatus.TheVariants.{Success, Failed, Rejected}
use Rattle.registry_commands.specs.Ends.{Effect, Receives, Output}
use Rattle.registry_commands.specs.Imports.{IsImportOf, IsImported, exit_status_of}
use Rattle.registry_commands.specs.Messages.{reply_line, reply_lines}
use Rattle.registry_commands.proofs.ApplyLemmas.{keeps_same, prefix_of_any, endures_itself}
use Rattle.registry_desk.specs.Server.{EndsServing, Visit}
use Rattle.registry_desk.proofs.ServerLemmas.{in_part}
use Rattle.registry_program.specs.Whole.{AreLeftAfter, IsAfterImport, IsAfterLines, Stays}

pub success_or : (status : ExitStatus) → (status ≡ Success) ⊎ (status ≢ Success)
success_or Success = inl refl
success_or Failed = inr (λ e. absurd cc)
success_or Rejected = inr (λ e. absurd cc)

pub same_of_either : (h x : History) → IsEither h h x → x ≡ h
same_of_either h x is = elim is [ inl e ↦ e | inr e ↦ e ]

-- ---- what a registry leaves

module _ {S : Type 0} {g : Ghosts S} where
  -- what a registry leaves after this
  abbrev pub LeavesSome : Registry S g → (History → History → Type 0) → Type 0
  LeavesSome it After = (x : History) × (y : History) × After x y × Leaves newest (state_of it) (IsEither x y)

  pub leaves_itself : (it : Registry S g) (h : History) → Represents it h → HasCleanDisk (state_of it) → Leaves newest (state_of it) (IsEither h h)
  leaves_itself it h stands clean = leaves_weaker newest (state_of it) (λ x. x ≡ h) (IsEither h h) (λ x e. inl e) (stands.at.left clean)

  pub stayed : (it new : Registry S g) (h : History) → new ≡ it → Represents it h → HasCleanDisk (state_of new) → LeavesSome new (Stays h)
  stayed it new h same stands clean = (h, h, (refl, refl), leaves_itself new h (subst (λ (x : Registry S g). Represents x h) (sym same) stands) clean)

  -- ---- request lines

  run_leaves : (OfInput : Failure → Type 0) (did : Effect S g) (rs : List Request)
      → IsRun OfInput did rs → (h : History) → HasAnsweredNone did.old h rs → HasCleanDisk (state_of did.new) → LeavesSome did.new (IsAfterLines h rs did.ends.out did.ends.status)
  run_leaves OfInput did rs run h at clean = elim run.statuses [
    | inl success ↦
        let through = run.through success h at clean in
        let out = did.ends.out in
        let n = length rs in
        let all : after h rs ≡ after h (take n rs) = ap (after h) (sym (take_all n rs (omega arith))) in (
          after h (take n rs),
          after h (take (n + 1) rs),
          record {
            n = n;
            within = omega arith;
            whole = λ _. refl;
            middle = out.new.contents;
            gained = subst (λ (text : List ℕ). Appends out.old.contents out.new.contents text) (sym (ap reply_lines (between_all h rs 0 n refl))) through.gained.0;
            begun = prefix_of_any out.new.contents (lines_between h rs n (n + 1));
            next = refl;
            last = inl (refl, keeps_same out.new.contents);
          },
          leaves_weaker newest (state_of did.new) (λ x. x ≡ after h rs) (IsAfterOrNext h rs n) (λ x e. inl (e ∙ all)) (through.represents.at.left clean),
        )
    | inr failed ↦
        let stopped = run.stopped failed h at clean in
        let n = stopped.n in
        let gained = stopped.gained in
        let next = after h (take (n + 1) rs) in
        let so_far : (x : History) → ((x ≡ after h (take n rs)) × Keeps gained.0 did.ends.out.new.contents) ⊎ (x ≡ next) → IsAfterLines h rs did.ends.out did.ends.status x next = λ x last. record {
          n = n;
          within = stopped.within;
          whole = λ success. absurd (cc (failed, success));
          middle = gained.0;
          gained = gained.1;
          begun = gained.2;
          next = refl;
          last = last;
        } in
        elim gained.3 [
          | inl kept ↦ (after h (take n rs), next, so_far (after h (take n rs)) (inl (refl, kept)), stopped.leaves)
          | inr stands ↦ (next, next, so_far next (inr refl), leaves_itself did.new next stands clean)
        ]
  ]

  pub applied : (OfInput : Failure → Type 0) (did : Effect S g) (read : Result (List Request) BadLine) (a : ℕ) → IsApplied OfInput did read a
      → (h : History) (rs : List Request) → read ≡ Ok rs → a ≤ length rs → HasAnsweredNone did.old h (drop a rs) → HasCleanDisk (state_of did.new)
      → LeavesSome did.new (IsAfterLines h (drop a rs) did.ends.out did.ends.status)
  applied OfInput did (Err bad) a is h rs parsed within at clean = absurd (cc parsed)
  applied OfInput did (Ok read) a is h rs parsed within at clean =
      let same : read ≡ rs = cc parsed in
      let run = subst (λ (x : List Request). IsApplied OfInput did (Ok x) a) same is in
      run_leaves OfInput did (drop a rs) (run.1 within) h at clean

  pub unacted : (OfInput : Failure → Type 0) (did : Effect S g) (read : Result (List Request) BadLine) (a : ℕ) → IsApplied OfInput did read a
      → ((rs : List Request) → read ≡ Ok rs → length rs < a) → did.new ≡ did.old
  unacted OfInput did (Err bad) a is none = is.same
  unacted OfInput did (Ok rs) a is none = (is.0 (none rs refl)).same

  -- ---- lists

  abbrev pub LeavesImport : Registry S g → List ℕ → Import → Output → ExitStatus → History → Type 0
  LeavesImport new bytes import out status h = LeavesSome new (λ x y. Stays h x y ⊎ IsAfterImport bytes import out status h x y)

  not_made : (did : Effect S g) (bytes : List ℕ) (import : Import) (h : History) → did.new ≡ did.old → Represents did.old h → HasCleanDisk (state_of did.new)
      → LeavesImport did.new bytes import did.ends.out did.ends.status h
  not_made did bytes import h same stands clean = let s = stayed did.old did.new h same stands clean in (s.0, s.1, inl s.2, s.3)

  imported_as : (did : Effect S g) (import : Import) (bytes : List ℕ) (read : Result (List TopEntry) ReadFault) → ReadsAs bytes read → IsImportOf did import read
      → (h : History) → Represents did.old h → HasCleanDisk (state_of did.new) → LeavesImport did.new bytes import did.ends.out did.ends.status h
  imported_as did import bytes (Ok doc) answers is h stands clean = elim is [
    | inl acted ↦ let r = acted.0 in elim acted.2.ends [
      | inl gives ↦ let both = gives.answered h (inl stands) clean in (
        after_one h r,
        after_one h r,
        inr (record {
          doc = doc;
          answers = answers;
          r = r;
          r_is = acted.1 h stands;
          y_is = refl;
          replied = λ _. (refl, gives.status_is ∙ ap exit_status_of both.0, subst (λ (reply : Reply). Receives did.ends.out (reply_line reply)) both.0 gives.gained);
          last = inr refl;
        }),
        leaves_itself did.new (after_one h r) both.1 clean,
      )
      | inr failed ↦
          let so_far : (x : History) → ((x ≡ h) × Keeps did.ends.out.old.contents did.ends.out.new.contents) ⊎ (x ≡ after_one h r)
          → IsAfterImport bytes import did.ends.out did.ends.status h x (after_one h r) = λ x last. record {
            doc = doc;
            answers = answers;
            r = r;
            r_is = acted.1 h stands;
            y_is = refl;
            replied = λ other. absurd (other failed.status_is);
            last = last;
          } in
          let cut = failed.cut h (inl stands) clean in
          elim cut.ends [
            | inl kept ↦ (h, after_one h r, inr (so_far h (inl (refl, kept.1))), cut.leaves)
            | inr acted_on ↦ (after_one h r, after_one h r, inr (so_far (after_one h r) (inr refl)), leaves_itself did.new (after_one h r) acted_on clean)
          ]
    ]
    | inr none ↦ not_made did bytes import h none.0 stands clean
  ]
  imported_as did import bytes (Err fault) answers is h stands clean = not_made did bytes import h is.0 stands clean

  pub imported : (OfInput : Failure → Type 0) (did : Effect S g) (import : Import) (bytes : List ℕ) → IsImported OfInput did import bytes
      → (h : History) → Represents did.old h → HasCleanDisk (state_of did.new) → LeavesImport did.new bytes import did.ends.out did.ends.status h
  imported OfInput did import bytes is h stands clean = elim is [
    | inl read ↦ imported_as did import bytes read.0 read.2 read.3 h stands clean
    | inr none ↦ not_made did bytes import h none.0 stands clean
  ]

  same_endures : (it new : Registry S g) → new ≡ it → Endures (state_of it) (state_of new)
  same_endures it new same = subst (λ (x : Registry S g). Endures (state_of it) (state_of x)) (sym same) (endures_itself (state_of it))

  import_endures_as : (did : Effect S g) (import : Import) (read : Result (List TopEntry) ReadFault) → IsImportOf did import read → Endures (state_of did.old) (state_of did.new)
  import_endures_as did import (Ok doc) is = elim is [ inl acted ↦ acted.2.endures | inr none ↦ same_endures did.old did.new none.0 ]
  import_endures_as did import (Err fault) is = same_endures did.old did.new is.0

  pub import_endures : (OfInput : Failure → Type 0) (did : Effect S g) (import : Import) (bytes : List ℕ) → IsImported OfInput did import bytes → Endures (state_of did.old) (state_of did.new)
  import_endures OfInput did import bytes is = elim is [
    | inl read ↦ import_endures_as did import read.0 read.3
    | inr none ↦ same_endures did.old did.new none.0
  ]

  -- ---- connections

  pub served : (it : Registry S g) (h : History) (visits : List Visit) (fault : Option Fault) → EndsServing it h visits fault → HasCleanDisk (state_of it) → LeavesSome it (AreLeftAfter visits h)
  served it h visits None ends clean = (ends.0, ends.0, (inl ends.1, inl ends.1), leaves_itself it ends.0 ends.2 clean)
  served it h visits (Some fault) ends clean = (
    ends.middle,
    ends.halted.next,
    (inr (in_part it h visits fault ends ends.middle (inl refl)), inr (in_part it h visits fault ends ends.halted.next (inr refl))),
    ends.halted.left.leaves,
  )
