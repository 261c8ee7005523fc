use denote.Enum.Bare.{differs_false}
use Rattle.std.proofs.Common.{◌≡◌, ◌≢◌, true, inl, inr, subst, sym, ◌∙◌, rules}
use Rattle.std.proofs.lemmas.Bool.{and_parts}
use Rattle.std.proofs.lemmas.Result.{IfOk-weaker}
use Rattle.sqlite.specs.State.{HasCleanDisk}
use Rattle.sqlite.specs.Files.{file_state}
use Rattle.registry_tables.specs.Rows.{newest}
use Rattle.registry_store.specs.Promise.{Leaves, connection_of}
use Rattle.registry_store.specs.Files.{AreClosed, IsEither, IsUncopied}
use Rattle.registry_store.proofs.CrashLemmas.{closed_clean, in_newest}
use Rattle.registry_commands.specs.declared.status.ExitStatus.{ExitStatus}
use Rattle.registry_commands.specs.contracts.status.ExitStatus.{the_type}
use Rattle.registry_commands.specs.Ends.{ends_of, output_of}
use Rattle.registry_commands.specs.Failures.{IsOfInput}
use Rattle.registry_commands.specs.Lines.{requests_in}
use Rattle.registry_reopening.specs.Applied.{EndsClosing}
use Rattle.registry_reopening.specs.Opening.{StillHolds}
use Rattle.registry_reopening.proofs.ClosingLemmas.{closing_ends}
use Rattle.registry_reopening.proofs.AppliedLemmas.{if_reopened}
use Rattle.registry_reopening.proofs.applying.apply_and_open.Goals as goal

pub returns : goal.returns
returns g c =
    let run = c.apply_lines-status in
    let bytes = run.ensures.0 in
    let OfInput = IsOfInput (g.R.Source.failures c.args.source.now) (g.R.Source.failures run.new.source) bytes in
    let ends = ends_of g.W.Sink g.E.Sink c.args.output.now run.new.output c.args.errors.now run.new.errors run.result in
    let close = c.close_store-closed in
    let same : close.result.0 ≡ run.result = differs_false the_type (search rules) _ _ (sym c.if-ne.ensures) in (
      bytes,
      run.ensures.1,
      run.result,
      run.new.errors,
      record { last = run.new.registry; applied = run.ensures.2; long = run.ensures.3; tells = run.ensures.4 },
      subst (λ (status : ExitStatus). EndsClosing g.E.Sink run.result run.new.errors close.new.errors status) same (closing_ends g.E.Sink (IsUncopied c.into_connection.result close.result.1) run.new.errors close.new.errors run.result close.result.0 close.ensures.kept close.ensures.well),
      if_reopened OfInput c.args.first run.new.registry (requests_in bytes) c.args.answered ends (output_of g.E.Sink c.args.errors.now close.new.errors) run.ensures.2
          (StillHolds g.D.Disk newest) c.open_files.result
          (λ h next legal legal_next leaves.
          let before = subst (λ x. HasCleanDisk (file_state x) → Leaves newest (file_state x) (IsEither h next)) (sym c.into_connection.ensures) leaves in
          c.open_files.ensures.represents newest h next legal legal_next (λ honest. (close.ensures.holds same newest h next (in_newest (file_state c.into_connection.result) (IsEither h next) before) honest).now))
          (IfOk-weaker c.open_files.result _ _ (λ x honest clean. subst (λ y. HasCleanDisk (file_state y)) c.into_connection.ensures (closed_clean c.into_connection.result close.result.1 close.ensures.closed (honest clean)))
          c.open_files.ensures.honest)
          c.open_files.ensures.is_new
          (λ h next legal legal_next leaves.
          let before = subst (λ x. HasCleanDisk (file_state x) → Leaves newest (file_state x) (IsEither h next)) (sym c.into_connection.ensures) leaves in
          c.open_files.ensures.holds newest h next legal legal_next (λ honest. (close.ensures.holds same newest h next (in_newest (file_state c.into_connection.result) (IsEither h next) before) honest).now)),
    )

pub returns-then-ne : goal.returns-then-ne
returns-then-ne g c =
    let run = c.apply_lines-status in
    let close = c.close_store-closed in
    let last = connection_of run.new.registry in
    let closed = subst (λ x. AreClosed x close.result.1) c.into_connection.ensures close.ensures.closed in (
      run.ensures.0,
      run.ensures.1,
      run.result,
      run.new.errors,
      record { last = run.new.registry; applied = run.ensures.2; long = run.ensures.3; tells = run.ensures.4 },
      closing_ends g.E.Sink (IsUncopied c.into_connection.result close.result.1) run.new.errors close.new.errors run.result close.result.0 close.ensures.kept close.ensures.well,
      λ h next legal legal_next leaves. inr (last, in_newest (file_state last) (IsEither h next) leaves, closed),
    )

pub returns-then-not-may_be_used : goal.returns-then-not-may_be_used
returns-then-not-may_be_used g c =
    let run = c.apply_lines-status in
    let close = c.close_store-closed in
    let same : close.result.0 ≡ run.result = differs_false the_type (search rules) _ _ (sym c.if-ne.ensures) in (
      run.ensures.0,
      run.ensures.1,
      run.result,
      run.new.errors,
      record { last = run.new.registry; applied = run.ensures.2; long = run.ensures.3; tells = run.ensures.4 },
      subst (λ (status : ExitStatus). EndsClosing g.E.Sink run.result run.new.errors close.new.errors status) same (closing_ends g.E.Sink (IsUncopied c.into_connection.result close.result.1) run.new.errors close.new.errors run.result close.result.0 close.ensures.kept close.ensures.well),
      λ h next legal legal_next leaves.
          let before = subst (λ x. HasCleanDisk (file_state x) → Leaves newest (file_state x) (IsEither h next)) (sym c.into_connection.ensures) leaves in
          close.ensures.holds same newest h next (in_newest (file_state c.into_connection.result) (IsEither h next) before),
    )

pub open_files-requires : goal.open_files-requires
open_files-requires g c =
    let used : c.may_be_used.result ≡ true = search rules in
    and_parts (g.D.Disk.is_usable c.close_store-closed.result.1.log) (g.D.Disk.is_usable c.close_store-closed.result.1.db) (sym c.may_be_used.ensures ∙ used)
