use Rattle.std.proofs.Common.{◌≡◌, ◌∙◌, ◌++◌, ◌∷◌, [], List, ℕ, ap, subst, sym, refl}
use Rattle.std.specs.Prelude.{None}
use Rattle.std.proofs.lemmas.Result.{err_from_is_err_and}
use Rattle.byte_streams.proofs.StreamLemmas.{appends_prefix_more, appends_prefix_then, appends_then}
use Rattle.registry_store.proofs.IsQueryLemmas.{notes_then}
use Rattle.registry_wire.specs.Record.{founding_line}
use Rattle.registry_commands.specs.Failures.{IsOfOutput}
use Rattle.registry_commands.proofs.RecordedLemmas.{clean_before, of_later_record, untouched_then}
use Rattle.registry_commands.proofs.recording.put_record.Goals as goal

pub returns-in-Some-clause-ok : goal.returns-in-Some-clause-ok
returns-in-Some-clause-ok g c = rw c.in-Some.is c.put_requests.ensures.ok

pub returns-in-Some-clause-err : goal.returns-in-Some-clause-err
returns-in-Some-clause-err g c = rw c.in-Some.is c.put_requests.ensures.err

pub returns-in_ok-put_requests-in-None-clause-left : goal.returns-in_ok-put_requests-in-None-clause-left
returns-in_ok-put_requests-in-None-clause-left g c = untouched_then c.args.registry.now c.put_founding.new.registry c.put_requests-in-None.new.registry c.in_ok-put_founding-in-None.ensures.left c.in_ok-put_requests-in-None.ensures.left

pub returns-in_ok-put_requests-in-None-clause-ok : goal.returns-in_ok-put_requests-in-None-clause-ok
returns-in_ok-put_requests-in-None-clause-ok g c = rw c.in-None.is (λ h stands clean valid.
    let early = clean_before c.put_founding.new.registry c.put_requests-in-None.new.registry c.in_ok-put_requests-in-None.ensures.left clean in
    appends_then _ _ _ _ _ (c.in_ok-put_founding-in-None.ensures.ok h stands early) (c.in_ok-put_requests-in-None.ensures.ok h (c.in_ok-put_founding-in-None.ensures.left.stays h stands) clean valid))

pub returns-in_ok-put_requests-in-None-clause-when_poisoned : goal.returns-in_ok-put_requests-in-None-clause-when_poisoned
returns-in_ok-put_requests-in-None-clause-when_poisoned g c is = let failed = c.in_ok-put_founding-in-None.ensures.when_poisoned is in absurd (cc failed.0)

pub returns-in_ok-put_requests-in-None-clause-notes : goal.returns-in_ok-put_requests-in-None-clause-notes
returns-in_ok-put_requests-in-None-clause-notes g c =
    notes_then c.args.registry.now c.put_founding.new.registry c.put_requests-in-None.new.registry None c.in_ok-put_founding-in-None.ensures.notes c.in_ok-put_requests-in-None.ensures.notes

pub returns-in_err-put_requests-in-None-clause-left : goal.returns-in_err-put_requests-in-None-clause-left
returns-in_err-put_requests-in-None-clause-left g c = untouched_then c.args.registry.now c.put_founding.new.registry c.put_requests-in-None.new.registry c.in_ok-put_founding-in-None.ensures.left c.in_err-put_requests-in-None.ensures.left

pub returns-in_err-put_requests-in-None-clause-err : goal.returns-in_err-put_requests-in-None-clause-err
returns-in_err-put_requests-in-None-clause-err g c =
    let p = err_from_is_err_and c.from_residual-in_err-put_requests-in-None.result c.from_residual-in_err-put_requests-in-None.ensures.1 in
    rw (p.1, c.in-None.is) (λ h stands clean valid.
    let early = clean_before c.put_founding.new.registry c.put_requests-in-None.new.registry c.in_err-put_requests-in-None.ensures.left clean in
    appends_prefix_then _ _ _ _ _ (c.in_ok-put_founding-in-None.ensures.ok h stands early) (c.in_err-put_requests-in-None.ensures.err h (c.in_ok-put_founding-in-None.ensures.left.stays h stands) clean valid))

pub returns-in_err-put_requests-in-None-clause-failure : goal.returns-in_err-put_requests-in-None-clause-failure
returns-in_err-put_requests-in-None-clause-failure g c =
    let p = err_from_is_err_and c.from_residual-in_err-put_requests-in-None.result c.from_residual-in_err-put_requests-in-None.ensures.1 in
    let why = c.in_err-put_requests-in-None.ensures.failure in
    rw (p.1, p.2) (
      of_later_record c.args.registry.now c.put_founding.new.registry c.put_requests-in-None.new.registry c.in_ok-put_founding-in-None.ensures.left c.in_ok-put_founding-in-None.ensures.notes c.in_err-put_requests-in-None.field-0.0 why.0,
      subst (λ (n : ℕ). IsOfOutput n (g.W.Sink.failures c.put_requests-in-None.new.output) c.in_err-put_requests-in-None.field-0.0) c.in_ok-put_founding-in-None.ensures.kept why.1,
    )

pub returns-in_err-put_requests-in-None-clause-when_poisoned : goal.returns-in_err-put_requests-in-None-clause-when_poisoned
returns-in_err-put_requests-in-None-clause-when_poisoned g c is = let failed = c.in_ok-put_founding-in-None.ensures.when_poisoned is in absurd (cc failed.0)

pub returns-in_err-put_founding-in-None-clause-err : goal.returns-in_err-put_founding-in-None-clause-err
returns-in_err-put_founding-in-None-clause-err g c =
    let p = err_from_is_err_and c.from_residual.result c.from_residual.ensures.1 in
    rw (p.1, c.in-None.is) (λ h stands clean valid. appends_prefix_more _ _ _ _ (c.in_err-put_founding-in-None.ensures.err h stands clean))
