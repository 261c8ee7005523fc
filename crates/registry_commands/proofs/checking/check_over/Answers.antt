use Rattle.std.proofs.Common.{◌≡◌, ◌∙◌, sym, subst, ap, refl}
use Rattle.std.specs.Prelude.{None}
use Rattle.std.proofs.lemmas.Result.{err_from_is_err_and}
use Rattle.registry_rules.specs.Accepted.{AreValid}
use Rattle.registry_store.proofs.IsQueryLemmas.{notes_then}
use Rattle.registry_commands.proofs.CheckLemmas.{stops_later}
use Rattle.registry_commands.proofs.RecordedLemmas.{clean_before, untouched_then}
use Rattle.registry_commands.proofs.checking.check_over.Goals as goal

pub returns-in_err-requests-clause-over : goal.returns-in_err-requests-clause-over
returns-in_err-requests-clause-over g c now stands =
    let p = err_from_is_err_and c.from_residual.result c.from_residual.ensures.1 in
    rw (p.1, p.2) (c.in_err-requests.ensures.err now stands)

pub returns-clause-left : goal.returns-clause-left
returns-clause-left g c = untouched_then c.args.registry.now c.follow_record.new.registry c.compare_rows.new.registry c.in_ok-requests.ensures.left c.in_ok-held.ensures.left

pub returns-clause-notes : goal.returns-clause-notes
returns-clause-notes g c = notes_then c.args.registry.now c.follow_record.new.registry c.compare_rows.new.registry None c.in_ok-requests.ensures.notes c.in_ok-held.ensures.notes

pub returns-clause-over : goal.returns-clause-over
returns-clause-over g c now stands h at clean way =
    let end = c.in_ok-requests.ensures.ok now stands in
    let early = clean_before c.follow_record.new.registry c.compare_rows.new.registry c.in_ok-held.ensures.left clean in
    record {
      requests = (end.2 h at early way.0 way.1).1;
      held = c.in_ok-held.ensures.ok h (c.in_ok-requests.ensures.left.stays h at) clean;
    }

pub returns-in_err-held-clause-left : goal.returns-in_err-held-clause-left
returns-in_err-held-clause-left g c = untouched_then c.args.registry.now c.follow_record.new.registry c.compare_rows.new.registry c.in_ok-requests.ensures.left c.in_err-held.ensures.left

pub returns-in_err-held-clause-over : goal.returns-in_err-held-clause-over
returns-in_err-held-clause-over g c now stands =
    let p = err_from_is_err_and c.from_residual-in_err-held.result c.from_residual-in_err-held.ensures.1 in
    let end = c.in_ok-requests.ensures.ok now stands in
    rw (p.1, p.2) (stops_later c.args.registry.now c.follow_record.new.registry c.compare_rows.new.registry (λ h. (end.0 ≡ h) × AreValid h.deeds) _ c.in_ok-requests.ensures.left c.in_ok-requests.ensures.notes c.in_err-held.ensures.left
    (λ h at clean way. ((end.2 h at clean way.0 way.1).0, way.0)) c.in_err-held.field-0.0 (c.in_err-held.ensures.err end.0 end.1))
