use Rattle.std.proofs.Common.{◌≡◌, ◌∙◌, inl, inr, List, ℕ, [], length, sym, ap, subst, arith, refl}
use Rattle.std.specs.Prelude.{Err, None}
use Rattle.std.proofs.lemmas.Result.{err_from_is_err_and}
use Rattle.registry_store.proofs.IsQueryLemmas.{notes_then, untouched_itself}
use Rattle.registry_commands.specs.declared.messages.Failure.{Failure}
use Rattle.registry_commands.specs.declared.messages.Failure.TheVariants.{Poisoned}
use Rattle.registry_commands.specs.Failures.{IsOfOutput}
use Rattle.registry_commands.proofs.RecordedLemmas.{all_written, none_written, of_later_record, part_written, piece_cut, piece_written, untouched_then}
use Rattle.registry_commands.proofs.recording.put_requests.Goals as goal

pub loop-count-init : goal.loop-count-init
loop-count-init g c = record {
  so_far = none_written c.args.registry.now (g.W.Sink.contents c.args.output.now) c.args.after;
  kept = refl;
  poisoned = λ _. (refl, refl);
  notes = refl;
}

pub returns-in_err-count-clause-left : goal.returns-in_err-count-clause-left
returns-in_err-count-clause-left g c = untouched_then c.args.registry.now c.loop-count.registry c.put_piece.new.registry c.loop-count.invariant.so_far.left c.in_err-count.ensures.left

pub returns-in_err-count-clause-err : goal.returns-in_err-count-clause-err
returns-in_err-count-clause-err g c =
    let p = err_from_is_err_and c.from_residual.result c.from_residual.ensures.1 in
    rw p.1 (piece_cut c.args.registry.now c.loop-count.registry c.put_piece.new.registry (g.W.Sink.contents c.args.output.now) (g.W.Sink.contents c.loop-count.output) c.args.after c.loop-count.passed
    c.loop-count.invariant.so_far (g.W.Sink.contents c.put_piece.new.output) c.in_err-count.ensures.left c.in_err-count.ensures.err)

pub returns-in_err-count-clause-failure : goal.returns-in_err-count-clause-failure
returns-in_err-count-clause-failure g c =
    let p = err_from_is_err_and c.from_residual.result c.from_residual.ensures.1 in
    let why = c.in_err-count.ensures.failure in
    rw (p.1, p.2) (
      of_later_record c.args.registry.now c.loop-count.registry c.put_piece.new.registry c.loop-count.invariant.so_far.left c.loop-count.invariant.notes c.in_err-count.field-0.0 why.0,
      subst (λ (n : ℕ). IsOfOutput n (g.W.Sink.failures c.put_piece.new.output) c.in_err-count.field-0.0) c.loop-count.invariant.kept why.1,
    )

pub returns-in_err-count-clause-when_poisoned : goal.returns-in_err-count-clause-when_poisoned
returns-in_err-count-clause-when_poisoned g c is =
    let p = err_from_is_err_and c.from_residual.result c.from_residual.ensures.1 in
    let same = c.loop-count.invariant.poisoned is in
    let failed = c.in_err-count.ensures.when_poisoned (c.loop-count.invariant.so_far.left.poisons_nothing ∙ is) in
    let spent : c.in_err-count.field-0.0 ≡ Poisoned = cc failed.0 in
    (rw (p.1, p.2) (ap Err spent), failed.1 ∙ same.0, failed.2 ∙ same.1)

pub returns-then-count-eq0-clause-left : goal.returns-then-count-eq0-clause-left
returns-then-count-eq0-clause-left g c = untouched_then c.args.registry.now c.loop-count.registry c.put_piece.new.registry c.loop-count.invariant.so_far.left c.in_ok-count.ensures.left

pub returns-then-count-eq0-clause-ok : goal.returns-then-count-eq0-clause-ok
returns-then-count-eq0-clause-ok g c =
    let piece = c.in_ok-count.ensures.ok in
    let none : length piece.0 ≡ 0 = sym piece.1 ∙ c.if-count-eq0.true in
    all_written c.args.registry.now c.loop-count.registry c.put_piece.new.registry (g.W.Sink.contents c.args.output.now) (g.W.Sink.contents c.loop-count.output) (g.W.Sink.contents c.put_piece.new.output)
    c.args.after c.loop-count.passed c.loop-count.invariant.so_far piece.0 none c.in_ok-count.ensures.left piece.3 piece.2

pub returns-then-count-eq0-clause-when_poisoned : goal.returns-then-count-eq0-clause-when_poisoned
returns-then-count-eq0-clause-when_poisoned g c is =
    let failed = c.in_ok-count.ensures.when_poisoned (c.loop-count.invariant.so_far.left.poisons_nothing ∙ is) in absurd (cc failed.0)

pub returns-then-count-eq0-clause-notes : goal.returns-then-count-eq0-clause-notes
returns-then-count-eq0-clause-notes g c = notes_then c.args.registry.now c.loop-count.registry c.put_piece.new.registry None c.loop-count.invariant.notes c.in_ok-count.ensures.notes

pub returns-in-None-clause-left : goal.returns-in-None-clause-left
returns-in-None-clause-left g c = untouched_then c.args.registry.now c.loop-count.registry c.put_piece.new.registry c.loop-count.invariant.so_far.left c.in_ok-count.ensures.left

pub returns-in-None-clause-err : goal.returns-in-None-clause-err
returns-in-None-clause-err g c =
    let piece = c.in_ok-count.ensures.ok in
    let so_far = piece_written c.args.registry.now c.loop-count.registry c.put_piece.new.registry (g.W.Sink.contents c.args.output.now) (g.W.Sink.contents c.loop-count.output) c.args.after c.loop-count.passed
    c.loop-count.invariant.so_far piece.0 c.in_ok-count.ensures.left piece.3 (g.W.Sink.contents c.put_piece.new.output) _ piece.2 refl in
    part_written c.args.registry.now c.put_piece.new.registry c.put_piece.new.registry (g.W.Sink.contents c.args.output.now) (g.W.Sink.contents c.put_piece.new.output) c.args.after _ so_far (untouched_itself c.put_piece.new.registry)

pub returns-in-None-clause-failure : goal.returns-in-None-clause-failure
returns-in-None-clause-failure g c =
    (inr (notes_then c.args.registry.now c.loop-count.registry c.put_piece.new.registry None c.loop-count.invariant.notes c.in_ok-count.ensures.notes), c.in_ok-count.ensures.kept ∙ c.loop-count.invariant.kept)

pub returns-in-None-clause-when_poisoned : goal.returns-in-None-clause-when_poisoned
returns-in-None-clause-when_poisoned g c is =
    let failed = c.in_ok-count.ensures.when_poisoned (c.loop-count.invariant.so_far.left.poisons_nothing ∙ is) in absurd (cc failed.0)

pub loop-count-preserved : goal.loop-count-preserved
loop-count-preserved g c =
    let piece = c.in_ok-count.ensures.ok in
    record {
      so_far = piece_written c.args.registry.now c.loop-count.registry c.put_piece.new.registry (g.W.Sink.contents c.args.output.now) (g.W.Sink.contents c.loop-count.output) c.args.after c.loop-count.passed
          c.loop-count.invariant.so_far piece.0 c.in_ok-count.ensures.left piece.3 (g.W.Sink.contents c.put_piece.new.output) _ piece.2 (omega (arith, piece.1));
      kept = c.in_ok-count.ensures.kept ∙ c.loop-count.invariant.kept;
      poisoned = λ is. let failed = c.in_ok-count.ensures.when_poisoned (c.loop-count.invariant.so_far.left.poisons_nothing ∙ is) in absurd (cc failed.0);
      notes = notes_then c.args.registry.now c.loop-count.registry c.put_piece.new.registry None c.loop-count.invariant.notes c.in_ok-count.ensures.notes;
    }
