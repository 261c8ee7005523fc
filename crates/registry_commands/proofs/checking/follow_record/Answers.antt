use Rattle.std.proofs.Common.{◌≡◌, ◌∙◌, ℕ, length, sym, subst, arith, refl, rules}
use Rattle.std.specs.Prelude.{None}
use Rattle.std.proofs.lemmas.Result.{err_from_is_err_and}
use Rattle.registry_store.proofs.IsQueryLemmas.{notes_then, untouched_itself}
use Rattle.registry_commands.proofs.CheckLemmas.{all_come, more_come, none_come, piece_stops}
use Rattle.registry_commands.proofs.RecordedLemmas.{of_later, untouched_then}
use Rattle.registry_commands.proofs.ShownLemmas.{of_query}
use Rattle.registry_commands.proofs.checking.follow_record.Goals as goal

pub loop-piece-init : goal.loop-piece-init
loop-piece-init g c = record {
  left = untouched_itself c.args.registry.now;
  notes = refl;
  come = none_come c.args.registry.now c.args.replayed.now;
}

pub returns-in_err-piece-clause-left : goal.returns-in_err-piece-clause-left
returns-in_err-piece-clause-left g c = untouched_then c.args.registry.now c.loop-piece.registry c.accepted_after.new.self c.loop-piece.invariant.left c.in_err-piece.ensures.query.left

pub returns-in_err-piece-clause-err : goal.returns-in_err-piece-clause-err
returns-in_err-piece-clause-err g c now stands =
    let p = err_from_is_err_and c.from_residual.result c.from_residual.ensures.1 in
    rw (p.1, p.2) (of_later c.args.registry.now c.loop-piece.registry c.accepted_after.new.self c.loop-piece.invariant.left c.loop-piece.invariant.notes _ (of_query c.in_err-piece.field-0.0 c.in_err-piece.ensures.query))

pub returns-then-is_empty-clause-left : goal.returns-then-is_empty-clause-left
returns-then-is_empty-clause-left g c = untouched_then c.args.registry.now c.loop-piece.registry c.accepted_after.new.self c.loop-piece.invariant.left c.in_ok-piece.ensures.query.left

pub returns-then-is_empty-clause-notes : goal.returns-then-is_empty-clause-notes
returns-then-is_empty-clause-notes g c = notes_then c.args.registry.now c.loop-piece.registry c.accepted_after.new.self None c.loop-piece.invariant.notes c.in_ok-piece.ensures.query.notes

pub returns-then-is_empty-clause-ok : goal.returns-then-is_empty-clause-ok
returns-then-is_empty-clause-ok g c now stands =
    all_come c.args.registry.now c.loop-piece.registry c.accepted_after.new.self c.args.replayed.now c.loop-piece.replayed c.loop-piece.passed c.loop-piece.invariant.left c.loop-piece.invariant.come
    c.in_ok-piece.ensures.query.left c.in_ok-piece.piece.items c.in_ok-piece.ensures.query.answered (search rules) now stands

pub returns-in_err-follow_piece-clause-left : goal.returns-in_err-follow_piece-clause-left
returns-in_err-follow_piece-clause-left g c = untouched_then c.args.registry.now c.loop-piece.registry c.accepted_after.new.self c.loop-piece.invariant.left c.in_ok-piece.ensures.query.left

pub returns-in_err-follow_piece-clause-err : goal.returns-in_err-follow_piece-clause-err
returns-in_err-follow_piece-clause-err g c now stands =
    let p = err_from_is_err_and c.from_residual-in_err-follow_piece.result c.from_residual-in_err-follow_piece.ensures.1 in
    rw (p.1, p.2) (piece_stops c.args.registry.now c.loop-piece.registry c.accepted_after.new.self c.args.replayed.now c.loop-piece.replayed c.loop-piece.passed c.loop-piece.invariant.left c.loop-piece.invariant.come
    c.in_ok-piece.ensures.query.left c.in_ok-piece.piece.items c.in_ok-piece.ensures.query.answered
    (notes_then c.args.registry.now c.loop-piece.registry c.accepted_after.new.self None c.loop-piece.invariant.notes c.in_ok-piece.ensures.query.notes) now stands
    c.in_err-follow_piece.field-0.0 (λ x at. rw (← c.as_slice.ensures.value) (c.in_err-follow_piece.ensures x at)))

pub returns-in-None-clause-left : goal.returns-in-None-clause-left
returns-in-None-clause-left g c = untouched_then c.args.registry.now c.loop-piece.registry c.accepted_after.new.self c.loop-piece.invariant.left c.in_ok-piece.ensures.query.left

pub returns-in-None-clause-err : goal.returns-in-None-clause-err
returns-in-None-clause-err g c now stands = notes_then c.args.registry.now c.loop-piece.registry c.accepted_after.new.self None c.loop-piece.invariant.notes c.in_ok-piece.ensures.query.notes

pub loop-piece-preserved : goal.loop-piece-preserved
loop-piece-preserved g c = record {
  left = untouched_then c.args.registry.now c.loop-piece.registry c.accepted_after.new.self c.loop-piece.invariant.left c.in_ok-piece.ensures.query.left;
  notes = notes_then c.args.registry.now c.loop-piece.registry c.accepted_after.new.self None c.loop-piece.invariant.notes c.in_ok-piece.ensures.query.notes;
  come = more_come c.args.registry.now c.loop-piece.registry c.accepted_after.new.self c.args.replayed.now c.loop-piece.replayed c.loop-piece.passed c.loop-piece.invariant.left c.loop-piece.invariant.come
      c.in_ok-piece.ensures.query.left c.in_ok-piece.piece.items c.in_ok-piece.ensures.query.answered c.follow_piece.new.replayed _ (search rules)
      (λ x at. rw (← c.as_slice.ensures.value) (c.in_ok-follow_piece.ensures x at));
}
