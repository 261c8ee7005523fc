use Rattle.std.proofs.Common.{◌+◌, inl, length, take, arith}
use Rattle.std.proofs.Math.Logic.{∥∥₁_map}
use Rattle.std.proofs.lemmas.Result.{err_from_is_err_and}
use Rattle.registry_rules.specs.Run.{after}
use Rattle.registry_rules.proofs.RunLemmas.{legal_after}
use Rattle.registry_reopening.proofs.RecoveryLemmas.{run_leaves, run_answers, run_is_done}
use Rattle.registry_reopening.proofs.chaining.run_and_crash.Goals as goal

pub returns-clause-clean : goal.returns-clause-clean
returns-clause-clean g c clean = omega (arith, c.in_ok-registry.ensures.clean clean, c.run_from-run.ensures.endures.clean)

pub returns-clause-sound : goal.returns-clause-sound
returns-clause-sound g c not_poisoned told = let was = c.run_from-run.ensures.only_poisoned told in absurd cc

pub returns-clause-left : goal.returns-clause-left
returns-clause-left g c h stands clean =
    let last = c.run_from-run.new.registry in
    let rs = c.args.requests.now in
    let run = c.run_from-run.result in
    let n = length run.replies.items in
    let legal = stands.legal_with.legal in
    let ends = c.run_from-run.ensures.run h (inl stands) (c.in_ok-registry.ensures.clean clean) in
    ∥∥₁_map (c.in_ok-registry.ensures.represents (after h (take n rs)) (after h (take (n + 1) rs)) (legal_after h (take n rs) legal) (legal_after h (take (n + 1) rs) legal)
    (λ was. run_leaves last h rs run.replies.items run.fault ends was) clean)
    (λ it. (it.0, record { front = run_answers last h rs run.replies.items run.fault ends; all = run_is_done last h rs run.replies.items run.fault ends; next = it.1 }, it.2))

pub returns-in_err-registry-clause-holds : goal.returns-in_err-registry-clause-holds
returns-in_err-registry-clause-holds g c =
    let p = err_from_is_err_and c.from_residual.result c.from_residual.ensures.1 in
    let last = c.run_from-run.new.registry in
    let rs = c.args.requests.now in
    let run = c.run_from-run.result in
    let n = length run.replies.items in
    rw (p.1, p.2) (λ h stands.
    let legal = stands.legal_with.legal in (
      n,
      c.in_err-registry.ensures.holds (after h (take n rs)) (after h (take (n + 1) rs)) (legal_after h (take n rs) legal) (legal_after h (take (n + 1) rs) legal)
          (λ was. run_leaves last h rs run.replies.items run.fault (c.run_from-run.ensures.run h (inl stands) was) was),
    ))
