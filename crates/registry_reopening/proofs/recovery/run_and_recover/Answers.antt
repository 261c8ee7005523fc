use Rattle.std.proofs.Common.{◌+◌, inl, length, take}
use Rattle.registry_rules.specs.Run.{after}
use Rattle.registry_rules.proofs.RunLemmas.{legal_after}
use Rattle.registry_tables.specs.Rows.{newest}
use Rattle.registry_reopening.proofs.RecoveryLemmas.{run_leaves, run_answers, run_is_done, run_stops}
use Rattle.registry_reopening.proofs.recovery.run_and_recover.Goals as goal

pub returns-clause-left : goal.returns-clause-left
returns-clause-left g c h stands honest =
    let last = c.run_from-run.new.registry in
    let rs = c.args.requests.now in
    let run = c.run_from-run.result in
    let n = length run.replies.items in
    c.leave-files.ensures.holds (after h (take n rs)) (after h (take (n + 1) rs))
    (λ clean. run_leaves last h rs run.replies.items run.fault (c.run_from-run.ensures.run h (inl stands) clean) clean) honest

pub returns-clause-answered : goal.returns-clause-answered
returns-clause-answered g c h stands honest =
    let run = c.run_from-run.result in
    run_answers c.run_from-run.new.registry h c.args.requests.now run.replies.items run.fault (c.run_from-run.ensures.run h (inl stands) (c.leave-files.ensures.clean honest))

pub returns-clause-through : goal.returns-clause-through
returns-clause-through g c h stands honest =
    let run = c.run_from-run.result in
    run_is_done c.run_from-run.new.registry h c.args.requests.now run.replies.items run.fault (c.run_from-run.ensures.run h (inl stands) (c.leave-files.ensures.clean honest))

pub returns-clause-stopped : goal.returns-clause-stopped
returns-clause-stopped g c h stands honest =
    let run = c.run_from-run.result in
    run_stops c.run_from-run.new.registry h c.args.requests.now run.replies.items run.fault (c.run_from-run.ensures.run h (inl stands) (c.leave-files.ensures.clean honest))

pub returns-clause-recovered : goal.returns-clause-recovered
returns-clause-recovered g c h stands honest may =
    let rs = c.args.requests.now in
    let run = c.run_from-run.result in
    let n = length run.replies.items in
    let legal = stands.legal_with.legal in
    let held = c.leave-files.ensures.holds (after h (take n rs)) (after h (take (n + 1) rs))
    (λ clean. run_leaves c.run_from-run.new.registry h rs run.replies.items run.fault (c.run_from-run.ensures.run h (inl stands) clean) clean) honest in
    c.open_files-recovered.ensures.represents newest (after h (take n rs)) (after h (take (n + 1) rs)) (legal_after h (take n rs) legal) (legal_after h (take (n + 1) rs) legal) (λ _. held.crash _ may)
