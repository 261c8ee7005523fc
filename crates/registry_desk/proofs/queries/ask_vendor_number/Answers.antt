use Rattle.std.proofs.Common.{◌≡◌, true, false}
use Rattle.std.proofs.lemmas.Result.{err_from_is_err_and}
use Rattle.registry_rules.specs.History.{History}
use Rattle.registry_rules.specs.Query.{has_vendor}
use Rattle.registry_desk.proofs.QueryLemmas.{asked_as, failed_same, told_same}
use Rattle.registry_desk.proofs.queries.ask_vendor_number.Goals as goal

pub returns-in_err-has_vendor : goal.returns-in_err-has_vendor
returns-in_err-has_vendor g c =
    let p = err_from_is_err_and c.from_residual.result c.from_residual.ensures.1 in
    rw (p.1, p.2) (failed_same (λ (h : History). has_vendor h c.args.vid) c.in_err-has_vendor.ensures.only_poisoned c.in_err-has_vendor.ensures.when_poisoned c.in_err-has_vendor.ensures.answered)

pub returns-then-branch : goal.returns-then-branch
returns-then-branch g c = asked_as c.ask_number.ensures (λ h stands response is.
    let held = c.if-branch.true in
    let known : has_vendor h c.args.vid ≡ true = cc (c.in_ok-has_vendor.ensures.answered h stands) in
    rw known is)

pub returns-else-branch : goal.returns-else-branch
returns-else-branch g c = told_same c.no_vendor.result (λ spent. let failed = c.in_ok-has_vendor.ensures.when_poisoned spent in cc failed) c.no_vendor.ensures.err (λ h stands.
    let lacking = c.if-branch.false in
    let unknown : has_vendor h c.args.vid ≡ false = cc (c.in_ok-has_vendor.ensures.answered h stands) in
    rw unknown c.no_vendor.ensures.ok)
