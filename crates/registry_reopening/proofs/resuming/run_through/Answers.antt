use Rattle.std.proofs.Common.{◌≡◌, inl, ◌∙◌, refl, sym, subst, rules, arith, length, ◌+◌, ◌++◌, take, []}
use Rattle.std.specs.Prelude.{Some}
use Rattle.std.proofs.Math.Logic.{∥∥₁_map, ∥∥₁_elim}
use Rattle.sqlite.specs.State.{HasCleanDisk}
use Rattle.registry_rules.specs.Run.{after, replies_to}
use Rattle.registry_store.specs.Promise.{connection_of, state_of}
use Rattle.registry_store.specs.Run.{HasAnswered}
use Rattle.registry_rules.proofs.RunLemmas.{legal_after}
use Rattle.registry_reopening.proofs.RunThroughLemmas.{EndsNext, always_clean, ended, ends_next, goes_on, leaves_so_far, so_far}
use Rattle.registry_reopening.proofs.resuming.run_through.Goals as goal

pub returns-in-None-clause-ended : goal.returns-in-None-clause-ended
returns-in-None-clause-ended g c h stands clean =
    let old = c.stops.replies.items in
    let more = c.run_from-more.result.replies.items in
    let rs = c.args.requests.now in
    let last = c.run_from-more.new.registry in
    let early : HasCleanDisk (state_of c.stops.registry) = omega (arith, c.run_from-more.ensures.endures.clean) in
    let pushed : c.append.new.self.items ≡ old ++ more = search rules in
    let count : c.len-in-stops.result ≡ length old = search rules in
    ∥∥₁_map (c.stops.invariant.at h stands early) (λ inv.
    let end = ends_next h rs old more c.stops.registry last c.len-in-stops.result c.run_from-more.result.fault count inv.0 (λ x at. c.run_from-more.ensures.run x at clean) in
    let done = ended h rs old more inv.1 last (rw c.in-None.is at end) in
    (pushed ∙ done.0, done.1))

pub returns-in-None-clause-clean : goal.returns-in-None-clause-clean
returns-in-None-clause-clean g c clean = c.stops.invariant.clean (omega (arith, c.run_from-more.ensures.endures.clean, clean))

pub stops-init : goal.stops-init
stops-init g c =
    let none : c.new-replies.result.items ≡ [] = search rules in
    record { clean = λ clean. clean; at = λ h stands clean. rw none (∣ (inl stands, refl) ∣₁) }

pub stops-preserved : goal.stops-preserved
stops-preserved g c = record {
  clean = λ clean. c.stops.invariant.clean (omega (arith, c.in-Ok.ensures.clean clean, c.run_from-more.ensures.endures.clean));
  at = λ h stands clean.
      let old = c.stops.replies.items in
      let more = c.run_from-more.result.replies.items in
      let rs = c.args.requests.now in
      let last = c.run_from-more.new.registry in
      let mid : HasCleanDisk (state_of last) = c.in-Ok.ensures.clean clean in
      let early : HasCleanDisk (state_of c.stops.registry) = omega (arith, mid, c.run_from-more.ensures.endures.clean) in
      let pushed : c.append.new.self.items ≡ old ++ more = search rules in
      let count : c.len-in-stops.result ≡ length old = search rules in
      let now = c.in-Ok.registry in
      let legal = stands.legal_with.legal in
      ∥∥₁_elim (c.stops.invariant.at h stands early) squash₁ (λ inv.
      let end = ends_next h rs old more c.stops.registry last c.len-in-stops.result c.run_from-more.result.fault count inv.0 (λ x at. c.run_from-more.ensures.run x at mid) in
      let stopped : EndsNext h rs old more last (Some c.in-Some.field-0) = rw c.in-Some.is at end in
      let place = length old + length more in
      ∥∥₁_map (c.in-Ok.ensures.represents (after h (take place rs)) (after h (take (place + 1) rs)) (legal_after h (take place rs) legal) (legal_after h (take (place + 1) rs) legal) (λ _. leaves_so_far h rs old more inv.1 last _ stopped) clean)
      (λ it. subst (λ y. HasAnswered now h rs (length y) × (y ≡ take (length y) (replies_to h rs))) (sym pushed)
      (goes_on h rs old more inv.1 last _ stopped now it.0 it.1 it.2)));
}

-- ---- if the run does not come to the end

pub returns-then-len-requests-clause-unfinished : goal.returns-then-len-requests-clause-unfinished
returns-then-len-requests-clause-unfinished g c h stands word =
    ∥∥₁_map (c.stops.invariant.at h stands (always_clean word (connection_of c.stops.registry).store)) (λ inv. inv.1)

pub returns-then-is_err-clause-unfinished : goal.returns-then-is_err-clause-unfinished
returns-then-is_err-clause-unfinished g c h stands word =
    let same : c.append.new.self.items ≡ c.stops.replies.items = search rules in
    subst (λ xs. ∥ (xs ≡ take (length xs) (replies_to h c.args.requests.now)) ∥₁) (sym same)
    (∥∥₁_map (c.stops.invariant.at h stands (always_clean word (connection_of c.stops.registry).store)) (λ inv. inv.1))

pub returns-clause-unfinished : goal.returns-clause-unfinished
returns-clause-unfinished g c h stands word =
    ∥∥₁_map (c.stops.invariant.at h stands (always_clean word (connection_of c.stops.registry).store)) (λ inv. inv.1)

pub returns-in-Err-clause-unfinished : goal.returns-in-Err-clause-unfinished
returns-in-Err-clause-unfinished g c h stands word =
    let old = c.stops.replies.items in
    let more = c.run_from-more.result.replies.items in
    let rs = c.args.requests.now in
    let last = c.run_from-more.new.registry in
    let mid : HasCleanDisk (state_of last) = always_clean word (connection_of last).store in
    let early : HasCleanDisk (state_of c.stops.registry) = always_clean word (connection_of c.stops.registry).store in
    let pushed : c.append.new.self.items ≡ old ++ more = search rules in
    let count : c.len-in-stops.result ≡ length old = search rules in
    subst (λ xs. ∥ (xs ≡ take (length xs) (replies_to h rs)) ∥₁) (sym pushed)
    (∥∥₁_map (c.stops.invariant.at h stands early) (λ inv.
    let end = ends_next h rs old more c.stops.registry last c.len-in-stops.result c.run_from-more.result.fault count inv.0 (λ x at. c.run_from-more.ensures.run x at mid) in
    let stopped : EndsNext h rs old more last (Some c.in-Some.field-0) = rw c.in-Some.is at end in
    so_far h rs old more inv.1 last _ stopped))
