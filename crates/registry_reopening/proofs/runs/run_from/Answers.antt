use Rattle.std.proofs.Common.{◌≡◌, ◌-◌, ◌≤◌, ◌∙◌, inl, inr, List, [], ◌++◌, drop, length, length-drop, ap, arith, vec_capacity}
use Rattle.registry_rules.specs.declared.verdict.Reply.{Reply}
use Rattle.registry_rules.specs.Run.{after, replies_to}
use Rattle.registry_rules.proofs.RunLemmas.{legal_after}
use Rattle.registry_rules.proofs.NumberLemmas.{one_organisation}
use Rattle.registry_reopening.proofs.RepliesLemmas.{has_room, listed, never_full, stopped_list}
use Rattle.registry_reopening.proofs.runs.run_from.Goals as goal

pub returns-in-Ok-run_to-clause-run : goal.returns-in-Ok-run_to-clause-run
returns-in-Ok-run_to-clause-run g c h at clean =
    let got = c.in-Ok-run_to.ensures.through h at clean in
    let none : c.in-Ok.replies.items ≡ [] = c.in-Ok.ensures.items in
    let rest = replies_to h (drop c.args.answered c.args.requests.now) in
    record { all = (listed c.in-Ok.replies c.run_to.new.replies rest got.0).0 ∙ ap (λ (xs : List Reply). xs ++ rest) none; represents = got.1 }

pub returns-in-Err-Fault-clause-run : goal.returns-in-Err-Fault-clause-run
returns-in-Err-Fault-clause-run g c h at clean =
    let stop = rw c.in-Err-Fault.field-0-is at (c.in-Err-Fault.ensures.stopped h at clean) in
    stopped_list c.run_to.new.self h (drop c.args.answered c.args.requests.now) stop.0 c.in-Ok.replies c.run_to.new.replies c.in-Ok.ensures.items c.in-Err-Fault.fault stop.1

pub returns-in-Err-Cut-clause-run : goal.returns-in-Err-Cut-clause-run
returns-in-Err-Cut-clause-run g c h at clean =
    let stop = rw c.in-Err-Cut.field-0-is at (c.in-Err-Cut.ensures.stopped h at clean) in
    let rest = drop c.args.answered c.args.requests.now in
    let room : length rest ≤ vec_capacity c.in-Ok.replies = omega (arith, c.in-Ok.ensures.exact, length-drop c.args.answered c.args.requests.now) in
    absurd (has_room c.run_to.new.self h rest stop.0 c.in-Ok.replies c.run_to.new.replies c.in-Ok.ensures.items room stop.1)

pub returns-in-Ok-run_to-clause-one_owner : goal.returns-in-Ok-run_to-clause-one_owner
returns-in-Ok-run_to-clause-one_owner g c h legal n deed org has gives = one_organisation (after h c.args.requests.now) (legal_after h c.args.requests.now legal) n deed org has gives

pub returns-in-Err-Fault-clause-one_owner : goal.returns-in-Err-Fault-clause-one_owner
returns-in-Err-Fault-clause-one_owner g c h legal n deed org has gives = one_organisation (after h c.args.requests.now) (legal_after h c.args.requests.now legal) n deed org has gives

pub returns-in-Err-Cut-clause-one_owner : goal.returns-in-Err-Cut-clause-one_owner
returns-in-Err-Cut-clause-one_owner g c h legal n deed org has gives = one_organisation (after h c.args.requests.now) (legal_after h c.args.requests.now legal) n deed org has gives

pub returns-then-is_poisoned-clause-one_owner : goal.returns-then-is_poisoned-clause-one_owner
returns-then-is_poisoned-clause-one_owner g c h legal n deed org has gives = one_organisation (after h c.args.requests.now) (legal_after h c.args.requests.now legal) n deed org has gives

pub returns-in_default-clause-one_owner : goal.returns-in_default-clause-one_owner
returns-in_default-clause-one_owner g c h legal n deed org has gives = one_organisation (after h c.args.requests.now) (legal_after h c.args.requests.now legal) n deed org has gives

-- ---- how a run ends early

pub returns-in-Err-Fault-clause-ends : goal.returns-in-Err-Fault-clause-ends
returns-in-Err-Fault-clause-ends g c = inl (rw c.in-Err-Fault.field-0-is at c.in-Err-Fault.ensures.ends)

pub returns-in-Err-Cut-clause-ends : goal.returns-in-Err-Cut-clause-ends
returns-in-Err-Cut-clause-ends g c =
    let given = rw c.in-Err-Cut.field-0-is at c.in-Err-Cut.ensures.cut in
    let room : length c.args.requests.now - c.args.answered ≤ vec_capacity c.in-Ok.replies = omega (arith, c.in-Ok.ensures.exact) in
    absurd (never_full c.in-Ok.replies c.run_to.new.replies (length c.args.requests.now - c.args.answered) c.in-Ok.ensures.items room given)

pub returns-in-Err-Fault-clause-keeps_fault : goal.returns-in-Err-Fault-clause-keeps_fault
returns-in-Err-Fault-clause-keeps_fault g c not_poisoned = inl (rw c.in-Err-Fault.field-0-is at (c.in-Err-Fault.ensures.keeps_fault not_poisoned))

pub returns-in-Err-Cut-clause-keeps_fault : goal.returns-in-Err-Cut-clause-keeps_fault
returns-in-Err-Cut-clause-keeps_fault g c _ =
    let given = rw c.in-Err-Cut.field-0-is at c.in-Err-Cut.ensures.cut in
    let room : length c.args.requests.now - c.args.answered ≤ vec_capacity c.in-Ok.replies = omega (arith, c.in-Ok.ensures.exact) in
    absurd (never_full c.in-Ok.replies c.run_to.new.replies (length c.args.requests.now - c.args.answered) c.in-Ok.ensures.items room given)
