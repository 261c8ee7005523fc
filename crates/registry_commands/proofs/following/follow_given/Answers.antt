use Rattle.std.proofs.Common.{◌≡◌, true, false, rules}
use Rattle.registry_rules.specs.Run.{after_one}
use Rattle.registry_commands.proofs.DigestLemmas.{another_before, digest_before}
use Rattle.registry_commands.proofs.following.follow_given.Goals as goal

pub returns-then-has_another-clause-answered : goal.returns-then-has_another-clause-answered
returns-then-has_another-clause-answered g c h stands clean =
    let did = rw c.in-None.is at (c.in_ok-follow.ensures.replied h stands clean) in
    let is : c.has_another.result ≡ true = search rules in
    let r = c.args.accepted.now.request in
    (did.0, (did.1, another_before h r c.args.digest.now c.count_of-before.result (c.count_of-before.ensures h stands) (c.has_another.ensures.has is (after_one h r) did.0)))

pub returns-else-has_another-clause-answered : goal.returns-else-has_another-clause-answered
returns-else-has_another-clause-answered g c h stands clean =
    let did = rw c.in-None.is at (c.in_ok-follow.ensures.replied h stands clean) in
    let is : c.has_another.result ≡ false = search rules in
    let r = c.args.accepted.now.request in
    (did.0, (did.1, digest_before h r c.args.digest.now c.count_of-before.result (c.count_of-before.ensures h stands) (c.has_another.ensures.hasnt is (after_one h r) did.0)))
