use Rattle.std.proofs.Common.{ap, ◌∙◌}
use Rattle.serde_json.specs.Written.{has_float}
use Rattle.etcd_messages.specs.Requests.{append_request}
use Rattle.etcd_messages.proofs.RequestLemmas.{append_plain}
use Rattle.etcd_messages.proofs.request.transaction.Goals as goal

pub returns-clause-value : goal.returns-clause-value
unfolding append_request
returns-clause-value c =
    cc (c.in_ok-either.ensures, c.in_ok-compare.ensures.value, c.in_ok-look.ensures, c.in_ok-put.ensures, c.in_ok-key.ensures, c.in_ok-text.ensures, c.as_str-2.ensures.value, c.as_str-3.ensures.value, c.as_str-4.ensures.value)

pub returns-clause-plain : goal.returns-clause-plain
returns-clause-plain c = ap has_float (returns-clause-value c) ∙ append_plain c.args.name.now c.args.n c.args.line.now
