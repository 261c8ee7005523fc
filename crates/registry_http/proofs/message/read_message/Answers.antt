use Rattle.std.proofs.Common.{rules, ◌≡◌}
use Rattle.registry_http.proofs.FaultLemmas.{said_so}
use Rattle.registry_http.proofs.IncompleteLemmas.{fails_after_head}
use Rattle.registry_http.proofs.MessageLemmas.{says_after_head}
use Rattle.registry_http.proofs.message.read_message.Goals as goal

pub returns-clause-ok : goal.returns-clause-ok
returns-clause-ok g c =
    let whole = rw c.in-Whole.is at c.in_ok-head.ensures.whole in
    said_so c.read_after_head.result _ _
    (λ said rest. says_after_head _ _ c.args.founding c.read_head.new.buffer.items c.read_head.new.spans c.in-Whole.head whole.0 said whole.1 whole.2 whole.4 rest)
    c.read_after_head.ensures.ok

pub returns-clause-broken : goal.returns-clause-broken
returns-clause-broken g c = λ broken.
    let whole = rw c.in-Whole.is at c.in_ok-head.ensures.whole in
    let kept : g.R.Source.failures c.read_head.new.source ≡ g.R.Source.failures c.args.source.now = search rules in
    fails_after_head (g.R.Source.remaining c.args.source.now) (g.R.Source.remaining c.read_head.new.source) (g.R.Source.remaining c.read_after_head.new.source)
    (g.R.Source.failures c.args.source.now) (g.R.Source.failures c.read_head.new.source) (g.R.Source.failures c.read_after_head.new.source)
    c.read_head.new.buffer.items c.read_head.new.spans c.in-Whole.head whole.0 whole.1 whole.2 whole.4 kept (c.read_after_head.ensures.broken broken)
