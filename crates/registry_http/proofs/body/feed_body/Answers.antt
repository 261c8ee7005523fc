use Rattle.std.proofs.Common.{◌<◌, ◌-◌, ◌++◌, ℕ, List, [], length}
use Rattle.registry_http.proofs.BodyLemmas.{fed_body_of}
use Rattle.registry_http.proofs.IncompleteLemmas.{fails_so, open_fed}
use Rattle.registry_http.proofs.body.feed_body.Goals as goal

pub returns-clause-ok : goal.returns-clause-ok
returns-clause-ok g c =
    fed_body_of _ _ c.args.come.now c.args.count c.min-first.result c.feed.new.self c.feed_from.new.reader c.feed_from.result c.min-first.ensures (c.feed.ensures.was_fed [] c.requires) c.feed_from.ensures.ok

pub returns-clause-broken : goal.returns-clause-broken
returns-clause-broken g c = λ broken.
    let first = c.min-first.result in
    fails_so (g.R.Source.remaining c.args.source.now) (g.R.Source.remaining c.feed_from.new.source) (g.R.Source.failures c.args.source.now) (g.R.Source.failures c.feed_from.new.source)
    (λ (more : List ℕ). length more < c.args.count - first) (λ (more : List ℕ). length (c.args.come.now ++ more) < c.args.count)
    (open_fed c.args.come.now c.args.count first c.min-first.ensures) (c.feed_from.ensures.broken broken)
