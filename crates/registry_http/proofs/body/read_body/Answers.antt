use Rattle.std.proofs.Common.{◌<◌, ◌++◌, ℕ, List, drop, length, arith}
use Rattle.registry_http.proofs.BodyLemmas.{held_body_of}
use Rattle.registry_http.proofs.IncompleteLemmas.{fails_so, open_held}
use Rattle.registry_http.proofs.body.read_body.Goals as goal

pub returns-clause-ok : goal.returns-clause-ok
returns-clause-ok g c =
    held_body_of _ _ c.args.buffer.now.items c.read_up_to.new.buffer.items c.args.start c.args.count c.saturating_add.result c.read_up_to.result c.requires.within (omega (arith, c.requires.front, c.requires.small, c.saturating_add.ensures)) c.read_up_to.ensures.ok

pub returns-clause-broken : goal.returns-clause-broken
returns-clause-broken g c = λ broken.
    let old = c.args.buffer.now.items in
    fails_so (g.R.Source.remaining c.args.source.now) (g.R.Source.remaining c.read_up_to.new.source) (g.R.Source.failures c.args.source.now) (g.R.Source.failures c.read_up_to.new.source)
    (λ (more : List ℕ). length (old ++ more) < c.saturating_add.result) (λ (more : List ℕ). length (drop c.args.start old ++ more) < c.args.count)
    (open_held old c.args.start c.args.count c.saturating_add.result c.requires.within (omega (arith, c.requires.front, c.requires.small, c.saturating_add.ensures)))
    (c.read_up_to.ensures.broken broken)
