use Rattle.std.proofs.Common.{rules, ◌≡◌, ◌<◌, ◌++◌, ℕ, List, length, ap, arith, subst}
use Rattle.std.specs.Prelude.{Err}
use Rattle.registry_http.specs.declared.fault.StreamFault.TheVariants.{Broken}
use Rattle.registry_http.proofs.IncompleteLemmas.{fails_after, same_error}
use Rattle.registry_http.proofs.body.read_up_to.Goals as goal

pub returns-in_err-count-clause-broken : goal.returns-in_err-count-clause-broken
returns-in_err-count-clause-broken g c = λ broken.
    let read = c.loop-source.invariant.read in
    let is : c.from_residual.result ≡ Err c.in_err-count.field-0.0 = search rules in
    let failed = c.in_err-count.ensures.broken (ap Err (same_error c.from_residual.result c.in_err-count.field-0.0 Broken is broken)) in
    let less : length c.loop-source.buffer.items < c.args.wanted = omega arith in
    fails_after (g.R.Source.remaining c.args.source.now) (g.R.Source.remaining c.loop-source.source) (g.R.Source.remaining c.take_at_most.new.source)
    (g.R.Source.failures c.args.source.now) (g.R.Source.failures c.loop-source.source) (g.R.Source.failures c.take_at_most.new.source) read.0
    (λ (more : List ℕ). length (c.args.buffer.now.items ++ more) < c.args.wanted)
    read.2 c.loop-source.invariant.same_failures failed.0 failed.1 (subst (λ (t : List ℕ). length t < c.args.wanted) read.1 less)
