use Rattle.std.proofs.Common.{rules, ◌≡◌, ◌<◌, ◌++◌, ℕ, List, length, ap, sym, subst, ◌∙◌, append_assoc, arith, length-append}
use Rattle.std.specs.Prelude.{Err}
use Rattle.std.proofs.lemmas.Bool.{lt-leb}
use Rattle.usbids_text.specs.Readers.{WasFed}
use Rattle.byte_streams.proofs.StreamLemmas.{consumes_then}
use Rattle.registry_http.specs.declared.fault.StreamFault.TheVariants.{Broken}
use Rattle.registry_http.proofs.IncompleteLemmas.{fails_after, same_error}
use Rattle.registry_http.proofs.body.feed_from.Goals as goal

pub returns-then-count-eq0-clause-ok : goal.returns-then-count-eq0-clause-ok
returns-then-count-eq0-clause-ok g c =
    let read = c.loop-left.invariant.read in
    let more = c.in_ok-count.ensures.ok in
    let none : c.in_ok-count.count ≡ 0 = c.if-count-eq0.true in
    let test = c.loop-left-test.true in (
      read.0 ++ more.0,
      consumes_then _ _ _ _ _ read.2 more.3,
      omega (arith, length-append read.0 more.0, read.1, more.1, none),
      sym (lt-leb c.args.wanted (length (read.0 ++ more.0)) (omega (arith, length-append read.0 more.0, read.1, more.1, none, test))),
      λ same. more.4 none,
      λ t s. subst (WasFed c.feed_more.new.reader) (append_assoc t read.0 more.0) (more.5 (t ++ read.0) (read.3 t s)),
    )

pub loop-left-preserved : goal.loop-left-preserved
loop-left-preserved g c =
    let read = c.loop-left.invariant.read in
    let more = c.in_ok-count.ensures.ok in
    record {
      read = (
        read.0 ++ more.0,
        omega (arith, length-append read.0 more.0, read.1, more.1, more.2),
        consumes_then _ _ _ _ _ read.2 more.3,
        λ t s. subst (WasFed c.feed_more.new.reader) (append_assoc t read.0 more.0) (more.5 (t ++ read.0) (read.3 t s)),
      );
      same_failures = c.in_ok-count.ensures.kept ∙ c.loop-left.invariant.same_failures;
    }

pub returns-in_err-count-clause-broken : goal.returns-in_err-count-clause-broken
returns-in_err-count-clause-broken g c = λ broken.
    let read = c.loop-left.invariant.read in
    let is : c.from_residual.result ≡ Err c.in_err-count.field-0.0 = search rules in
    let failed = c.in_err-count.ensures.broken (ap Err (same_error c.from_residual.result c.in_err-count.field-0.0 Broken is broken)) in
    fails_after (g.R.Source.remaining c.args.source.now) (g.R.Source.remaining c.loop-left.source) (g.R.Source.remaining c.feed_more.new.source)
    (g.R.Source.failures c.args.source.now) (g.R.Source.failures c.loop-left.source) (g.R.Source.failures c.feed_more.new.source) read.0
    (λ (more : List ℕ). length more < c.args.wanted)
    read.2 c.loop-left.invariant.same_failures failed.0 failed.1 (omega (arith, read.1, c.loop-left-test.true))
