use Rattle.std.proofs.Common.{rules, ◌≡◌, ◌<◌, ◌++◌, inl, length, refl, ap, arith, length-append}
use Rattle.std.specs.Prelude.{Err}
use Rattle.std.specs.Io.KnownBytes.{Consumes}
use Rattle.byte_streams.proofs.StreamLemmas.{consumes_none, consumes_then, all_of}
use Rattle.registry_http.proofs.HeadLemmas.{has_no_request_nil, no_head_overflow, no_head_full, whole_head}
use Rattle.registry_http.specs.Incomplete.{IsIncomplete}
use Rattle.registry_http.specs.declared.fault.StreamFault.TheVariants.{Broken}
use Rattle.registry_http.proofs.IncompleteLemmas.{fails_after, open_head, same_error}
use Rattle.registry_http.proofs.head.read_head.Goals as goal

pub loop-source-init : goal.loop-source-init
loop-source-init g c = record {
  read = rw c.requires.fresh (consumes_none (g.R.Source.remaining c.args.source.now));
  none = rw c.requires.fresh has_no_request_nil;
  may = inl c.requires.fresh;
  short = omega (arith, ap length c.requires.fresh);
  same_failures = refl;
}

pub returns-in-Ok-Complete-clause-whole : goal.returns-in-Ok-Complete-clause-whole
returns-in-Ok-Complete-clause-whole g c =
    let more = c.in_ok-count.ensures.ok in
    let buf = c.take_at_most.new.buffer.items in
    let read = c.loop-source.invariant.read in
    let taken : Consumes (g.R.Source.remaining c.args.source.now) (g.R.Source.remaining c.take_at_most.new.source) buf = rw more.1 (consumes_then _ _ _ _ more.0 read more.4) in
    let at = rw (c.in-Ok-Complete.field-0-is, c.deref.ensures.value) at c.in-Ok-Complete.ensures.complete in
    let within = rw (c.in-Ok-Complete.field-0-is, c.deref.ensures.value) at c.in-Ok-Complete.ensures.within in
    (at.0, whole_head buf _ _ at.0 (omega (arith, length-append c.loop-source.buffer.items more.0, ap length more.1, more.2, more.3)) (omega arith) within at.1, at.1, within, taken)

pub returns-in-Err-clause-missing : goal.returns-in-Err-clause-missing
returns-in-Err-clause-missing g c =
    let more = c.in_ok-count.ensures.ok in
    let buf = c.take_at_most.new.buffer.items in
    let taken : Consumes (g.R.Source.remaining c.args.source.now) (g.R.Source.remaining c.take_at_most.new.source) buf = rw more.1 (consumes_then _ _ _ _ more.0 c.loop-source.invariant.read more.4) in
    let all = all_of _ _ buf taken in
    let over = rw c.deref.ensures.value at c.in-Err.ensures.no_room in
    (buf ++ all.0, all.1, no_head_overflow buf all.0 (length c.loop-source.spans) (omega arith) over)

pub returns-clause-missing : goal.returns-clause-missing
returns-clause-missing g c =
    let buf = c.loop-source.buffer.items in
    let all = all_of _ _ buf c.loop-source.invariant.read in
    (buf ++ all.0, all.1, no_head_full buf all.0 (omega arith) c.loop-source.invariant.none)

pub returns-in_err-count-clause-broken : goal.returns-in_err-count-clause-broken
returns-in_err-count-clause-broken g c = λ broken.
    let buf = c.loop-source.buffer.items in
    let is : c.from_residual.result ≡ Err c.in_err-count.field-0.0 = search rules in
    let failed = c.in_err-count.ensures.broken (ap Err (same_error c.from_residual.result c.in_err-count.field-0.0 Broken is broken)) in
    let short : length buf < 8192 = omega arith in
    fails_after (g.R.Source.remaining c.args.source.now) (g.R.Source.remaining c.loop-source.source) (g.R.Source.remaining c.take_at_most.new.source)
    (g.R.Source.failures c.args.source.now) (g.R.Source.failures c.loop-source.source) (g.R.Source.failures c.take_at_most.new.source) buf IsIncomplete
    c.loop-source.invariant.read c.loop-source.invariant.same_failures failed.0 failed.1 (open_head buf c.loop-source.invariant.none c.loop-source.invariant.may short)
