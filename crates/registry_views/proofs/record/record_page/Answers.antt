use Rattle.std.proofs.Common.{ap, arith}
use Rattle.std.specs.String.{string_bytes}
use Rattle.std.proofs.lemmas.Result.{err_from_is_err_and}
use Rattle.registry_views.proofs.PieceLemmas.{all_read, ends_read, fails_read, full_read, more_read, none_read, too_many}
use Rattle.registry_views.proofs.record.record_page.Goals as goal

pub loop-init : goal.loop-init
loop-init g c = none_read c.args.registry.now c.args.after c.new-page.result c.new-page.ensures

pub loop-preserved : goal.loop-preserved
loop-preserved g c = more_read c.args.registry.now c.loop.registry c.read_more.new.registry c.args.after c.loop.place c.wanted-most.result c.loop.counter c.loop.page c.read_more.new.page c.in-Some.next (omega arith) c.loop.invariant (rw c.in-Some.is at c.in_ok-next.ensures)

pub returns-in_err-next : goal.returns-in_err-next
returns-in_err-next g c =
    let p = err_from_is_err_and c.from_residual.result c.from_residual.ensures.1 in
    rw (p.1, p.2) (fails_read c.args.registry.now c.loop.registry c.read_more.new.registry c.args.after c.loop.place c.loop.counter c.loop.page _ _ c.loop.invariant c.in_err-next.ensures)

pub returns-in-None : goal.returns-in-None
returns-in-None g c = ends_read c.args.registry.now c.loop.registry c.read_more.new.registry c.args.after c.loop.place c.wanted-most.result c.loop.counter c.loop.page c.read_more.new.page c.into_text-in-None.result _ c.loop.invariant (rw c.in-None.is at c.in_ok-next.ensures)
    (all_read c.args.registry.now c.loop.registry c.read_more.new.registry c.args.after c.loop.place c.wanted-most.result c.loop.counter c.loop.page c.read_more.new.page (string_bytes c.into_text-in-None.result) c.loop.invariant (rw c.in-None.is at c.in_ok-next.ensures) (ap string_bytes c.into_text-in-None.ensures))

pub returns : goal.returns
returns g c = too_many c.args.registry.now c.loop.registry c.args.after c.loop.place c.loop.counter c.loop.page c.into_text-2.result c.loop.invariant (omega arith) _ (λ h never valid. absurd (never valid))

pub returns-then-most-eq0 : goal.returns-then-most-eq0
returns-then-most-eq0 g c = full_read c.args.registry.now c.loop.registry c.args.after c.loop.place c.loop.counter c.wanted-most.result c.loop.page (string_bytes c.into_text.result) c.into_text.result _ c.loop.invariant c.wanted-most.ensures (omega arith) (ap string_bytes c.into_text.ensures)
    (λ h is. is)
