use Rattle.std.proofs.Common.{rules, ◌≡◌, [], ◌∷◌, ◌++◌, refl, ap, arith, sym, subst, ◌∙◌}
use Rattle.std.specs.Prelude.{Err, None, true}
use Rattle.sqlite.specs.State.{HasCleanDisk}
use Rattle.registry_store.specs.Promise.{is_poisoned, state_of}
use Rattle.registry_store.proofs.IsQueryLemmas.{notes_then}
use Rattle.registry_desk.proofs.CacheLemmas.{none_are}
use Rattle.registry_desk.proofs.ServerLemmas.{length_more, represents_after, represents_more, stopped_at, told_last, turned_more, visited_more, with_crash}
use Rattle.registry_desk.proofs.server.serve_all.Goals as goal

pub loop-init : goal.loop-init
loop-init g c = record {
  endures = search rules;
  served = ([], refl, refl, λ h stands clean. (h, refl, stands, none_are h c.new-cache.result c.new-cache.ensures), λ poisoned. (refl, refl, c.new-cache.ensures));
  goes_on = λ sane. sane;
  notes = refl;
}

pub loop-preserved : goal.loop-preserved
loop-preserved g c =
    let so_far = c.loop.invariant.served in
    let came = c.in_ok-serve_beside.ensures.visited in
    record {
      endures = search rules;
      served = (
        so_far.0 ++ came.0 ∷ [],
        visited_more g.C.Connections.opens g.C.Connections.closes g.C.Reader.Source.remaining g.C.Reader.Source.failures g.C.Writer.Sink.contents g.C.Writer.Sink.failures _ c.loop.connections _ so_far.0 came.0 so_far.1 came.1,
        length_more so_far.0 came.0 c.loop.counter so_far.2,
        λ h stands clean.
            let early : HasCleanDisk (state_of c.loop.registry) = omega (arith, c.serve_beside.ensures.endures.clean, clean) in
            represents_more c.loop.registry c.serve_beside.new.registry c.loop.cache c.serve_beside.new.cache h so_far.0 came.0 (so_far.3 h stands early) (λ x at are. came.2 x at clean are),
        λ poisoned.
            let away = so_far.4 poisoned in
            let one = came.3 (subst (λ r. is_poisoned r ≡ true) (sym away.1) poisoned) away.2 in
            (turned_more so_far.0 came.0 None away.0 one.0, one.1 ∙ away.1, one.2),
      );
      goes_on = λ sane. c.in_ok-serve_beside.ensures.goes_on (c.loop.invariant.goes_on sane) refl;
      notes = notes_then c.args.registry.now c.loop.registry c.serve_beside.new.registry None c.loop.invariant.notes c.in_ok-serve_beside.ensures.notes;
    }

pub returns-in_err-serve_beside-clause-served : goal.returns-in_err-serve_beside-clause-served
returns-in_err-serve_beside-clause-served g c =
    let so_far = c.loop.invariant.served in
    let stop = c.in_err-serve_beside.field-0.0 in
    let is : c.from_residual.result ≡ Err stop = search rules in
    stopped_at g.C.Connections.opens g.C.Connections.closes g.C.Reader.Source.remaining g.C.Reader.Source.failures g.C.Writer.Sink.contents g.C.Writer.Sink.failures g.C.Connections.fails
    c.from_residual.result stop is c.args.connections.now c.loop.connections c.serve_beside.new.connections c.args.registry.now c.loop.registry c.serve_beside.new.registry c.loop.cache c.serve_beside.new.cache c.args.count so_far.0
    so_far.1 (omega (arith, so_far.2, c.loop-test.true))
    (λ clean. omega (arith, c.serve_beside.ensures.endures.clean, clean))
    so_far.3 so_far.4 c.in_err-serve_beside.ensures.visited (λ same. c.in_err-serve_beside.ensures.none (ap Err same))

pub returns-in_err-serve_beside-clause-told : goal.returns-in_err-serve_beside-clause-told
returns-in_err-serve_beside-clause-told g c sane =
    let so_far = c.loop.invariant.served in
    let stop = c.in_err-serve_beside.field-0.0 in
    let is : c.from_residual.result ≡ Err stop = search rules in
    told_last g.C.Connections.opens g.C.Connections.closes g.C.Reader.Source.remaining g.C.Reader.Source.failures g.C.Writer.Sink.contents g.C.Writer.Sink.failures g.C.Connections.fails
    c.args.connections.now c.loop.connections c.serve_beside.new.connections c.loop.registry c.serve_beside.new.registry c.loop.cache c.serve_beside.new.cache so_far.0 c.from_residual.result stop is
    so_far.1 c.in_err-serve_beside.ensures.visited (c.loop.invariant.goes_on sane)

pub returns-in_err-serve_beside-clause-goes_on : goal.returns-in_err-serve_beside-clause-goes_on
returns-in_err-serve_beside-clause-goes_on g c sane none =
    let is : c.from_residual.result ≡ Err c.in_err-serve_beside.field-0.0 = search rules in
    c.in_err-serve_beside.ensures.goes_on (c.loop.invariant.goes_on sane) (rw is at none)

pub returns-in_err-serve_beside-clause-notes : goal.returns-in_err-serve_beside-clause-notes
returns-in_err-serve_beside-clause-notes g c =
    let is : c.from_residual.result ≡ Err c.in_err-serve_beside.field-0.0 = search rules in
    rw is (notes_then c.args.registry.now c.loop.registry c.serve_beside.new.registry _ c.loop.invariant.notes c.in_err-serve_beside.ensures.notes)

pub returns-clause-served : goal.returns-clause-served
returns-clause-served g c =
    let so_far = c.loop.invariant.served in (
      so_far.0,
      c.loop.connections,
      so_far.1,
      refl,
      omega (arith, so_far.2, c.loop.auto.counter-end),
      omega (arith, so_far.2, c.loop.auto.counter-end, c.loop-test.false),
      λ h stands clean. with_crash c.loop.registry h so_far.0 None (represents_after c.loop.registry c.loop.cache h so_far.0 (so_far.3 h stands clean)) clean,
      λ poisoned. let away = so_far.4 poisoned in (away.0, away.1),
    )
