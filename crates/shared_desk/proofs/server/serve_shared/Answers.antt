use Rattle.std.proofs.Common.{rules, ◌≡◌, [], ◌∷◌, ◌++◌, refl, ap, arith, sym, subst, ◌∙◌}
use Rattle.std.specs.Prelude.{Err, None, true}
use Rattle.std.proofs.lemmas.List.Elements.{All-nil}
use Rattle.sqlite.specs.State.{HasCleanDisk}
use Rattle.registry_store.specs.Promise.{is_poisoned, state_of}
use Rattle.registry_store.proofs.IsQueryLemmas.{notes_then}
use Rattle.registry_desk.proofs.CacheLemmas.{none_are}
use Rattle.registry_desk.proofs.ServerLemmas.{length_more, visited_more}
use Rattle.shared_registry.proofs.AskLemmas.{asked_nothing}
use Rattle.shared_desk.specs.Asks.{AppendsOrdersIn}
use Rattle.shared_desk.specs.Server.{IsTurnedAwayOverLogAt}
use Rattle.shared_desk.proofs.ServerLemmas.{all_more, ended_by, ends_after, follows_more}
use Rattle.shared_desk.proofs.TurnLemmas.{asked_more}
use Rattle.shared_desk.proofs.server.serve_shared.Goals as goal

pub loop-init : goal.loop-init
loop-init g c = record {
  endures = search rules;
  served = ([], refl, refl, λ lines kept h follows clean. (h, (refl, refl), follows, none_are h c.new-cache.result c.new-cache.ensures), λ poisoned. (All-nil IsTurnedAwayOverLogAt, refl, refl), λ lines kept h follows clean. asked_nothing g.L.Log (AppendsOrdersIn (lines c.args.cursor.now.log) h []) c.args.cursor.now.log);
  notes = refl;
}

pub loop-preserved : goal.loop-preserved
loop-preserved g c =
    let so_far = c.loop.invariant.served in
    let came = c.in_ok-serve_beside.ensures.visited in
    record {
      endures = search rules;
      served = (
        so_far.0 ++ came.0 ∷ [],
        visited_more g.C.Connections.opens g.C.Connections.closes g.C.Reader.Source.remaining g.C.Reader.Source.failures g.C.Writer.Sink.contents g.C.Writer.Sink.failures _ c.loop.connections _ so_far.0 came.0 so_far.1 came.1,
        length_more so_far.0 came.0 c.loop.counter so_far.2,
        λ lines kept h follows clean.
            let early : HasCleanDisk (state_of c.loop.registry) = omega (arith, c.serve_beside.ensures.endures.clean, clean) in
            let before = so_far.3 lines kept h follows early in
            follows_more g.L.Log lines c.args.cursor.now h c.loop.registry c.serve_beside.new.registry c.loop.cursor c.serve_beside.new.cursor c.loop.cache c.serve_beside.new.cache so_far.0 came.0 before (came.3 lines kept before.0 before.2 clean before.3),
        λ poisoned.
            let away = so_far.4 poisoned in
            let one = came.4 (subst (λ r. is_poisoned r ≡ true) (sym away.1) poisoned) in
            (all_more IsTurnedAwayOverLogAt so_far.0 came.0 away.0 one.0, one.1 ∙ away.1, one.2 ∙ away.2),
        λ lines kept h follows clean.
            let early : HasCleanDisk (state_of c.loop.registry) = omega (arith, c.serve_beside.ensures.endures.clean, clean) in
            let before = so_far.3 lines kept h follows early in
            asked_more g.L.Log lines kept c.args.cursor.now h so_far.0 c.loop.cursor before.0 before.1 came.0 c.serve_beside.new.cursor (so_far.5 lines kept h follows early) (came.5 lines kept before.0 before.2 clean),
      );
      notes = notes_then c.args.registry.now c.loop.registry c.serve_beside.new.registry None c.loop.invariant.notes c.in_ok-serve_beside.ensures.notes;
    }

pub returns-in_err-serve_beside-clause-served : goal.returns-in_err-serve_beside-clause-served
returns-in_err-serve_beside-clause-served g c =
    let so_far = c.loop.invariant.served in
    let stop = c.in_err-serve_beside.field-0.0 in
    let is : c.from_residual.result ≡ Err stop = search rules in
    rw is (ended_by g.L.Log g.C.Connections.opens g.C.Connections.closes g.C.Reader.Source.remaining g.C.Reader.Source.failures g.C.Writer.Sink.contents g.C.Writer.Sink.failures g.C.Connections.fails
    c.args.connections.now c.loop.connections c.serve_beside.new.connections c.args.registry.now c.loop.registry c.serve_beside.new.registry c.args.cursor.now c.loop.cursor c.serve_beside.new.cursor c.loop.cache c.serve_beside.new.cache c.args.count so_far.0
    stop so_far.1 (omega (arith, so_far.2, c.loop-test.true))
    (λ clean. omega (arith, c.serve_beside.ensures.endures.clean, clean))
    so_far.3 so_far.4 so_far.5 c.in_err-serve_beside.ensures.visited (λ same. c.in_err-serve_beside.ensures.none (ap Err same)))

pub returns-in_err-serve_beside-clause-notes : goal.returns-in_err-serve_beside-clause-notes
returns-in_err-serve_beside-clause-notes g c =
    let is : c.from_residual.result ≡ Err c.in_err-serve_beside.field-0.0 = search rules in
    rw is (notes_then c.args.registry.now c.loop.registry c.serve_beside.new.registry _ c.loop.invariant.notes c.in_err-serve_beside.ensures.notes)

pub returns-clause-served : goal.returns-clause-served
returns-clause-served g c =
    let so_far = c.loop.invariant.served in (
      so_far.0,
      c.loop.connections,
      so_far.1,
      refl,
      omega (arith, so_far.2, c.loop.auto.counter-end),
      omega (arith, so_far.2, c.loop.auto.counter-end, c.loop-test.false),
      tt,
      λ lines kept h follows clean. ends_after g.L.Log lines c.args.cursor.now h c.loop.registry c.loop.cursor c.loop.cache so_far.0 (so_far.3 lines kept h follows clean),
      so_far.4,
      so_far.5,
    )
