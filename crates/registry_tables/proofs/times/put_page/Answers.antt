use Rattle.std.proofs.Common.{◌≡◌, ◌+◌, [], ◌∷◌, ◌++◌, take, refl, sym, ap, subst, ◌∙◌, arith, rules}
use Rattle.std.proofs.lemmas.List.{take_more, take_all}
use Rattle.sqlite.specs.State.{HasCleanDisk}
use Rattle.sqlite.specs.Held.{state}
use Rattle.registry_rules.specs.declared.accepted.Accepted.{Accepted}
use Rattle.registry_tables.specs.Times.{PutsPage}
use Rattle.registry_tables.proofs.ReadLemmas.{quiet_then}
use Rattle.registry_tables.proofs.TimeLemmas.{puts_none, puts_then}
use Rattle.registry_tables.proofs.times.put_page.Goals as goal

pub loop-accepted-init : goal.loop-accepted-init
loop-accepted-init g c = record {
  same_reference = refl;
  done = λ clean inside is_open. puts_none c.args.place (state g.S.Store c.args.tx.now.conn.now) (search rules);
  fault = λ never. absurd cc;
  survives = search rules;
}

pub loop-accepted-preserved : goal.loop-accepted-preserved
loop-accepted-preserved g c =
    let a = state g.S.Store c.args.tx.now.conn.now in
    let b = state g.S.Store c.loop-accepted.tx.conn.now in
    let d = state g.S.Store c.put_request.new.tx.conn.now in
    let all = c.args.page.now in
    let i = c.loop-accepted.accepted-index in
    let one : Accepted = c.accepted-item.result in
    let next = c.in_ok-reached.reached in
    let more : take (i + 1) all ≡ take i all ++ one ∷ [] = take_more all i one c.loop-accepted-test.true ∙ ap (λ (x : Accepted). take i all ++ x ∷ []) (sym c.accepted-item.is) in
    record {
      same_reference = c.put_request.ensures.same_reference ∙ c.loop-accepted.invariant.same_reference;
      done = λ clean inside is_open.
          (let early : HasCleanDisk b = omega (arith, clean, c.put_request.ensures.survives.clean) in
          let so_far = c.loop-accepted.invariant.done early inside is_open in
          subst (λ page. PutsPage c.args.place page next a d) (sym more) (puts_then a b d c.args.place c.loop-accepted.reached next (take i all) (one ∷ []) so_far (c.in_ok-reached.ensures.put clean so_far.goes_on.mode so_far.goes_on.is_open)));
      fault = λ never. absurd cc;
      survives = quiet_then a b d c.loop-accepted.invariant.survives c.put_request.ensures.survives;
    }

pub returns-clause-put : goal.returns-clause-put
returns-clause-put g c clean inside is_open =
    let a = state g.S.Store c.args.tx.now.conn.now in
    let b = state g.S.Store c.loop-accepted.tx.conn.now in
    let all = c.args.page.now in
    let whole : take c.loop-accepted.accepted-index all ≡ all = take_all c.loop-accepted.accepted-index all (omega arith) in
    subst (λ page. PutsPage c.args.place page c.loop-accepted.reached a b) whole (c.loop-accepted.invariant.done clean inside is_open)
