use Rattle.std.proofs.Common.{◌≡◌, ◌+◌, [], ◌∷◌, ◌++◌, take, refl, sym, ap, subst, ◌∙◌, arith, rules}
use Rattle.std.proofs.lemmas.List.{take_more, take_all}
use Rattle.sqlite.specs.Held.{state}
use Rattle.table_laws.proofs.InsideLemmas.{goes_then}
use Rattle.registry_rules.specs.declared.change.Change.{Change}
use Rattle.registry_tables.proofs.StoreLemmas.{AreMade, none_made, made_more, stored_now}
use Rattle.registry_tables.proofs.WriteLemmas.{one_more}
use Rattle.registry_tables.proofs.changes.store.Goals as goal

pub loop-change-init : goal.loop-change-init
loop-change-init g c = record {
  same_reference = refl;
  done = λ clean inside is_open. (search rules, λ t had up. none_made t (state g.S.Store c.args.tx.now.conn.now).now had up);
  fault = λ never. absurd cc;
  survives = search rules;
}

pub loop-change-preserved : goal.loop-change-preserved
loop-change-preserved g c =
    let b = state g.S.Store c.loop-change.tx.conn.now in
    let d = state g.S.Store c.make.new.tx.conn.now in
    let cs = c.args.changes.now in
    let i = c.loop-change.change-index in
    let one = c.change-item.result in
    let more : take (i + 1) cs ≡ take i cs ++ one ∷ [] = take_more cs i one c.loop-change-test.true ∙ ap (λ (x : Change). take i cs ++ x ∷ []) (sym c.change-item.is) in
    one_more c.loop-change.invariant c.in_ok-make.ensures.writes (λ done. done.0)
    (λ first later. (goes_then _ _ _ first.0 later.0, λ t had up. subst (λ l. AreMade l t d.now) (sym more) (made_more (take i cs) one b d t (first.1 t had up) later)))

pub returns-clause-rows : goal.returns-clause-rows
returns-clause-rows g c clean inside is_open h after legal also founding had leads =
    let a = state g.S.Store c.args.tx.now.conn.now in
    let b = state g.S.Store c.loop-change.tx.conn.now in
    let cs = c.args.changes.now in
    let all : take c.loop-change.change-index cs ≡ cs = take_all c.loop-change.change-index cs (omega arith) in
    stored_now cs h after founding leads a b (λ t held up. subst (λ l. AreMade l t b.now) all ((c.loop-change.invariant.done clean inside is_open).1 t held up)) had
