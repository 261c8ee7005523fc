use Rattle.std.proofs.Common.{◌≡◌, ◌+◌, [], ◌∷◌, ◌++◌, take, refl, sym, ap, subst, ◌∙◌, arith, rules}
use Rattle.std.proofs.lemmas.List.{take_more, take_all}
use Rattle.sqlite.specs.Held.{state}
use Rattle.registry_rows.specs.declared.kept.KeptRow.{KeptRow}
use Rattle.registry_tables.specs.Written.{FillsLines}
use Rattle.registry_tables.proofs.FillLemmas.{lines_begin, lines_more}
use Rattle.registry_tables.proofs.WriteLemmas.{as_tables, one_more}
use Rattle.registry_tables.proofs.digests.put_page.Goals as goal

pub loop-row-init : goal.loop-row-init
loop-row-init g c = record {
  same_reference = refl;
  done = λ clean inside is_open. lines_begin (state g.S.Store c.args.tx.now.conn.now) c.args.head (search rules);
  fault = λ never. absurd cc;
  survives = search rules;
}

pub loop-row-preserved : goal.loop-row-preserved
loop-row-preserved g c =
    let a = state g.S.Store c.args.tx.now.conn.now in
    let b = state g.S.Store c.loop-row.tx.conn.now in
    let d = state g.S.Store c.put_digest.new.tx.conn.now in
    let all = c.args.rows.now in
    let i = c.loop-row.row-index in
    let row : KeptRow = c.row-item.result in
    let next = c.in_ok-next.next in
    let more : take (i + 1) all ≡ take i all ++ row ∷ [] = take_more all i row c.loop-row-test.true ∙ ap (λ (x : KeptRow). take i all ++ x ∷ []) (sym c.row-item.is) in
    one_more c.loop-row.invariant (as_tables c.in_ok-put_digest.ensures.writes) (λ done. done.0)
    (λ first later. subst (λ rows. FillsLines rows c.args.head next a d) (sym more) (lines_more a b d c.args.head c.loop-row.reached next (take i all) row first c.in_ok-next.ensures.next later))

pub returns-clause-filled : goal.returns-clause-filled
returns-clause-filled g c clean inside is_open =
    let a = state g.S.Store c.args.tx.now.conn.now in
    let b = state g.S.Store c.loop-row.tx.conn.now in
    let all = c.args.rows.now in
    let whole : take c.loop-row.row-index all ≡ all = take_all c.loop-row.row-index all (omega arith) in
    subst (λ rows. FillsLines rows c.args.head c.loop-row.reached a b) whole (c.loop-row.invariant.done clean inside is_open)
