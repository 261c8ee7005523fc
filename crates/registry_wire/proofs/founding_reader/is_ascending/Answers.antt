use Rattle.std.proofs.Common.{◌≡◌, ◌+◌, ◌∙◌, ap, sym, true, false, drop, arith}
use Rattle.std.proofs.lemmas.List.{take_rest}
use Rattle.registry_wire.specs.Record.{is_before_all, is_ascending}
use Rattle.registry_wire.proofs.OrderedLemmas.{ascending_goes, ascending_fails, ascending_ends}
use Rattle.registry_wire.proofs.founding_reader.is_ascending.Goals as goal

pub returns-then-not-is_before_all : goal.returns-then-not-is_before_all
returns-then-not-is_before_all g c =
    let texts = c.args.texts.now in
    let i = c.loop-i.i in
    let text = c.index-texts-i.result in
    let fails : is_before_all text (drop (i + 1) texts) ≡ false = ap (is_before_all text) (sym (take_rest texts (i + 1))) ∙ (sym c.is_before_all.ensures ∙ c.if-not-is_before_all.true) in
    ascending_fails texts i text (is_ascending texts) c.loop-i-test.true c.index-texts-i.is c.loop-i.invariant fails

pub loop-i-preserved : goal.loop-i-preserved
loop-i-preserved g c =
    let texts = c.args.texts.now in
    let i = c.loop-i.i in
    let text = c.index-texts-i.result in
    let goes : is_before_all text (drop (i + 1) texts) ≡ true = ap (is_before_all text) (sym (take_rest texts (i + 1))) ∙ (sym c.is_before_all.ensures ∙ c.if-not-is_before_all.false) in
    ascending_goes texts i text (is_ascending texts) c.loop-i-test.true c.index-texts-i.is c.loop-i.invariant goes

pub returns : goal.returns
returns g c = ascending_ends c.args.texts.now c.loop-i.i (is_ascending c.args.texts.now) (omega arith) c.loop-i.invariant
