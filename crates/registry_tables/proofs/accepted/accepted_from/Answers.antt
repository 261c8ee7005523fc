use Rattle.std.proofs.Common.{◌≡◌, true, take, ◌++◌, ◌∷◌, [], is_ok, sym, ap, ◌∙◌, rules}
use Rattle.registry_tables.proofs.RecordLemmas.{one_more}
use Rattle.registry_tables.proofs.accepted.accepted_from.Goals as goal

pub loop-at-preserved : goal.loop-at-preserved
loop-at-preserved c values valid same times =
    let pushed : is_ok c.push.result ≡ true = search rules in
    let at_time = c.in_ok-time.ensures.time _ times in
    let more = one_more values c.args.rows.now valid same c.loop-at.at c.index-rows-at.result c.in-Ok-Some.accepted _ c.loop-at-test.true c.index-rows-at.is at_time (λ x has row. sym c.in-Ok-Some.field-0-is ∙ c.in-Ok-Some.ensures x has row) in
    rw pushed at c.push.ensures.items ∙ ap (λ l. l ++ c.timed.result ∷ []) (c.loop-at.invariant values valid same times) ∙ ap (λ x. take c.loop-at.at values ++ x ∷ []) c.timed.ensures ∙ sym more
