use Rattle.std.proofs.Common.{◌≡◌, ◌≤◌, ◌⊎◌, [], ◌∷◌, ◌++◌, take, sym, ap, subst, ◌∙◌, arith, rules}
use Rattle.std.proofs.lemmas.List.{take_more, take_all}
use Rattle.registry_tables.specs.Reserved.{Reaches}
use Rattle.registry_tables.proofs.SpanLists.{reaches_more}
use Rattle.registry_tables.proofs.spans.reach.Goals as goal

pub loop-other-preserved : goal.loop-other-preserved
loop-other-preserved c =
    let one = c.loop-other-item.result in
    let i = c.loop-other.other-index in
    let low : c.min-least.result ≤ c.loop-other.least = search rules in
    let low_one : c.min-least.result ≤ c.first.result = search rules in
    let from : (c.min-least.result ≡ c.loop-other.least) ⊎ (c.min-least.result ≡ c.first.result) = search rules in
    let high : c.loop-other.greatest ≤ c.max-greatest.result = search rules in
    let high_one : c.last.result ≤ c.max-greatest.result = search rules in
    let to : (c.max-greatest.result ≡ c.loop-other.greatest) ⊎ (c.max-greatest.result ≡ c.last.result) = search rules in
    let first : c.first.result ≡ one.1.first = c.first.ensures in
    let last : c.last.result ≡ one.1.last = c.last.ensures.last in
    let more = take_more c.args.found.now i one c.loop-other-test.true ∙ ap (λ x. take i c.args.found.now ++ x ∷ []) (sym c.loop-other-item.is) in
    subst (λ l. Reaches c.args.span.now l c.min-least.result c.max-greatest.result) (sym more)
    (reaches_more c.args.span.now (take i c.args.found.now) one c.loop-other.least c.loop-other.greatest c.min-least.result c.max-greatest.result c.loop-other.invariant
    low (subst (λ n. c.min-least.result ≤ n) first low_one) (subst (λ n. (c.min-least.result ≡ c.loop-other.least) ⊎ (c.min-least.result ≡ n)) first from)
    high (subst (λ n. n ≤ c.max-greatest.result) last high_one) (subst (λ n. (c.max-greatest.result ≡ c.loop-other.greatest) ⊎ (c.max-greatest.result ≡ n)) last to))

pub returns : goal.returns
returns c = let all = take_all c.loop-other.other-index c.args.found.now (omega arith) in subst (λ l. Reaches c.args.span.now l c.loop-other.least c.loop-other.greatest) all c.loop-other.invariant
