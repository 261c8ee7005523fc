use Rattle.std.proofs.Common.{ℕ, map, filter, sym, ap, subst, ◌∙◌, rules}
use Rattle.sqlite_keyed.specs.Lists.{sort_by}
use Rattle.registry_rows.specs.Rows.{by_number, is_between}
use Rattle.registry_tables.specs.Finds.{AreHoldings, holding_at}
use Rattle.registry_tables.proofs.HoldingLemmas.{holdings_are}
use Rattle.registry_tables.proofs.ReadLemmas.{rows_pass, rows_fail, rows_short, fault_store}
use Rattle.registry_tables.proofs.facts.holdings_within.Goals as goal

pub returns-in-Ok-clause-reads : goal.returns-in-Ok-clause-reads
returns-in-Ok-clause-reads g c =
    let range = c.args.range.now in
    rows_pass (λ h t legal has had kept is.
    let listed = λ (a b : ℕ). sort_by by_number (filter (is_between range.vid a b) t.entries) in
    let all = is ∙ ap (λ a. listed a c.last.result) c.first.ensures ∙ ap (listed range.span.first) c.last.ensures.last in
    subst (AreHoldings range h) (sym (c.in-Ok.ensures ∙ ap (map holding_at) all)) (holdings_are h legal t.entries had.entries range)) c.in_ok-entries.ensures.reads

pub returns-in_err-entries-clause-reads : goal.returns-in_err-entries-clause-reads
returns-in_err-entries-clause-reads g c =
    rows_fail (search rules) c.in_err-entries.ensures.reads

pub returns-in-Err-clause-reads : goal.returns-in-Err-clause-reads
returns-in-Err-clause-reads g c =
    rows_short (λ never. absurd cc) c.in_ok-entries.ensures.reads

pub returns-in_err-entries-clause-store : goal.returns-in_err-entries-clause-store
returns-in_err-entries-clause-store g c = fault_store (search rules) c.in_err-entries.ensures.reads
