use Rattle.std.proofs.Common.{◌++◌, ap, ◌∙◌, ℕ, List}
use Rattle.std.specs.String.{string_bytes}
use Rattle.std.proofs.lemmas.Result.{on_ok_weaker}
use Rattle.registry_reports.proofs.CensusLineLemmas.{same_census}
use Rattle.registry_reports.proofs.counting.push_census.Goals as goal

pub returns : goal.returns
returns c = on_ok_weaker c.push_counts.result (λ e up. e ∙ ap (λ (l : List ℕ). string_bytes c.args.text.now ++ l)
    (same_census c.args.numbers.now c.args.pair.now _ _ _ _ (c.counts_of-counts.ensures.free up) c.counts_of-counts.ensures.reserved (c.counts_of-counts.ensures.held up) (c.counts_of-counts.ensures.returned up))) c.push_counts.ensures
