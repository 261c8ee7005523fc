use Rattle.std.specs.Map.Iter.{deref_pair}
use Rattle.std.specs.String.{string_bytes}
use Rattle.std.proofs.lemmas.Map.Iter.{rest_more}
use Rattle.registry_reports.specs.Holders.{tally_lines}
use Rattle.registry_reports.proofs.HolderLemmas.{line_next}
use Rattle.registry_reports.proofs.owners.lines_of.Goals as goal

pub loop-slug-preserved : goal.loop-slug-preserved
loop-slug-preserved c =
    line_next c.loop-slug.slug-iterator c.next.new.self c.in-Some.slug.now c.in-Some.tally.now (string_bytes c.loop-slug.text) (string_bytes c.push_holder.new.text) (tally_lines c.args.tallies.now.entries)
    (rest_more deref_pair c.loop-slug.slug-iterator c.next.new.self c.next.result (c.in-Some.slug, c.in-Some.tally) c.in-Some.is c.next.ensures.steps) c.loop-slug.invariant c.in_ok-push_holder.ensures
