-- The starts ascend, so a binary search finds where they pass the number.
use Rattle.std.proofs.Common.{leb, rules}
use Rattle.std.proofs.lemmas.Bool.{leb-true, leb-false}
use Rattle.std.proofs.lemmas.List.Sorted.{IsPartitionPoint-from_clause, IsPartitionedBy-leb}
use Rattle.usbnum_core.proofs.SpreadLemmas.{rising_first}
use Rattle.usbnum_core.proofs.parts.begun_by.Goals as goal

pub returns : goal.returns
returns c =
    let parted = IsPartitionedBy-leb (λ part. part.first) _ c.args.number (rising_first _ _ c.requires) in
    let point = IsPartitionPoint-from_clause (λ part. leb part.first c.args.number) _ _ c.partition_point.ensures.partitioned parted (λ a r f called. search rules) in
    record {
      within = search rules;
      before = λ k d from lt. leb-true _ _ (point.0 k d from lt);
      after = λ k d from lt. leb-false _ _ (point.1 k d from lt);
    }
