-- The ends ascend, so a binary search finds where they pass the number.
use Rattle.std.proofs.Common.{ltb, rules}
use Rattle.std.proofs.lemmas.Bool.{ltb-true, ltb-false}
use Rattle.std.proofs.lemmas.List.Sorted.{IsPartitionPoint-from_clause, IsPartitionedBy-ltb}
use Rattle.usbnum_core.proofs.SpreadLemmas.{rising_last}
use Rattle.usbnum_core.proofs.parts.ended_before.Goals as goal

pub returns : goal.returns
returns c =
    let parted = IsPartitionedBy-ltb (λ part. part.last) _ c.args.number (rising_last _ _ c.requires) in
    let point = IsPartitionPoint-from_clause (λ part. ltb part.last c.args.number) _ _ c.partition_point.ensures.partitioned parted (λ a r f called. search rules) in
    record {
      within = search rules;
      before = λ k d from lt. ltb-true _ _ (point.0 k d from lt);
      after = λ k d from lt. ltb-false _ _ (point.1 k d from lt);
    }
