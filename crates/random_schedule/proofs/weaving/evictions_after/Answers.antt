use Rattle.std.proofs.Common.{rules, leb, ltb, arith, ◌∙◌}
use Rattle.std.proofs.lemmas.List.Sorted.{IsNonDecreasingBy-drop, IsPartitionPoint-from_clause, IsPartitionedBy-leb, IsPartitionedBy-ltb}
use Rattle.random_schedule.proofs.Filters.{middle_at}
use Rattle.random_schedule.proofs.weaving.evictions_after.Goals as goal

pub returns : goal.returns
returns c =
    let step = c.args.step in
    let start = IsPartitionPoint-from_clause (λ eviction. ltb eviction.step step) _ _ c.partition_point-start.ensures.partitioned
    (IsPartitionedBy-ltb (λ eviction. eviction.step) _ step c.requires) (λ a r q k. search rules) in
    let count = IsPartitionPoint-from_clause (λ eviction. leb eviction.step step) _ _ c.partition_point-count.ensures.partitioned
    (IsPartitionedBy-leb (λ eviction. eviction.step) _ step (rw c.split_at.ensures.back (IsNonDecreasingBy-drop (λ eviction. eviction.step) c.partition_point-start.result _ c.requires))) (λ a r q k. search rules) in
    c.split_at-2.ensures.front ∙ middle_at (λ eviction. eviction.step) _ _ step _ _ c.split_at.ensures.back (omega arith) (omega arith) start count
