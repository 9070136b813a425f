use Rattle.std.proofs.Common.{rules, leb, arith}
use Rattle.std.proofs.lemmas.List.Sorted.{IsPartitionPoint-from_clause, IsPartitionedBy-leb}
use Rattle.random_schedule.proofs.Drawn.{lines_are, some_by}
use Rattle.random_schedule.proofs.evictions.stores_by.Goals as goal

pub returns-clause-lines : goal.returns-clause-lines
returns-clause-lines c =
    let count = IsPartitionPoint-from_clause (λ store. leb store.step c.args.step) _ _ c.partition_point-count.ensures.partitioned
    (IsPartitionedBy-leb (λ store. store.step) _ c.args.step c.requires) (λ a r q k. search rules) in
    lines_are _ _ c.args.step _ (omega arith) c.split_at.ensures.front count

pub returns-clause-some : goal.returns-clause-some
returns-clause-some c = λ first begins made.
    let count = IsPartitionPoint-from_clause (λ store. leb store.step c.args.step) _ _ c.partition_point-count.ensures.partitioned
    (IsPartitionedBy-leb (λ store. store.step) _ c.args.step c.requires) (λ a r q k. search rules) in
    some_by _ _ first c.args.step (lines_are _ _ c.args.step _ (omega arith) c.split_at.ensures.front count) begins made
