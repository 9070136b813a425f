use Rattle.std.proofs.Common.{ltb, refl, rules}
use Rattle.std.proofs.lemmas.List.Sorted.{IsPartitionPoint-from_clause}
use Rattle.image_check.proofs.Rising.{parted_as, place_in}
use Rattle.routine_judge.specs.declared.order.entry.Entry.{Entry}
use Rattle.routine_judge.proofs.order.entry.place_of.Goals as goal

pub returns-clause-place : goal.returns-clause-place
returns-clause-place c = λ h.
    place_in (λ (e : Entry). e.op) c.args.entries.now c.args.entries.now c.partition_point.result c.args.op refl
    (IsPartitionPoint-from_clause (λ (e : Entry). ltb e.op c.args.op) _ _ c.partition_point.ensures.partitioned
    (parted_as (λ (e : Entry). e.op) c.args.entries.now c.args.entries.now c.args.op refl h) (λ a r q k. search rules))
