use Rattle.std.proofs.Common.{ltb, rules}
use Rattle.std.proofs.lemmas.List.Sorted.{IsPartitionPoint-from_clause}
use Rattle.image_check.specs.declared.legal.UnderWay.{UnderWay}
use Rattle.image_check.proofs.Rising.{parted_as, place_in}
use Rattle.image_check.proofs.legal.Outcomes.place_of.Goals as goal

pub returns-clause-place : goal.returns-clause-place
returns-clause-place c = λ h.
    place_in (λ (u : UnderWay). u.op) c.deref.result.now c.args.self.now.under_way.items c.partition_point.result c.args.op c.deref.ensures.value
    (IsPartitionPoint-from_clause (λ (u : UnderWay). ltb u.op c.args.op) _ _ c.partition_point.ensures.partitioned
    (parted_as (λ (u : UnderWay). u.op) c.deref.result.now c.args.self.now.under_way.items c.args.op c.deref.ensures.value h) (λ a r q k. search rules))
