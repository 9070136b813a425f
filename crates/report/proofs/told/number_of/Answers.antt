use Rattle.std.proofs.Common.{ℕ, rules}
use Rattle.std.specs.Global.{Vec}
use Rattle.std.proofs.lemmas.List.Sorted.{IsPartitionPoint-from_clause}
use Rattle.report.specs.Told.{is_below}
use Rattle.report.proofs.TracePlaces.{numbered_at, parted}
use Rattle.report.proofs.told.number_of.Goals as goal

pub returns : goal.returns
returns c =
    numbered_at c.args.places.now c.args.place.now _ c.requires.upwards c.requires.there
    (IsPartitionPoint-from_clause (λ (other : Vec ℕ). is_below other.items c.args.place.now) _ _ c.partition_point.ensures.partitioned
    (parted c.args.places.now c.args.place.now c.requires.upwards) (λ a r q k. search rules))
