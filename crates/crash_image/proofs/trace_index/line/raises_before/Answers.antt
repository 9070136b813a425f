use Rattle.std.proofs.Common.{ltb, rules}
use Rattle.std.proofs.lemmas.List.Sorted.{IsPartitionPoint-from_clause}
use Rattle.crash_image.proofs.Places.{place_found, place_parts}
use Rattle.crash_image.specs.Lines.{raise_event}
use Rattle.crash_image.specs.declared.trace_index.line.Raise.{Raise}
use Rattle.crash_image.proofs.trace_index.line.raises_before.Goals as goal

pub returns-clause-place : goal.returns-clause-place
returns-clause-place c = λ count p.
    let none : Raise = record { event = 0; floor = 0 } in
    let parted = place_parts raise_event c.args.raises.now c.args.moment count p in
    let point = IsPartitionPoint-from_clause (λ (x : Raise). ltb x.event c.args.moment) _ _ c.partition_point.ensures.partitioned parted (λ a r q k. search rules) in
    place_found raise_event c.args.raises.now none c.args.moment count c.partition_point.result p c.partition_point.ensures.bound point
