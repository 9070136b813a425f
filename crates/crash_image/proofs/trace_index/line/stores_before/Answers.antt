use Rattle.std.proofs.Common.{ltb, [], rules}
use Rattle.std.proofs.lemmas.List.Sorted.{IsPartitionPoint-from_clause}
use Rattle.crash_image.proofs.Places.{place_found, place_parts}
use Rattle.crash_image.specs.Lines.{store_event}
use Rattle.crash_image.specs.declared.trace_index.line.StoredLine.{StoredLine}
use Rattle.crash_image.proofs.trace_index.line.stores_before.Goals as goal

pub returns-clause-place : goal.returns-clause-place
returns-clause-place c = λ count p.
    let none : StoredLine = record { event = 0; bytes = [] } in
    let parted = place_parts store_event c.args.stores.now c.args.moment count p in
    let point = IsPartitionPoint-from_clause (λ (x : StoredLine). ltb x.event c.args.moment) _ _ c.partition_point.ensures.partitioned parted (λ a r q k. search rules) in
    place_found store_event c.args.stores.now none c.args.moment count c.partition_point.result p c.partition_point.ensures.bound point
