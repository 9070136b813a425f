use Rattle.std.proofs.Common.{◌≡◌, map, take}
use Rattle.std.specs.Prelude.{filter}
use Rattle.routine_judge.specs.Order.{Begun, begun_of}
use Rattle.routine_judge.proofs.order.entry.ended_in.Given as goal

abbrev pub invariant-loop-entry : goal.invariant-loop-entry
invariant-loop-entry l =
    l.ops.items ≡ map (λ (b : Begun). b.op) (filter (λ (b : Begun). b.has_ended) (map begun_of (take l.entry-index l.entries)))
