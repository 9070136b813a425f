use Rattle.std.proofs.Common.{ℕ, ◌<◌}
use Rattle.std.specs.Prelude.{slice_index_or}
use Rattle.store_trace.specs.declared.event.Event.{Event}
use Rattle.image_check.specs.OrderFaults.{OpensSharer}
use Rattle.image_check.proofs.order.shares_pending.Given as goal

abbrev pub invariant-loop-index : goal.invariant-loop-index
invariant-loop-index l =
    (k : ℕ) (d : Event) → k < l.index → ¬ OpensSharer l.plan.operations l.before (slice_index_or l.before k d) l.op
