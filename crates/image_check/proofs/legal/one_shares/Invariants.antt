use Rattle.std.proofs.Common.{ℕ, ◌<◌}
use Rattle.std.specs.Prelude.{slice_index_or}
use Rattle.image_check.specs.OrderFaults.{ShareInode}
use Rattle.image_check.specs.declared.legal.UnderWay.{UnderWay}
use Rattle.image_check.proofs.legal.one_shares.Given as goal

abbrev pub invariant-loop-other : goal.invariant-loop-other
invariant-loop-other l =
    (k : ℕ) (d : UnderWay) → k < l.other-index → ¬ ShareInode l.plan.operations (slice_index_or l.under_way k d).op l.op
