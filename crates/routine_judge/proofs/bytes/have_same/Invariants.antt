use Rattle.std.proofs.Common.{◌≡◌, ◌/◌, ◌^◌, ◌≤◌}
use Rattle.std.specs.Prelude.{drop}
use Rattle.recovery.specs.Images.{same_at}
use Rattle.routine_judge.proofs.bytes.have_same.Given as goal

abbrev pub invariant-loop-left : goal.invariant-loop-left
invariant-loop-left l =
    (l.left ≡ l.fn.bytes / 2 ^ l.at) × (l.at ≤ 64)
    × (same_at l.fn.bytes 0 l.one l.other ≡ same_at l.fn.bytes l.at (drop l.at l.one) (drop l.at l.other))

abbrev pub decreases-loop-left : goal.decreases-loop-left
decreases-loop-left l = l.left
