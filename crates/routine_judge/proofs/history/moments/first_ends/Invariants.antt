use Rattle.std.proofs.Common.{◌≡◌, ℕ, ◌≤◌, drop, length}
use Rattle.std.specs.BTreeMap.{get}
use Rattle.std.specs.List.{position_from}
use Rattle.std.specs.Ordering.{nat_cmp}
use Rattle.routine_judge.specs.Windows.{is_end_of}
use Rattle.routine_judge.proofs.history.moments.first_ends.Given as goal

abbrev pub invariant-loop-at : goal.invariant-loop-at
invariant-loop-at l =
    (l.at ≤ length l.events) × ((op : ℕ) → get nat_cmp l.ends op ≡ position_from (is_end_of op) l.at (drop l.at l.events))

abbrev pub decreases-loop-at : goal.decreases-loop-at
decreases-loop-at l = l.at
