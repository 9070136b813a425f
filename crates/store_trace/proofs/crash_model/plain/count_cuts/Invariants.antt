use Rattle.std.proofs.Common.{◌≡◌, ◌≤◌, reverse, take}
use Rattle.store_trace.specs.Cut.{count_of, stored_lines}
use Rattle.store_trace.proofs.crash_model.plain.count_cuts.Given as goal

abbrev pub invariant-loop-at : goal.invariant-loop-at
invariant-loop-at l = (l.count ≡ count_of (reverse l.steps) (stored_lines (reverse (take l.at l.steps)))) × (l.count ≤ 65536)
