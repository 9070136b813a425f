use Rattle.std.proofs.Common.{◌≡◌, length, take}
use Rattle.store_trace.specs.History.{history}
use Rattle.crash_image.specs.FloorScan.{AreTallies}
use Rattle.crash_image.proofs.bounds.line_bounds.Given as goal

abbrev pub invariant-loop-at : goal.invariant-loop-at
invariant-loop-at l = AreTallies (history l.events) (history (take l.at l.events)) l.at l.fenced l.tallies.items × (length l.tallies.items ≡ l.lines)
