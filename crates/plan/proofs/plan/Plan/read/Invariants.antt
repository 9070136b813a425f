use Rattle.std.proofs.Common.{◌+◌, ◌≤◌, length}
use Rattle.plan.proofs.Reading.{IsReading}
use Rattle.plan.proofs.plan.Plan.read.Given as goal

abbrev pub invariant-loop-line : goal.invariant-loop-line
invariant-loop-line l = IsReading l.text l.number l.rest l.draft × (l.number + length l.rest ≤ length l.text + 1)

abbrev pub decreases-loop-line : goal.decreases-loop-line
decreases-loop-line l = length l.rest
