use Rattle.std.proofs.Common.{◌+◌, ◌≤◌, length}
use Rattle.command_line.proofs.FirstBad.{IsPassed}
use Rattle.command_line.proofs.items.bad_item.Given as goal

abbrev pub invariant-loop-word : goal.invariant-loop-word
invariant-loop-word l = IsPassed l.text l.passed l.rest × (l.passed + length l.rest ≤ length l.text)

abbrev pub decreases-loop-word : goal.decreases-loop-word
decreases-loop-word l = length l.rest
