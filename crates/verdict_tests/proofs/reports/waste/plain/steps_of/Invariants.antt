use Rattle.std.proofs.Common.{◌≡◌, length}
use Rattle.verdict_tests.proofs.reports.waste.plain.steps_of.Given as goal

abbrev pub invariant-loop-made : goal.invariant-loop-made
invariant-loop-made l = length l.steps.items ≡ l.made-index
