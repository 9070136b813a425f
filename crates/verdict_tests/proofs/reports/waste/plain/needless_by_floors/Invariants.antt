use Rattle.std.proofs.Common.{◌≡◌, ◌+◌, ◌≤◌, length}
use Rattle.verdict_tests.proofs.reports.waste.plain.needless_by_floors.Given as goal

abbrev pub invariant-loop-made : goal.invariant-loop-made
invariant-loop-made l = record {
  few : length l.left.items ≤ 65536;
  place : l.at + length l.run ≡ l.made-index + length l.left.items;
}
