use Rattle.std.proofs.Common.{◌≤◌, length}
use Rattle.assemble.specs.Passes.{FindingEarly}
use Rattle.assemble.specs.Positions.{IsWithin}
use Rattle.assemble.proofs.all_faults.early.early_faults.Given as goal

abbrev pub invariant-loop-line : goal.invariant-loop-line
invariant-loop-line l = record {
  passed : FindingEarly l.source l.rest l.number l.position l.labels l.found.items;
  within : IsWithin l.position;
  few : length l.found.items ≤ l.most;
}

abbrev pub decreases-loop-line : goal.decreases-loop-line
decreases-loop-line l = length l.rest
