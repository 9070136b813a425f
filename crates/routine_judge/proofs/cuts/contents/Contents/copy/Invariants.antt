use Rattle.std.proofs.Common.{◌≡◌, take}
use Rattle.routine_judge.proofs.cuts.contents.Contents.copy.Given as goal

abbrev pub invariant-loop-line : goal.invariant-loop-line
invariant-loop-line l = l.copy ≡ take l.line-index l.line-items
