use Rattle.std.proofs.Common.{take}
use Rattle.routine_judge.specs.MarkFaults.{AreSound}
use Rattle.routine_judge.specs.Operations.{AreMarked}
use Rattle.routine_judge.proofs.history.check.check_marks.Given as goal

abbrev pub invariant-loop-at : goal.invariant-loop-at
invariant-loop-at l = AreSound l.overlap l.events l.at × AreMarked (take l.at l.events) l.operations
