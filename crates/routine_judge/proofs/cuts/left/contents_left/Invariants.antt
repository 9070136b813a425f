use Rattle.std.proofs.Common.{take}
use Rattle.recovery.specs.Boxes.{left_of_line}
use Rattle.routine_judge.specs.LeftContents.{HaveSame}
use Rattle.store_trace.specs.History.{history}
use Rattle.routine_judge.proofs.cuts.left.contents_left.Given as goal

abbrev pub invariant-loop-start : goal.invariant-loop-start
invariant-loop-start l = HaveSame l.left (left_of_line l.line (history l.events) (take l.start-index l.contents))
