use Rattle.std.proofs.Common.{List, take}
use Rattle.routine_judge.proofs.Noting.{AreNoted}
use Rattle.routine_judge.specs.Order.{AreOrdered}
use Rattle.routine_judge.specs.SequentialRuns.{AreSequentialRuns}
use Rattle.routine_judge.specs.Views.{ProgramView}
use Rattle.store_trace.specs.declared.event.Event.{Event}
use Rattle.routine_judge.proofs.right.RightAnswers.of_fitting.Given as goal

abbrev pub invariant-loop-note : goal.invariant-loop-note
invariant-loop-note l = (view : ProgramView) (p : List Event) → AreSequentialRuns view l.notes → AreOrdered p l.precedence →
    AreNoted view p (take l.note-index l.notes) l.right
