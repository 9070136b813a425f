use Rattle.std.proofs.Common.{◌≡◌, length}
use Rattle.routine_judge.proofs.OutsideGoing.{IsGoing}
use Rattle.routine_judge.proofs.outside.judging.OutsideRun.first_not_passing.Given as goal

abbrev pub invariant-loop : goal.invariant-loop
invariant-loop g l = IsGoing g.A.Answering.gives l.self.start l.self.events l.first l.end l.fn.answering l.next l.replies l.answering
    × (length l.opener ≡ length l.self.start)
