use Rattle.std.proofs.Common.{take}
use Rattle.routine_judge.specs.Outside.{HasNoneOn}
use Rattle.routine_judge.proofs.outside.replies.Replies.find.Given as goal

abbrev pub invariant-loop-at : goal.invariant-loop-at
invariant-loop-at g l = HasNoneOn l.index.start l.index.events (take l.at l.self.known.items) (g.S.Source.medium l.medium)
