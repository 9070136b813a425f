-- The moments before the next one pass or are open, and progress was told of such moments.
use Rattle.std.proofs.Common.{◌-◌}
use Rattle.verdict.proofs.Watching.{IsAt}
use Rattle.verdict.proofs.part.Part.judge_watched.Given as goal

abbrev pub invariant-loop-next : goal.invariant-loop-next
invariant-loop-next g l = IsAt g.P.Progress.hears l.goes_on (g.M.Moments.judged l.self.run) (g.M.Moments.events l.self.run) l.self.first l.self.end l.next
    l.images l.open l.fn.progress l.progress

abbrev pub decreases-loop-next : goal.decreases-loop-next
decreases-loop-next g l = l.self.end - l.next
