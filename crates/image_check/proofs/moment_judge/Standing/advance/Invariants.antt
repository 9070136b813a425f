use Rattle.std.proofs.Common.{◌-◌, ◌≤◌}
use Rattle.image_check.specs.Standing.{IsStanding}
use Rattle.image_check.proofs.moment_judge.Standing.advance.Given as goal

abbrev pub invariant-loop-self : goal.invariant-loop-self
invariant-loop-self l = IsStanding l.run l.opener l.self × (l.self.moment ≤ l.moment)

abbrev pub decreases-loop-self : goal.decreases-loop-self
decreases-loop-self l = l.moment - l.self.moment
