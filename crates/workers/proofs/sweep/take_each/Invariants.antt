use Rattle.std.proofs.Common.{◌≡◌, ◌-◌, ◌≤◌, length}
use Rattle.workers.specs.Sweeps.{IsTally}
use Rattle.workers.proofs.sweep.take_each.Given as goal

abbrev pub invariant-loop : goal.invariant-loop
invariant-loop g l = (l.seat.desk ≡ l.desk.name)
    × (length l.seat.claimed ≤ l.desk.name.moments)
    × g.J.Judge.keeps l.job l.state
    × IsTally (g.J.Judge.passes l.job) (g.J.Judge.fails l.job) l.desk.name.moments l.seat.claimed l.seat.bad l.seat.found l.best

abbrev pub decreases-loop : goal.decreases-loop
decreases-loop g l = l.desk.name.moments - length l.seat.claimed
