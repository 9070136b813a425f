use Rattle.verdict.specs.Lanes.{AreLanes}
use Rattle.verdict.proofs.branches.rounds.add_lanes.Given as goal

abbrev pub invariant-loop : goal.invariant-loop
invariant-loop g l =
    let r = g.R.Recovery in
    AreLanes (r.fits l.recovery) (r.lines l.recovery) l.lanes.items
