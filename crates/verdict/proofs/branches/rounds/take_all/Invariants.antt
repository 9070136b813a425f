use Rattle.std.specs.Prelude.{All}
use Rattle.verdict.proofs.Answering.{AreFrom}
use Rattle.verdict.specs.Lanes.{AreLanes, HasOpened}
use Rattle.verdict.specs.Pieces.{IsPiece}
use Rattle.verdict.proofs.branches.rounds.take_all.Given as goal

abbrev pub invariant-loop-lane : goal.invariant-loop-lane
invariant-loop-lane g l =
    let r = g.R.Recovery in
    let s = l.recovery in
    AreLanes (r.fits s) (r.lines s) l.lane-items
    × AreFrom (HasOpened (IsPiece (r.asks s) (r.judged s) (r.alike s) (r.low s) (r.high s) (r.lines s) l.queue)) l.lane-index l.lane-items
    × All (IsPiece (r.asks s) (r.judged s) (r.alike s) (r.low s) (r.high s) (r.lines s) l.queue) l.pieces.items
