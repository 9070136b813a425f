use Rattle.std.specs.Prelude.{All}
use Rattle.verdict.specs.Lanes.{AreTools}
use Rattle.verdict.specs.Pieces.{IsPiece}
use Rattle.verdict.proofs.branches.lanes.open_pieces.Given as goal

abbrev pub invariant-loop-number : goal.invariant-loop-number
invariant-loop-number g l =
    let r = g.R.Recovery in
    All (IsPiece (r.asks l.recovery) (r.judged l.recovery) (r.alike l.recovery) (r.low l.recovery) (r.high l.recovery) (r.lines l.recovery) l.queue) l.pieces.items
    × AreTools (r.fits l.recovery) (r.lines l.recovery) l.tools
