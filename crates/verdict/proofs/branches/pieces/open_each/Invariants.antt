use Rattle.std.proofs.Common.{◌≡◌, ◌+◌, length}
use Rattle.verdict.specs.Lanes.{AreTools}
use Rattle.verdict.specs.Pieces.{IsPiece}
use Rattle.verdict.proofs.branches.pieces.open_each.Given as goal

abbrev pub invariant-loop-place : goal.invariant-loop-place
invariant-loop-place g l =
    let r = g.R.Recovery in
    IsPiece (r.asks l.recovery) (r.judged l.recovery) (r.alike l.recovery) (r.low l.recovery) (r.high l.recovery) (r.lines l.recovery) l.queue l.piece
    × (l.place ≡ l.piece.first + l.piece.count)
    × AreTools (r.fits l.recovery) (r.lines l.recovery) l.tools
