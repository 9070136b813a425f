use Rattle.std.proofs.lemmas.List.Elements.{All-push}
use Rattle.verdict.specs.Pieces.{IsPiece}
use Rattle.verdict.proofs.branches.lanes.open_pieces.Goals as goal

pub loop-number-preserved : goal.loop-number-preserved
loop-number-preserved g c =
    let r = g.R.Recovery in
    let s = c.args.recovery.now in (
      rw c.in_ok-push.ensures.items
          (All-push (IsPiece (r.asks s) (r.judged s) (r.alike s) (r.low s) (r.high s) (r.lines s) c.args.queue.now) c.loop-number.pieces.items c.in_ok-piece.piece c.loop-number.invariant.0 c.in_ok-piece.ensures.piece),
      c.open_piece.ensures.tools,
    )
