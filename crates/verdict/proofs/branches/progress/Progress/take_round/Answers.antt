use Rattle.std.proofs.Common.{◌<◌, ◌∙◌, length, ◌++◌, [], refl, append-nil, sym, arith}
use Rattle.verdict.specs.Pieces.{IsPiece}
use Rattle.verdict.proofs.Answering.{from_next, longer_still, piece_now}
use Rattle.verdict.proofs.branches.progress.Progress.take_round.Goals as goal

pub loop-piece-init : goal.loop-piece-init
loop-piece-init g c =
    (c.requires.at, omega arith, ([], sym (append-nil c.args.self.now.findings.found.items)), refl, refl, λ k d from less. c.requires.pieces k d less)

pub take_piece-requires-clause-piece : goal.take_piece-requires-clause-piece
take_piece-requires-clause-piece g c κs within =
    let r = g.R.Recovery in
    let s = c.args.recovery.now in
    let i = c.loop-piece.invariant in
    let there : c.loop-piece.piece-index < length c.loop-piece.piece-items =
    (let test = c.loop-piece-test.true in let same = c.loop-piece.auto.piece-items in omega (arith, test, same)) in
    piece_now (r.asks s) (r.judged s) (r.alike s) (r.low s) (r.high s) (r.lines s) c.args.self.now.findings.found.items i.2.0 c.loop-piece.self.findings.found.items
    c.loop-piece.piece-items c.loop-piece.piece-index c.piece-item.result c.requires.at.opening.nodes.tree i.2.1 there i.5

pub loop-piece-preserved : goal.loop-piece-preserved
loop-piece-preserved g c =
    let r = g.R.Recovery in
    let s = c.args.recovery.now in
    let i = c.loop-piece.invariant in
    let e = c.in_ok-kept.ensures in
    let on = e.on in
    let at = i.1 in (
      e.at,
      omega (arith, on, at),
      (
        i.2.0 ++ e.longer.0,
        longer_still c.args.self.now.findings.found.items i.2.0 c.loop-piece.self.findings.found.items e.longer.0 c.take_piece.new.self.findings.found.items i.2.1 e.longer.1,
      ),
      c.take_piece.ensures.size ∙ i.3,
      c.take_piece.ensures.least_size ∙ i.4,
      from_next (IsPiece (r.asks s) (r.judged s) (r.alike s) (r.low s) (r.high s) (r.lines s) c.args.self.now.findings.found.items)
          c.loop-piece.piece-items c.loop-piece.piece-index _ i.5,
    )

pub take_piece-requires-clause-size : goal.take_piece-requires-clause-size
take_piece-requires-clause-size g c κs within = c.loop-piece.invariant.3 ∙ c.requires.size

pub take_piece-requires-clause-least_size : goal.take_piece-requires-clause-least_size
take_piece-requires-clause-least_size g c κs within = c.loop-piece.invariant.4 ∙ c.requires.least_size

pub take_piece-requires-clause-at : goal.take_piece-requires-clause-at
take_piece-requires-clause-at g c κs within = c.loop-piece.invariant.0

pub returns-clause-at : goal.returns-clause-at
returns-clause-at g c = c.loop-piece.invariant.0
