use Rattle.std.proofs.Common.{◌<◌, arith, length}
use Rattle.verdict.proofs.Answering.{from_next}
use Rattle.verdict.proofs.Taking.{all_taken, lanes_set}
use Rattle.verdict.specs.Lanes.{HasOpened}
use Rattle.verdict.specs.Pieces.{IsPiece}
use Rattle.verdict.proofs.branches.rounds.take_all.Goals as goal

pub loop-lane-preserved : goal.loop-lane-preserved
loop-lane-preserved g c =
    let r = g.R.Recovery in
    let s = c.args.recovery.now in
    let i = c.loop-lane.invariant in
    let lanes = c.loop-lane.lane-items in
    let at = c.loop-lane.lane-index in
    let lane = c.lane-item.result in
    let e = c.in_ok-take_opened.ensures.pieces in
    let there : at < length lanes = (let test = c.loop-lane-test.true in let same = c.loop-lane.auto.lane-items in omega (arith, test, same)) in (
      lanes_set (r.fits s) (r.lines s) lanes at lane c.take_opened.new.lane there c.take_opened.ensures.tools i.0,
      from_next (HasOpened (IsPiece (r.asks s) (r.judged s) (r.alike s) (r.low s) (r.high s) (r.lines s) c.args.queue.now)) lanes at c.take_opened.new.lane i.1,
      all_taken (IsPiece (r.asks s) (r.judged s) (r.alike s) (r.low s) (r.high s) (r.lines s) c.args.queue.now) lanes at lane e.0 c.take_opened.new.pieces.items c.loop-lane.pieces.items
          there e.1 e.2 i.1 i.2,
    )
