use Rattle.std.proofs.Common.{◌≡◌, ◌≤◌, ◌++◌, List, length}
use Rattle.verdict.specs.declared.branches.queue.Entry.{Entry}
use Rattle.verdict.specs.Openings.{IsAt}
use Rattle.verdict.specs.Pieces.{IsPiece}
use Rattle.verdict.proofs.Answering.{AreFrom}
use Rattle.verdict.proofs.branches.progress.Progress.take_round.Given as goal

abbrev pub invariant-loop-piece : goal.invariant-loop-piece
invariant-loop-piece g l =
    let r = g.R.Recovery in
    let s = l.recovery in
    let p = l.self in
    let old = l.fn.self.findings in
    IsAt (r.alike s) (r.asks s) (r.judged s) (r.low s) (r.high s) (r.lines s) p.opened p.findings.found.items p.findings.least l.kept p.findings.asked
    × (l.fn.self.opened ≤ p.opened)
    × ((more : List Entry) × (p.findings.found.items ≡ old.found.items ++ more))
    × (length p.findings.asked ≡ length old.asked)
    × (length p.findings.least ≡ length old.least)
    × AreFrom (IsPiece (r.asks s) (r.judged s) (r.alike s) (r.low s) (r.high s) (r.lines s) old.found.items) l.piece-index l.piece-items
