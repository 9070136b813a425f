use Rattle.std.proofs.Common.{◌≡◌, ◌-◌, length}
use Rattle.verdict.specs.Lanes.{AreLanes}
use Rattle.verdict.specs.Openings.{IsAt}
use Rattle.verdict.proofs.branches.progress.Progress.open_all.Given as goal

abbrev pub invariant-loop-alloc : goal.invariant-loop-alloc
invariant-loop-alloc g l =
    let r = g.R.Recovery in
    let p = l.self in
    IsAt (r.alike l.recovery) (r.asks l.recovery) (r.judged l.recovery) (r.low l.recovery) (r.high l.recovery) (r.lines l.recovery) p.opened p.findings.found.items p.findings.least l.least p.findings.asked
    × (length p.findings.asked ≡ length l.fn.self.findings.asked)
    × (length p.findings.least ≡ length l.fn.self.findings.least)
    × (length l.run.numbers ≡ length l.fn.run.numbers)
    × r.fits l.recovery l.workspace
    × (p.opened ≡ 0 → length p.findings.found.items ≡ 1)
    × AreLanes (r.fits l.recovery) (r.lines l.recovery) l.lanes.items

abbrev pub decreases-loop-alloc : goal.decreases-loop-alloc
decreases-loop-alloc g l = l.limit - l.self.opened
