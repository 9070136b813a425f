use Rattle.verdict.proofs.Widening.{AreFound}
use Rattle.verdict.proofs.branches.findings.Findings.open_lines.Given as goal

abbrev pub invariant-loop-line : goal.invariant-loop-line
invariant-loop-line g l =
    let r = g.R.Recovery in
    AreFound (r.low l.recovery) (r.high l.recovery) (r.lines l.recovery) l.self.asked l.line l.lines.items
