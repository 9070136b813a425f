use Rattle.std.proofs.Common.{◌≡◌, length, take}
use Rattle.verdict.proofs.Edging.{IsFull}
use Rattle.verdict.proofs.branches.run.Run.fill.Given as goal

abbrev pub invariant-loop-line : goal.invariant-loop-line
invariant-loop-line g l =
    IsFull (g.R.Recovery.high l.recovery) (take l.line-index l.lines) l.self.numbers × (length l.self.numbers ≡ length l.fn.self.numbers)
