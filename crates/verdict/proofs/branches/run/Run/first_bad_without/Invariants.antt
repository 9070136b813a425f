use Rattle.std.proofs.Common.{◌≡◌, length, take}
use Rattle.std.specs.Prelude.{None}
use Rattle.std.specs.List.{AllByRecursion}
use Rattle.verdict.specs.Edges.{all_full}
use Rattle.verdict.specs.Queue.{with_number}
use Rattle.verdict.proofs.Edging.{IsFull}
use Rattle.verdict.proofs.branches.run.Run.first_bad_without.Given as goal

abbrev pub invariant-loop-line : goal.invariant-loop-line
invariant-loop-line g l =
    let r = g.R.Recovery in
    let s = l.recovery in
    IsFull (r.high s) l.lines l.self.numbers
    × AllByRecursion (λ m. r.judged s (with_number (all_full (r.low s) (r.high s) l.lines) m (r.low s m)) None) (take l.line-index l.lines)
    × (length l.self.numbers ≡ length l.fn.self.numbers) × r.fits s l.workspace
