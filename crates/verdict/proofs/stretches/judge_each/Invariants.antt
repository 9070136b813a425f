use Rattle.std.proofs.Common.{ℕ, ◌<◌, ◌≤◌}
use Rattle.verdict.specs.declared.moment_verdict.verdict.MomentVerdict.TheVariants as moments
use Rattle.verdict.proofs.stretches.judge_each.Given as goal

abbrev pub invariant-loop-moment : goal.invariant-loop-moment
invariant-loop-moment g l = g.M.Moments.keeps l.fn.run l.judge
    × ((m : ℕ) → l.first ≤ m → m < l.moment → g.M.Moments.judged l.fn.run m moments.Pass)
