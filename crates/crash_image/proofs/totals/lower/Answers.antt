use Rattle.std.proofs.Common.{ℕ, ◌-◌, arith}
use Rattle.crash_image.proofs.Totaling.{map_step}
use Rattle.crash_image.proofs.totals.lower.Goals as goal

pub loop-at-preserved : goal.loop-at-preserved
loop-at-preserved c =
    map_step (λ (n : ℕ). n - c.args.rise) c.args.numbers.now c.loop-at.numbers c.loop-at.at c.saturating_sub.result 0 (omega arith)
    c.loop-at.auto.numbers c.loop-at.invariant c.saturating_sub.ensures
