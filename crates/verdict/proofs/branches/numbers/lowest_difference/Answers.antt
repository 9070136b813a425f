use Rattle.std.proofs.Common.{arith}
use Rattle.verdict.proofs.Listed.{lowest_kept, lowest_taken}
use Rattle.verdict.proofs.branches.numbers.lowest_difference.Goals as goal
use Rattle.verdict.proofs.branches.numbers.lowest_difference.Goals.{then-line-lowest+then-one-line, else-line-lowest, else-line-lowest-via-then-line-lowest+else-one-line, else-line-lowest-via-else-line-lowest}

pub loop-line-preserved : goal.loop-line-preserved
loop-line-preserved c = elim c.if-line-lowest.branch [
  | then-line-lowest+then-one-line w ↦
      lowest_taken c.args.one.now c.args.other.now c.args.lines.now c.args.end c.loop-line.line-index c.loop-line.lowest c.if-line-lowest.lowest
      c.loop-line-test.true w.if-line-lowest.true w.if-one-line.true w.lowest-is c.loop-line.invariant
  | else-line-lowest w ↦ elim w.else-line-lowest.branch [
    | else-line-lowest-via-then-line-lowest+else-one-line w' ↦
        lowest_kept c.args.one.now c.args.other.now c.args.lines.now c.args.end c.loop-line.line-index c.loop-line.lowest c.if-line-lowest.lowest
        c.loop-line-test.true (λ less. w'.if-one-line.false) w.lowest-is c.loop-line.invariant
    | else-line-lowest-via-else-line-lowest w' ↦
        lowest_kept c.args.one.now c.args.other.now c.args.lines.now c.args.end c.loop-line.line-index c.loop-line.lowest c.if-line-lowest.lowest
        c.loop-line-test.true (λ less. let h = w'.if-line-lowest.false in absurd (omega (arith, less, h))) w.lowest-is c.loop-line.invariant
  ]
]
