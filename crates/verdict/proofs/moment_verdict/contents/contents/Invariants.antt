use Rattle.std.proofs.Common.{◌≡◌, ◌+◌, ◌-◌, ◌^◌, ◌≤◌}
use Rattle.verdict.specs.Branches.{is_first, question}
use Rattle.verdict.specs.Contents.{how_many}
use Rattle.verdict.proofs.moment_verdict.contents.contents.Given as goal

abbrev pub invariant-loop-below : goal.invariant-loop-below
invariant-loop-below g l =
    let r = g.R.Recovery in
    let low = r.low l.recovery l.line in
    (low ≤ l.below) × (l.below ≤ l.below-end)
    × (l.count ≡ 1 + how_many (is_first (r.alike l.recovery (question l.line (2 ^ 64 - 1))) low) (low + 1) (l.below - low))
