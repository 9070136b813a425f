use Rattle.std.proofs.Common.{◌≡◌, ℕ, ◌||◌, length, take}
use Rattle.verdict.specs.Numbers.{has, is_flagged}
use Rattle.verdict.proofs.branches.lines.LineSet.insert_all.Given as goal

abbrev pub invariant-loop-line : goal.invariant-loop-line
invariant-loop-line l =
    ((m : ℕ) → is_flagged m l.self ≡ (is_flagged m l.fn.self || has m (take l.line-index l.lines)))
    × (length l.self ≡ length l.fn.self)
