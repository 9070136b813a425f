use Rattle.std.proofs.Common.{◌≡◌, ◌≢◌, ◌⊎◌, ℕ, ◌<◌, ◌≤◌, true, take, slice_index}
use Rattle.verdict.specs.Numbers.{has}
use Rattle.verdict.proofs.branches.numbers.lowest_difference.Given as goal

abbrev pub invariant-loop-line : goal.invariant-loop-line
invariant-loop-line l =
    (l.lowest ≤ l.end) × ((l.lowest ≡ l.end) ⊎ (slice_index l.one l.lowest ≢ slice_index l.other l.lowest))
    × ((m : ℕ) → m < l.lowest → has m (take l.line-index l.lines) ≡ true → slice_index l.one m ≡ slice_index l.other m)
