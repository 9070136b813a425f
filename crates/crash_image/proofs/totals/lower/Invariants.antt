use Rattle.std.proofs.Common.{◌≡◌, ℕ, ◌-◌, ◌++◌, take, drop}
use Rattle.std.specs.Prelude.{map}
use Rattle.crash_image.proofs.totals.lower.Given as goal

abbrev pub invariant-loop-at : goal.invariant-loop-at
invariant-loop-at l =
    l.numbers ≡ map (λ (n : ℕ). n - l.rise) (take l.at l.initial.numbers) ++ drop l.at l.initial.numbers
