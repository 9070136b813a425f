-- Lost stores as they are found, and the first one of each line.
use Rattle.std.specs.Prelude.{◌≡◌, ℕ, ◌<◌, ◌≤◌, List, Option, Some, None, All, AllPairs, Any, Contains}
use Rattle.store_trace.specs.declared.event.Event.{Event}
use Rattle.durability.specs.Causes.{IsCause}
use Rattle.durability.specs.declared.cut.Lost.{Lost}

-- of store n, where it counts, its line and the cause of its loss at moment m, and None where it doesn't count
abbrev pub IsLossAt : List Event → ℕ → (ℕ → ℕ → Type 0) → ℕ → Option Lost → Type 0
IsLossAt events m counts n None = (l : ℕ) → ¬ counts l n
IsLossAt events m counts n (Some lost) = (lost.store ≡ n) × counts lost.line n × IsCause events m lost.line n lost.cause

-- upwards, of the lost stores the first one of each line
pub record AreFirsts (lost firsts : List Lost) : Type 0 where
  pub upwards : AllPairs (λ one other. one.line < other.line) firsts
  pub each : All (λ x. Contains lost x × All (λ y. y.line ≡ x.line → x.store ≤ y.store) lost) firsts
  pub all : All (λ y. Any (λ x. x.line ≡ y.line) firsts) lost
