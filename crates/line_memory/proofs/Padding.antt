-- The length of bytes with zeros behind them.
use Rattle.std.proofs.Common.{◌≡◌, ℕ, ◌-◌, ◌≤◌, List, length, replicate, arith}
use Rattle.std.proofs.lemmas.List.{length-append, length-replicate}
use Rattle.line_memory.specs.Regions.{padded}

pub length-padded : (bytes : List ℕ) (size : ℕ) → length bytes ≤ size → length (padded bytes size) ≡ size
unfolding padded
length-padded bytes size h =
    omega (arith, length-append bytes (replicate (size - length bytes) 0), length-replicate {A = ℕ} (size - length bytes) 0)
