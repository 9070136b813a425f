-- The first bytes of a number.
use Rattle.std.proofs.Common.{◌≡◌, ℕ, zero, suc, ◌≤◌, List, ◌∷◌, take, refl, ap, arith}
use Rattle.std.specs.Int.{byte_at, bytes_low_first}

pub take_of_bytes : (i k n x : ℕ) → n ≤ k → take n (bytes_low_first i k x) ≡ bytes_low_first i n x
take_of_bytes i k zero x h = refl
take_of_bytes i zero (suc n) x h = absurd (omega arith)
take_of_bytes i (suc k) (suc n) x h = ap (λ (r : List ℕ). byte_at i x ∷ r) (take_of_bytes (suc i) k n x (omega arith))

pub front_of_bytes : (n x : ℕ) → n ≤ 8 → take n (bytes_low_first 0 8 x) ≡ bytes_low_first 0 n x
front_of_bytes n x h = take_of_bytes 0 8 n x h
