-- The low bytes of a value that has no others.
use Rattle.std.proofs.Common.{◌≡◌, ℕ, ◌<◌, ◌≤◌, ◌%◌, ◌^◌, ◌*◌, arith}
use Rattle.std.proofs.Math.Nat.{mod-eq_of_lt}
use Rattle.std.proofs.Math.Pow.{pow_mono}

pub whole_value : (value width : ℕ) → value < 2 ^ 64 → 8 ≤ width → value % 2 ^ (8 * width) ≡ value
whole_value value width small wide =
    let bits : 64 ≤ 8 * width = omega arith in
    let most : 2 ^ 64 ≤ 2 ^ (8 * width) = pow_mono bits in
    let within : value < 2 ^ (8 * width) = omega arith in
    mod-eq_of_lt within
