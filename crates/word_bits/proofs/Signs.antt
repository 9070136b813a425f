-- Two's complement as `sign_extend` computes it, by the size of the low bits.
use Rattle.std.proofs.Common.{◌≡◌, ℕ, ℤ, pos, negsuc, ◌-ℤ◌, ◌+◌, ◌-◌, ◌*◌, ◌%◌, ◌^◌, ◌<◌, ◌≤◌, true, false, nat_lt, arith, refl}
use Rattle.std.proofs.lemmas.Int.{ints}
use Rattle.std.proofs.lemmas.Nat.{pow_pos, pow_below}
use Rattle.std.proofs.lemmas.Bool.Decides.{nat_tests}
use Rattle.std.proofs.Math.Pow.{pow_mono}
use Rattle.word_bits.specs.Numbers.{signed, wrap}

pub power_fits : (n : ℕ) → n < 64 → 1 * 2 ^ n % 2 ^ 64 ≡ 2 ^ n
power_fits n h = let e : 2 ^ n < 2 ^ 64 = pow_below n 64 h in omega arith

same : (z : ℤ) (low : ℕ) → z ≡ pos low -ℤ pos 0 → low < 2 ^ 64 → wrap z ≡ low
same z low e h =
    let f : z ≡ pos low = grind (arith, ints) in
    rw f (omega arith)

lower : (z : ℤ) (low m : ℕ) → z ≡ pos low -ℤ pos m → low < m → m ≤ 2 ^ 64 → wrap z ≡ 2 ^ 64 - m + low
lower z low m e h k =
    let f : z ≡ negsuc (m - low - 1) = grind (arith, ints) in
    rw f (omega arith)

pub signed_positive : (x n : ℕ) → x % 2 ^ n < 2 ^ (n - 1) → n ≤ 64 → wrap (signed x n) ≡ x % 2 ^ n
signed_positive x n h m =
    let t : nat_lt (x % 2 ^ n) (2 ^ (n - 1)) ≡ true = grind (arith, nat_tests) in
    let less : n - 1 ≤ 64 = omega arith in
    let below : 2 ^ (n - 1) ≤ 2 ^ 64 = pow_mono less in
    same _ (x % 2 ^ n) (rw t refl) (omega arith)

pub signed_negative : (x n : ℕ) → 2 ^ (n - 1) ≤ x % 2 ^ n → n ≤ 64 → wrap (signed x n) ≡ 2 ^ 64 - 2 ^ n + x % 2 ^ n
signed_negative x n h m =
    let t : nat_lt (x % 2 ^ n) (2 ^ (n - 1)) ≡ false = grind (arith, nat_tests) in
    let some : 0 < 2 ^ n = pow_pos n in
    let below : 2 ^ n ≤ 2 ^ 64 = pow_mono m in
    lower _ (x % 2 ^ n) (2 ^ n) (rw t refl) (omega arith) below
