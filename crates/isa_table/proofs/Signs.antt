-- Two's complement values of n bits, by the size of the number.
use Rattle.std.proofs.Common.{◌≡◌, ℕ, zero, suc, ℤ, pos, ◌-ℤ◌, ◌-◌, ◌*◌, ◌%◌, ◌^◌, ◌<◌, ◌≤◌, ◌<ℤ◌, true, false, unsigned_abs, nat_lt, arith, refl}
use Rattle.std.proofs.lemmas.Int.{ints}
use Rattle.std.proofs.lemmas.Nat.{pow_below}
use Rattle.std.proofs.lemmas.Bool.Decides.{nat_tests}
use Rattle.std.proofs.Math.Nat.{mod-eq_of_lt, pow-succ'}
use Rattle.word_bits.specs.Numbers.{signed}
use Rattle.isa_table.specs.Ranges.{FitsBits}

halves : (n : ℕ) → 1 ≤ n → 2 ^ n ≡ 2 * 2 ^ (n - 1)
halves zero h = omega arith
halves (suc n) h = let e : suc n - 1 ≡ n = omega arith in rw e (omega (arith, pow-succ' 2 n))

pub power_below : (n : ℕ) → n < 31 → 2 ^ n < 2 ^ 31
power_below n h = pow_below n 31 h

pub signed_low : (x n : ℕ) → 1 ≤ n → x < 2 ^ (n - 1) → signed x n ≡ pos x
signed_low x n s h =
    let d : 2 ^ n ≡ 2 * 2 ^ (n - 1) = halves n s in
    let b : x < 2 ^ n = omega arith in
    let e : x % 2 ^ n ≡ x = mod-eq_of_lt b in
    let t : nat_lt x (2 ^ (n - 1)) ≡ true = grind (arith, nat_tests) in
    rw (e, t) (grind (arith, ints))

pub signed_high : (x n : ℕ) → 1 ≤ n → 2 ^ (n - 1) ≤ x → x < 2 ^ n → signed x n ≡ pos x -ℤ pos (2 ^ n)
signed_high x n s l h =
    let e : x % 2 ^ n ≡ x = mod-eq_of_lt h in
    let t : nat_lt x (2 ^ (n - 1)) ≡ false = grind (arith, nat_tests) in
    rw (e, t) refl

pub signed_negative : (p a n : ℕ) (z : ℤ) → p ≡ 2 ^ n → a ≡ unsigned_abs z → 1 ≤ n → z <ℤ pos 0 → FitsBits n z → signed (p - a) n ≡ z
signed_negative p a n z u v s h f =
    let d : 2 ^ n ≡ 2 * 2 ^ (n - 1) = halves n s in
    let m : a ≤ 2 ^ (n - 1) = grind (arith, ints, f.low) in
    let q : signed (p - a) n ≡ pos (p - a) -ℤ pos (2 ^ n) = signed_high (p - a) n s (omega arith) (grind (arith, ints)) in
    rw q (grind (arith, ints))
