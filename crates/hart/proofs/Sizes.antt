-- What the low bits of a number are, once it was taken modulo 2 ^ 64: those of the number itself.
use Rattle.std.proofs.Common.{◌≡◌, ℕ, ◌%◌, ◌^◌, inl, inr, arith, refl}
use Rattle.word_bits.specs.Numbers.{signed}
use Rattle.hart.specs.Arithmetic.{IsSize}

pub low_same : (n x : ℕ) → IsSize n → x % 2 ^ 64 % 2 ^ n ≡ x % 2 ^ n
low_same n x (inl e) = rw e (omega arith)
low_same n x (inr e) = rw e (omega arith)

pub wrapped : (n x : ℕ) → IsSize n → signed (x % 2 ^ 64) n ≡ signed x n
wrapped n x h = rw (low_same n x h) refl
