-- Numbers in bytes: a read by `byteorder` is `loaded`, and the first bytes of a number are the bytes of a narrower store.
use Rattle.std.proofs.Common.{◌≡◌, ℕ, zero, suc, ◌+◌, ◌-◌, ◌≤◌, List, length, take, drop, refl, ap, ◌∙◌, arith}
use Rattle.std.proofs.lemmas.List.{get_or-drop, take_rest}
use Rattle.std.specs.Int.{bytes_low_first}
use Rattle.byteorder.specs.Endian.{little_from, little_number}
use Rattle.byteorder.proofs.Bytes.{take-bytes_low_first}
use Rattle.word_bits.specs.Bytes.{loaded}

from_drop : (bytes : List ℕ) (at i n : ℕ) → little_from i n (drop at bytes) ≡ loaded bytes (at + i) n
from_drop bytes at i zero = refl
from_drop bytes at i (suc n) = grind (arith, get_or-drop at bytes i 0, from_drop bytes at (suc i) n)

pub loaded_is : (bytes : List ℕ) (at n : ℕ) → little_number n (take (length bytes - at) (drop at bytes)) ≡ loaded bytes at n
loaded_is bytes at n =
    let same : at + 0 ≡ at = omega arith in
    rw (take_rest bytes at) (from_drop bytes at 0 n ∙ ap (λ (k : ℕ). loaded bytes k n) same)

pub front_of_bytes : (n x : ℕ) → n ≤ 8 → take n (bytes_low_first 0 8 x) ≡ bytes_low_first 0 n x
front_of_bytes n x h = take-bytes_low_first 0 8 n x h
