-- The halves of a number of 32 bits make the number.
use Rattle.std.proofs.Common.{◌≡◌, ℕ, ℤ, pos, negsuc, ◌-ℤ◌, ◌+ℤ◌, ◌+◌, ◌-◌, ◌*◌, ◌/◌, ◌%◌, ◌^◌, ◌<◌, ◌≤◌, Bool, true, false, nat_lt, refl, sym, ap, ◌∙◌, arith, w32, FitsSigned}
use Rattle.std.specs.Prelude.{if◌then◌else◌}
use Rattle.std.specs.Int.{cast_signed, cast_unsigned, int_wrap}
use Rattle.std.proofs.lemmas.Int.{ints, to_z-of_z, int_wrap-add_left, wrapping_add_onto}
use Rattle.std.proofs.lemmas.Bool.Decides.{nat_tests}
use Rattle.std.proofs.Math.Nat.{mod-eq_of_lt}
use Rattle.word_bits.specs.Numbers.{signed}

-- the bits of the lower half
positive : (z : ℤ) (low : ℕ) → z ≡ pos low -ℤ pos 0 → cast_unsigned w32 z ≡ low
positive z low e =
    let f : z ≡ pos low = grind (arith, ints) in
    rw f refl

negative : (z : ℤ) (low : ℕ) → z ≡ pos low -ℤ pos (2 ^ 12) → low < 2 ^ 12 → cast_unsigned w32 z ≡ 2 ^ 32 - 2 ^ 12 + low
negative z low e h =
    let f : z ≡ negsuc (2 ^ 12 - low - 1) = grind (arith, ints) in
    rw f (omega arith)

-- the upper half in its place, and the bits of the lower half
sum_by : (b : Bool) (lower : ℤ) (word low : ℕ) → word < 2 ^ 32 → low ≡ word % 2 ^ 12 → nat_lt low (2 ^ 11) ≡ b → lower ≡ pos low -ℤ pos (if b then 0 else 2 ^ 12)
    → (2 ^ 12 * ((word + 0x800) / 2 ^ 12 % 2 ^ 20) + cast_unsigned w32 lower) % 2 ^ 32 ≡ word
sum_by true lower word low h is test e =
    let below : low < 2 ^ 11 = grind (arith, nat_tests) in
    let bits = positive lower low e in
    omega arith
sum_by false lower word low h is test e =
    let above : 2 ^ 11 ≤ low = grind (arith, nat_tests) in
    let bits = negative lower low e (omega arith) in
    omega arith

pos_wrapped : (m : ℕ) → m < 2 ^ 32 → int_wrap w32 (pos m) ≡ cast_signed w32 m
unfolding int_wrap
pos_wrapped m h = ap (cast_signed w32) (mod-eq_of_lt h)

pub whole : (z lower : ℤ) (word : ℕ) → FitsSigned w32 z → FitsSigned w32 lower → word ≡ cast_unsigned w32 z → word < 2 ^ 32
    → lower ≡ signed (word % 2 ^ 12) 12 → int_wrap w32 (pos (2 ^ 12 * ((word + 0x800) / 2 ^ 12 % 2 ^ 20)) +ℤ lower) ≡ z
whole z lower word fits fits_lower is below low =
    let upper : ℕ = 2 ^ 12 * ((word + 0x800) / 2 ^ 12 % 2 ^ 20) in
    let small : upper < 2 ^ 32 = omega arith in
    let sum = sum_by (nat_lt (word % 2 ^ 12 % 2 ^ 12) (2 ^ 11)) lower word (word % 2 ^ 12 % 2 ^ 12) below (omega arith) refl low in
    sym (int_wrap-add_left w32 (pos upper) lower)
    ∙ ap (λ y. int_wrap w32 (y +ℤ lower)) (pos_wrapped upper small)
    ∙ sym (wrapping_add_onto w32 upper lower small fits_lower)
    ∙ ap (cast_signed w32) (sum ∙ is)
    ∙ to_z-of_z w32 z fits
