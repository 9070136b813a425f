-- The operands that a word gives fit a word.
use Rattle.std.proofs.Common.{◌≡◌, ℕ, ℤ, ◌+◌, ◌*◌, ◌^◌, ◌<◌, ap, ◌∙◌, arith}
use Rattle.std.proofs.lemmas.Int.{ints}
use Rattle.std.proofs.lemmas.Nat.{pow_pos}
use Rattle.std.proofs.lemmas.Bool.Decides.{nat_tests}
use Rattle.std.proofs.Math.Nat.{mod-lt}
use Rattle.word_bits.specs.Numbers.{field, signed}
use Rattle.isa_table.specs.declared.instruction.Instr.{Instr}
use Rattle.isa_table.specs.declared.instruction.Instr.TheVariants.{Upper, Jump, JumpRegister, Branch, Load, Store, Immediate, Shift, Register, Fence, FenceI, Cache, LoadReserved, Atomic, System}
use Rattle.isa_table.specs.Operands.{shift_bits}
use Rattle.isa_table.specs.Ranges.{FitsBits, IsEven, IsChecked}
use Rattle.isa_table.specs.Table.{Spells}

fits_12 : (x : ℕ) (z : ℤ) → z ≡ signed x 12 → FitsBits 12 z
fits_12 x z e = record { low = grind (arith, ints, nat_tests); high = grind (arith, ints, nat_tests) }

fits_13 : (x : ℕ) (z : ℤ) → z ≡ signed x 13 → FitsBits 13 z
fits_13 x z e = record { low = grind (arith, ints, nat_tests); high = grind (arith, ints, nat_tests) }

fits_21 : (x : ℕ) (z : ℤ) → z ≡ signed x 21 → FitsBits 21 z
fits_21 x z e = record { low = grind (arith, ints, nat_tests); high = grind (arith, ints, nat_tests) }

even_13 : (x : ℕ) (z : ℤ) → z ≡ signed (2 * x) 13 → IsEven z
even_13 x z e = grind (arith, ints, nat_tests)

even_21 : (x : ℕ) (z : ℤ) → z ≡ signed (2 * x) 21 → IsEven z
even_21 x z e = grind (arith, ints, nat_tests)

pub checked : (w : ℕ) → w < 2 ^ 32 → (i : Instr) → Spells w i → IsChecked i
checked w h (Upper op rd immediate) s = record { in_range = omega (arith, s.operands.1); even = tt; shift = tt }
checked w h (Jump rd distance) s =
    let b : ℕ = field w 21 10 + 2 ^ 10 * field w 20 1 + 2 ^ 11 * field w 12 8 + 2 ^ 19 * field w 31 1 in
    let e : 2 * field w 21 10 + 2 ^ 11 * field w 20 1 + 2 ^ 12 * field w 12 8 + 2 ^ 20 * field w 31 1 ≡ 2 * b = omega arith in
    let d : distance ≡ signed (2 * b) 21 = s.operands.1 ∙ ap (λ x. signed x 21) e in
    record { in_range = fits_21 (2 * b) distance d; even = even_21 b distance d; shift = tt }
checked w h (JumpRegister rd rs1 offset) s = record { in_range = fits_12 (field w 20 12) _ s.operands.2; even = tt; shift = tt }
checked w h (Branch op rs1 rs2 distance) s =
    let b : ℕ = field w 8 4 + 2 ^ 4 * field w 25 6 + 2 ^ 10 * field w 7 1 + 2 ^ 11 * field w 31 1 in
    let e : 2 * field w 8 4 + 2 ^ 5 * field w 25 6 + 2 ^ 11 * field w 7 1 + 2 ^ 12 * field w 31 1 ≡ 2 * b = omega arith in
    let d : distance ≡ signed (2 * b) 13 = s.operands.2 ∙ ap (λ x. signed x 13) e in
    record { in_range = fits_13 (2 * b) distance d; even = even_13 b distance d; shift = tt }
checked w h (Load op rd rs1 offset) s = record { in_range = fits_12 (field w 20 12) _ s.operands.2; even = tt; shift = tt }
checked w h (Store op rs2 rs1 offset) s = record { in_range = fits_12 (field w 7 5 + 2 ^ 5 * field w 25 7) _ s.operands.2; even = tt; shift = tt }
checked w h (Immediate op rd rs1 immediate) s = record { in_range = fits_12 (field w 20 12) _ s.operands.2; even = tt; shift = tt }
checked w h (Shift op rd rs1 amount) s =
    let b : field w 20 (shift_bits op) < 2 ^ shift_bits op = mod-lt _ (pow_pos (shift_bits op)) in
    record { in_range = tt; even = tt; shift = rw s.operands.2 b }
checked w h (Register op rd rs1 rs2) s = record { in_range = tt; even = tt; shift = tt }
checked w h (Fence predecessor successor) s = record { in_range = tt; even = tt; shift = tt }
checked w h FenceI s = record { in_range = tt; even = tt; shift = tt }
checked w h (Cache op rs1) s = record { in_range = tt; even = tt; shift = tt }
checked w h (LoadReserved width rd rs1 acquire release) s = record { in_range = tt; even = tt; shift = tt }
checked w h (Atomic op width rd rs1 rs2 acquire release) s = record { in_range = tt; even = tt; shift = tt }
checked w h (System op) s = record { in_range = tt; even = tt; shift = tt }
