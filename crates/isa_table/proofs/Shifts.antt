-- The rows of the shifts, whose masks and amounts go by what is shifted.
use Rattle.std.proofs.Common.{◌≡◌, ℕ, ◌+◌, ◌*◌, ◌^◌, ◌<◌, ◌⊎◌, inl, inr, refl, bit_and, arith}
use Rattle.word_bits.specs.Numbers.{field}
use Rattle.isa_table.specs.declared.instruction.ShiftOp.{ShiftOp}
use Rattle.isa_table.specs.declared.instruction.ShiftOp.TheVariants.{Slli, Srli, Srai, Slliw, Srliw, Sraiw}
use Rattle.isa_table.specs.Operands.{shift_bits}
use Rattle.isa_table.specs.Table.{shift_mask, shift_key}
use Rattle.isa_table.proofs.Mnemonics.{shift_opcode_small, shift_funct3_small, shift_funct6_small}
use Rattle.isa_table.proofs.Masks.{masked_fc00707f, masked_fe00707f}

-- mask m and n bits of amount: of doublewords or of words
abbrev AreOfOneWidth : ℕ → ℕ → Type 0
AreOfOneWidth m n = ((m ≡ 0xfc00707f) × (n ≡ 6)) ⊎ ((m ≡ 0xfe00707f) × (n ≡ 5))

widths : (op : ShiftOp) → AreOfOneWidth (shift_mask op) (shift_bits op)
widths Slli = inl (refl, refl)
widths Srli = inl (refl, refl)
widths Srai = inl (refl, refl)
widths Slliw = inr (refl, refl)
widths Srliw = inr (refl, refl)
widths Sraiw = inr (refl, refl)

masked : (m n g w : ℕ) → AreOfOneWidth m n → field w 26 6 ≡ g → field w 20 6 < 2 ^ n
    → bit_and w m ≡ field w 0 7 + field w 12 3 * 2 ^ 12 + g * 2 ^ 26
masked m n g w (inl e) f h = rw e.0 (omega (arith, masked_fc00707f w))
masked m n g w (inr e) f h =
    let b : field w 20 6 < 2 ^ 5 = rw e.1 at h in
    rw e.0 (omega (arith, masked_fe00707f w))

amount : (m n w : ℕ) → AreOfOneWidth m n → field w 20 6 < 2 ^ n → field w 20 n ≡ field w 20 6
amount m n w (inl e) h = rw e.1 refl
amount m n w (inr e) h = let b : field w 20 6 < 2 ^ 5 = rw e.1 at h in rw e.1 (omega arith)

unmasked : (m n o f g w : ℕ) → AreOfOneWidth m n → o < 2 ^ 7 → f < 2 ^ 3 → g < 2 ^ 6
    → bit_and w m ≡ o + f * 2 ^ 12 + g * 2 ^ 26
    → (field w 0 7 ≡ o) × (field w 12 3 ≡ f) × (field w 26 6 ≡ g) × (field w 20 6 < 2 ^ n)
unmasked m n o f g w (inl e) ho hf hg s =
    let r : bit_and w 0xfc00707f ≡ o + f * 2 ^ 12 + g * 2 ^ 26 = rw e.0 at s in
    let k = masked_fc00707f w in
    (omega arith, omega arith, omega arith, rw e.1 (omega arith))
unmasked m n o f g w (inr e) ho hf hg s =
    let r : bit_and w 0xfe00707f ≡ o + f * 2 ^ 12 + g * 2 ^ 26 = rw e.0 at s in
    let k = masked_fe00707f w in
    (omega arith, omega arith, omega arith, rw e.1 (omega arith))

pub shift_masked : (op : ShiftOp) (w : ℕ) → field w 26 6 ≡ (shift_key op).top → field w 20 6 < 2 ^ shift_bits op
    → bit_and w (shift_mask op) ≡ field w 0 7 + field w 12 3 * 2 ^ 12 + (shift_key op).top * 2 ^ 26
shift_masked op w f h = masked _ (shift_bits op) _ w (widths op) f h

pub shift_amount : (op : ShiftOp) (w : ℕ) → field w 20 6 < 2 ^ shift_bits op → field w 20 (shift_bits op) ≡ field w 20 6
shift_amount op w h = amount _ _ w (widths op) h

pub shift_unmasked : (op : ShiftOp) (w : ℕ)
    → bit_and w (shift_mask op) ≡ (shift_key op).opcode + (shift_key op).funct3 * 2 ^ 12 + (shift_key op).top * 2 ^ 26
    → (field w 0 7 ≡ (shift_key op).opcode) × (field w 12 3 ≡ (shift_key op).funct3) × (field w 26 6 ≡ (shift_key op).top)
    × (field w 20 6 < 2 ^ shift_bits op)
shift_unmasked op w s = unmasked _ _ _ _ _ w (widths op) (shift_opcode_small op) (shift_funct3_small op) (shift_funct6_small op) s
