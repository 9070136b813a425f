-- No instruction has two canonical words.
use Rattle.std.proofs.Common.{◌≡◌, ℕ, ◌+◌, ◌*◌, ◌^◌, ◌<◌, sym, ◌∙◌, arith}
use Rattle.std.proofs.lemmas.Int.{ints}
use Rattle.std.proofs.lemmas.Bool.Decides.{nat_tests}
use Rattle.word_bits.specs.Numbers.{field, signed}
use Rattle.isa_table.specs.declared.instruction.Instr.{Instr}
use Rattle.isa_table.specs.declared.instruction.Instr.TheVariants.{Upper, Jump, JumpRegister, Branch, Load, Store, Immediate, Shift, Register, Fence, FenceI, Cache, LoadReserved, Atomic, System}
use Rattle.isa_table.specs.Operands.{i_immediate, s_immediate, b_immediate, j_immediate}
use Rattle.isa_table.specs.Table.{IsCanonical}
use Rattle.isa_table.proofs.Shapes.{HasParts, parts}
use Rattle.isa_table.proofs.Shifts.{shift_amount}

-- a number of n bits is its value in two's complement
signed_12 : (x y : ℕ) → x < 2 ^ 12 → y < 2 ^ 12 → signed x 12 ≡ signed y 12 → x ≡ y
signed_12 x y hx hy e = grind (arith, ints, nat_tests)

signed_13 : (x y : ℕ) → x < 2 ^ 13 → y < 2 ^ 13 → signed x 13 ≡ signed y 13 → x ≡ y
signed_13 x y hx hy e = grind (arith, ints, nat_tests)

signed_21 : (x y : ℕ) → x < 2 ^ 21 → y < 2 ^ 21 → signed x 21 ≡ signed y 21 → x ≡ y
signed_21 x y hx hy e = grind (arith, ints, nat_tests)

-- words with these fields in common are one
pub record AreAlike (w v : ℕ) : Type 0 where
  pub opcode : field w 0 7 ≡ field v 0 7
  pub rd : field w 7 5 ≡ field v 7 5
  pub funct3 : field w 12 3 ≡ field v 12 3
  pub rs1 : field w 15 5 ≡ field v 15 5
  pub upper : field w 20 12 ≡ field v 20 12

alike : (w v : ℕ) → w < 2 ^ 32 → v < 2 ^ 32 → AreAlike w v → w ≡ v
alike w v hw hv a =
    let o = a.opcode in
    let d = a.rd in
    let f = a.funct3 in
    let r = a.rs1 in
    let u = a.upper in
    omega arith

-- the same of the bits of two fields, one after the other
upper_5 : (w v : ℕ) → field w 20 5 ≡ field v 20 5 → field w 25 7 ≡ field v 25 7 → field w 20 12 ≡ field v 20 12
upper_5 w v low high = omega arith

upper_6 : (w v : ℕ) → field w 20 6 ≡ field v 20 6 → field w 26 6 ≡ field v 26 6 → field w 20 12 ≡ field v 20 12
upper_6 w v low high = omega arith

upper_flags : (w v : ℕ) → field w 20 5 ≡ field v 20 5 → field w 25 1 ≡ field v 25 1 → field w 26 1 ≡ field v 26 1 → field w 27 5 ≡ field v 27 5
    → field w 20 12 ≡ field v 20 12
upper_flags w v low release acquire high = omega arith

upper_fence : (w v : ℕ) → field w 20 4 ≡ field v 20 4 → field w 24 4 ≡ field v 24 4 → field w 28 4 ≡ field v 28 4 → field w 20 12 ≡ field v 20 12
upper_fence w v successor predecessor mode = omega arith

-- the immediates of stores, branches and jumps
stored_same : (w v : ℕ) → s_immediate w ≡ s_immediate v → (field w 7 5 ≡ field v 7 5) × (field w 25 7 ≡ field v 25 7)
stored_same w v e =
    let n = signed_12 (field w 7 5 + 2 ^ 5 * field w 25 7) (field v 7 5 + 2 ^ 5 * field v 25 7) (omega arith) (omega arith) e in
    (omega arith, omega arith)

abbrev branch_bits : ℕ → ℕ
branch_bits w = 2 * field w 8 4 + 2 ^ 5 * field w 25 6 + 2 ^ 11 * field w 7 1 + 2 ^ 12 * field w 31 1

branch_same : (w v : ℕ) → b_immediate w ≡ b_immediate v → (field w 7 5 ≡ field v 7 5) × (field w 25 7 ≡ field v 25 7)
branch_same w v e =
    let n : branch_bits w ≡ branch_bits v = signed_13 (branch_bits w) (branch_bits v) (omega arith) (omega arith) e in
    (omega arith, omega arith)

abbrev jump_bits : ℕ → ℕ
jump_bits w = 2 * field w 21 10 + 2 ^ 11 * field w 20 1 + 2 ^ 12 * field w 12 8 + 2 ^ 20 * field w 31 1

jump_same : (w v : ℕ) → j_immediate w ≡ j_immediate v → field w 12 20 ≡ field v 12 20
jump_same w v e =
    let n : jump_bits w ≡ jump_bits v = signed_21 (jump_bits w) (jump_bits v) (omega arith) (omega arith) e in
    omega arith

offset_same : (w v : ℕ) → i_immediate w ≡ i_immediate v → field w 20 12 ≡ field v 20 12
offset_same w v e = signed_12 _ _ (omega arith) (omega arith) e

upper_20 : (w v : ℕ) → w < 2 ^ 32 → v < 2 ^ 32 → field w 0 7 ≡ field v 0 7 → field w 7 5 ≡ field v 7 5 → field w 12 20 ≡ field v 12 20 → w ≡ v
upper_20 w v hw hv opcode rd upper = omega arith

upper_17 : (w v : ℕ) → w < 2 ^ 32 → v < 2 ^ 32 → field w 0 7 ≡ field v 0 7 → field w 12 3 ≡ field v 12 3 → field w 7 5 ≡ field v 7 5 → field w 15 17 ≡ field v 15 17 → w ≡ v
upper_17 w v hw hv opcode funct3 rd upper = omega arith

pub one_word : (i : Instr) (w v : ℕ) → w < 2 ^ 32 → v < 2 ^ 32 → IsCanonical w i → IsCanonical v i → w ≡ v
one_word (Upper op rd immediate) w v hw hv s t =
    let p : HasParts w (Upper op rd immediate) = parts w hw (Upper op rd immediate) s.spells in
    let q : HasParts v (Upper op rd immediate) = parts v hv (Upper op rd immediate) t.spells in
    let a = s.spells.operands in
    let b = t.spells.operands in
    upper_20 w v hw hv (p ∙ sym q) (sym a.0 ∙ b.0) (sym a.1 ∙ b.1)
one_word (Jump rd distance) w v hw hv s t =
    let p : HasParts w (Jump rd distance) = parts w hw (Jump rd distance) s.spells in
    let q : HasParts v (Jump rd distance) = parts v hv (Jump rd distance) t.spells in
    let a = s.spells.operands in
    let b = t.spells.operands in
    upper_20 w v hw hv (p ∙ sym q) (sym a.0 ∙ b.0) (jump_same w v (sym a.1 ∙ b.1))
one_word (JumpRegister rd rs1 offset) w v hw hv s t =
    let p : HasParts w (JumpRegister rd rs1 offset) = parts w hw (JumpRegister rd rs1 offset) s.spells in
    let q : HasParts v (JumpRegister rd rs1 offset) = parts v hv (JumpRegister rd rs1 offset) t.spells in
    let a = s.spells.operands in
    let b = t.spells.operands in
    alike w v hw hv (record {
      opcode = p.0 ∙ sym q.0;
      rd = sym a.0 ∙ b.0;
      funct3 = p.1 ∙ sym q.1;
      rs1 = sym a.1 ∙ b.1;
      upper = offset_same w v (sym a.2 ∙ b.2);
    })
one_word (Branch op rs1 rs2 distance) w v hw hv s t =
    let p : HasParts w (Branch op rs1 rs2 distance) = parts w hw (Branch op rs1 rs2 distance) s.spells in
    let q : HasParts v (Branch op rs1 rs2 distance) = parts v hv (Branch op rs1 rs2 distance) t.spells in
    let a = s.spells.operands in
    let b = t.spells.operands in
    let bits = branch_same w v (sym a.2 ∙ b.2) in
    alike w v hw hv (record {
      opcode = p.0 ∙ sym q.0;
      rd = bits.0;
      funct3 = p.1 ∙ sym q.1;
      rs1 = sym a.0 ∙ b.0;
      upper = upper_5 w v (sym a.1 ∙ b.1) bits.1;
    })
one_word (Load op rd rs1 offset) w v hw hv s t =
    let p : HasParts w (Load op rd rs1 offset) = parts w hw (Load op rd rs1 offset) s.spells in
    let q : HasParts v (Load op rd rs1 offset) = parts v hv (Load op rd rs1 offset) t.spells in
    let a = s.spells.operands in
    let b = t.spells.operands in
    alike w v hw hv (record {
      opcode = p.0 ∙ sym q.0;
      rd = sym a.0 ∙ b.0;
      funct3 = p.1 ∙ sym q.1;
      rs1 = sym a.1 ∙ b.1;
      upper = offset_same w v (sym a.2 ∙ b.2);
    })
one_word (Store op rs2 rs1 offset) w v hw hv s t =
    let p : HasParts w (Store op rs2 rs1 offset) = parts w hw (Store op rs2 rs1 offset) s.spells in
    let q : HasParts v (Store op rs2 rs1 offset) = parts v hv (Store op rs2 rs1 offset) t.spells in
    let a = s.spells.operands in
    let b = t.spells.operands in
    let bits = stored_same w v (sym a.2 ∙ b.2) in
    alike w v hw hv (record {
      opcode = p.0 ∙ sym q.0;
      rd = bits.0;
      funct3 = p.1 ∙ sym q.1;
      rs1 = sym a.1 ∙ b.1;
      upper = upper_5 w v (sym a.0 ∙ b.0) bits.1;
    })
one_word (Immediate op rd rs1 immediate) w v hw hv s t =
    let p : HasParts w (Immediate op rd rs1 immediate) = parts w hw (Immediate op rd rs1 immediate) s.spells in
    let q : HasParts v (Immediate op rd rs1 immediate) = parts v hv (Immediate op rd rs1 immediate) t.spells in
    let a = s.spells.operands in
    let b = t.spells.operands in
    alike w v hw hv (record {
      opcode = p.0 ∙ sym q.0;
      rd = sym a.0 ∙ b.0;
      funct3 = p.1 ∙ sym q.1;
      rs1 = sym a.1 ∙ b.1;
      upper = offset_same w v (sym a.2 ∙ b.2);
    })
one_word (Shift op rd rs1 amount) w v hw hv s t =
    let p : HasParts w (Shift op rd rs1 amount) = parts w hw (Shift op rd rs1 amount) s.spells in
    let q : HasParts v (Shift op rd rs1 amount) = parts v hv (Shift op rd rs1 amount) t.spells in
    let a = s.spells.operands in
    let b = t.spells.operands in
    alike w v hw hv (record {
      opcode = p.0 ∙ sym q.0;
      rd = sym a.0 ∙ b.0;
      funct3 = p.1 ∙ sym q.1;
      rs1 = sym a.1 ∙ b.1;
      upper = upper_6 w v (sym (shift_amount op w p.3) ∙ sym a.2 ∙ b.2 ∙ shift_amount op v q.3) (p.2 ∙ sym q.2);
    })
one_word (Register op rd rs1 rs2) w v hw hv s t =
    let p : HasParts w (Register op rd rs1 rs2) = parts w hw (Register op rd rs1 rs2) s.spells in
    let q : HasParts v (Register op rd rs1 rs2) = parts v hv (Register op rd rs1 rs2) t.spells in
    let a = s.spells.operands in
    let b = t.spells.operands in
    alike w v hw hv (record {
      opcode = p.0 ∙ sym q.0;
      rd = sym a.0 ∙ b.0;
      funct3 = p.1 ∙ sym q.1;
      rs1 = sym a.1 ∙ b.1;
      upper = upper_5 w v (sym a.2 ∙ b.2) (p.2 ∙ sym q.2);
    })
one_word (Fence predecessor successor) w v hw hv s t =
    let p : HasParts w (Fence predecessor successor) = parts w hw (Fence predecessor successor) s.spells in
    let q : HasParts v (Fence predecessor successor) = parts v hv (Fence predecessor successor) t.spells in
    let a = s.spells.operands in
    let b = t.spells.operands in
    alike w v hw hv (record {
      opcode = p.0 ∙ sym q.0;
      rd = s.zeros.0 ∙ sym t.zeros.0;
      funct3 = p.1 ∙ sym q.1;
      rs1 = s.zeros.1 ∙ sym t.zeros.1;
      upper = upper_fence w v (sym a.1 ∙ b.1) (sym a.0 ∙ b.0) (s.zeros.2 ∙ sym t.zeros.2);
    })
one_word FenceI w v hw hv s t =
    let p : HasParts w FenceI = parts w hw FenceI s.spells in
    let q : HasParts v FenceI = parts v hv FenceI t.spells in
    upper_17 w v hw hv (p.0 ∙ sym q.0) (p.1 ∙ sym q.1) (s.zeros.0 ∙ sym t.zeros.0) (s.zeros.1 ∙ sym t.zeros.1)
one_word (Cache op rs1) w v hw hv s t =
    let p : HasParts w (Cache op rs1) = parts w hw (Cache op rs1) s.spells in
    let q : HasParts v (Cache op rs1) = parts v hv (Cache op rs1) t.spells in
    let a = s.spells.operands in
    let b = t.spells.operands in
    alike w v hw hv (record {
      opcode = p.0 ∙ sym q.0;
      rd = p.2 ∙ sym q.2;
      funct3 = p.1 ∙ sym q.1;
      rs1 = sym a ∙ b;
      upper = p.3 ∙ sym q.3;
    })
one_word (LoadReserved width rd rs1 acquire release) w v hw hv s t =
    let p : HasParts w (LoadReserved width rd rs1 acquire release) = parts w hw (LoadReserved width rd rs1 acquire release) s.spells in
    let q : HasParts v (LoadReserved width rd rs1 acquire release) = parts v hv (LoadReserved width rd rs1 acquire release) t.spells in
    let a = s.spells.operands in
    let b = t.spells.operands in
    alike w v hw hv (record {
      opcode = p.0 ∙ sym q.0;
      rd = sym a.0 ∙ b.0;
      funct3 = p.1 ∙ sym q.1;
      rs1 = sym a.1 ∙ b.1;
      upper = upper_flags w v (p.3 ∙ sym q.3) (sym a.3 ∙ b.3) (sym a.2 ∙ b.2) (p.2 ∙ sym q.2);
    })
one_word (Atomic op width rd rs1 rs2 acquire release) w v hw hv s t =
    let p : HasParts w (Atomic op width rd rs1 rs2 acquire release) = parts w hw (Atomic op width rd rs1 rs2 acquire release) s.spells in
    let q : HasParts v (Atomic op width rd rs1 rs2 acquire release) = parts v hv (Atomic op width rd rs1 rs2 acquire release) t.spells in
    let a = s.spells.operands in
    let b = t.spells.operands in
    alike w v hw hv (record {
      opcode = p.0 ∙ sym q.0;
      rd = sym a.0 ∙ b.0;
      funct3 = p.1 ∙ sym q.1;
      rs1 = sym a.1 ∙ b.1;
      upper = upper_flags w v (sym a.2 ∙ b.2) (sym a.4 ∙ b.4) (sym a.3 ∙ b.3) (p.2 ∙ sym q.2);
    })
one_word (System op) w v hw hv s t =
    let p : HasParts w (System op) = parts w hw (System op) s.spells in
    let q : HasParts v (System op) = parts v hv (System op) t.spells in
    p ∙ sym q
