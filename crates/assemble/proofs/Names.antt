-- The name of each instruction is a token.
use Rattle.std.proofs.Common.{◌≡◌, ℕ, ◌<◌, ◌≤◌, Bool, true, false, List, ◌++◌, length, refl, arith}
use Rattle.std.specs.Prelude.{Some, codes}
use Rattle.std.specs.List.{list_all}
use Rattle.asm_lex.specs.Pieces.{is_word}
use Rattle.asm_lex.specs.Kinds.{name, kind_of}
use Rattle.isa_table.specs.Names.{atomic_name, atomic_suffix, mnemonic}
use Rattle.isa_table.specs.declared.instruction.Instr.{Instr}
use Rattle.isa_table.specs.declared.instruction.Instr.TheVariants.{Upper, Branch, Load, Store, Immediate, Shift, Register, Cache, LoadReserved, Atomic, System}
use Rattle.isa_table.specs.declared.instruction.UpperOp.TheVariants.{Lui}
use Rattle.isa_table.specs.declared.instruction.BranchOp.TheVariants.{Beq}
use Rattle.isa_table.specs.declared.instruction.LoadOp.TheVariants.{Lb}
use Rattle.isa_table.specs.declared.instruction.StoreOp.TheVariants.{Sb}
use Rattle.isa_table.specs.declared.instruction.ImmediateOp.TheVariants.{Addi}
use Rattle.isa_table.specs.declared.instruction.ShiftOp.TheVariants.{Slli}
use Rattle.isa_table.specs.declared.instruction.RegisterOp.TheVariants.{Add}
use Rattle.isa_table.specs.declared.instruction.CacheOp.TheVariants.{Inval}
use Rattle.isa_table.specs.declared.instruction.AtomicWidth.{AtomicWidth}
use Rattle.isa_table.specs.declared.instruction.AtomicWidth.TheVariants.{Word, Doubleword}
use Rattle.isa_table.specs.declared.instruction.AtomicOp.{AtomicOp}
use Rattle.isa_table.specs.declared.instruction.AtomicOp.TheVariants.{Sc}
use Rattle.isa_table.specs.declared.instruction.SystemOp.TheVariants.{Ecall}

-- a text that is a name from end to end
pub record IsName (text : List ℕ) : Type 0 where
  pub run : list_all is_word text ≡ true
  pub token : kind_of text ≡ Some (name text)
  pub there : 0 < length text
  pub short : length text ≤ 20

suffix_run : (w : AtomicWidth) (a r : Bool) → list_all is_word (atomic_suffix w a r) ≡ true
unfolding is_word
suffix_run Word false false = refl
suffix_run Word false true = refl
suffix_run Word true false = refl
suffix_run Word true true = refl
suffix_run Doubleword false false = refl
suffix_run Doubleword false true = refl
suffix_run Doubleword true false = refl
suffix_run Doubleword true true = refl

suffix_short : (w : AtomicWidth) (a r : Bool) → length (atomic_suffix w a r) ≤ 7
suffix_short Word false false = omega arith
suffix_short Word false true = omega arith
suffix_short Word true false = omega arith
suffix_short Word true true = omega arith
suffix_short Doubleword false false = omega arith
suffix_short Doubleword false true = omega arith
suffix_short Doubleword true false = omega arith
suffix_short Doubleword true true = omega arith

-- an atomic instruction's name, before and with the end that gives its form
formed_is_name : (op : AtomicOp) (end : List ℕ) → list_all is_word end ≡ true → length end ≤ 7 → IsName (atomic_name op ++ end)
unfolding is_word kind_of
formed_is_name Sc end h k = record { run = h; token = refl; there = omega arith; short = omega arith }
formed_is_name op end h k = record { run = h; token = refl; there = omega arith; short = omega arith }

reserved_is_name : (end : List ℕ) → list_all is_word end ≡ true → length end ≤ 7 → IsName (codes "lr" ++ end)
unfolding is_word kind_of
reserved_is_name end h k = record { run = h; token = refl; there = omega arith; short = omega arith }

pub named : (i : Instr) → IsName (mnemonic i)
unfolding is_word kind_of
named (LoadReserved w rd rs1 a r) = reserved_is_name (atomic_suffix w a r) (suffix_run w a r) (suffix_short w a r)
named (Atomic op w rd rs1 rs2 a r) = formed_is_name op (atomic_suffix w a r) (suffix_run w a r) (suffix_short w a r)
named (Upper Lui rd n) = record { run = refl; token = refl; there = omega arith; short = omega arith }
named (Upper op rd n) = record { run = refl; token = refl; there = omega arith; short = omega arith }
named (Branch Beq rs1 rs2 z) = record { run = refl; token = refl; there = omega arith; short = omega arith }
named (Branch op rs1 rs2 z) = record { run = refl; token = refl; there = omega arith; short = omega arith }
named (Load Lb rd rs1 z) = record { run = refl; token = refl; there = omega arith; short = omega arith }
named (Load op rd rs1 z) = record { run = refl; token = refl; there = omega arith; short = omega arith }
named (Store Sb rs2 rs1 z) = record { run = refl; token = refl; there = omega arith; short = omega arith }
named (Store op rs2 rs1 z) = record { run = refl; token = refl; there = omega arith; short = omega arith }
named (Immediate Addi rd rs1 z) = record { run = refl; token = refl; there = omega arith; short = omega arith }
named (Immediate op rd rs1 z) = record { run = refl; token = refl; there = omega arith; short = omega arith }
named (Shift Slli rd rs1 n) = record { run = refl; token = refl; there = omega arith; short = omega arith }
named (Shift op rd rs1 n) = record { run = refl; token = refl; there = omega arith; short = omega arith }
named (Register Add rd rs1 rs2) = record { run = refl; token = refl; there = omega arith; short = omega arith }
named (Register op rd rs1 rs2) = record { run = refl; token = refl; there = omega arith; short = omega arith }
named (Cache Inval rs1) = record { run = refl; token = refl; there = omega arith; short = omega arith }
named (Cache op rs1) = record { run = refl; token = refl; there = omega arith; short = omega arith }
named (System Ecall) = record { run = refl; token = refl; there = omega arith; short = omega arith }
named (System op) = record { run = refl; token = refl; there = omega arith; short = omega arith }
named i = record { run = refl; token = refl; there = omega arith; short = omega arith }
