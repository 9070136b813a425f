-- What a source line says, its texts and numbers being lists.
use Rattle.std.specs.Prelude.{ℕ, ◌*◌, ◌^◌, ◌<◌, ◌≤◌, List, Option, option_map, All, IsTrue}
use Rattle.std.specs.Int.{Width, w8, w16, w32, w64, is_power_of_two}
use Rattle.isa_table.specs.declared.instruction.Instr.{Instr}
use Rattle.isa_table.specs.declared.instruction.BranchOp.{BranchOp}
use Rattle.isa_table.specs.declared.register.Reg.{Reg}
use Rattle.isa_table.specs.Ranges.{IsChecked}
use Rattle.asm_lex.specs.declared.asm_names.kinds.Section.{Section}
use Rattle.asm_lex.specs.declared.asm_names.kinds.NumberWidth.{NumberWidth}
use Rattle.asm_lex.specs.declared.asm_names.kinds.NumberWidth.TheVariants.{Byte, Half, Word, Doubleword}
pub use Rattle.asm_lex.specs.Widths.{width_bytes}
use Rattle.assemble.specs.declared.asm_line.line.Statement.{Statement}
use Rattle.assemble.specs.declared.asm_line.line.Statement.TheVariants as statements
use Rattle.assemble.specs.declared.asm_line.line.Line.{Line}

-- what stands after the label: nothing, an instruction, two of them, a branch, jump or address of a label, a section, numbers
-- of a width, so many zeros, or an alignment
pub data Meaning : Type 0 where
  nothing : Meaning
  instruction : Instr → Meaning
  pair : Instr → Instr → Meaning
  branch : BranchOp → Reg → Reg → List ℕ → Meaning
  jump : Reg → List ℕ → Meaning
  address : Reg → List ℕ → Meaning
  section : Section → Meaning
  numbers : NumberWidth → List ℕ → Meaning
  zeros : ℕ → Meaning
  align : ℕ → Meaning

pub record LineMeaning : Type 0 where
  pub label : Option (List ℕ)
  pub meaning : Meaning

abbrev pub meaning_of : Statement → Meaning
meaning_of statements.Nothing = nothing
meaning_of (statements.Instruction instr) = instruction instr
meaning_of (statements.Pair first second) = pair first second
meaning_of (statements.Branch op rs1 rs2 label) = branch op rs1 rs2 label.now
meaning_of (statements.Jump rd label) = jump rd label.now
meaning_of (statements.Address rd label) = address rd label.now
meaning_of (statements.Section s) = section s
meaning_of (statements.Numbers width values) = numbers width values.items
meaning_of (statements.Zeros count) = zeros count
meaning_of (statements.Align boundary) = align boundary

abbrev pub line_meaning : Line → LineMeaning
line_meaning line = record { label = option_map (λ text. text.now) line.label; meaning = meaning_of line.statement }

-- the same in bits
abbrev pub width_of : NumberWidth → Width
width_of Byte = w8
width_of Half = w16
width_of Word = w32
width_of Doubleword = w64

-- a power of two up to 4096
pub record IsAlignment (n : ℕ) : Type 0 where
  pub power : IsTrue (is_power_of_two n)
  pub positive : 1 ≤ n
  pub limit : n ≤ 4096

-- each instruction has a word, each number fits its width, and counts are within their limits
abbrev pub IsInRange : Meaning → Type 0
IsInRange nothing = Unit {0}
IsInRange (instruction instr) = IsChecked instr
IsInRange (pair first second) = IsChecked first × IsChecked second
IsInRange (branch op rs1 rs2 label) = Unit {0}
IsInRange (jump rd label) = Unit {0}
IsInRange (address rd label) = Unit {0}
IsInRange (section s) = Unit {0}
IsInRange (numbers width values) = All (λ v. v < 2 ^ (8 * width_bytes width)) values
IsInRange (zeros count) = count ≤ 1048576
IsInRange (align boundary) = IsAlignment boundary
