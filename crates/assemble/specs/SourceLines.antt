-- Which bytes a source line has, at a place and with these values of labels.
-- Source: RISC-V Unprivileged ISA 20191213, chapters 24 and 25.
use Rattle.std.specs.Prelude.{◌≡◌, ℕ, ◌^◌, ◌<◌, Bool, true, false, List, [], ◌++◌, take, Option, Result, Ok, ℤ, pos, ◌-ℤ◌, ok_or, option_map, replicate}
use Rattle.std.specs.Int.{w32, w64, to_le_bytes}
use Rattle.std.specs.List.{flat_map}
use Rattle.isa_table.specs.declared.instruction.Instr.{Instr}
use Rattle.isa_table.specs.declared.instruction.Instr.TheVariants as instrs
use Rattle.isa_table.specs.declared.instruction.UpperOp.TheVariants.{Auipc}
use Rattle.isa_table.specs.declared.instruction.ImmediateOp.TheVariants.{Addi}
use Rattle.isa_table.specs.declared.register.Reg.{Reg}
use Rattle.isa_table.specs.Ranges.{IsChecked}
use Rattle.isa_table.specs.Table.{IsCanonical}
use Rattle.assemble.specs.declared.asm_line.fault.AsmCode.{AsmCode}
use Rattle.assemble.specs.declared.asm_line.fault.AsmCode.TheVariants.{UnknownLabel}
use Rattle.asm_lex.specs.declared.asm_names.kinds.NumberWidth.{NumberWidth}
use Rattle.asm_lex.specs.declared.asm_names.kinds.NumberWidth.TheVariants.{Word}
use Rattle.asm_lex.specs.declared.asm_names.kinds.Section.{Section}
use Rattle.asm_lex.specs.declared.asm_names.kinds.Section.TheVariants.{Text, Data}
use Rattle.assemble.specs.Lines.{line_of}
use Rattle.assemble.specs.Meanings.{Meaning, LineMeaning, nothing, instruction, pair, branch, jump, address, section, numbers, zeros, align, width_bytes}
use Rattle.assemble.specs.Numbers.{branch_reach, jump_reach, reached, upper_half, lower_half}
use Rattle.assemble.specs.Places.{padding}

-- the values of labels: None of one that no line defines
abbrev pub Values : Type 0
Values = List ℕ → Option ℕ

-- the distance from a place to a label
abbrev pub distance : Values → ℕ → List ℕ → Result ℤ AsmCode
distance values place label = ok_or (option_map (λ value. pos value -ℤ pos place) (values label)) UnknownLabel

-- the distance of a branch, and that of a jump
abbrev pub branch_distance : Values → ℕ → List ℕ → Result ℤ AsmCode
branch_distance values place label = reached branch_reach (distance values place label)

abbrev pub jump_distance : Values → ℕ → List ℕ → Result ℤ AsmCode
jump_distance values place label = reached jump_reach (distance values place label)

-- the canonical word of an instruction whose operands it holds, the least significant byte first
pub record HasWord (instr : Instr) (bytes : List ℕ) : Type 0 where
  pub word : ℕ
  pub short : word < 2 ^ 32
  pub checked : IsChecked instr
  pub canonical : IsCanonical word instr
  pub bytes_is : bytes ≡ to_le_bytes w32 word

-- the words of two instructions
pub record HaveWords (first second : Instr) (bytes : List ℕ) : Type 0 where
  pub first_bytes : List ℕ
  pub second_bytes : List ℕ
  pub first_is : HasWord first first_bytes
  pub second_is : HasWord second second_bytes
  pub whole : bytes ≡ first_bytes ++ second_bytes

-- a number's bytes, of which the least significant is the first
abbrev pub number_bytes : NumberWidth → ℕ → List ℕ
number_bytes width value = take (width_bytes width) (to_le_bytes w64 value)

-- `la`: AUIPC and ADDI of the distance to a label, split into its halves
abbrev pub HasAddress : Values → ℕ → Reg → List ℕ → List ℕ → Type 0
HasAddress values place rd label bytes =
    (z : ℤ) × (distance values place label ≡ Ok z)
    × HaveWords (instrs.Upper Auipc rd (upper_half z)) (instrs.Immediate Addi rd rd (lower_half z)) bytes

-- the bytes of a statement at a place
abbrev pub HasBytes : Values → ℕ → Meaning → List ℕ → Type 0
HasBytes values place nothing bytes = bytes ≡ []
HasBytes values place (instruction instr) bytes = HasWord instr bytes
HasBytes values place (pair first second) bytes = HaveWords first second bytes
HasBytes values place (branch op rs1 rs2 label) bytes =
    (z : ℤ) × (branch_distance values place label ≡ Ok z) × HasWord (instrs.Branch op rs1 rs2 z) bytes
HasBytes values place (jump rd label) bytes =
    (z : ℤ) × (jump_distance values place label ≡ Ok z) × HasWord (instrs.Jump rd z) bytes
HasBytes values place (address rd label) bytes = HasAddress values place rd label bytes
HasBytes values place (section s) bytes = bytes ≡ []
HasBytes values place (numbers width ns) bytes = bytes ≡ flat_map (number_bytes width) ns
HasBytes values place (zeros count) bytes = bytes ≡ replicate count 0
HasBytes values place (align boundary) bytes = bytes ≡ replicate (padding place boundary) 0

-- the statement may stand in this section: instructions in text, `.word` in both, the other numbers and zeros in data
abbrev pub stands_in : Section → Meaning → Bool
stands_in here nothing = true
stands_in here (section s) = true
stands_in here (numbers Word ns) = true
stands_in Text (instruction instr) = true
stands_in Text (pair first second) = true
stands_in Text (branch op rs1 rs2 label) = true
stands_in Text (jump rd label) = true
stands_in Text (address rd label) = true
stands_in Text (numbers width ns) = false
stands_in Text (zeros count) = false
stands_in Text (align boundary) = false
stands_in Data (instruction instr) = false
stands_in Data (pair first second) = false
stands_in Data (branch op rs1 rs2 label) = false
stands_in Data (jump rd label) = false
stands_in Data (address rd label) = false
stands_in Data (numbers width ns) = true
stands_in Data (zeros count) = true
stands_in Data (align boundary) = true

-- a source line, in a section and at a place, and its bytes
pub record IsSourceLine (here : Section) (place : ℕ) (values : Values) (line bytes : List ℕ) : Type 0 where
  pub says : LineMeaning
  pub reads : line_of line ≡ Ok says
  pub stands : stands_in here says.meaning ≡ true
  pub has_bytes : HasBytes values place says.meaning bytes
