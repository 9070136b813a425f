-- The codes by which faults are known.
use Rattle.std.specs.Prelude.{ℕ, List, codes}
use Rattle.assemble.specs.declared.asm_line.fault.AsmCode.{AsmCode}
use Rattle.assemble.specs.declared.asm_line.fault.AsmCode.TheVariants as asm

-- of a line of a source
abbrev pub assembly_code : AsmCode → List ℕ
assembly_code asm.BadToken = codes "A1"
assembly_code asm.Mnemonic = codes "A2"
assembly_code asm.Operands = codes "A3"
assembly_code asm.Register = codes "A4"
assembly_code asm.Range = codes "A5"
assembly_code asm.UnknownLabel = codes "A6"
assembly_code asm.LabelTwice = codes "A7"
assembly_code asm.WrongSection = codes "A8"
assembly_code asm.TooLarge = codes "A9"
assembly_code asm.Memory = codes "A10"
