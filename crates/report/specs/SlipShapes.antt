-- What a mnemonic takes, and the range of its number or distance, in words (docs/FORMATS.md, "Assembler source").
use Rattle.std.specs.Prelude.{ℕ, List, [], Option, Some, None, codes}
use Rattle.isa_table.specs.declared.instruction.ShiftOp.{ShiftOp}
use Rattle.isa_table.specs.declared.instruction.ShiftOp.TheVariants as shifts
use Rattle.asm_lex.specs.declared.asm_names.kinds.NumberWidth.{NumberWidth}
use Rattle.asm_lex.specs.declared.asm_names.kinds.NumberWidth.TheVariants as widths
use Rattle.asm_lex.specs.declared.asm_names.mnemonic.Mnemonic.{Mnemonic}
use Rattle.asm_lex.specs.declared.asm_names.mnemonic.Mnemonic.TheVariants as mnemonics

-- the operands of a mnemonic
abbrev pub shape_text : Mnemonic → List ℕ
shape_text (mnemonics.Upper op) = codes "takes rd, number"
shape_text mnemonics.Jump = codes "takes rd, target, or a target alone"
shape_text mnemonics.JumpRegister = codes "takes rd, offset(rs1), or rs1 alone"
shape_text (mnemonics.Branch op) = codes "takes rs1, rs2, target"
shape_text (mnemonics.Load op) = codes "takes rd, offset(rs1)"
shape_text (mnemonics.Store op) = codes "takes rs2, offset(rs1)"
shape_text (mnemonics.Immediate op) = codes "takes rd, rs1, number"
shape_text (mnemonics.Shift op) = codes "takes rd, rs1, number"
shape_text (mnemonics.Register op) = codes "takes rd, rs1, rs2"
shape_text mnemonics.Fence = codes "takes two sets, each of letters of iorw in that order or 0, or nothing"
shape_text mnemonics.FenceI = codes "takes nothing"
shape_text (mnemonics.Cache op) = codes "takes (rs1)"
shape_text (mnemonics.LoadReserved form) = codes "takes rd, (rs1)"
shape_text (mnemonics.Atomic op form) = codes "takes rd, rs2, (rs1)"
shape_text (mnemonics.System op) = codes "takes nothing"
shape_text mnemonics.Nop = codes "takes nothing"
shape_text mnemonics.Return = codes "takes nothing"
shape_text (mnemonics.Unary op) = codes "takes rd, rs"
shape_text (mnemonics.ZeroBranch op) = codes "takes rs, target"
shape_text (mnemonics.ExchangedBranch op) = codes "takes rs1, rs2, target"
shape_text mnemonics.PlainJump = codes "takes a target"
shape_text mnemonics.PlainJumpRegister = codes "takes rs"
shape_text mnemonics.LoadNumber = codes "takes rd, number"
shape_text mnemonics.LoadAddress = codes "takes rd, label"
shape_text (mnemonics.Section section) = codes "takes nothing"
shape_text (mnemonics.Numbers width) = codes "takes numbers between commas"
shape_text mnemonics.Zeros = codes "takes a number"
shape_text mnemonics.Align = codes "takes a number"

-- a shift's amount, by whether it shifts words
abbrev pub shift_text : ShiftOp → List ℕ
shift_text shifts.Slli = codes "0 to 63"
shift_text shifts.Srli = codes "0 to 63"
shift_text shifts.Srai = codes "0 to 63"
shift_text shifts.Slliw = codes "0 to 31"
shift_text shifts.Srliw = codes "0 to 31"
shift_text shifts.Sraiw = codes "0 to 31"

-- a number of this many bytes, signed or unsigned
abbrev pub width_text : NumberWidth → List ℕ
width_text widths.Byte = codes "-128 to 255"
width_text widths.Half = codes "-32768 to 65535"
width_text widths.Word = codes "-2147483648 to 4294967295"
width_text widths.Doubleword = codes "-9223372036854775808 to 18446744073709551615"

-- the range of a mnemonic's number or distance; empty where it has none
abbrev pub range_text : Mnemonic → List ℕ
range_text (mnemonics.Upper op) = codes "0 to 1048575"
range_text mnemonics.Jump = codes "an even distance from -1048576 to 1048574"
range_text mnemonics.JumpRegister = codes "-2048 to 2047"
range_text (mnemonics.Branch op) = codes "an even distance from -4096 to 4094"
range_text (mnemonics.Load op) = codes "-2048 to 2047"
range_text (mnemonics.Store op) = codes "-2048 to 2047"
range_text (mnemonics.Immediate op) = codes "-2048 to 2047"
range_text (mnemonics.Shift op) = shift_text op
range_text (mnemonics.Register op) = []
range_text mnemonics.Fence = []
range_text mnemonics.FenceI = []
range_text (mnemonics.Cache op) = codes "an offset of 0"
range_text (mnemonics.LoadReserved form) = codes "an offset of 0"
range_text (mnemonics.Atomic op form) = codes "an offset of 0"
range_text (mnemonics.System op) = []
range_text mnemonics.Nop = []
range_text mnemonics.Return = []
range_text (mnemonics.Unary op) = []
range_text (mnemonics.ZeroBranch op) = codes "an even distance from -4096 to 4094"
range_text (mnemonics.ExchangedBranch op) = codes "an even distance from -4096 to 4094"
range_text mnemonics.PlainJump = codes "an even distance from -1048576 to 1048574"
range_text mnemonics.PlainJumpRegister = []
range_text mnemonics.LoadNumber = codes "-2147483648 to 2147483647"
range_text mnemonics.LoadAddress = []
range_text (mnemonics.Section section) = []
range_text (mnemonics.Numbers width) = width_text width
range_text mnemonics.Zeros = codes "0 to 1048576"
range_text mnemonics.Align = codes "a power of two up to 4096"
