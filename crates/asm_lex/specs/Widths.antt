-- How many bytes the numbers of a directive take.
use Rattle.std.specs.Prelude.{ℕ}
use Rattle.asm_lex.specs.declared.asm_names.kinds.NumberWidth.{NumberWidth}
use Rattle.asm_lex.specs.declared.asm_names.kinds.NumberWidth.TheVariants.{Byte, Half, Word, Doubleword}

abbrev pub width_bytes : NumberWidth → ℕ
width_bytes Byte = 1
width_bytes Half = 2
width_bytes Word = 4
width_bytes Doubleword = 8
