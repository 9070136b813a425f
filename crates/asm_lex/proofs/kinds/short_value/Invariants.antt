use Rattle.std.proofs.Common.{take}
use Rattle.asm_lex.proofs.Digits.{IsShort}
use Rattle.asm_lex.proofs.kinds.short_value.Given as goal

abbrev pub invariant-loop-byte : goal.invariant-loop-byte
invariant-loop-byte l = IsShort l.radix (take l.byte-index l.digits) l.value
