use Rattle.std.proofs.Common.{take}
use Rattle.elf_file.specs.FunctionNumbers.{IsNumberAt}
use Rattle.elf_file.proofs.functions.number_at.Given as goal

abbrev pub invariant-loop-number : goal.invariant-loop-number
invariant-loop-number l = IsNumberAt (take l.number l.table) l.pc l.best
