use Rattle.elf_file.proofs.LineTexts.{IsLastZero}
use Rattle.elf_file.proofs.lines.texts.through_last_zero.Given as goal

abbrev pub invariant-loop-index : goal.invariant-loop-index
invariant-loop-index l = IsLastZero l.strings l.end l.index
