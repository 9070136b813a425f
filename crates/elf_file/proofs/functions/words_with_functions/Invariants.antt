use Rattle.std.proofs.Common.{◌<◌}
use Rattle.elf_file.proofs.functions.words_with_functions.Given as goal

abbrev pub invariant-loop-function : goal.invariant-loop-function
invariant-loop-function l = l.words < 65536
