use Rattle.std.proofs.Common.{◌≡◌}
use Rattle.elf_file.specs.Functions.{functions_before}
use Rattle.elf_file.proofs.functions.of_symbols.Given as goal

abbrev pub invariant-loop-number : goal.invariant-loop-number
invariant-loop-number l = l.table.items ≡ functions_before l.symbols l.strings l.number
