use Rattle.std.proofs.Common.{◌≡◌, length}
use Rattle.elf_file.specs.FunctionNumbers.{AreCells}
use Rattle.elf_file.proofs.functions.cells_of.Given as goal

abbrev pub invariant-loop-word : goal.invariant-loop-word
invariant-loop-word l = AreCells l.table l.cells.items × (length l.cells.items ≡ l.word)
