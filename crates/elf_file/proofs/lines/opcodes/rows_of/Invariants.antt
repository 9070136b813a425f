use Rattle.std.proofs.Common.{◌≡◌, ◌≤◌, ◌++◌, length, option_map, ℕ}
use Rattle.elf_file.specs.Opcodes.{rows_in, rows_of}
use Rattle.elf_file.proofs.lines.opcodes.rows_of.Given as goal

abbrev pub invariant-loop-rest : goal.invariant-loop-rest
invariant-loop-rest l =
    (n : ℕ) × (length l.rest ≤ n)
    × (option_map (λ more. l.rows.items ++ more) (rows_in n l.coding l.registers l.rest) ≡ rows_of l.coding l.program)

abbrev pub decreases-loop-rest : goal.decreases-loop-rest
decreases-loop-rest l = length l.rest
