use Rattle.std.proofs.Common.{◌≡◌, ◌≤◌, ◌++◌, ℕ, length, map, option_map}
use Rattle.elf_file.specs.Files.{files_in}
use Rattle.elf_file.specs.Texts.{known_path}
use Rattle.elf_file.proofs.lines.files.files_in.Given as goal

abbrev pub invariant-loop-path : goal.invariant-loop-path
invariant-loop-path l = (n : ℕ) × (length l.rest ≤ n)
    × (option_map (λ more. map known_path l.files.items ++ more) (files_in n l.rest) ≡ files_in (length l.bytes) l.bytes)

abbrev pub decreases-loop-path : goal.decreases-loop-path
decreases-loop-path l = length l.rest
