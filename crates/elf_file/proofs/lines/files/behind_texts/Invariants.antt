use Rattle.std.proofs.Common.{◌≡◌, ◌≤◌, ℕ, length}
use Rattle.elf_file.specs.Files.{behind_texts}
use Rattle.elf_file.proofs.lines.files.behind_texts.Given as goal

abbrev pub invariant-loop-text : goal.invariant-loop-text
invariant-loop-text l = (n : ℕ) × (length l.rest ≤ n) × (behind_texts n l.rest ≡ behind_texts (length l.bytes) l.bytes)

abbrev pub decreases-loop-text : goal.decreases-loop-text
decreases-loop-text l = length l.rest
