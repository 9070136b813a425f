use Rattle.std.proofs.Common.{◌≡◌, ◌≤◌, [], drop, take}
use Rattle.std.specs.List.{fold}
use Rattle.elf_file.specs.Texts.{base_with}
use Rattle.elf_file.proofs.lines.texts.base_name.Given as goal

abbrev pub invariant-loop-index : goal.invariant-loop-index
invariant-loop-index l = (l.start ≤ l.index) × (drop l.start (take l.index l.path) ≡ fold base_with [] (take l.index l.path))
