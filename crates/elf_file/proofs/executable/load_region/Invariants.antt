use Rattle.elf_file.proofs.Loading.{IsLoaded}
use Rattle.elf_file.proofs.executable.load_region.Given as goal

abbrev pub invariant-loop-number : goal.invariant-loop-number
invariant-loop-number l = IsLoaded l.file l.region l.number l.bytes.items
