-- The codes by which faults are known.
use Rattle.std.specs.Prelude.{ℕ, List, codes}
use Rattle.elf_file.specs.declared.fault.ElfFault.{ElfFault}
use Rattle.elf_file.specs.declared.fault.ElfFault.TheVariants.{Truncated, Identification, Machine, Linkage, Flags, Entry, Placement, Segment, Memory}

abbrev pub elf_code : ElfFault → List ℕ
elf_code Truncated = codes "E1"
elf_code Identification = codes "E2"
elf_code Machine = codes "E3"
elf_code Linkage = codes "E4"
elf_code Flags = codes "E5"
elf_code Entry = codes "E6"
elf_code Placement = codes "E7"
elf_code Segment = codes "E8"
elf_code Memory = codes "E9"
