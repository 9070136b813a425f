-- What is wrong with an ELF file, each fault where nothing is wrong that is looked for before it.
use Rattle.std.specs.Prelude.{◌≡◌, ◌≢◌, ◌⊎◌, ℕ, ◌+◌, ◌<◌, ◌≤◌, IsTrue, List, bit_and, length}
use Rattle.elf_file.specs.Header.{HasHeader, HasTable, IsElf64, IsExecutable, IsLinked, IsPlain, IsRiscV, header_count, number_at}
use Rattle.elf_file.specs.Segments.{AreRightHeaders, IsPlaced, end_before, header_at, is_segment}
use Rattle.elf_file.specs.declared.fault.ElfFault.{ElfFault}
use Rattle.elf_file.specs.declared.fault.ElfFault.TheVariants.{Truncated, Identification, Machine, Linkage, Flags, Entry, Placement, Segment, Memory}
use Rattle.elf_file.specs.declared.program_header.ProgramHeader.{ProgramHeader}

-- of the header
abbrev pub IsHeaderFault : List ℕ → ElfFault → Type 0
IsHeaderFault file Truncated = (length file < 64) ⊎ (IsExecutable file × ¬ HasTable file)
IsHeaderFault file Identification = (64 ≤ length file) × ¬ IsElf64 file
IsHeaderFault file Machine = IsElf64 file × (number_at 2 file 18 ≢ 243)
IsHeaderFault file Linkage = IsRiscV file × (number_at 2 file 16 ≢ 2)
IsHeaderFault file Flags = IsLinked file × (bit_and (number_at 4 file 48) 0xf ≢ 0)
IsHeaderFault file Entry = IsPlain file × (number_at 8 file 24 ≢ 0x1_0000)
IsHeaderFault file Placement = ⊥
IsHeaderFault file Segment = ⊥
IsHeaderFault file Memory = ⊥

-- an entry is a segment whose sizes are right
pub record IsSizedSegment (header : ProgramHeader) : Type 0 where
  pub segment : IsTrue (is_segment header)
  pub sizes : header.file_size ≤ header.memory_size

-- and whose bytes are in the file
pub record IsSegmentInFile (file : List ℕ) (header : ProgramHeader) : Type 0 where
  pub sized : IsSizedSegment header
  pub in_file : header.offset + header.file_size ≤ length file

-- of an entry behind a segment that ends there
abbrev pub IsTableFault : List ℕ → ℕ → ProgramHeader → ElfFault → Type 0
IsTableFault file end header Linkage = (header.kind ≡ 2) ⊎ (header.kind ≡ 3)
IsTableFault file end header Segment =
    ((header.kind ≡ 1) × (header.memory_size < header.file_size)) ⊎ (IsSegmentInFile file header × IsPlaced header × (header.address < end))
IsTableFault file end header Truncated = IsSizedSegment header × (length file < header.offset + header.file_size)
IsTableFault file end header Placement = IsSegmentInFile file header × ¬ IsPlaced header
IsTableFault file end header Identification = ⊥
IsTableFault file end header Machine = ⊥
IsTableFault file end header Flags = ⊥
IsTableFault file end header Entry = ⊥
IsTableFault file end header Memory = ⊥

-- of the first entry of the table that isn't right
pub record HasTableFault (file : List ℕ) (fault : ElfFault) : Type 0 where
  pub header : HasHeader file
  pub number : ℕ
  pub within : number < header_count file
  pub before : AreRightHeaders file number
  pub found : IsTableFault file (end_before file number) (header_at file number) fault

-- The fault of the file that is found first. To be out of memory is no fault of the file.
abbrev pub IsFirstFault : List ℕ → ElfFault → Type 0
IsFirstFault file fault = IsHeaderFault file fault ⊎ HasTableFault file fault
