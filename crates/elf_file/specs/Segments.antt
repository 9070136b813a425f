-- The table of program headers, and the segments among them. Source: gABI, chapter 5, "Program Header" (Elf64_Phdr).
use Rattle.std.specs.Prelude.{◌≡◌, ◌≢◌, ◌⊎◌, ℕ, zero, suc, ◌+◌, ◌*◌, ◌<◌, ◌≤◌, Bool, ◌&&◌, not, ◌==◌, nat_lt, nat_le, if◌then◌else◌, IsTrue, List, length}
use Rattle.elf_file.specs.Header.{headers_start, number_at}
use Rattle.elf_file.specs.declared.program_header.ProgramHeader.{ProgramHeader}
use Rattle.elf_file.specs.declared.program_header.Region.{Region}

-- the entry of a number: p_type, p_offset, p_vaddr, p_paddr, p_filesz, p_memsz
unfoldable pub header_at : List ℕ → ℕ → ProgramHeader
header_at file number = record {
  kind = number_at 4 file (headers_start file + 56 * number);
  offset = number_at 8 file (headers_start file + 56 * number + 8);
  address = number_at 8 file (headers_start file + 56 * number + 16);
  physical_address = number_at 8 file (headers_start file + 56 * number + 24);
  file_size = number_at 8 file (headers_start file + 56 * number + 32);
  memory_size = number_at 8 file (headers_start file + 56 * number + 40);
}

-- a segment is loaded (PT_LOAD), and has bytes in memory
abbrev pub is_segment : ProgramHeader → Bool
is_segment header = (header.kind == 1) && not (header.memory_size == 0)

-- the regions of the machine's memory
abbrev pub text_region : Region
text_region = record { base = 0x1_0000; size = 0x1_0000 }

abbrev pub data_region : Region
data_region = record { base = 0x10_0000; size = 0x10_0000 }

-- its memory is within a region
pub record IsWithin (region : Region) (header : ProgramHeader) : Type 0 where
  pub begins : region.base ≤ header.address
  pub ends : header.address + header.memory_size ≤ region.base + region.size

-- it is placed in memory that the machine has, and isn't copied there from another address
pub record IsPlaced (header : ProgramHeader) : Type 0 where
  pub place : IsWithin text_region header ⊎ IsWithin data_region header
  pub uncopied : header.physical_address ≡ header.address

-- the end of the last segment, where it was `end` before this entry
abbrev pub end_behind : ℕ → ProgramHeader → ℕ
end_behind end header = if is_segment header then header.address + header.memory_size else end

-- the end of the last segment among the first entries of the table
abbrev pub end_before : List ℕ → ℕ → ℕ
end_before file zero = 0
end_before file (suc number) = end_behind (end_before file number) (header_at file number)

-- nothing asks for a dynamic linker (PT_DYNAMIC, PT_INTERP)
pub record IsStatic (header : ProgramHeader) : Type 0 where
  pub no_dynamic : header.kind ≢ 2
  pub no_interpreter : header.kind ≢ 3

-- what is loaded has no more bytes in the file than in memory
abbrev pub HasSizes : ProgramHeader → Type 0
HasSizes header = header.kind ≡ 1 → header.file_size ≤ header.memory_size

-- a segment's bytes are in the file, its memory is placed, and it begins no lower than where the one before it ends
pub record IsRightSegment (file : List ℕ) (end : ℕ) (header : ProgramHeader) : Type 0 where
  pub in_file : header.offset + header.file_size ≤ length file
  pub placed : IsPlaced header
  pub upwards : end ≤ header.address

pub record IsRightHeader (file : List ℕ) (end : ℕ) (header : ProgramHeader) : Type 0 where
  pub static : IsStatic header
  pub sizes : HasSizes header
  pub segment : IsTrue (is_segment header) → IsRightSegment file end header

-- so are the first entries of the table
abbrev pub AreRightHeaders : List ℕ → ℕ → Type 0
AreRightHeaders file count = (number : ℕ) → number < count → IsRightHeader file (end_before file number) (header_at file number)

-- it is a segment, with bytes in the file for this region
abbrev pub has_bytes_in : Region → ProgramHeader → Bool
has_bytes_in region header =
    is_segment header && (not (header.file_size == 0) && (nat_le region.base header.address && nat_lt header.address (region.base + region.size)))
