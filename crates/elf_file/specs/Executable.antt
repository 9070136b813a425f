-- The program that an ELF file is the executable of. Source: gABI, chapter 5, "Program Loading" (a segment's bytes in the file stand at its
-- address, and zeros fill the rest).
use Rattle.std.specs.List.{range_with_len}
use Rattle.std.specs.Prelude.{◌≡◌, ◌⊎◌, ℕ, zero, suc, ◌+◌, ◌-◌, Bool, ◌&&◌, nat_lt, nat_le, if◌then◌else◌, List, map, slice_index}
use Rattle.std.specs.Int.{next_multiple_of}
use Rattle.program.specs.Sections.{Sections}
use Rattle.elf_file.specs.Header.{HasHeader, header_count}
use Rattle.elf_file.specs.Segments.{AreRightHeaders, data_region, has_bytes_in, header_at, is_segment, text_region}
use Rattle.elf_file.specs.declared.program_header.ProgramHeader.{ProgramHeader}
use Rattle.elf_file.specs.declared.program_header.Region.{Region}

abbrev pub IsRegion : Region → Type 0
IsRegion region = (region ≡ text_region) ⊎ (region ≡ data_region)

-- the segment has a byte in the file for this address
abbrev pub holds : ProgramHeader → ℕ → Bool
holds header address = is_segment header && (nat_le header.address address && nat_lt address (header.address + header.file_size))

-- The byte at an address: that of the segment that holds it, among the first entries of the table, and 0 where none does. No two hold it.
abbrev pub byte_at : List ℕ → ℕ → ℕ → ℕ
byte_at file zero address = 0
byte_at file (suc number) address =
    if holds (header_at file number) address then slice_index file ((header_at file number).offset + (address - (header_at file number).address)) else byte_at file number address

-- how far past the region's base the last byte stands that a segment has in the file, among the first entries
abbrev pub extent : Region → List ℕ → ℕ → ℕ
extent region file zero = 0
extent region file (suc number) =
    if has_bytes_in region (header_at file number) then (header_at file number).address + (header_at file number).file_size - region.base else extent region file number

-- so many bytes from an address on
abbrev pub bytes_from : List ℕ → ℕ → ℕ → List ℕ
bytes_from file address size = map (byte_at file (header_count file)) (range_with_len address size)

-- the text is rounded up to whole words
abbrev pub text_of : List ℕ → List ℕ
text_of file = bytes_from file 0x1_0000 (next_multiple_of (extent text_region file (header_count file)) 4)

abbrev pub data_of : List ℕ → List ℕ
data_of file = bytes_from file 0x10_0000 (extent data_region file (header_count file))

-- the file has no fault, and these are its text and its data
pub record IsExecutableOf (file : List ℕ) (object : Sections) : Type 0 where
  pub header : HasHeader file
  pub headers : AreRightHeaders file (header_count file)
  pub text : object.text ≡ text_of file
  pub static_data : object.static_data ≡ data_of file
