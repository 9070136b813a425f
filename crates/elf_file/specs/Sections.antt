-- The sections of an ELF file. Source: gABI, chapter 4, "Sections" (Elf64_Shdr) and "String Table".
use Rattle.std.specs.Bool.{then_some}
use Rattle.std.specs.List.{position}
use Rattle.std.specs.Option.{option_and_then, option_map, option_map_or, option_or}
use Rattle.std.specs.Str.{bytes_eq}
use Rattle.std.specs.Prelude.{◌≤◌, ℕ, zero, suc, ◌+◌, ◌*◌, ◌/◌, ◌%◌, Bool, false, ◌&&◌, not, ◌==◌, nat_lt, nat_le, if◌then◌else◌, List, [], take, drop, length, Option, None}
use Rattle.elf_file.specs.Header.{number_at}
use Rattle.elf_file.specs.declared.section_header.SectionHeader.{SectionHeader}

-- where the table of section headers stands (e_shoff; 0 where there is none)
abbrev pub sections_start : List ℕ → ℕ
sections_start file = number_at 8 file 40

-- the table can be read: it is there, its entries are of 64 bytes (e_shentsize), and it is in the file
abbrev pub has_sections : List ℕ → Bool
has_sections file =
    nat_le 64 (length file) && (not (sections_start file == 0) && ((number_at 2 file 58 == 64) && nat_le (sections_start file + 64 * number_at 2 file 60) (length file)))

-- how many sections there are (e_shnum): none where the table can't be read
unfoldable pub section_count : List ℕ → ℕ
section_count file = if has_sections file then number_at 2 file 60 else 0

-- the entry of a number: sh_name, sh_type, sh_flags, sh_offset, sh_size, sh_link, sh_entsize
unfoldable pub section_header_at : List ℕ → ℕ → SectionHeader
section_header_at file number = record {
  name = number_at 4 file (sections_start file + 64 * number);
  kind = number_at 4 file (sections_start file + 64 * number + 4);
  flags = number_at 8 file (sections_start file + 64 * number + 8);
  offset = number_at 8 file (sections_start file + 64 * number + 24);
  size = number_at 8 file (sections_start file + 64 * number + 32);
  link = number_at 4 file (sections_start file + 64 * number + 40);
  entry_size = number_at 8 file (sections_start file + 64 * number + 56);
}

-- a section's header is in the file
pub record HasSection (file : List ℕ) (number : ℕ) : Type 0 where
  pub whole : 64 ≤ length file
  pub within : sections_start file + 64 * number + 64 ≤ length file

-- a section's bytes: empty where it has none in the file (SHT_NOBITS), or they end past it
abbrev pub section_bytes : List ℕ → SectionHeader → List ℕ
section_bytes file header =
    if not (header.kind == 8) && nat_le (header.offset + header.size) (length file) then take header.size (drop header.offset file) else []

-- those of the section of a number: empty where there is no such section
abbrev pub bytes_of_section : List ℕ → ℕ → List ℕ
bytes_of_section file number = if nat_lt number (section_count file) then section_bytes file (section_header_at file number) else []

-- the text at a place of a string table: the bytes up to the next zero
abbrev pub text_at : List ℕ → ℕ → Option (List ℕ)
text_at strings at = option_map (λ (end : ℕ). take end (drop at strings)) (position (λ byte. byte == 0) (drop at strings))

-- the text there, where it has at most so many bytes
abbrev pub short_text_at : List ℕ → ℕ → ℕ → Option (List ℕ)
short_text_at strings at limit = option_and_then (λ (text : List ℕ). then_some (nat_le (length text) limit) text) (text_at strings at)

-- the first section that passes a test, among the first entries of the table
abbrev pub first_section : (SectionHeader → Bool) → List ℕ → ℕ → Option SectionHeader
first_section test file zero = None
first_section test file (suc number) =
    option_or (first_section test file number) (then_some (test (section_header_at file number)) (section_header_at file number))

-- the names of sections stand in the section of the number e_shstrndx
abbrev pub section_names : List ℕ → List ℕ
section_names file = bytes_of_section file (number_at 2 file 62)

-- a section of this name that isn't compressed (SHF_COMPRESSED, bit 11 of its flags)
abbrev pub is_named : List ℕ → List ℕ → SectionHeader → Bool
is_named names name header = (header.flags / 2048 % 2 == 0) && option_map_or (λ (text : List ℕ). bytes_eq text name) (text_at names header.name) false

-- the bytes of the first such section: empty where there is none
abbrev pub section_of : List ℕ → List ℕ → List ℕ
section_of file name = option_map_or (section_bytes file) (first_section (is_named (section_names file) name) file (section_count file)) []
