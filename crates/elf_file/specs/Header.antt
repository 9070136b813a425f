-- The header of an ELF file for RISC-V. Source: gABI, chapter 4, "ELF Header" (Elf64_Ehdr) and "ELF Identification"; RISC-V ELF psABI,
-- "ELF Object Files", "File Header" (e_machine, e_flags).
use Rattle.std.specs.List.{starts_with}
use Rattle.std.specs.Prelude.{◌≡◌, ℕ, ◌+◌, ◌*◌, ◌≤◌, Bool, List, ◌∷◌, bit_and, codes, drop, length, nat_eq, slice_index}
use Rattle.byteorder.specs.Endian.{little_number}

-- 7f 45 4c 46
abbrev pub elf_magic : List ℕ
elf_magic = 0x7f ∷ codes "ELF"

abbrev pub begins_as_elf : List ℕ → Bool
begins_as_elf file = starts_with nat_eq file elf_magic

-- the number in so many bytes at a place, the lowest byte first
unfoldable pub number_at : ℕ → List ℕ → ℕ → ℕ
number_at size bytes at = little_number size (drop at bytes)

-- where the table of program headers stands (e_phoff), and how many it has (e_phnum)
abbrev pub headers_start : List ℕ → ℕ
headers_start file = number_at 8 file 32

abbrev pub header_count : List ℕ → ℕ
header_count file = number_at 2 file 56

-- a file of 64 bits (ELFCLASS64), the low byte of a number first (ELFDATA2LSB), of the current version (EV_CURRENT)
pub record IsElf64 (file : List ℕ) : Type 0 where
  pub whole : 64 ≤ length file
  pub class : slice_index file 4 ≡ 2
  pub byte_order : slice_index file 5 ≡ 1
  pub version : slice_index file 6 ≡ 1

-- for RISC-V (e_machine is EM_RISCV)
pub record IsRiscV (file : List ℕ) : Type 0 where
  pub elf : IsElf64 file
  pub machine : number_at 2 file 18 ≡ 243

-- linked at fixed addresses (e_type is ET_EXEC)
pub record IsLinked (file : List ℕ) : Type 0 where
  pub risc_v : IsRiscV file
  pub kind : number_at 2 file 16 ≡ 2

-- without compressed instructions (EF_RISCV_RVC), floating-point registers in calls (EF_RISCV_FLOAT_ABI), and not for sixteen registers
-- (EF_RISCV_RVE)
pub record IsPlain (file : List ℕ) : Type 0 where
  pub linked : IsLinked file
  pub flags : bit_and (number_at 4 file 48) 0xf ≡ 0

-- begun where the machine begins (e_entry is the base of the text region)
pub record IsExecutable (file : List ℕ) : Type 0 where
  pub plain : IsPlain file
  pub entry : number_at 8 file 24 ≡ 0x1_0000

-- the whole table of program headers is in the file, each of 56 bytes (e_phentsize)
pub record HasTable (file : List ℕ) : Type 0 where
  pub entry_size : number_at 2 file 54 ≡ 56
  pub within : headers_start file + 56 * header_count file ≤ length file

pub record HasHeader (file : List ℕ) : Type 0 where
  pub executable : IsExecutable file
  pub table : HasTable file
