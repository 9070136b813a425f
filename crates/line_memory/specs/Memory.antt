-- Flat memory: a map from address to byte. An address of no region has none.
-- Source: RISC-V Unprivileged ISA 20191213, chapter 2 ("Load and Store Instructions": byte-addressed, little-endian).
use Rattle.std.specs.Prelude.{ℕ, zero, suc, ◌+◌, ◌-◌, ◌*◌, ◌/◌, ◌%◌, ◌^◌, ◌&&◌, ◌≡◌, ◌⊎◌, ◌==◌, nat_lt, nat_le, if◌then◌else◌, Option, Some, None, option_map, is_some}
use Rattle.line_memory.specs.declared.MemFault.{MemFault}
use Rattle.line_memory.specs.declared.MemFault.TheVariants.{Misaligned, Outside}

abbrev pub Memory : Type 0
Memory = ℕ → Option ℕ

-- a byte and the number of the bytes after it, where all of them are there
abbrev pub with_byte : Option ℕ → Option ℕ → Option ℕ
with_byte None rest = None
with_byte (Some byte) rest = option_map (λ number. byte + 256 * number) rest

-- the number of the `width` bytes from an address on, least significant first; None where one of them is in no region
unfoldable pub loaded_from : Memory → ℕ → ℕ → Option ℕ
loaded_from memory address zero = Some 0
loaded_from memory address (suc width) = with_byte (memory address) (loaded_from memory (suc address) width)

-- the memory with the low `width` bytes of a value from an address on, and every other byte as it was
unfoldable pub stored_to : Memory → ℕ → ℕ → ℕ → Memory
stored_to memory address width value a =
    if nat_le address a && nat_lt a (address + width) then Some (value / 256 ^ (a - address) % 256) else memory a

-- the widths of an access, in bytes
abbrev pub IsWidth : ℕ → Type 0
IsWidth width = (width ≡ 1) ⊎ (width ≡ 2) ⊎ (width ≡ 4) ⊎ (width ≡ 8)

-- why an access can't be made: it is misaligned, or else one of its bytes is in no region
unfoldable pub fault_of : Memory → ℕ → ℕ → Option MemFault
fault_of memory address width =
    if address % width == 0
    then (if is_some (loaded_from memory address width) then None else Some Outside)
    else Some Misaligned
