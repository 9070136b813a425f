-- The three regions of the address space: text and data, which a Ram holds, and persistent memory.
use Rattle.std.specs.Prelude.{ℕ, ◌≡◌, ◌+◌, ◌-◌, ◌&&◌, List, ◌++◌, length, replicate, slice_get, nat_lt, nat_le, if◌then◌else◌, None}
use Rattle.line_memory.specs.Memory.{Memory}
use Rattle.line_memory.specs.declared.TheConstants.{TEXT_BASE, TEXT_SIZE, DATA_BASE, DATA_SIZE, PERSISTENT_BASE}

-- what a Ram holds: the bytes of the whole text region, and those of the whole data region
pub record RamView : Type 0 where
  pub text : List ℕ
  pub bytes : List ℕ

-- both regions are there as a whole
pub record IsRam (ram : RamView) : Type 0 where
  pub text : length ram.text ≡ TEXT_SIZE
  pub bytes : length ram.bytes ≡ DATA_SIZE

-- a region's bytes, with zeros past those given
unfoldable pub padded : List ℕ → ℕ → List ℕ
padded bytes size = bytes ++ replicate (size - length bytes) 0

-- a region as a map: its bytes from its base on, and no byte elsewhere
unfoldable pub region : ℕ → ℕ → List ℕ → Memory
region base size bytes address =
    if nat_le base address && nat_lt address (base + size) then slice_get bytes (address - base) else None

-- text and data as a map; data lies above text
unfoldable pub ram_bytes : RamView → Memory
ram_bytes ram address =
    if nat_lt address DATA_BASE then region TEXT_BASE TEXT_SIZE ram.text address else region DATA_BASE DATA_SIZE ram.bytes address

-- the whole address space: persistent memory from PERSISTENT_BASE on, and a Ram's regions below
unfoldable pub flat : Memory → Memory → Memory
flat ram persistent address = if nat_lt address PERSISTENT_BASE then ram address else persistent (address - PERSISTENT_BASE)
