-- Memory at the start of a run, by lines of the address space.
-- Source: RISC-V Unprivileged ISA 20191213, chapter 2 (byte-addressed memory); the regions are this project's.
use Rattle.std.specs.Prelude.{◌≡◌, ℕ, ◌+◌, ◌*◌, ◌<◌, List, None, length, slice_get}
use Rattle.line_memory.specs.Lines.{IsMedium, line_bytes}
use Rattle.line_memory.specs.Memory.{Memory}
use Rattle.line_memory.specs.Regions.{flat, padded, ram_bytes}
use Rattle.line_memory.specs.declared.TheConstants.{DATA_SIZE, TEXT_SIZE}
use Rattle.program.specs.Sections.{Sections}

-- the memory has these bytes in line l of the address space
abbrev pub ShowsLine : Memory → ℕ → List ℕ → Type 0
ShowsLine memory l bytes = (offset : ℕ) → offset < 64 → memory (64 * l + offset) ≡ slice_get bytes offset

-- it has no byte in line l
abbrev pub LacksLine : Memory → ℕ → Type 0
LacksLine memory l = (offset : ℕ) → offset < 64 → memory (64 * l + offset) ≡ None

-- what a run starts from
pub record StartView : Type 0 where
  pub program : Sections
  pub medium : List (List ℕ)

-- its flat memory
abbrev pub memory_at : StartView → Memory
memory_at start =
    flat (ram_bytes (record { text = padded start.program.text TEXT_SIZE; bytes = padded start.program.static_data DATA_SIZE })) (line_bytes start.medium)

-- lines that have the bytes of a region of so many lines
pub record AreOf (bytes : List ℕ) (size : ℕ) (lines : List (List ℕ)) : Type 0 where
  pub medium : IsMedium lines
  pub count : length lines ≡ size
  pub shown : (offset : ℕ) → line_bytes lines offset ≡ slice_get (padded bytes (64 * size)) offset
