-- Flat memory over text, data and the lines of an image, each under copies of the lines that were stored to.
use Rattle.std.specs.Prelude.{◌≡◌, ℕ, ◌+◌, ◌-◌, ◌*◌, ◌%◌, ◌<◌, ◌&&◌, List, Option, None, length, nat_le, nat_lt, if◌then◌else◌}
use Rattle.line_memory.specs.Lines.{AreLines, line_bytes}
use Rattle.line_memory.specs.Memory.{Memory}
use Rattle.line_memory.specs.Regions.{flat, padded, ram_bytes}
use Rattle.line_memory.specs.declared.TheConstants.{TEXT_BASE, TEXT_SIZE, DATA_BASE, DATA_SIZE, PERSISTENT_BASE}
use Rattle.program.specs.Sections.{Sections}
use Rattle.recovery.specs.Held.{IsOver, memory_over}
use Rattle.recovery.specs.Regions.{IsRegion, RegionView, bytes_of}
use Rattle.recovery.specs.declared.overlay_memory.memory.Place.{Place}
use Rattle.recovery.specs.declared.overlay_memory.memory.Place.TheVariants.{Text, Data, Image}

-- what a contract sees: the program, its text and data, and the copies of lines of persistent memory
pub record HeldView : Type 0 where
  pub program : Sections
  pub text : RegionView
  pub bytes : RegionView
  pub image : List (Option (List ℕ))

-- text and data are whole regions, which at the start have the bytes of the program
pub record IsSound (held : HeldView) : Type 0 where
  pub text : IsRegion held.text held.program.text TEXT_SIZE
  pub bytes : IsRegion held.bytes held.program.static_data DATA_SIZE

-- so many bytes from a base on, and no byte elsewhere
unfoldable pub placed : ℕ → ℕ → Memory → Memory
placed base size bytes address = if nat_le base address && nat_lt address (base + size) then bytes (address - base) else None

-- text and data as a map; data lies above text
unfoldable pub text_and_data : Memory → Memory → Memory
text_and_data text bytes address =
    if nat_lt address DATA_BASE then placed TEXT_BASE TEXT_SIZE text address else placed DATA_BASE DATA_SIZE bytes address

-- the flat memory over the lines of an image
abbrev pub memory_of : HeldView → List (List ℕ) → Memory
memory_of held image = flat (text_and_data (bytes_of held.text) (bytes_of held.bytes)) (memory_over held.image image)

-- the flat memory of a program's sections and the lines of an image, as a run of the program finds it at its start
abbrev pub memory_at_start : Sections → List (List ℕ) → Memory
memory_at_start program image =
    flat (ram_bytes (record { text = padded program.text TEXT_SIZE; bytes = padded program.static_data DATA_SIZE })) (line_bytes image)

-- over an image of so many lines, the memory is that at the start
pub record IsAtStart (held : HeldView) (lines : ℕ) : Type 0 where
  pub count : length held.image ≡ lines
  pub over : (image : List (List ℕ)) → AreLines image → length image ≡ lines → IsOver held.image image
  pub memory : (image : List (List ℕ)) → memory_of held image ≡ memory_at_start held.program image

-- the address of a place
abbrev pub address_of : Place → ℕ
address_of (Text offset) = TEXT_BASE + offset
address_of (Data offset) = DATA_BASE + offset
address_of (Image offset) = PERSISTENT_BASE + offset

abbrev pub offset_of : Place → ℕ
offset_of (Text offset) = offset
offset_of (Data offset) = offset
offset_of (Image offset) = offset

-- the bytes of a place's region
abbrev pub size_of : HeldView → Place → ℕ
size_of held (Text offset) = TEXT_SIZE
size_of held (Data offset) = DATA_SIZE
size_of held (Image offset) = 64 * length held.image

-- an access of so many bytes can begin there
pub record IsWithin (held : HeldView) (width : ℕ) (place : Place) : Type 0 where
  pub aligned : offset_of place % width ≡ 0
  pub there : offset_of place < size_of held place

-- a memory that was stored to, or set back, has the same program and as many lines
pub record IsSame (old new : HeldView) : Type 0 where
  pub program : new.program ≡ old.program
  pub count : length new.image ≡ length old.image

-- the place lies in text or data
abbrev pub IsBelow : Place → Type 0
IsBelow (Text offset) = offset < TEXT_SIZE
IsBelow (Data offset) = offset < DATA_SIZE
IsBelow (Image offset) = ⊥
