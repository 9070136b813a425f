-- A region whose bytes stay as they were at the start, under copies of the lines that were stored to.
use Rattle.std.specs.Prelude.{◌≡◌, ℕ, ◌*◌, List, Option, length, slice_get}
use Rattle.line_memory.specs.Lines.{line_bytes}
use Rattle.line_memory.specs.Memory.{Memory}
use Rattle.line_memory.specs.Regions.{padded}
use Rattle.recovery.specs.Held.{IsOver, memory_over}

-- what a contract sees of a region: its lines as they were at the start, and the copies
pub record RegionView : Type 0 where
  pub start : List (List ℕ)
  pub copies : List (Option (List ℕ))

-- its bytes as they are found, counted from its first
abbrev pub bytes_of : RegionView → Memory
bytes_of region = memory_over region.copies region.start

-- a region that was stored to, or set back, has the same start and size
pub record IsKept (old new : RegionView) : Type 0 where
  pub start : new.start ≡ old.start
  pub count : length new.copies ≡ length old.copies
  pub over : IsOver new.copies new.start

-- a region of so many bytes, which at the start are these, and zeros past them
pub record IsRegion (region : RegionView) (bytes : List ℕ) (size : ℕ) : Type 0 where
  pub count : 64 * length region.copies ≡ size
  pub over : IsOver region.copies region.start
  pub shown : (offset : ℕ) → line_bytes region.start offset ≡ slice_get (padded bytes size) offset
