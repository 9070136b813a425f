-- An access that can be made, by where it begins.
use Rattle.std.specs.Prelude.{◌≡◌, ℕ, None}
use Rattle.line_memory.specs.Memory.{fault_of}
use Rattle.line_memory.specs.Places.{IsPlace}
use Rattle.line_memory.specs.Regions.{ram_bytes}
use Rattle.machine.specs.SharedView.{IsPlaceIn, SharedView}
use Rattle.machine.specs.declared.shared_memory.shared.Place.{Place}
use Rattle.machine.specs.declared.shared_memory.shared.Place.TheVariants.{Ram, Persistent}

-- in text or data an access finds its bytes where the Ram has its place, in persistent memory where the lines have them
abbrev pub IsPlaced : SharedView → ℕ → ℕ → Place → Type 0
IsPlaced shared address width (Ram place) = (fault_of (ram_bytes shared.ram) address width ≡ None) × IsPlace address width place
IsPlaced shared address width (Persistent offset) = IsPlaceIn shared address width offset
