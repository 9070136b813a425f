-- Where an access to text or data begins, and when there is no such place.
use Rattle.std.specs.Prelude.{ℕ, ◌≡◌, ◌≢◌, ◌⊎◌, ◌+◌, ◌%◌, ◌<◌, ◌≤◌}
use Rattle.line_memory.specs.declared.TheConstants.{TEXT_BASE, TEXT_SIZE, DATA_BASE, DATA_SIZE}
use Rattle.line_memory.specs.declared.MemFault.{MemFault}
use Rattle.line_memory.specs.declared.MemFault.TheVariants.{Misaligned, Outside}
use Rattle.line_memory.specs.declared.ram.RamPlace.{RamPlace}
use Rattle.line_memory.specs.declared.ram.RamPlace.TheVariants.{Text, Data}

-- the address of a place
abbrev pub address_of : RamPlace → ℕ
address_of (Text at) = TEXT_BASE + at
address_of (Data at) = DATA_BASE + at

-- so many bytes from a place on are in its region
abbrev pub IsWithin : ℕ → RamPlace → Type 0
IsWithin width (Text at) = at + width ≤ TEXT_SIZE
IsWithin width (Data at) = at + width ≤ DATA_SIZE

-- an access to an address can be made, and begins at this place
abbrev pub IsPlace : ℕ → ℕ → RamPlace → Type 0
IsPlace address width place = (address % width ≡ 0) × (address ≡ address_of place) × IsWithin width place

-- the address lies in neither region
abbrev pub IsOutside : ℕ → Type 0
IsOutside address =
    ((address < TEXT_BASE) ⊎ (TEXT_BASE + TEXT_SIZE ≤ address))
    × ((address < DATA_BASE) ⊎ (DATA_BASE + DATA_SIZE ≤ address))

abbrev pub IsRefused : ℕ → ℕ → MemFault → Type 0
IsRefused address width Misaligned = address % width ≢ 0
IsRefused address width Outside = (address % width ≡ 0) × IsOutside address
