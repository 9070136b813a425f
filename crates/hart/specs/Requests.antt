-- Which requests a hart makes.
use Rattle.std.specs.Prelude.{◌≡◌, ◌≢◌, ◌⊎◌, ℕ}
use Rattle.isa_table.specs.declared.instruction.AtomicOp.TheVariants as atomics
use Rattle.hart.specs.declared.need.Need.{Need}
use Rattle.hart.specs.declared.need.Need.TheVariants.{Local, Ask, Stop}
use Rattle.hart.specs.declared.need.Request.{Request}
use Rattle.hart.specs.declared.need.Request.TheVariants.{Load, Store, Lr, Sc, Amo}

-- the widths of an access, and those of an atomic one, in bytes
abbrev pub IsWidth : ℕ → Type 0
IsWidth width = (width ≡ 1) ⊎ (width ≡ 2) ⊎ (width ≡ 4) ⊎ (width ≡ 8)

abbrev pub IsAtomicWidth : ℕ → Type 0
IsAtomicWidth width = (width ≡ 4) ⊎ (width ≡ 8)

-- an access has one of the widths, and an operation on memory is no SC
abbrev pub IsRequest : Request → Type 0
IsRequest (Load address width) = IsWidth width
IsRequest (Store address width value) = IsWidth width
IsRequest (Lr address width) = IsAtomicWidth width
IsRequest (Sc address width value) = IsAtomicWidth width
IsRequest (Amo op address width operand) = IsAtomicWidth width × (op ≢ atomics.Sc)
IsRequest request = Unit {0}

-- what is asked, where anything is, is such a request
abbrev pub AsksRequest : Need → Type 0
AsksRequest (Local after) = Unit {0}
AsksRequest (Ask request) = IsRequest request
AsksRequest (Stop trap) = Unit {0}
