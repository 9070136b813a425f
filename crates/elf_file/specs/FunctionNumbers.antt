-- Functions by their numbers in a table.
use Rattle.std.specs.Prelude.{◌≡◌, ℕ, ◌+◌, ◌*◌, ◌<◌, Bool, true, nat_lt, List, length, slice_get, slice_index_or, Option, Some, None}
use Rattle.elf_file.specs.FunctionSymbols.{FunctionSymbol}
use Rattle.elf_file.specs.Functions.{function_at}

-- the number of the function at an address, where there is one
abbrev pub IsNumberAt : List FunctionSymbol → ℕ → Option ℕ → Type 0
IsNumberAt table pc None = function_at table pc ≡ None
IsNumberAt table pc (Some number) = (number < length table) × (function_at table pc ≡ slice_get table number)

-- each cell is of one word of text, which begins at 0x10000
abbrev pub AreCells : List FunctionSymbol → List (Option ℕ) → Type 0
AreCells table cells = (word : ℕ) → word < length cells → IsNumberAt table (0x1_0000 + 4 * word) (slice_index_or cells word None)

-- the address of a function by its number
abbrev pub address_in : Option FunctionSymbol → ℕ
address_in None = 0
address_in (Some function) = function.address

-- a function begins behind another one, where there is one
abbrev pub begins_behind : List FunctionSymbol → ℕ → Option ℕ → Bool
begins_behind table number None = true
begins_behind table number (Some other) = nat_lt (address_in (slice_get table other)) (address_in (slice_get table number))
