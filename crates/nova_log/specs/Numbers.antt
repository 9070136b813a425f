-- Numbers of eight bytes, the least significant byte first.
use Rattle.std.specs.Prelude.{ℕ, List}
use Rattle.std.specs.Int.{bytes_low_first}
use Rattle.std.specs.List.{flat_map}

-- the bytes of numbers, one after the other
abbrev pub bytes_of : List ℕ → List ℕ
bytes_of numbers = flat_map (λ number. bytes_low_first 0 8 number) numbers
