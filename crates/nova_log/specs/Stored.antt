-- How a name of at most 96 bytes is held: its bytes and then zeros.
use Rattle.std.specs.Prelude.{ℕ, ◌≡◌, ◌≤◌, ◌-◌, ◌++◌, List, length, replicate, take}

-- the bytes of the name, and zeros up to 96
abbrev pub padded : List ℕ → List ℕ
padded name = name ++ replicate (96 - length name) 0

-- 96 bytes, of which the first `size` are the name and the others zero
abbrev pub IsStored : ℕ → List ℕ → Type 0
IsStored size bytes = (size ≤ 96) × (bytes ≡ take size bytes ++ replicate (96 - size) 0) × (length (take size bytes) ≡ size)
