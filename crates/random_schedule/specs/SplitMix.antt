-- SplitMix64: numbers of 64 bits from a state of one number.
-- Source: Steele, Lea and Flood, Fast Splittable Pseudorandom Number Generators, OOPSLA 2014; Vigna, splitmix64.c.
use Rattle.std.specs.Prelude.{ℕ, ◌+◌, ◌*◌, ◌/◌, ◌%◌, ◌^◌, bit_xor}

-- the state grows by an odd number near 2^64 divided by the golden ratio
unfoldable pub next_state : ℕ → ℕ
next_state state = (state + 0x9e3779b97f4a7c15) % 2 ^ 64

-- a number, exclusive or itself without its lowest places
abbrev pub folded : ℕ → ℕ → ℕ
folded places z = bit_xor z (z / 2 ^ places)

abbrev pub mixed : ℕ → ℕ
mixed z = folded 31 (folded 27 (folded 30 z * 0xbf58476d1ce4e5b9 % 2 ^ 64) * 0x94d049bb133111eb % 2 ^ 64)

-- the next number, from the state before it
unfoldable pub number : ℕ → ℕ
number state = mixed (next_state state)

-- the next number modulo a bound
abbrev pub below : ℕ → ℕ → ℕ
below bound state = number state % bound
