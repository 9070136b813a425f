-- The numbers of a line table, each with the bytes behind it; None where the bytes end too early, or where it is too large. Source:
-- DWARF 5, sections 7.6 (LEB128) and 7.8.
use Rattle.std.specs.Prelude.{ℕ, ℤ, pos, ◌+ℤ◌, ◌-ℤ◌, ◌*ℤ◌, neg_ℤ, int_le, int_lt, ◌&&◌, ◌+◌, ◌-◌, ◌*◌, ◌^◌, List, [], ◌∷◌, Option, Some, None, if◌then◌else◌, nat_lt, option_and_then, option_map, zero, suc, drop, length}
use Rattle.elf_file.specs.Header.{number_at}

-- LEB128 in at most so many bytes: seven bits of each, the least significant first; only the last byte is below 128
abbrev pub unsigned_in : ℕ → List ℕ → Option (ℕ × List ℕ)
unsigned_in zero bytes = None
unsigned_in (suc n) [] = None
unsigned_in (suc n) (byte ∷ bytes) = if nat_lt byte 128 then Some (byte, bytes) else option_and_then (λ high. Some (byte - 128 + 128 * high.0, high.1)) (unsigned_in n bytes)

-- a number below 2^64
abbrev pub unsigned_64 : ℕ × List ℕ → Option (ℕ × List ℕ)
unsigned_64 number = if nat_lt number.0 (2 ^ 64) then Some number else None

abbrev pub unsigned_at : List ℕ → Option (ℕ × List ℕ)
unsigned_at bytes = option_and_then unsigned_64 (unsigned_in 10 bytes)

-- the same with a sign, which is bit 6 of the last byte
abbrev pub signed_in : ℕ → List ℕ → Option (ℤ × List ℕ)
signed_in zero bytes = None
signed_in (suc n) [] = None
signed_in (suc n) (byte ∷ bytes) =
    if nat_lt byte 64 then Some (pos byte, bytes) else
    if nat_lt byte 128 then Some (pos byte -ℤ pos 128, bytes) else
    option_and_then (λ high. Some (high.0 *ℤ pos 128 +ℤ pos (byte - 128), high.1)) (signed_in n bytes)

-- from -2^63 to 2^63 - 1
abbrev pub signed_64 : ℤ → Option ℤ
signed_64 number = if int_le (neg_ℤ (pos (2 ^ 63))) number && int_lt number (pos (2 ^ 63)) then Some number else None

abbrev pub with_signed_64 : ℤ × List ℕ → Option (ℤ × List ℕ)
with_signed_64 number = option_map (λ fitting. (fitting, number.1)) (signed_64 number.0)

abbrev pub signed_at : List ℕ → Option (ℤ × List ℕ)
signed_at bytes = option_and_then with_signed_64 (signed_in 10 bytes)

-- a number in so many bytes, the lowest first
abbrev pub fixed_at : ℕ → List ℕ → Option (ℕ × List ℕ)
fixed_at size bytes = if nat_lt (length bytes) size then None else Some (number_at size bytes 0, drop size bytes)

-- this number, and these bytes behind it
abbrev pub number_read : ℕ → List ℕ → Option (ℕ × List ℕ)
number_read number behind = Some (number, behind)
