-- A number with other bytes behind it.
use Rattle.std.proofs.Common.{◌≡◌, ◌∙◌, ◌+◌, ◌-◌, ◌*◌, ◌^◌, ◌<◌, ◌++◌, ℕ, zero, suc, Bool, true, false, List, [], ◌∷◌, length, refl, ap, arith, Option, Some, None, option_and_then, length-append, if◌then◌else◌}
use Rattle.std.proofs.lemmas.Option.{some_pair_parts}
use Rattle.std.specs.Prelude.{nat_lt}
use Rattle.elf_file.specs.Numbers.{number_read, unsigned_64, unsigned_at, unsigned_in}

-- one byte's seven bits, below those of the number behind it
abbrev with_low : ℕ → Option (ℕ × List ℕ) → Option (ℕ × List ℕ)
with_low byte high = option_and_then (λ (high : ℕ × List ℕ). Some (byte - 128 + 128 * high.0, high.1)) high

-- a number takes a byte at least
shorter_step : (is_last : Bool) (byte number : ℕ) (bytes behind : List ℕ) (high : Option (ℕ × List ℕ))
    → ((n : ℕ) (rest : List ℕ) → high ≡ number_read n rest → length rest < length bytes)
    → (if is_last then number_read byte bytes else with_low byte high) ≡ number_read number behind → length behind < suc (length bytes)
shorter_step true byte number bytes behind high each e =
    let same : length bytes ≡ length behind = ap (λ (l : List ℕ). length l) (some_pair_parts byte number bytes behind e).1 in
    omega (arith, same)
shorter_step false byte number bytes behind None each e = absurd cc
shorter_step false byte number bytes behind (Some high) each e =
    let same : length high.1 ≡ length behind = ap (λ (l : List ℕ). length l) (some_pair_parts (byte - 128 + 128 * high.0) number high.1 behind e).1 in
    let less : length high.1 < length bytes = each high.0 high.1 refl in
    omega (arith, same, less)

shorter : (n number : ℕ) (bytes behind : List ℕ) → unsigned_in n bytes ≡ number_read number behind → length behind < length bytes
shorter zero number bytes behind e = absurd cc
shorter (suc n) number [] behind e = absurd cc
shorter (suc n) number (byte ∷ bytes) behind e =
    shorter_step (nat_lt byte 128) byte number bytes behind (unsigned_in n bytes) (λ m rest is. shorter n m bytes rest is) e

none_before : (bytes behind : List ℕ) → bytes ++ behind ≡ behind → bytes ≡ []
none_before [] behind e = refl
none_before (byte ∷ bytes) behind e =
    let count : length ((byte ∷ bytes) ++ behind) ≡ length behind = ap (λ (l : List ℕ). length l) e in
    absurd (omega (arith, count, length-append (byte ∷ bytes) behind))

alone_step : (is_last : Bool) (byte number : ℕ) (bytes behind other : List ℕ) (high changed : Option (ℕ × List ℕ))
    → ((n : ℕ) → high ≡ number_read n behind → changed ≡ number_read n other)
    → (if is_last then number_read byte (bytes ++ behind) else with_low byte high) ≡ number_read number behind
    → (if is_last then number_read byte (bytes ++ other) else with_low byte changed) ≡ number_read number other
alone_step true byte number bytes behind other high changed each e =
    let parts = some_pair_parts byte number (bytes ++ behind) behind e in
    ap (λ (l : List ℕ). number_read byte (l ++ other)) (none_before bytes behind parts.1) ∙ ap (λ (n : ℕ). number_read n other) parts.0
alone_step false byte number bytes behind other None changed each e = absurd cc
alone_step false byte number bytes behind other (Some high) changed each e =
    let parts = some_pair_parts (byte - 128 + 128 * high.0) number high.1 behind e in
    ap (λ (o : Option (ℕ × List ℕ)). with_low byte o) (each high.0 (ap (λ (l : List ℕ). number_read high.0 l) parts.1))
    ∙ ap (λ (n : ℕ). number_read n other) parts.0

alone_in : (n number : ℕ) (bytes behind other : List ℕ) → unsigned_in n (bytes ++ behind) ≡ number_read number behind
    → unsigned_in n (bytes ++ other) ≡ number_read number other
alone_in zero number bytes behind other e = absurd cc
alone_in (suc n) number [] behind other e =
    let less : length behind < length behind = shorter (suc n) number behind behind e in absurd (omega (arith, less))
alone_in (suc n) number (byte ∷ bytes) behind other e =
    alone_step (nat_lt byte 128) byte number bytes behind other (unsigned_in n (bytes ++ behind)) (unsigned_in n (bytes ++ other))
    (λ m is. alone_in n m bytes behind other is) e

-- what is below 2^64 with these bytes behind it is so with others
fitting_step : (fits : Bool) (number found : ℕ) (behind rest other : List ℕ)
    → (if fits then number_read found rest else None) ≡ number_read number behind
    → (rest ≡ behind) × ((if fits then number_read found other else None) ≡ number_read number other)
fitting_step true number found behind rest other e =
    let parts = some_pair_parts found number rest behind e in (parts.1, ap (λ (n : ℕ). number_read n other) parts.0)
fitting_step false number found behind rest other e = absurd cc

fitting : (read changed : Option (ℕ × List ℕ)) (number : ℕ) (behind other : List ℕ)
    → ((n : ℕ) → read ≡ number_read n behind → changed ≡ number_read n other)
    → option_and_then unsigned_64 read ≡ number_read number behind → option_and_then unsigned_64 changed ≡ number_read number other
fitting None changed number behind other each e = absurd cc
fitting (Some found) changed number behind other each e =
    let step = fitting_step (nat_lt found.0 (2 ^ 64)) number found.0 behind found.1 other e in
    ap (λ (o : Option (ℕ × List ℕ)). option_and_then unsigned_64 o) (each found.0 (ap (λ (l : List ℕ). number_read found.0 l) step.0)) ∙ step.1

pub numbers_alone : (bytes behind other : List ℕ) (number : ℕ) → unsigned_at (bytes ++ behind) ≡ number_read number behind
    → unsigned_at (bytes ++ other) ≡ number_read number other
numbers_alone bytes behind other number e =
    fitting (unsigned_in 10 (bytes ++ behind)) (unsigned_in 10 (bytes ++ other)) number behind other (λ n is. alone_in 10 n bytes behind other is) e
