-- Cells that are passed over, as they are full.
use Rattle.std.specs.Prelude.{◌≡◌, ◌<◌, ◌≤◌, ◌+◌, ℕ, true, List, Option, None, is_some, length, slice_index_or}

-- so has each of these cells a number
abbrev pub AreFull : List (Option ℕ) → ℕ → ℕ → Type 0
AreFull cells first end = (at : ℕ) → first ≤ at → at < end → is_some (slice_index_or cells at None) ≡ true

-- no place skips back, or past the last one
abbrev pub AreAhead : List ℕ → Type 0
AreAhead skips = (at : ℕ) → at < length skips → (at ≤ slice_index_or skips at 0) × (slice_index_or skips at 0 < length skips)

-- what is between a place and where it skips to is full
abbrev pub SkipFull : List (Option ℕ) → List ℕ → Type 0
SkipFull cells skips = (at : ℕ) → at < length skips → AreFull cells at (slice_index_or skips at 0)

-- the cells have one place more, which is behind the last of them
pub record AreSkips (cells : List (Option ℕ)) (skips : List ℕ) : Type 0 where
  pub size : length skips ≡ length cells + 1
  pub ahead : AreAhead skips
  pub full : SkipFull cells skips

-- each place skips to itself
abbrev pub OwnPlaces : ℕ → List ℕ → Type 0
OwnPlaces count skips = (length skips ≡ count + 1) × ((at : ℕ) → at < length skips → slice_index_or skips at 0 ≡ at)
