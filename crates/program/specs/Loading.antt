-- What loading makes of an object: a text region filled with zeros past the object's text.
use Rattle.std.specs.Prelude.{ℕ, ◌≡◌, ◌-◌, ◌<◌, ◌≤◌, List, ◌++◌, length, replicate, slice_get, Some}
use Rattle.program.specs.Sections.{Sections}
use Rattle.program.specs.declared.TheConstants.{TEXT_LIMIT}

-- the bytes, and zeros up to a size
abbrev pub zero_filled : List ℕ → ℕ → List ℕ
zero_filled bytes size = bytes ++ replicate (size - length bytes) 0

-- a program holds the whole text region and the bytes of the data section that an object gives
pub record Loads (program object : Sections) : Type 0 where
  pub text : program.text ≡ zero_filled object.text TEXT_LIMIT
  pub static_data : program.static_data ≡ object.static_data

-- each byte of a section stands in a region of this size at its own distance from the base, and zeros stand in the rest
pub record IsPlaced (section : List ℕ) (size : ℕ) (region : List ℕ) : Type 0 where
  pub bytes : (at : ℕ) → at < length section → slice_get region at ≡ slice_get section at
  pub zeros : (at : ℕ) → length section ≤ at → at < size → slice_get region at ≡ Some 0
