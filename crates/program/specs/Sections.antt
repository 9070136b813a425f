-- The sections of an object: the bytes of its text and of its data, and their limits.
use Rattle.std.specs.Prelude.{ℕ, ◌≡◌, ◌≤◌, ◌%◌, List, length}
use Rattle.program.specs.declared.TheConstants.{TEXT_LIMIT, DATA_LIMIT}

pub record Sections : Type 0 where
  pub text : List ℕ
  pub static_data : List ℕ

-- text is whole words, and neither section is larger than its region
pub record AreWithinLimits (text static_data : List ℕ) : Type 0 where
  pub whole_words : length text % 4 ≡ 0
  pub text_fits : length text ≤ TEXT_LIMIT
  pub data_fits : length static_data ≤ DATA_LIMIT
