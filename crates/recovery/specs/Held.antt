-- Lines held over a source: each line's copy where it has one, and the source's bytes elsewhere.
use Rattle.std.specs.Prelude.{◌≡◌, ℕ, ◌<◌, Bool, true, Option, None, is_some, List, length, replicate, slice_index, slice_index_or}
use Rattle.index_list.specs.Lists.{has}
use Rattle.line_memory.specs.Lines.{AreLines, line_bytes}
use Rattle.line_memory.specs.Memory.{Memory}
use Rattle.lru_cache.specs.Cache.{copied_over}

-- the flat memory of the lines as they are found
abbrev pub memory_over : List (Option (List ℕ)) → List (List ℕ) → Memory
memory_over copies source = line_bytes (copied_over copies source)

-- there is a place for a copy of each line of the source, and what is found are lines
pub record IsOver (copies : List (Option (List ℕ))) (source : List (List ℕ)) : Type 0 where
  pub count : length source ≡ length copies
  pub whole : AreLines (copied_over copies source)

-- over each source of so many lines, its own bytes are found
pub record IsFresh (copies : List (Option (List ℕ))) (lines : ℕ) : Type 0 where
  pub count : length copies ≡ lines
  pub over : (source : List (List ℕ)) → AreLines source → length source ≡ lines → IsOver copies source
  pub own : (source : List (List ℕ)) → memory_over copies source ≡ line_bytes source

-- no line has a copy
abbrev pub nothing_held : ℕ → List (Option (List ℕ))
nothing_held lines = replicate lines None

abbrev pub is_held : List (Option (List ℕ)) → ℕ → Bool
is_held copies line = is_some (slice_index_or copies line None)

-- each line that has a copy is in the list, and the list has no other numbers than of lines
pub record AreTouched (copies : List (Option (List ℕ))) (touched : List ℕ) : Type 0 where
  pub each : (line : ℕ) → is_held copies line ≡ true → has line touched ≡ true
  pub below : (at : ℕ) → at < length touched → slice_index touched at < length copies
