-- The images that a power cut may leave in a state of a search: each line has one of its contents, by number. Content 0 is what loads find.
-- Source: Vinter, USENIX ATC 2022 (crash images), line by line.
use Rattle.std.specs.Prelude.{◌≡◌, ℕ, zero, suc, ◌+◌, ◌<◌, ◌≤◌, List, [], ◌∷◌, Option, Some, None, length, slice_index_or}
use Rattle.schedule_states.specs.LineStates.{unfenced}
use Rattle.schedule_states.specs.Memories.{MemoryView, state_in}
use Rattle.schedule_states.specs.declared.line_state.Content.{Content}
use Rattle.schedule_states.specs.declared.line_state.LineState.{LineState}

-- what a power cut may leave of a line beside what loads find
abbrev pub others_of : Option LineState → List Content
others_of None = []
others_of (Some s) = s.others.items

-- a content of a line that began with `start`
abbrev pub content_of : List ℕ → Option LineState → ℕ → List ℕ
content_of start None n = start
content_of start (Some s) zero = s.bytes
content_of start (Some s) (suc n) = (slice_index_or s.others.items n (unfenced s.bytes)).bytes

-- the state of line l of the medium
abbrev pub line_in : MemoryView → ℕ → Option LineState
line_in m l = state_in m.states m.held (16777216 + l)

-- the highest number of a content of it
abbrev pub highest_in : MemoryView → ℕ → ℕ
highest_in m l = length (others_of (line_in m l))

-- the lines from number i on, line l with its content of number `k l`
abbrev pub image_from : MemoryView → (ℕ → ℕ) → ℕ → List (List ℕ) → List (List ℕ)
image_from m k i [] = []
image_from m k i (line ∷ lines) = content_of line (line_in m i) (k i) ∷ image_from m k (suc i) lines

abbrev pub image_in : MemoryView → (ℕ → ℕ) → List (List ℕ)
image_in m k = image_from m k 0 m.start.medium

-- each line has a content of its number
abbrev pub IsChoice : MemoryView → (ℕ → ℕ) → Type 0
IsChoice m k = (l : ℕ) → k l ≤ highest_in m l

-- what may be left of a line is 64 bytes, and has a number of 32 bits
pub record IsFair (s : LineState) : Type 0 where
  pub bytes : length s.bytes ≡ 64
  pub others : (n : ℕ) (d : Content) → n < length s.others.items → length (slice_index_or s.others.items n d).bytes ≡ 64
  pub few : length s.others.items ≤ 65535

-- so of each line that is held
abbrev pub AreFair : MemoryView → Type 0
AreFair m = (l : ℕ) (s : LineState) → state_in m.states m.held l ≡ Some s → IsFair s
