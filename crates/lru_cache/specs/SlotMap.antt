-- Which slot of a cache a line has, and which line stands in a slot.
use Rattle.std.specs.Prelude.{◌≡◌, ℕ, ◌+◌, ◌-◌, ◌<◌, ◌≤◌, Bool, nat_lt, List, [], ◌∷◌, ◌++◌, length, replicate, slice_index_or, slice_set}

-- how many slots there can be; by line, its slot, or that number where it has none; by slot, its line, or the number of
-- lines where it is free; and how many slots are free
pub record SlotMap : Type 0 where
  pub most : ℕ
  pub slots : List ℕ
  pub lines : List ℕ
  pub free : ℕ

-- the slot of a line
abbrev pub slot_at : SlotMap → ℕ → ℕ
slot_at s line = slice_index_or s.slots line s.most

-- the line in a slot
abbrev pub line_in : SlotMap → ℕ → ℕ
line_in s slot = slice_index_or s.lines slot (length s.slots)

abbrev pub has_slot : SlotMap → ℕ → Bool
has_slot s line = nat_lt (slot_at s line) (length s.lines)

-- there are no slots yet
abbrev pub no_slots : ℕ → ℕ → SlotMap
no_slots most lines = record { most = most; slots = replicate lines most; lines = []; free = 0 }

-- one slot more, which is free
abbrev pub with_added : SlotMap → SlotMap
with_added s = record s { lines = s.lines ++ length s.slots ∷ []; free = s.free + 1 }

-- the free slot is the line's
abbrev pub with_taken : ℕ → ℕ → SlotMap → SlotMap
with_taken line slot s = record s { slots = slice_set s.slots line slot; lines = slice_set s.lines slot line; free = s.free - 1 }

-- the line's slot is free
abbrev pub with_released : ℕ → ℕ → SlotMap → SlotMap
with_released line slot s = record s { slots = slice_set s.slots line s.most; lines = slice_set s.lines slot (length s.slots); free = s.free + 1 }

-- the slot of a line was added and has that line, and the line in a slot has that slot
pub record IsSlotMap (s : SlotMap) : Type 0 where
  pub few : length s.lines ≤ s.most
  pub added : (line : ℕ) → slot_at s line < s.most → slot_at s line < length s.lines
  pub line_back : (line : ℕ) → slot_at s line < length s.lines → line_in s (slot_at s line) ≡ line
  pub slot_back : (slot : ℕ) → line_in s slot < length s.slots → slot_at s (line_in s slot) ≡ slot

-- these are the free slots, each once
pub record AreFree (s : SlotMap) (free : List ℕ) : Type 0 where
  pub counted : s.free ≡ length free
  pub few : length free ≤ length s.lines
  pub low : (k : ℕ) → k < length free → slice_index_or free k 0 < length s.lines
  pub empty : (k : ℕ) → k < length free → line_in s (slice_index_or free k 0) ≡ length s.slots
  pub apart : (j k : ℕ) → j < length free → k < length free → slice_index_or free j 0 ≡ slice_index_or free k 0 → j ≡ k

-- what holds of the tables of slots, and of the room that is reserved for all slots there can be
pub record IsTable (lines : ℕ) (s : SlotMap) (free : List ℕ) (line_capacity free_capacity : ℕ) : Type 0 where
  pub bounded : lines ≡ length s.slots
  pub sound : IsSlotMap s
  pub stacked : AreFree s free
  pub line_room : line_capacity ≡ s.most
  pub free_room : free_capacity ≡ s.most
