-- The items that are joined to one.
use Rattle.std.specs.Prelude.{◌≡◌, ◌==◌, ◌||◌, ◌<◌, ◌≤◌, ◌^◌, ◌+◌, ℕ, Bool, false, List, [], ◌∷◌, codes, length}
use Rattle.std.specs.List.{AllByRecursion}
use Rattle.machine.specs.Grammar.{hart_steps, steps_in}
use Rattle.machine.specs.Joined.{item_before, joined, run_before, text_of}
use Rattle.machine.specs.declared.schedule.items.Item.{Item}
use Rattle.machine.specs.declared.schedule.items.Item.TheVariants.{Steps, Evict}

-- the item has no steps, and is no eviction
abbrev pub is_idle : Item → Bool
is_idle (Steps hart count) = count == 0
is_idle (Evict line) = false

-- the item adds nothing, or steps of this hart
abbrev pub continues : ℕ → Item → Bool
continues hart (Steps other count) = (other == hart) || (count == 0)
continues hart (Evict line) = false

-- the item's numbers are of 32 bits, and steps are one at least
abbrev pub IsWritable : Item → Type 0
IsWritable (Steps hart count) = (hart < 2 ^ 32) × (count < 2 ^ 32) × (1 ≤ count)
IsWritable (Evict line) = line < 2 ^ 32

-- the item is the first that isn't idle, and these items stand after it
pub record IsFirstBusy (items : List Item) (item : Item) (after : List Item) : Type 0 where
  pub same : joined items ≡ item_before item (joined after)
  pub busy : is_idle item ≡ false
  pub steps : steps_in item + hart_steps after ≤ hart_steps items
  pub shorter : length after < length items

-- steps of a hart before the items take in the run, and the rest follows them
pub record IsRun (hart : ℕ) (items run rest : List Item) : Type 0 where
  pub taken : (count : ℕ) → run_before hart count (joined items) ≡ Steps hart (count + hart_steps run) ∷ joined rest
  pub steps : hart_steps run + hart_steps rest ≡ hart_steps items
  pub shorter : length rest ≤ length items

-- the item is the first of the joined items, and the rest of them are those of the rest
pub record IsFirstJoined (items : List Item) (item : Item) (rest : List Item) : Type 0 where
  pub first : joined items ≡ item ∷ joined rest
  pub writable : IsWritable item
  pub within : hart_steps rest < 2 ^ 32
  pub shorter : length rest < length items

-- what parts an item from the text before it
abbrev pub separator : List ℕ → List ℕ
separator [] = []
separator (byte ∷ text) = codes " "

-- the text of items that can all be written
pub record Writes (text : List ℕ) (items : List Item) : Type 0 where
  pub written : text ≡ text_of items
  pub writable : AllByRecursion IsWritable items
