-- The image of a cut while its stores are made, the oldest first.
use Rattle.std.specs.Prelude.{◌≡◌, ℕ, ◌-◌, ◌<◌, List, length, slice_index_or}
use Rattle.store_trace.specs.Image.{line_after}
use Rattle.store_trace.specs.Stores.{stores}
use Rattle.store_trace.specs.declared.crash_model.step.PersistenceStep.{PersistenceStep}
use Rattle.line_memory.specs.Lines.{line_at}

-- after these steps each line l has had its first `k l` stores, as far as they were made, and `left` counts those that are due
pub record IsImaged (start : List (List ℕ)) (k : ℕ → ℕ) (p : List PersistenceStep) (left : List ℕ) (medium : List (List ℕ)) : Type 0 where
  pub size : length medium ≡ length start
  pub counts : length left ≡ length start
  pub lines : (l : ℕ) → l < length start → line_at medium l ≡ line_after (line_at start l) l (k l) p
  pub due : (l d : ℕ) → l < length start → slice_index_or left l d ≡ k l - stores l p

-- after these steps line l, over these starting bytes, has had its first k stores, as far as they were made, and `left` of them are due
pub record IsLineMade (start : List ℕ) (l k : ℕ) (p : List PersistenceStep) (left : ℕ) (bytes : List ℕ) : Type 0 where
  pub made : bytes ≡ line_after start l k p
  pub due : left ≡ k - stores l p
