-- What a cut of a moment lacks of a line, and what it has past the line's floor.
use Rattle.std.specs.Prelude.{◌≡◌, ℕ, ◌+◌, ◌<◌, ◌≤◌, ◌==◌, ◌⊎◌, Bool, false, List, Option, Some, None}
use Rattle.store_trace.specs.Floor.{floor}
use Rattle.store_trace.specs.Stores.{stores}
use Rattle.store_trace.specs.History.{at_moment}
use Rattle.store_trace.specs.declared.event.Event.{Event}
use Rattle.store_trace.specs.declared.event.Event.TheVariants.{Store, Clean, Fence, Begin, End}
use Rattle.durability.specs.Causes.{IsCause}
use Rattle.durability.specs.Numbered.{IsStore}
use Rattle.durability.specs.declared.cut.CutLine.{CutLine}
use Rattle.durability.specs.declared.cut.Kept.{Kept}
use Rattle.durability.specs.declared.cut.Lost.{Lost}

-- the event is a store of line l
abbrev pub is_store_of : ℕ → Event → Bool
is_store_of l (Store hart line offset width value) = line == l
is_store_of l (Clean hart line) = false
is_store_of l (Fence hart) = false
is_store_of l (Begin hart op) = false
is_store_of l (End hart op) = false

-- event n is the store of line l that has just k of its stores before it, and moment m has it
pub record IsStoreNumber (events : List Event) (m l k n : ℕ) : Type 0 where
  pub hart : ℕ
  pub store : IsStore events hart l n
  pub number : stores l (at_moment events n) ≡ k + 1
  pub made : n ≤ m

-- the first store of line l after its first k ones, where moment m has it
abbrev pub IsStorePast : List Event → ℕ → ℕ → ℕ → Option ℕ → Type 0
IsStorePast events m l k None = stores l (at_moment events m) ≤ k
IsStorePast events m l k (Some n) = IsStoreNumber events m l k n

-- this store of the line is the first that the cut lacks, and this the cause of its loss
pub record IsLoss (events : List Event) (m : ℕ) (entry : CutLine) (lost : Lost) : Type 0 where
  pub line : lost.line ≡ entry.line
  pub first : IsStoreNumber events m entry.line entry.number lost.store
  pub cause : IsCause events m entry.line lost.store lost.cause

-- what is lost of a line of a cut of moment m: nothing where it has all stores
abbrev pub IsLostOf : List Event → ℕ → CutLine → Option Lost → Type 0
IsLostOf events m entry None = stores entry.line (at_moment events m) ≤ entry.number
IsLostOf events m entry (Some lost) = IsLoss events m entry lost

-- the line stands above its floor, and this store of it is the last that the cut has
pub record IsLastKept (events : List Event) (m : ℕ) (entry : CutLine) (kept : Kept) : Type 0 where
  pub line : kept.line ≡ entry.line
  pub above : floor entry.line (at_moment events m) < entry.number
  pub hart : ℕ
  pub store : IsStore events hart entry.line kept.store
  pub last : stores entry.line (at_moment events kept.store) ≡ entry.number
  pub made : kept.store ≤ m

-- what is kept of a line of a cut of moment m: nothing where it stands at its floor, or has a number past all stores, as in no cut
abbrev pub IsKeptOf : List Event → ℕ → CutLine → Option Kept → Type 0
IsKeptOf events m entry None =
    (entry.number ≤ floor entry.line (at_moment events m)) ⊎ (stores entry.line (at_moment events m) < entry.number)
IsKeptOf events m entry (Some kept) = IsLastKept events m entry kept
