-- Stores that were not in the medium for certain when their operation ended, or, outside operations, at the end of the run.
use Rattle.std.specs.Prelude.{◌≡◌, ℕ, ◌<◌, ◌⊎◌, List, length, All, AllPairs, Any}
use Rattle.store_trace.specs.declared.event.Event.{Event}
use Rattle.durability.specs.Causes.{IsCause, IsPast}
use Rattle.durability.specs.Numbered.{IsFirst}
use Rattle.durability.specs.Operations.{IsEndOf, IsOutside}
use Rattle.durability.specs.declared.cut.Lost.{Lost}
use Rattle.durability.specs.declared.ends.EndLoss.{EndLoss}

-- store e of line l is of hart h, after event b, and past the line's floor at moment m
pub record IsUnpersisted (events : List Event) (m h b l e : ℕ) : Type 0 where
  pub after : b < e
  pub past : IsPast events m h l e

-- store e of line l stands outside any operation of its hart, and is past the line's floor at the last moment
pub record IsUnpersistedOutside (events : List Event) (l e : ℕ) : Type 0 where
  pub hart : ℕ
  pub outside : IsOutside events e hart
  pub past : IsPast events (length events) hart l e

-- of the stores that count, this is the first one of its line, and this the cause of its loss at moment m
pub record IsFirstLoss (events : List Event) (m : ℕ) (counts : ℕ → ℕ → Type 0) (lost : Lost) : Type 0 where
  pub first : IsFirst (counts lost.line) lost.store
  pub cause : IsCause events m lost.line lost.store lost.cause

-- upwards, for each line with a store that counts, the first such store
pub record AreFirstLosses (events : List Event) (m : ℕ) (counts : ℕ → ℕ → Type 0) (lost : List Lost) : Type 0 where
  pub upwards : AllPairs (λ one other. one.line < other.line) lost
  pub each : All (IsFirstLoss events m counts) lost
  pub all : (l e : ℕ) → counts l e → Any (λ x. x.line ≡ l) lost

-- what this End leaves of this line: the first store of its operation that is past the line's floor then
pub record IsEndLoss (events : List Event) (loss : EndLoss) : Type 0 where
  pub hart : ℕ
  pub begin : ℕ
  pub ends : IsEndOf events loss.end hart loss.operation begin
  pub first : IsFirstLoss events loss.end (IsUnpersisted events loss.end hart begin) loss.lost

-- at an earlier End, or at the same one with a lower line
abbrev pub IsBefore : EndLoss → EndLoss → Type 0
IsBefore one other = (one.end < other.end) ⊎ ((one.end ≡ other.end) × (one.lost.line < other.lost.line))

-- in order, what each End leaves of each line
pub record AreEndLosses (events : List Event) (losses : List EndLoss) : Type 0 where
  pub in_order : AllPairs IsBefore losses
  pub each : All (IsEndLoss events) losses
  pub all : (n h op b l e : ℕ) → IsEndOf events n h op b → IsUnpersisted events n h b l e →
      Any (λ x. (x.end ≡ n) × (x.lost.line ≡ l)) losses
