-- Why a store isn't in the medium for certain: what the run lacks after it, or has too late.
-- Source: RISC-V CMO specification 1.0, chapter 2 (a clean asks for a write-back), and this model's rule that a fence
-- completes the cleans of its own hart.
use Rattle.std.specs.Prelude.{◌≡◌, ℕ, ◌+◌, ◌<◌, ◌≤◌, List, Option, Some, None, IfSome, if◌then◌else◌, length, nat_lt, slice_get, slice_index_or}
use Rattle.store_trace.specs.Floor.{floor}
use Rattle.store_trace.specs.Stores.{stores}
use Rattle.store_trace.specs.History.{at_moment}
use Rattle.store_trace.specs.declared.event.Event.{Event}
use Rattle.store_trace.specs.declared.event.Event.TheVariants.{Store}
use Rattle.durability.specs.Numbered.{IsStore, IsCleanOf, IsFence, IsFirst, IsFirstIfAny}
use Rattle.durability.specs.declared.cause.Cause.{Cause}
use Rattle.durability.specs.declared.cause.Cause.TheVariants.{NeverCleaned, CleanedTooLate, NeverFenced, FencedTooLate, FencedByAnother}
use Rattle.durability.specs.declared.cause.Completion.{Completion}
use Rattle.durability.specs.declared.cause.Fate.{Fate}

-- event n is a clean of line l, by any hart, after event e
pub record IsClean (events : List Event) (l e n : ℕ) : Type 0 where
  pub hart : ℕ
  pub cleans : IsCleanOf events hart l e n

-- event n is a fence of a hart that cleaned line l after event e and before that fence
pub record IsCompletion (events : List Event) (l e n : ℕ) : Type 0 where
  pub hart : ℕ
  pub clean : ℕ
  pub cleans : IsCleanOf events hart l e clean
  pub fences : IsFence events hart clean n

-- event n is a clean of line l, after event e, by the hart that makes fence f after that
pub record IsCompleted (events : List Event) (l e f n : ℕ) : Type 0 where
  pub hart : ℕ
  pub cleans : IsCleanOf events hart l e n
  pub fences : IsFence events hart n f

-- the cause, at moment m, of the loss of store e of line l
abbrev pub IsCause : List Event → ℕ → ℕ → ℕ → Cause → Type 0
IsCause events m l e NeverCleaned = (n : ℕ) → ¬ IsClean events l e n
IsCause events m l e (CleanedTooLate clean) = IsFirst (IsClean events l e) clean × (m < clean)
IsCause events m l e (NeverFenced clean) =
    IsFirst (IsClean events l e) clean × (clean ≤ m) × ((n : ℕ) → ¬ IsCompletion events l e n)
IsCause events m l e (FencedTooLate clean fence) =
    IsFirst (IsClean events l e) clean × (clean ≤ m) × IsFirst (IsCompletion events l e) fence × IsFirst (IsCompleted events l e fence) clean
IsCause events m l e (FencedByAnother clean hart completed fence) =
    IsFirst (IsClean events l e) clean × (clean ≤ m) × IsFirst (IsCompletion events l e) fence × IsFirst (IsCompleted events l e fence) completed
    × IsCleanOf events hart l e clean × (clean < completed)

-- the first clean of the line after the store, by the cause of its loss
abbrev pub clean_of : Cause → Option ℕ
clean_of NeverCleaned = None
clean_of (CleanedTooLate clean) = Some clean
clean_of (NeverFenced clean) = Some clean
clean_of (FencedTooLate clean fence) = Some clean
clean_of (FencedByAnother clean hart completed fence) = Some clean

-- at moment m store e of line l, which hart h has made, is past the line's floor
pub record IsPast (events : List Event) (m h l e : ℕ) : Type 0 where
  pub store : IsStore events h l e
  pub made : e ≤ m
  pub past : floor l (at_moment events m) < stores l (at_moment events e)

-- the first fence that completes a clean of line l after event e, and the first such clean that it completes
abbrev pub IsFirstCompletion : List Event → ℕ → ℕ → Option Completion → Type 0
IsFirstCompletion events l e None = (n : ℕ) → ¬ IsCompletion events l e n
IsFirstCompletion events l e (Some first) =
    IsFirst (IsCompletion events l e) first.fence × IsFirst (IsCompleted events l e first.fence) first.clean

-- the first clean of line l after event e, its hart, and the first fence that completes one, in the whole run
pub record IsFate (events : List Event) (l e : ℕ) (fate : Fate) : Type 0 where
  pub clean : IsFirstIfAny (IsClean events l e) fate.clean
  pub hart : IfSome fate.clean (IsCleanOf events fate.hart l e)
  pub completion : IsFirstCompletion events l e fate.completion

-- the first completion, of the first one among later cleans and that of this clean by this fence, where its hart makes one
abbrev pub first_completion : Option Completion → ℕ → Option ℕ → Option Completion
first_completion later clean None = later
first_completion None clean (Some fence) = Some (record { clean = clean; fence = fence })
first_completion (Some later) clean (Some fence) =
    if nat_lt later.fence fence then Some later else Some (record { clean = clean; fence = fence })

-- from this place on, each store has its fate at its place
pub record AreFates (events : List Event) (place : ℕ) (fates : List Fate) : Type 0 where
  pub size : length fates ≡ length events
  pub each : (i h l offset width value : ℕ) (d : Fate) → place ≤ i → slice_get events i ≡ Some (Store h l offset width value) →
      IsFate events l (i + 1) (slice_index_or fates i d)

-- after event e the fences of each hart, and the fate of each of these lines
pub record AreNext (events : List Event) (e : ℕ) (fences : List (Option ℕ)) (lines : List Fate) : Type 0 where
  pub fence : (h : ℕ) (d : Option ℕ) → h < 8 → IsFirstIfAny (IsFence events h e) (slice_index_or fences h d)
  pub fate : (l : ℕ) (d : Fate) → l < length lines → IsFate events l e (slice_index_or lines l d)
