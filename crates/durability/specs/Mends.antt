-- What would have made a lost store durable in time: by when it had to be, and which clean or fence is missing before that.
-- Source: RISC-V CMO specification 1.0, chapter 2 (a clean asks for a write-back), and this model's rule that a fence
-- completes the cleans of its own hart.
use Rattle.std.specs.Prelude.{◌≡◌, ◌≢◌, ℕ, ◌<◌, ◌≤◌, ◌==◌, Bool, true, false, List, [], ◌∷◌, ◌++◌, Option, Some, None, if◌then◌else◌, All, AllPairs, Any, drop, max, min, nat_lt, take}
use Rattle.store_trace.specs.Marks.{begun_by, ended_by}
use Rattle.store_trace.specs.declared.event.Event.{Event}
use Rattle.store_trace.specs.declared.event.Event.TheVariants as events
use Rattle.durability.specs.Causes.{IsCause, IsClean}
use Rattle.durability.specs.Cuts.{is_store_of}
use Rattle.durability.specs.Numbered.{event_at, IsCleanOf, IsFirst, IsStore}
use Rattle.durability.specs.Operations.{IsLast}
use Rattle.durability.specs.declared.cut.Kept.{Kept}
use Rattle.durability.specs.declared.cut.Lost.{Lost}
use Rattle.durability.specs.declared.mend.Deadline.{Deadline}
use Rattle.durability.specs.declared.mend.Deadline.TheVariants.{BeforeKept, BeforeEnd, BeforeBegin}
use Rattle.durability.specs.declared.mend.Mark.{Mark}
use Rattle.durability.specs.declared.mend.Mend.{Mend}
use Rattle.durability.specs.declared.mend.Mend.TheVariants.{Fence, CleanAndFence, Later, Earlier}
use Rattle.durability.specs.declared.mend.Wanted.{Wanted}
use Rattle.durability.specs.declared.mend.Wanted.TheVariants.{CleanBy, StoreTo}

-- event n passes this test
pub record IsEventOf (p : Event → Bool) (events : List Event) (n : ℕ) : Type 0 where
  pub event : Event
  pub is : event_at events n ≡ Some event
  pub passes : p event ≡ true

-- the event is a clean, of whatever line, by hart h
abbrev pub is_clean_by : ℕ → Event → Bool
is_clean_by h (events.Store hart line offset width value) = false
is_clean_by h (events.Clean hart line) = hart == h
is_clean_by h (events.Fence hart) = false
is_clean_by h (events.Begin hart op) = false
is_clean_by h (events.End hart op) = false

-- store n is one of the kept ones
abbrev pub IsAmong : List Kept → ℕ → Type 0
IsAmong kept n = Any (λ one. one.store ≡ n) kept

-- and it comes after event e
pub record IsKeptBehind (kept : List Kept) (e n : ℕ) : Type 0 where
  pub behind : e < n
  pub among : IsAmong kept n

-- the last number of which P holds, and None where P holds of no number
abbrev pub IsLastIfAny : (ℕ → Type 0) → Option ℕ → Type 0
IsLastIfAny P None = (n : ℕ) → ¬ P n
IsLastIfAny P (Some n) = IsLast P n

-- event n has this mark, and stands behind event e and among the first m
pub record IsMarkWithin (mark : Event → Option ℕ) (events : List Event) (e m : ℕ) (found : Mark) : Type 0 where
  pub behind : e < found.event
  pub made : found.event ≤ m
  pub event : Event
  pub is : event_at events found.event ≡ Some event
  pub marks : mark event ≡ Some found.operation

-- the first of these marks, and None where there is none
abbrev pub IsFirstMark : (Event → Option ℕ) → List Event → ℕ → ℕ → Option Mark → Type 0
IsFirstMark mark events e m None = (found : Mark) → ¬ IsMarkWithin mark events e m found
IsFirstMark mark events e m (Some first) =
    IsMarkWithin mark events e m first × ((found : Mark) → IsMarkWithin mark events e m found → first.event ≤ found.event)

-- none of these
abbrev pub NoneKept : List Kept → ℕ → Type 0
NoneKept kept e = (n : ℕ) → ¬ IsKeptBehind kept e n

abbrev pub NoMark : (Event → Option ℕ) → List Event → ℕ → ℕ → Type 0
NoMark mark events e m = (found : Mark) → ¬ IsMarkWithin mark events e m found

-- By when store e had to be durable, of a cut of moment m with these kept stores: before the first kept store behind it; else before
-- the first End behind it by that moment; else before the first such Begin.
abbrev pub IsDeadline : List Event → ℕ → List Kept → ℕ → Option Deadline → Type 0
IsDeadline events m kept e (Some (BeforeKept store)) = IsFirst (IsKeptBehind kept e) store
IsDeadline events m kept e (Some (BeforeEnd mark)) = NoneKept kept e × IsFirstMark ended_by events e m (Some mark)
IsDeadline events m kept e (Some (BeforeBegin mark)) =
    NoneKept kept e × NoMark ended_by events e m × IsFirstMark begun_by events e m (Some mark)
IsDeadline events m kept e None = NoneKept kept e × NoMark ended_by events e m × NoMark begun_by events e m

-- the event of a deadline
abbrev pub event_of : Deadline → ℕ
event_of (BeforeKept store) = store
event_of (BeforeEnd mark) = mark.event
event_of (BeforeBegin mark) = mark.event

-- the first clean of the lost line after the store comes before the deadline, and this is its hart's last clean before that
pub record LacksFence (events : List Event) (lost : Lost) (behind deadline : ℕ) : Type 0 where
  pub clean : ℕ
  pub hart : ℕ
  pub first : IsFirst (IsClean events lost.line lost.store) clean
  pub cleans : IsCleanOf events hart lost.line lost.store clean
  pub before : clean < deadline
  pub last : IsLast (λ n. (n < deadline) × IsEventOf (is_clean_by hart) events n) behind

-- no clean of the lost line comes between the store and the deadline, and this is the line's last store before that
pub record LacksClean (events : List Event) (lost : Lost) (behind deadline : ℕ) : Type 0 where
  pub none : (n : ℕ) → IsClean events lost.line lost.store n → deadline ≤ n
  pub after : lost.store ≤ behind
  pub last : IsLast (λ n. (n < deadline) × IsEventOf (is_store_of lost.line) events n) behind

-- what would have made this store durable in time: without a deadline the order of the stores is wrong
abbrev pub IsMend : List Event → ℕ → List Kept → Lost → Mend → Type 0
IsMend events m kept lost (Fence behind deadline) =
    IsDeadline events m kept lost.store (Some deadline) × LacksFence events lost behind (event_of deadline)
IsMend events m kept lost (CleanAndFence line behind deadline) =
    (line ≡ lost.line) × IsDeadline events m kept lost.store (Some deadline) × LacksClean events lost behind (event_of deadline)
IsMend events m kept lost (Earlier store) = (store ≡ lost.store) × IsDeadline events m kept lost.store None
IsMend events m kept lost (Later store) = ⊥

-- where nothing is lost, the last of the kept stores comes too early
abbrev pub AreForKept : List Kept → List Mend → Type 0
AreForKept [] mends = mends ≡ []
AreForKept (one ∷ kept) mends = (store : ℕ) × IsLast (IsAmong (one ∷ kept)) store × (mends ≡ Later store ∷ [])

-- one for each lost store, and none twice
pub record AreForLost (events : List Event) (m : ℕ) (lost : List Lost) (kept : List Kept) (mends : List Mend) : Type 0 where
  pub all : All (λ one. Any (IsMend events m kept one) mends) lost
  pub each : All (λ mend. Any (λ one. IsMend events m kept one mend) lost) mends
  pub once : AllPairs (λ one other. one ≢ other) mends

-- what would have made the lost stores of a cut of moment m durable in time
abbrev pub AreMends : List Event → ℕ → List Lost → List Kept → List Mend → Type 0
AreMends events m [] kept mends = AreForKept kept mends
AreMends events m (one ∷ lost) kept mends = AreForLost events m (one ∷ lost) kept mends

-- a store that the moment has, and the cause of its loss
pub record IsCaused (events : List Event) (m : ℕ) (lost : Lost) : Type 0 where
  pub hart : ℕ
  pub store : IsStore events hart lost.line lost.store
  pub made : lost.store ≤ m
  pub cause : IsCause events m lost.line lost.store lost.cause

-- the events with one more behind the first n
abbrev pub with_event : List Event → ℕ → Event → List Event
with_event events n event = take n events ++ (event ∷ drop n events)

-- what is looked for among events
abbrev pub is_wanted : Wanted → Event → Bool
is_wanted (CleanBy hart) event = is_clean_by hart event
is_wanted (StoreTo line) event = is_store_of line event

-- the operation that begins in an event, or that ends in it
abbrev pub mark_by : Bool → Event → Option ℕ
mark_by true event = begun_by event
mark_by false event = ended_by event

-- the later one of two stores
abbrev pub later_of : Option ℕ → ℕ → ℕ
later_of None store = store
later_of (Some last) store = max last store

-- the earlier one of two stores, the second of which counts where it comes after event e
abbrev pub first_behind : ℕ → Option ℕ → ℕ → Option ℕ
first_behind e None store = if nat_lt e store then Some store else None
first_behind e (Some first) store = if nat_lt e store then Some (min first store) else Some first
