-- The needless events of a run: going from the first event to the last, each clean or fence that is needless in the list without
-- those found before.
use Rattle.std.specs.Prelude.{◌≡◌, ℕ, ◌+◌, ◌==◌, ◌⊎◌, Bool, List, [], ◌∷◌, ◌++◌, Option, Some, None, if◌then◌else◌, take}
use Rattle.std.specs.List.{list_any}
use Rattle.store_trace.specs.declared.event.Event.{Event}
use Rattle.durability.specs.Needless.{IsNeedless}
use Rattle.durability.specs.Reasons.{IsReason}
use Rattle.durability.specs.declared.redundant.reason.Needless.{Needless}
use Rattle.durability.specs.declared.redundant.reason.Reason.{Reason}

-- the event that is number n of the run, between those kept before it and the rest, is needless and is told before `more`
pub record IsFoundFirst (kept : List Event) (event : Event) (rest : List Event) (n : ℕ) (found more : List Needless) : Type 0 where
  pub entry : Needless
  pub place : found ≡ entry ∷ more
  pub number : entry.event ≡ n
  pub needless : IsNeedless kept event rest
  pub reason : IsReason kept event rest entry.reason

-- What is found from event n on, where `kept` is what was kept of the events before it: an event that is needless in the list of
-- those kept, itself and all that follow is told and left out, and any other is kept.
abbrev pub AreFound : List Event → List Event → ℕ → List Needless → Type 0
AreFound kept [] n found = found ≡ []
AreFound kept (event ∷ rest) n found =
    ((more : List Needless) × IsFoundFirst kept event rest n found more × AreFound kept rest (n + 1) more)
    ⊎ ((¬ IsNeedless kept event rest) × AreFound (kept ++ event ∷ []) rest (n + 1) found)

-- the needless events of a run, each with its reason, in the order of the events
abbrev pub AreNeedless : List Event → List Needless → Type 0
AreNeedless events found = AreFound [] events 1 found

-- the event of number n is among those found
abbrev pub is_found : ℕ → List Needless → Bool
is_found n found = list_any (λ entry. entry.event == n) found

-- of the events from number n on, those that aren't found
abbrev pub without : List Needless → ℕ → List Event → List Event
without found n [] = []
without found n (event ∷ rest) = if is_found n found then without found (n + 1) rest else event ∷ without found (n + 1) rest

-- the first m events of a run without those found
abbrev pub left_at : List Event → List Needless → ℕ → List Event
left_at events found m = without found 1 (take m events)

-- an event, where it has a reason
abbrev pub named : ℕ → Option Reason → List Needless
named n None = []
named n (Some reason) = record { event = n; reason = reason } ∷ []

-- of the events with the numbers from n on, those that have a reason
abbrev pub with_reasons : ℕ → List (Option Reason) → List Needless
with_reasons n [] = []
with_reasons n (reason ∷ rest) = named n reason ++ with_reasons (n + 1) rest
