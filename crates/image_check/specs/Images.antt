-- What recovery and the plan say of the image of a cut.
-- Source: Vinter, USENIX ATC 2022: every crash image is recovered, and the state that shows is judged.
use Rattle.std.specs.Prelude.{◌≡◌, ℕ, List, Option, Some, None, Ok, Err}
use Rattle.store_trace.specs.Cut.{IsCut, number_in}
use Rattle.store_trace.specs.Image.{image}
use Rattle.nova_log.specs.Volumes.{volume_of}
use Rattle.plan.specs.declared.operation.Operation.{Operation}
use Rattle.store_trace.specs.History.{history}
use Rattle.store_trace.specs.declared.event.Event.{Event}
use Rattle.nova_log.specs.declared.volume.entry.Entry.{Entry}
use Rattle.std.specs.Result.{result_ok}
use Rattle.image_check.specs.Growth.{AreApart, AreOutcomes}
use Rattle.image_check.specs.Legal.{IsLegal}
use Rattle.image_check.specs.declared.cause.Cause.{Cause}
use Rattle.image_check.specs.declared.cause.Cause.TheVariants.{Fault, Illegal}
use Rattle.image_check.specs.declared.legal.Outcomes.{Outcomes}

-- the image recovers to a volume that is legal after these events
pub record IsGood (plan : List Operation) (start : List (List ℕ)) (events : List Event) (medium : List (List ℕ)) : Type 0 where
  pub volume : List (List Entry)
  pub recovers : volume_of medium ≡ Ok volume
  pub legal : IsLegal plan (volume_of start) events volume

-- it has no volume, or one that isn't legal
abbrev pub IsSpoilt : List Operation → List (List ℕ) → List Event → List (List ℕ) → Cause → Type 0
IsSpoilt plan start events medium (Fault fault) = volume_of medium ≡ Err fault
IsSpoilt plan start events medium Illegal =
    (volume : List (List Entry)) × (volume_of medium ≡ Ok volume) × (¬ IsLegal plan (volume_of start) events volume)

-- what was found of the image: that it is good, or why it isn't
abbrev pub IsFound : List Operation → List (List ℕ) → List Event → List (List ℕ) → Option Cause → Type 0
IsFound plan start events medium None = IsGood plan start events medium
IsFound plan start events medium (Some cause) = IsSpoilt plan start events medium cause

-- what was found of the image, in each run that has come to these outcomes and in which no two pending operations share an inode
abbrev pub IsFoundBy : List Operation → Outcomes → List (List ℕ) → Option Cause → Type 0
IsFoundBy plan outcomes medium found = (start : List (List ℕ)) (events : List Event) →
    AreOutcomes plan (result_ok (volume_of start)) events outcomes.settled outcomes.under_way.items → AreApart plan events →
    IsFound plan start events medium found

-- what was found of a volume: that it is legal, or that it isn't
abbrev pub IsVolumeJudged : List Operation → List (List ℕ) → List Event → List (List Entry) → Option Cause → Type 0
IsVolumeJudged plan start events volume None = IsLegal plan (volume_of start) events volume
IsVolumeJudged plan start events volume (Some (Fault fault)) = ⊥
IsVolumeJudged plan start events volume (Some Illegal) = ¬ IsLegal plan (volume_of start) events volume

-- the image of the cut after these events, over the starting lines
abbrev pub image_after : List (List ℕ) → List Event → List (ℕ × ℕ) → List (List ℕ)
image_after start events cut = image start (number_in cut) (history events)

-- the image of the cut recovers to a legal volume
abbrev pub Passes : List Operation → List (List ℕ) → List Event → List (ℕ × ℕ) → Type 0
Passes plan start events cut = IsGood plan start events (image_after start events cut)

-- every cut of these events passes
abbrev pub ArePassed : List Operation → List (List ℕ) → List Event → Type 0
ArePassed plan start events = (cut : List (ℕ × ℕ)) → IsCut (history events) cut → Passes plan start events cut

-- the image of the cut is bad
abbrev pub IsBad : List Operation → List (List ℕ) → List Event → List (ℕ × ℕ) → Cause → Type 0
IsBad plan start events cut cause = IsSpoilt plan start events (image_after start events cut) cause

-- what was found of the image of the cut
abbrev pub IsJudged : List Operation → List (List ℕ) → List Event → List (ℕ × ℕ) → Option Cause → Type 0
IsJudged plan start events cut found = IsFound plan start events (image_after start events cut) found
