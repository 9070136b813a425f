-- The run of a recovery routine: hart 0 alone, for so many steps at most, over so many events at most.
use Rattle.std.specs.Prelude.{◌≡◌, ◌⊎◌, ◌<◌, ◌≤◌, ℕ, zero, suc, List, Bool, true, false, length, replicate}
use Rattle.machine.specs.declared.schedule.items.Step.{Step}
use Rattle.machine.specs.declared.schedule.items.Step.TheVariants.{Hart}
use Rattle.machine.specs.Replies.{trace_in}
use Rattle.machine.specs.Run.{Config, StepsTo}

-- so many steps of hart 0
abbrev pub alone : ℕ → List Step
alone steps = replicate steps (Hart 0)

-- From c hart 0 comes to d in so many steps, of which those after its stop change nothing. A step that would make event 65,537
-- isn't made, and is the end of the run, which then is full.
abbrev pub RunsFor : Config → ℕ → Config → Bool → Type 0
RunsFor c zero d full = (d ≡ c) × (full ≡ false)
RunsFor c (suc more) d full = (middle : Config) × StepsTo c (Hart 0) middle
    × (((length (trace_in middle.common) ≤ 65536) × RunsFor middle more d full)
    ⊎ ((65536 < length (trace_in middle.common)) × (d ≡ c) × (full ≡ true)))
