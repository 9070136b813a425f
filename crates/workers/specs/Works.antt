-- What a worker of a sweep hands back.
use Rattle.std.specs.Prelude.{◌≡◌, ℕ, true}
use Rattle.workers.specs.Desks.{Name}
use Rattle.workers.specs.Sweeps.{IsTally}
use Rattle.workers.specs.declared.sweep.Worked.{Worked}

-- the worker sat at this desk; where it went on to the end, its seat has had a None, and this is what it found
abbrev pub IsWorked : {B : Type 0} → (ℕ → Type 0) → (ℕ → B → Type 0) → Name → Worked B → Type 0
IsWorked passes fails name w = (w.seat.desk ≡ name)
    × (w.whole ≡ true → (w.seat.ended ≡ true) × IsTally passes fails name.moments w.seat.claimed w.seat.bad w.seat.found w.best)
