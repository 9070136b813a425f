-- The status of a hart that runs.
use Rattle.std.proofs.Common.{◌≡◌, ℕ, ◌<◌, List, length, slice_get, refl, arith, inl, inr, false}
use Rattle.std.proofs.lemmas.Option.{slice_get_cases}
use Rattle.hart.specs.declared.state.HartState.{HartState}
use Rattle.hart.specs.declared.state.Status.{Status}
use Rattle.hart.specs.declared.state.Status.TheVariants.{Running, Exited, Trapped}
use Rattle.machine.specs.Represents.{IsRunning}
use Rattle.machine.specs.Stops.{has_stopped, is_stopped}

-- a hart that is there and hasn't stopped runs
running_by : (status : Status) → has_stopped status ≡ false → status ≡ Running
running_by Running goes = refl
running_by (Exited code) goes = cc
running_by (Trapped trap) goes = cc

pub runs_on : (harts : List HartState) (h : ℕ) → h < length harts → is_stopped (slice_get harts h) ≡ false → IsRunning (slice_get harts h)
runs_on harts h inside goes = elim (slice_get_cases harts h).1 [
  | inl there ↦ rw there.2 (running_by there.0.status (rw there.2 at goes))
  | inr past ↦ absurd (omega (arith, past.0))
]
