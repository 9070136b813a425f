-- Whole runs.
use Rattle.std.specs.Prelude.{◌≡◌, ℕ, List, All}
use Rattle.std.specs.List.{Contains}
use Rattle.hart.specs.declared.state.HartState.{HartState}
use Rattle.hart.specs.declared.state.Status.TheVariants.{Exited}
use Rattle.store_trace.specs.Marks.{begun, ended}
use Rattle.store_trace.specs.declared.event.Event.{Event}

-- each hart has exited with 0, each planned operation has begun, and each operation that has begun has ended
pub record IsWhole (planned : List ℕ) (harts : List HartState) (events : List Event) : Type 0 where
  pub exited : All (λ s. s.status ≡ Exited 0) harts
  pub began : (op : ℕ) → Contains planned op → Contains (begun events) op
  pub ended : (op : ℕ) → Contains (begun events) op → Contains (ended events) op
