use Rattle.std.specs.Prelude.{◌≡◌, ◌≢◌, ◌<◌, ℕ, Some, slice_get, slice_index_or}
use Rattle.hart.specs.declared.state.Status.TheVariants.{Running}
use Rattle.schedule_states.specs.declared.program_state.HartPart.{HartPart}
use Rattle.schedule_states.proofs.reached.Reached.has_stopped.Given as goal

abbrev pub invariant-loop-hart : goal.invariant-loop-hart
invariant-loop-hart g l = (h : ℕ) (one : HartPart) → h < l.hart → slice_get l.self.hart_parts (slice_index_or l.numbers.harts h 0) ≡ Some one →
    one.state.status ≢ Running
