use Rattle.std.specs.Prelude.{◌≡◌, ◌≢◌, ◌<◌, ℕ, Some, slice_get}
use Rattle.hart.specs.declared.state.Status.TheVariants.{Running}
use Rattle.schedule_states.specs.declared.program_state.HartPart.{HartPart}
use Rattle.schedule_states.proofs.reached.ended_badly.Given as goal

abbrev pub invariant-loop-hart : goal.invariant-loop-hart
invariant-loop-hart g l = (h : ℕ) (part : HartPart) → h < l.hart → slice_get l.parts h ≡ Some part → part.state.status ≢ Running →
    g.J.StateJudge.ends l.judge part.state.status
