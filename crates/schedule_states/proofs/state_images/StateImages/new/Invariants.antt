use Rattle.std.specs.Prelude.{◌≡◌, ◌<◌, ℕ, Some, slice_get, slice_index_or}
use Rattle.schedule_states.specs.Images.{IsFair}
use Rattle.schedule_states.specs.declared.held_lines.HeldLine.{HeldLine}
use Rattle.schedule_states.specs.declared.line_state.LineState.{LineState}
use Rattle.schedule_states.proofs.state_images.StateImages.new.Given as goal

abbrev pub invariant-loop-one : goal.invariant-loop-one
invariant-loop-one l = (n : ℕ) (d : HeldLine) (s : LineState) → n < l.one-index → slice_get l.memory.states (slice_index_or l.memory.held n d).state ≡ Some s → IsFair s
