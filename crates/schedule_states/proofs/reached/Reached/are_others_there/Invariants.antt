use Rattle.std.specs.Prelude.{◌≡◌, ◌<◌, ℕ, Some, length, slice_get, slice_index_or}
use Rattle.schedule_states.specs.declared.program_state.HartPart.{HartPart}
use Rattle.schedule_states.proofs.reached.Reached.are_others_there.Given as goal

abbrev pub invariant-loop-hart : goal.invariant-loop-hart
invariant-loop-hart g l = (h : ℕ) → h < l.hart → (part : HartPart) × (slice_get l.self.hart_parts (slice_index_or l.numbers.harts h 0) ≡ Some part) × (part.text < length l.self.parts.lists)
