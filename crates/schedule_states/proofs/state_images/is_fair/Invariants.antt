use Rattle.std.specs.Prelude.{◌≡◌, ◌<◌, ℕ, length, slice_index_or}
use Rattle.schedule_states.specs.declared.line_state.Content.{Content}
use Rattle.schedule_states.proofs.state_images.is_fair.Given as goal

abbrev pub invariant-loop-content : goal.invariant-loop-content
invariant-loop-content l = (n : ℕ) (d : Content) → n < l.content-index → length (slice_index_or l.state.others.items n d).bytes ≡ 64
