use Rattle.std.specs.Prelude.{◌≡◌}
use Rattle.schedule_states.specs.Fed.{joined_flags}
use Rattle.schedule_states.proofs.line_state.joined_flags.Given as goal

abbrev pub invariant-loop-hart : goal.invariant-loop-hart
invariant-loop-hart l = record {
  joined : l.joined ≡ joined_flags l.initial.flags l.hart;
}
