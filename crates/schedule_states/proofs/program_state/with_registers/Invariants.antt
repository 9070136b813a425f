use Rattle.std.specs.Prelude.{◌≡◌}
use Rattle.schedule_states.specs.Fed.{with_registers}
use Rattle.schedule_states.proofs.program_state.with_registers.Given as goal

abbrev pub invariant-loop-number : goal.invariant-loop-number
invariant-loop-number l = record {
  joined : l.joined ≡ with_registers l.initial.sum l.initial.registers l.number;
}
