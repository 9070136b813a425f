use Rattle.std.specs.Prelude.{◌≡◌, length}
use Rattle.schedule_states.specs.Successors.{HasLists}
use Rattle.schedule_states.proofs.guessing.touch_in_turn.Given as goal

abbrev pub invariant-loop-hart : goal.invariant-loop-hart
invariant-loop-hart l = record {
  lists : HasLists l.parts l.state;
  count : length l.state.harts.items ≡ l.start.harts;
}
