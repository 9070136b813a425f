use Rattle.std.specs.Prelude.{◌≡◌, length}
use Rattle.schedule_states.specs.Successors.{HasLists}
use Rattle.schedule_states.proofs.guessing.touch_by.Given as goal

abbrev pub invariant-loop-made : goal.invariant-loop-made
invariant-loop-made l = record {
  lists : HasLists l.parts l.at;
  count : length l.at.harts.items ≡ length l.initial.at.harts.items;
}
