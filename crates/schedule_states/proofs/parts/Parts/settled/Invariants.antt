use Rattle.schedule_states.specs.States.{AreGrown}
use Rattle.schedule_states.specs.Successors.{HasLists, HaveMoved, IsSettled}
use Rattle.schedule_states.proofs.parts.Parts.settled.Given as goal

abbrev pub invariant-loop-made : goal.invariant-loop-made
invariant-loop-made l = record {
  settled : IsSettled l.initial.self l.self l.initial.at l.hart l.at;
  lists : HasLists l.self l.at;
  moved : HaveMoved l.hart l.initial.at.harts.items l.at.harts.items;
  grown : AreGrown l.initial.self l.self;
}
