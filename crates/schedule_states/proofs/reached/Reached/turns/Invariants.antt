use Rattle.std.specs.Prelude.{◌≡◌, Some, length, slice_get}
use Rattle.schedule_states.specs.Onward.{AreAllKnown, AreTurnsTo}
use Rattle.schedule_states.specs.Reaching.{HaveGrown, WereBefore}
use Rattle.schedule_states.specs.Successors.{HasLists}
use Rattle.schedule_states.proofs.reached.Reached.turns.Given as goal

abbrev pub invariant-loop-hart : goal.invariant-loop-hart
invariant-loop-hart g l = record {
  grown : HaveGrown l.initial.self l.self;
  before : WereBefore l.initial.self.parts l.self.parts;
  lists : HasLists l.self.parts l.from.state.now;
  turns : (t : _) → slice_get l.initial.self.standings l.from.numbers.now.standing ≡ Some t →
      AreTurnsTo (g.J.StateJudge.stands l.judge) (g.J.StateJudge.allows l.judge) l.self l.from.state.now t l.hart l.turns;
  all : AreAllKnown l.hart l.turns;
  harts : l.harts ≡ l.self.harts;
  states : l.self.states ≡ l.initial.self.states;
  long : length l.turns ≡ 8;
}
