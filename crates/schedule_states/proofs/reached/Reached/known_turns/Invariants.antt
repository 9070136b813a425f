use Rattle.std.specs.Prelude.{◌≡◌, Some, length, slice_get}
use Rattle.schedule_states.specs.Onward.{AreListedTurns, AreTurnsTo}
use Rattle.schedule_states.proofs.reached.Reached.known_turns.Given as goal

abbrev pub invariant-loop-hart : goal.invariant-loop-hart
invariant-loop-hart g l = record {
  turns : (t : _) → slice_get l.self.standings l.numbers.standing ≡ Some t →
      AreTurnsTo (g.J.StateJudge.stands l.judge) (g.J.StateJudge.allows l.judge) l.self l.state t l.self.harts l.turns;
  listed : (t : _) → slice_get l.self.standings l.numbers.standing ≡ Some t →
      AreListedTurns (g.J.StateJudge.stands l.judge) (g.J.StateJudge.allows l.judge) l.self l.state t l.listed.items;
  long : length l.turns ≡ 8;
}
