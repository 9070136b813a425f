use Rattle.std.specs.Prelude.{◌≡◌, length}
use Rattle.schedule_states.specs.Ending.{AreTurns}
use Rattle.schedule_states.specs.Happening.{AreLed}
use Rattle.schedule_states.specs.Onward.{AreTurnsFrom}
use Rattle.schedule_states.specs.Reaching.{HaveGrown}
use Rattle.schedule_states.proofs.reached.Reached.take_all.Given as goal

abbrev pub invariant-loop-hart : goal.invariant-loop-hart
invariant-loop-hart g l = record {
  grown : HaveGrown l.initial.self l.self;
  parts : l.self.parts ≡ l.initial.self.parts;
  taken : (from : AreTurnsFrom (g.J.StateJudge.stands l.judge) (g.J.StateJudge.allows l.judge) (g.J.StateJudge.ends l.judge) l.initial.self l.number l.turns) →
      AreTurns (g.J.StateJudge.stands l.judge) (g.J.StateJudge.allows l.judge) l.self from.state from.standing l.hart l.to;
  harts : l.harts ≡ l.self.harts;
  led : AreLed (g.J.StateJudge.stands l.judge) (g.J.StateJudge.allows l.judge) l.initial.self →
      AreLed (g.J.StateJudge.stands l.judge) (g.J.StateJudge.allows l.judge) l.self;
  long : length l.to ≡ 8;
}
