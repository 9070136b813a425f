use Rattle.std.specs.Prelude.{◌≡◌, ◌≤◌, true, length}
use Rattle.machine.specs.Run.{started}
use Rattle.schedule_states.specs.Covering.{CoversAt, IsClosedBelow}
use Rattle.schedule_states.specs.Ending.{AreTurnsBelow}
use Rattle.schedule_states.specs.Happening.{AreLed}
use Rattle.schedule_states.specs.Judged.{AreJudged}
use Rattle.schedule_states.specs.Judging.{StaysGood}
use Rattle.schedule_states.specs.Onward.{AreKnownFrom}
use Rattle.schedule_states.specs.Watching.{HasHeard}
use Rattle.schedule_states.proofs.exploring.search.Given as goal

abbrev pub invariant-loop-number : goal.invariant-loop-number
invariant-loop-number g l = record {
  start : l.reached.parts.table.start ≡ l.initial.reached.parts.table.start;
  harts : l.reached.harts ≡ l.initial.reached.harts;
  claims : l.reached.parts.claims ≡ l.initial.reached.parts.claims;
  covers : CoversAt (g.J.StateJudge.stands l.judge) l.reached 0
      (started l.initial.reached.parts.table.start.program l.initial.reached.parts.table.start.medium l.initial.reached.harts);
  led : AreLed (g.J.StateJudge.stands l.judge) (g.J.StateJudge.allows l.judge) l.reached;
  closed : IsClosedBelow (g.J.StateJudge.stands l.judge) (g.J.StateJudge.allows l.judge) (g.J.StateJudge.ends l.judge) l.reached l.number;
  judged : AreJudged (g.J.StateJudge.stands l.judge) (g.J.StateJudge.good l.judge l.workspace) l.reached l.judged;
  before : l.number ≤ l.judged.good;
  asked : l.judged.ways.asked ≡ l.initial.judged.ways.asked;
  turns : l.initial.judged.ways.asked ≡ true → AreTurnsBelow (g.J.StateJudge.stands l.judge) (g.J.StateJudge.allows l.judge) l.reached l.judged.ways.next.items l.number;
  within : l.number ≤ length l.reached.states;
  limits : l.judged.limits ≡ l.initial.judged.limits;
  known : AreKnownFrom (g.J.StateJudge.stands l.judge) (g.J.StateJudge.allows l.judge) (g.J.StateJudge.ends l.judge) l.reached l.judged.known.first l.judged.known.turns.items;
  fits : g.J.StateJudge.fits l.judge (length l.reached.parts.table.start.medium) l.workspace;
  kept : StaysGood (g.J.StateJudge.good l.judge l.initial.workspace) (g.J.StateJudge.good l.judge l.workspace);
  told : HasHeard g.W.Watcher.hears l.initial.watcher l.watcher;
}
