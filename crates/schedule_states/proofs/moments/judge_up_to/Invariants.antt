use Rattle.std.specs.Prelude.{◌≡◌, None, length}
use Rattle.schedule_states.specs.Judged.{AreJudged}
use Rattle.schedule_states.specs.Judging.{StaysGood}
use Rattle.schedule_states.proofs.moments.judge_up_to.Given as goal

abbrev pub invariant-loop-number : goal.invariant-loop-number
invariant-loop-number g l = record {
  judged : AreJudged (g.J.StateJudge.stands l.judge) (g.J.StateJudge.good l.judge l.workspace) l.reached l.judged;
  count : l.judged.good ≡ l.number;
  open_still : l.judged.stop ≡ None;
  ways : l.judged.ways ≡ l.initial.judged.ways;
  limits : l.judged.limits ≡ l.initial.judged.limits;
  known : l.judged.known ≡ l.initial.judged.known;
  fits : g.J.StateJudge.fits l.judge (length l.reached.parts.table.start.medium) l.workspace;
  kept : StaysGood (g.J.StateJudge.good l.judge l.initial.workspace) (g.J.StateJudge.good l.judge l.workspace);
}
