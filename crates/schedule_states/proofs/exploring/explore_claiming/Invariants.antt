use Rattle.std.specs.Prelude.{length}
use Rattle.schedule_states.specs.Judging.{StaysGood}
use Rattle.schedule_states.specs.Watching.{HasHeard}
use Rattle.schedule_states.proofs.exploring.explore_claiming.Given as goal

abbrev pub invariant-loop-guess : goal.invariant-loop-guess
invariant-loop-guess g l = record {
  fits : g.J.StateJudge.fits l.judge (length l.start.medium.now) l.workspace;
  kept : StaysGood (g.J.StateJudge.good l.judge l.initial.workspace) (g.J.StateJudge.good l.judge l.workspace);
  told : HasHeard g.W.Watcher.hears l.initial.watcher l.watcher;
}
