use Rattle.std.proofs.Common.{◌<◌}
use Rattle.schedule_states.proofs.Judging.{below_noted}
use Rattle.schedule_states.proofs.moments.judge_up_to.Goals as goal

pub returns-in-Some-clause-judged : goal.returns-in-Some-clause-judged
returns-in-Some-clause-judged g c = record {
  moments = λ none. absurd cc;
  below = λ n few.
      let earlier : n < c.loop-number.judged.good = rw c.judge_state.ensures.same.2 at few in
      below_noted (g.J.StateJudge.stands c.args.judge.now) (g.J.StateJudge.good c.args.judge.now c.loop-number.workspace) (g.J.StateJudge.good c.args.judge.now c.judge_state.new.workspace)
      c.args.reached.now c.loop-number.judged.good c.judge_state.ensures.kept c.loop-number.invariant.judged.below n earlier;
  within = rw c.judge_state.ensures.same.2 c.loop-number.invariant.judged.within;
}
