use Rattle.std.proofs.lemmas.Result.{IfOk-weaker}
use Rattle.schedule_states.proofs.Listing.{known_none}
use Rattle.schedule_states.proofs.moments.judge_next.Goals as goal

pub returns-clause-judged : goal.returns-clause-judged
returns-clause-judged g c = IfOk-weaker c.judge_and_look-done.result _ _ (λ done is. (
  record { moments = is.moments; below = is.below; within = is.within },
  rw (c.take.ensures.first, c.take.ensures.turns) c.judge_and_look-done.ensures.known,
)) c.judge_and_look-done.ensures.judged

pub returns-in_default-clause-judged : goal.returns-in_default-clause-judged
returns-in_default-clause-judged g c = IfOk-weaker c.judge_up_to.result _ _ (λ done is. (
  is,
  known_none (g.J.StateJudge.stands c.args.judge.now) (g.J.StateJudge.allows c.args.judge.now) (g.J.StateJudge.ends c.args.judge.now) c.args.reached.now
      c.judge_up_to.new.judged.known.first c.judge_up_to.new.judged.known.turns.items (rw c.judge_up_to.ensures.same.2 c.room_for.ensures.none),
)) c.judge_up_to.ensures.judged
