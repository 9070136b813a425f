use Rattle.std.proofs.Common.{◌≡◌, true, rules}
use Rattle.std.proofs.lemmas.Result.{IfOk-weaker}
use Rattle.schedule_states.proofs.Ending.{each_can_end, leads_nowhere}
use Rattle.schedule_states.proofs.Judging.{nowhere_more, told_all}
use Rattle.schedule_states.proofs.Turning.{turns_inside}
use Rattle.schedule_states.proofs.ways_out.all_judged.Goals as goal

pub stuck_state-requires-clause-inside : goal.stuck_state-requires-clause-inside
stuck_state-requires-clause-inside g c κs within =
    let asked : c.args.judged.now.ways.asked ≡ true = search rules in
    turns_inside (g.J.StateJudge.stands c.args.judge.now) (g.J.StateJudge.allows c.args.judge.now) c.args.reached.now c.args.judged.now.ways.next.items (c.requires.turns asked).turns

pub shown-requires-clause-inside : goal.shown-requires-clause-inside
shown-requires-clause-inside g c κs within =
    let asked : c.args.judged.now.ways.asked ≡ true = search rules in
    turns_inside (g.J.StateJudge.stands c.args.judge.now) (g.J.StateJudge.allows c.args.judge.now) c.args.reached.now c.args.judged.now.ways.next.items (c.requires.turns asked).turns

pub returns-in-Some-clause-requests : goal.returns-in-Some-clause-requests
returns-in-Some-clause-requests g c =
    let asked : c.args.judged.now.ways.asked ≡ true = search rules in
    IfOk-weaker c.shown.result _ _ (λ explored is. (
      is.0,
      nowhere_more explored _ _ (λ requests lead none. leads_nowhere (g.J.StateJudge.stands c.args.judge.now) (g.J.StateJudge.allows c.args.judge.now) c.args.reached.now
          c.args.judged.now.ways.next.items requests none (c.requires.turns asked) lead) is.1,
    )) c.shown.ensures.requests

pub returns-in-None-clause-ends : goal.returns-in-None-clause-ends
returns-in-None-clause-ends g c = told_all c.all_of-in-None.result _ c.all_of-in-None.ensures (λ asked.
    each_can_end (g.J.StateJudge.stands c.args.judge.now) (g.J.StateJudge.allows c.args.judge.now) c.args.reached.now c.args.judged.now.ways.next.items (c.requires.turns asked)
    (c.in_ok-number.ensures.none c.in-None.is))
