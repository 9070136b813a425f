use Rattle.schedule_states.proofs.Onward.{known_of_parts}
use Rattle.schedule_states.proofs.reached.Reached.turn_or.Goals as goal

pub returns-in-Ok-clause-turn : goal.returns-in-Ok-clause-turn
returns-in-Ok-clause-turn g c = λ t kept. known_of_parts (g.J.StateJudge.stands c.args.judge.now) (g.J.StateJudge.allows c.args.judge.now) c.turn.new.self c.args.from.state.now t c.args.hart
    c.in-Ok.next c.turn_to.result c.turn_to.ensures ((rw c.in-Ok.is at c.in_ok-next.ensures.turn) t kept)
