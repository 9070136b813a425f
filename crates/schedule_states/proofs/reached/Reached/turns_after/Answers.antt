use Rattle.std.proofs.Common.{◌∙◌}
use Rattle.schedule_states.proofs.Closing.{before_twice, grown_twice}
use Rattle.schedule_states.proofs.Onward.{turns_at_number}
use Rattle.schedule_states.proofs.reached.Reached.turns_after.Goals as goal

pub look-requires-clause-known : goal.look-requires-clause-known
look-requires-clause-known g c κs within s t met = turns_at_number (g.J.StateJudge.stands c.args.judge.now) (g.J.StateJudge.allows c.args.judge.now) (g.J.StateJudge.ends c.args.judge.now)
    c.numbered.new.self c.args.number c.in_ok-turns.turns s t c.in_ok-turns.ensures.turns met

pub returns-clause-grown : goal.returns-clause-grown
returns-clause-grown g c = (
  grown_twice c.args.self.now c.numbered.new.self c.look.new.self c.numbered.ensures.grown.0 c.look.ensures.grown,
  before_twice c.args.self.now.parts c.numbered.new.self.parts c.look.new.self.parts c.numbered.ensures.grown.0.parts c.numbered.ensures.grown.1 c.look.ensures.before,
  c.look.ensures.states ∙ c.numbered.ensures.grown.2,
)
