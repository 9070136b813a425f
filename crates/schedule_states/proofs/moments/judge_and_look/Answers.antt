use Rattle.std.proofs.Common.{rules}
use Rattle.schedule_states.proofs.moments.judge_and_look.Goals as goal

pub returns-clause-known : goal.returns-clause-known
returns-clause-known g c n turns here = c.join_mut-done.ensures.0.met.1 n turns (search rules)
