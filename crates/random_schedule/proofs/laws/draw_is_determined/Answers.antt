use Rattle.random_schedule.proofs.Once.{drawn_once}
use Rattle.random_schedule.proofs.laws.draw_is_determined.Goals as goal

pub returns : goal.returns
returns c = drawn_once
