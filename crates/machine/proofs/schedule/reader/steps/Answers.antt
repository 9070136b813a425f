use Rattle.std.proofs.Common.{Some}
use Rattle.machine.proofs.Stars.{some_said}
use Rattle.machine.proofs.schedule.reader.steps.Goals as goal

pub returns-in-Some-clause-some : goal.returns-in-Some-clause-some
returns-in-Some-clause-some c =
    some_said c.args.text.now (Some c.in-Some.star) c.counted_steps.result c.in-Some.ensures c.counted_steps.ensures.some
