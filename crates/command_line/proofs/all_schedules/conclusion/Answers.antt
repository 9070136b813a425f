-- By what was found.
use Rattle.command_line.specs.AllSchedules.{told_bound, told_pass}
use Rattle.command_line.proofs.all_schedules.conclusion.Goals as goal

pub returns-in-Pass : goal.returns-in-Pass
returns-in-Pass g c =
    rw c.in-Pass.is (c.answered.ensures (told_pass c.args.judged.now.json c.in-Pass.states c.in-Pass.moments) c.told_pass.ensures)

pub returns-in-TooMany : goal.returns-in-TooMany
returns-in-TooMany g c =
    rw c.in-TooMany.is (c.answered-in-TooMany.ensures (told_bound c.args.judged.now.json c.args.judged.now.states c.in-TooMany.bound) c.told_bound.ensures)
