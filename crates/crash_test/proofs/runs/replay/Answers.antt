use Rattle.crash_test.proofs.Making.{has_run, left_of}
use Rattle.crash_test.proofs.runs.replay.Goals as goal

pub returns-in-Ok-clause-ok : goal.returns-in-Ok-clause-ok
returns-in-Ok-clause-ok c =
    has_run _ c.args.schedule.now c.in_ok-machine.machine c.run-ended.new.self c.in_ok-machine.ensures.ok c.in-Ok.ensures.ok c.events.ensures.limit

pub returns-in-Ok-clause-left : goal.returns-in-Ok-clause-left
returns-in-Ok-clause-left c =
    left_of _ c.args.schedule.now c.in_ok-machine.machine c.run-ended.new.self c.in_ok-machine.ensures.ok c.in_ok-machine.ensures.exact
    c.in-Ok.ensures.ok c.in-Ok.ensures.exact
