use Rattle.std.proofs.Common.{◌-◌, arith}
use Rattle.schedule_states.specs.Watching.{more}
use Rattle.schedule_states.proofs.exploring.tell.Goals as goal

pub returns : goal.returns
returns g c first heard =
    more c.args.watcher.now c.hear.new.self c.args.met (c.args.met - c.args.number) c.args.bytes heard (omega arith) c.requires.bytes c.hear.ensures
