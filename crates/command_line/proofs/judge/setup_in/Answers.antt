-- With `--atomic` there is what the run starts from.
use Rattle.command_line.proofs.Started.{start_there}
use Rattle.command_line.proofs.judge.setup_in.Goals as goal

pub unreachable-requires : goal.unreachable-requires
unreachable-requires c =
    start_there c.args.judge.now.events c.args.judge.now.command.right (rw c.in-None.is at c.requires.open.ready.started) c.requires.atomic
