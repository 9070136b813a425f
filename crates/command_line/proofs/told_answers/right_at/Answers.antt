-- Sequential runs give no moments.
use Rattle.command_line.proofs.RightTold.{none_told}
use Rattle.command_line.proofs.told_answers.right_at.Goals as goal

pub returns-in-Atomic : goal.returns-in-Atomic
returns-in-Atomic c =
    none_told c.args.judge.now c.args.rule _ c.args.moment _ c.in-Atomic.is c.requires.rule c.new.ensures.items
