use Rattle.std.proofs.Common.{rules}
use Rattle.command_line.proofs.Asked.{part_more}
use Rattle.command_line.proofs.replying.read_line.Goals as goal

pub returns-in-Err-add-clause-err : goal.returns-in-Err-add-clause-err
returns-in-Err-add-clause-err g c = search (rules, part_more, c.loop.invariant)
