use Rattle.std.proofs.Common.{inl}
use Rattle.command_line.proofs.commands.outcome.Goals as goal

pub returns-in-Ok-clause-comes : goal.returns-in-Ok-clause-comes
returns-in-Ok-clause-comes g c = inl (c.in-Ok.command, record { asked = c.in-Ok.ensures.ok; carried_out = c.carry_out.ensures.carries })
