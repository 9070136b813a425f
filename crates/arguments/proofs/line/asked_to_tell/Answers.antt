-- Where the values of one of these are at fault, no command is asked for.
use Rattle.std.proofs.Common.{rules}
use Rattle.arguments.proofs.Lines.{no_trace, no_unpersisted, no_waste}
use Rattle.arguments.proofs.line.asked_to_tell.Goals as goal

pub returns-in-trace-clause-err : goal.returns-in-trace-clause-err
returns-in-trace-clause-err c = no_trace c.args.name.now _ c.trace.result c.in-trace.is c.trace.ensures.err

pub returns-in-unpersisted-clause-err : goal.returns-in-unpersisted-clause-err
returns-in-unpersisted-clause-err c = no_unpersisted c.args.name.now _ c.unpersisted.result c.in-unpersisted.is c.unpersisted.ensures.err

pub returns-in-waste-clause-err : goal.returns-in-waste-clause-err
returns-in-waste-clause-err c = no_waste c.args.name.now _ c.waste.result c.in-waste.is c.waste.ensures.err
