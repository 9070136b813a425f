-- Where the events that are to be judged are at fault, no such command is asked for.
use Rattle.std.proofs.Common.{rules}
use Rattle.clap.specs.Words.{found_of, rows_of}
use Rattle.arguments.specs.Line.{IsAsk, OnFault}
use Rattle.arguments.specs.declared.asked.AskCommand.{AskCommand}
use Rattle.arguments.specs.declared.asked.EventSource.TheVariants.{Trace}
use Rattle.arguments.specs.declared.asked.LineFault.{LineFault}
use Rattle.arguments.proofs.Lines.{says_more}
use Rattle.arguments.proofs.commands.ask.Goals as goal

pub returns-in_err-events-clause-err : goal.returns-in_err-events-clause-err
returns-in_err-events-clause-err c =
    let fault : LineFault = c.in_err-events.field-0.0 in
    let none : OnFault ((command : AskCommand) → ¬ (IsAsk (rows_of (found_of c.args.found.now)) command)) fault =
    says_more fault (λ unasked command is. unasked (Trace command.events) is.events)
    c.in_err-events.ensures.err in
    search (rules, none)
