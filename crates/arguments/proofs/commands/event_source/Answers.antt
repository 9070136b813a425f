-- Where the file's name is at fault, no events are asked for.
use Rattle.std.proofs.Common.{rules}
use Rattle.clap.specs.Words.{found_of, rows_of}
use Rattle.arguments.specs.Line.{IsEventSource, OnFault}
use Rattle.arguments.specs.declared.asked.EventSource.{EventSource}
use Rattle.arguments.specs.declared.asked.LineFault.{LineFault}
use Rattle.arguments.proofs.Lines.{no_source}
use Rattle.arguments.proofs.commands.event_source.Goals as goal

pub returns-in_err-file-clause-err : goal.returns-in_err-file-clause-err
returns-in_err-file-clause-err c =
    let fault : LineFault = c.in_err-file.field-0.0 in
    let none : OnFault ((source : EventSource) → ¬ (IsEventSource (rows_of (found_of c.args.found.now)) source)) fault =
    no_source (rows_of (found_of c.args.found.now)) fault c.in_err-file.ensures.err in
    search (rules, none)
