-- Where the program is at fault whose schedules are to be judged, no such command is asked for.
use Rattle.std.proofs.Common.{rules}
use Rattle.clap.specs.Words.{found_of, rows_of}
use Rattle.arguments.specs.Line.{IsCheckAll, OnFault}
use Rattle.arguments.specs.declared.asked.LineFault.{LineFault}
use Rattle.arguments.specs.declared.asked.CheckAllCommand.{CheckAllCommand}
use Rattle.arguments.proofs.Lines.{says_more}
use Rattle.arguments.proofs.commands.check_all.Goals as goal

pub returns-in_err-judged-clause-err : goal.returns-in_err-judged-clause-err
returns-in_err-judged-clause-err c =
    let fault : LineFault = c.in_err-judged.field-0.0 in
    let none : OnFault ((command : CheckAllCommand) → ¬ (IsCheckAll (rows_of (found_of c.args.found.now)) command)) fault =
    says_more fault (λ unjudged command is. unjudged command.judged is.judged)
    c.in_err-judged.ensures.err in
    search (rules, none)
