-- Where the run that is to be judged is at fault, no such command is asked for.
use Rattle.std.proofs.Common.{rules}
use Rattle.clap.specs.Words.{found_of, rows_of}
use Rattle.arguments.specs.Line.{IsJudge, OnFault}
use Rattle.arguments.specs.declared.asked.LineFault.{LineFault}
use Rattle.arguments.specs.declared.asked.JudgeCommand.{JudgeCommand}
use Rattle.arguments.proofs.Lines.{says_more}
use Rattle.arguments.proofs.Traced.{no_cuts, no_program}
use Rattle.arguments.proofs.commands.judge_by_routine.Goals as goal

pub returns-in_err-judged-clause-err : goal.returns-in_err-judged-clause-err
returns-in_err-judged-clause-err c =
    let fault : LineFault = c.in_err-judged.field-0.0 in
    let none : OnFault ((command : JudgeCommand) → ¬ (IsJudge (rows_of (found_of c.args.found.now)) command)) fault =
    says_more fault (λ unjudged command is. unjudged command.judged is.judged)
    c.in_err-judged.ensures.err in
    search (rules, none)

pub returns-in_err-demand_program-clause-err : goal.returns-in_err-demand_program-clause-err
returns-in_err-demand_program-clause-err c =
    let fault : LineFault = c.in_err-demand_program.field-0.0 in
    let none : OnFault ((command : JudgeCommand) → ¬ (IsJudge (rows_of (found_of c.args.found.now)) command)) fault =
    says_more fault (no_program _ _ _ c.in_ok-judged.ensures.ok.source c.in_ok-right.ensures.ok)
    c.in_err-demand_program.ensures.err in
    search (rules, none)

pub returns-in_err-demand_run-clause-err : goal.returns-in_err-demand_run-clause-err
returns-in_err-demand_run-clause-err c =
    let fault : LineFault = c.in_err-demand_run.field-0.0 in
    let none : OnFault ((command : JudgeCommand) → ¬ (IsJudge (rows_of (found_of c.args.found.now)) command)) fault =
    says_more fault (no_cuts _ _ _ c.in_ok-judged.ensures.ok.source c.in_ok-cuts.ensures.ok)
    c.in_err-demand_run.ensures.err in
    search (rules, none)
