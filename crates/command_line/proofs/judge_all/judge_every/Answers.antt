-- A run that was found is one of the program.
use Rattle.every_schedule.specs.AllAnswers.{IsSaidByRoutine}
use Rattle.every_schedule.specs.Sequential.{program_of}
use Rattle.command_line.proofs.OfFile.{of_file}
use Rattle.command_line.proofs.judge_all.judge_every.Goals as goal

pub conclusion-requires : goal.conclusion-requires
conclusion-requires g c =
    of_file (IsSaidByRoutine (program_of c.args.judge.setup c.args.judge.recovery c.args.judge.command.steps)) c.args.judge.setup c.args.judge.file.items c.in_ok-outcome.outcome c.requires.program c.in_ok-outcome.ensures.searches.found
