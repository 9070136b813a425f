-- A run that was found is one of the program.
use Rattle.every_schedule.specs.EverySchedule.{IsSaidOf}
use Rattle.command_line.proofs.OfFile.{of_file}
use Rattle.command_line.proofs.check_all.check_every.Goals as goal

pub conclusion-requires : goal.conclusion-requires
conclusion-requires g c =
    of_file (IsSaidOf c.args.check.plan.operations) c.args.check.setup c.args.check.file.items c.in_ok-outcome.outcome c.requires.program c.in_ok-outcome.ensures.searches.found
