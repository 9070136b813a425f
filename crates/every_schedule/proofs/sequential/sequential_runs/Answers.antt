use Rattle.every_schedule.proofs.Judged.{all_told}
use Rattle.every_schedule.proofs.Sequencing.{all_noted}
use Rattle.every_schedule.specs.Sequential.{program_of}
use Rattle.routine_judge.specs.SequentialRuns.{notes_in}
use Rattle.routine_judge.specs.Views.{ProgramView}
use Rattle.every_schedule.proofs.sequential.sequential_runs.Goals as goal

pub returns : goal.returns
returns g c =
    let view : ProgramView = program_of c.args.setup.now c.args.recovery.program.now c.args.recovery.steps in record {
      all = c.noted_by.ensures view (all_told c.in_ok-explored.explored _ _
          (λ good. all_noted view (notes_in c.explore.new.workspace.runs) good.0 c.explore.ensures.kept.0.2) c.in_ok-explored.ensures.good);
    }
