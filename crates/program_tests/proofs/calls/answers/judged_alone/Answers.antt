use Rattle.every_schedule.specs.Sequential.{AreAllNoted, program_of}
use Rattle.program_tests.proofs.calls.answers.judged_alone.Goals as goal

pub verdict_by-requires-after_bounds : goal.verdict_by-requires-after_bounds
verdict_by-requires-after_bounds g c κs within =
    let noted : AreAllNoted (program_of c.in_ok-setup.setup c.in_ok-program.program 1000) c.in_ok-runs.field-0 = rw c.in_ok-runs.was at c.sequential.ensures in
    rw c.in_ok-run.ensures (rw c.in-All.is at noted)
