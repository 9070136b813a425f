use Rattle.crash_test.proofs.Recording.{stops_recording}
use Rattle.crash_test.proofs.runs.record_run.Goals as goal

pub returns-in-Err-clause-err : goal.returns-in-Err-clause-err
returns-in-Err-clause-err c = stops_recording c.args.setup c.args.schedule.now c.in-Err.stop c.in-Err.ensures.err
