-- What is explained, and then what is printed.
use Rattle.std.proofs.Common.{Ok}
use Rattle.command_line.specs.AllSchedules.{told_run}
use Rattle.command_line.proofs.all_schedules.told_fail.Goals as goal

pub returns : goal.returns
returns g c = record {
  why = Ok c.in_ok-why.why;
  explains = rw c.in_ok-why.was at c.why.ensures.told;
  told = rw c.verdict_status.ensures at (c.answered.ensures (told_run g.C.ToldCause.told c.args.judged.now.json c.args.made.now c.args.verdict.now c.in_ok-why.why) c.told_run-text.ensures);
}
