-- By what is found.
use Rattle.std.proofs.Common.{rules}
use Rattle.command_line.specs.declared.failure.Failure.TheVariants.{Unfinished}
use Rattle.command_line.proofs.Concluding.{concludes_by}
use Rattle.command_line.specs.AllSchedules.{told_stuck}
use Rattle.command_line.proofs.all_schedules.told_finding.Goals as goal

pub returns-in-Verdict : goal.returns-in-Verdict
returns-in-Verdict g c = rw c.in-Verdict.is c.told_fail.ensures

pub returns-in-Refused : goal.returns-in-Refused
returns-in-Refused g c = rw c.in-Refused.is (rw c.refusal.ensures at c.refused.ensures)

pub returns-in_ok-text-in-NotWhole : goal.returns-in_ok-text-in-NotWhole
returns-in_ok-text-in-NotWhole g c =
    rw c.in-NotWhole.is (concludes_by _ (Unfinished c.in_ok-text-in-NotWhole.text) _ _ (rw (c.deref.ensures.value, c.deref-in-NotWhole.ensures.value) at c.in_ok-text-in-NotWhole.ensures) c.refused-in-NotWhole.ensures)

pub returns-in_err-text-in-NotWhole : goal.returns-in_err-text-in-NotWhole
returns-in_err-text-in-NotWhole g c = rw c.in-NotWhole.is (search rules)

pub returns-in-NoWayOut : goal.returns-in-NoWayOut
returns-in-NoWayOut g c = rw c.in-NoWayOut.is (c.answered.ensures (told_stuck c.args.judged.now.json c.args.made.now.run.schedule) c.told_stuck.ensures)
