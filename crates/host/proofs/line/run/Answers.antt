use Rattle.std.proofs.Common.{◌∙◌, refl}
use Rattle.host.proofs.line.run.Goals as goal

pub returns-in-Ok : goal.returns-in-Ok
returns-in-Ok g c = rw c.in-Ok.is (rw c.from.ensures (rw c.deref.ensures.value at c.execute-status.ensures))

pub returns-in-Err : goal.returns-in-Err
returns-in-Err g c = rw c.in-Err.is (record {
  untouched = refl;
  told = c.report_failure.ensures.front;
  status_is = c.from-in-Err.ensures ∙ c.status.ensures;
})
