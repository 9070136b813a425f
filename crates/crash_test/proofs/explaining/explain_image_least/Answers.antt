use Rattle.crash_test.proofs.Leaving.{explains_image_least}
use Rattle.crash_test.proofs.explaining.explain_image_least.Goals as goal

pub returns-in-Ok-clause-ok : goal.returns-in-Ok-clause-ok
returns-in-Ok-clause-ok c =
    explains_image_least c.args.run.now _ _ c.recorded.result.now c.in_ok-cut.cut c.in-Ok.explanation c.recorded.ensures.record
    (rw c.trace.ensures.value at c.in_ok-cut.ensures.ok) c.in-Ok.ensures.ok
