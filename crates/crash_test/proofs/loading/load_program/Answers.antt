use Rattle.std.proofs.Common.{subst}
use Rattle.crash_test.specs.Programs.{IsObjectOf}
use Rattle.crash_test.proofs.Placing.{source_stands}
use Rattle.crash_test.proofs.loading.load_program.Goals as goal

pub returns-in-Ok-clause-places : goal.returns-in-Ok-clause-places
returns-in-Ok-clause-places c = λ is_source medium.
    source_stands c.args.file.now c.in_ok-object.object c.in-Ok.program medium
    (subst (λ kind. IsObjectOf kind c.args.file.now c.in_ok-object.object) is_source c.in_ok-object.ensures.ok) c.in-Ok.ensures
