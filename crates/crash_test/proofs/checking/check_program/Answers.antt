use Rattle.std.proofs.Common.{Result, refl, subst}
use Rattle.std.specs.Prelude.{IfOk}
use Rattle.image_check.specs.declared.cause.Cause.{Cause}
use Rattle.image_check.specs.declared.fault.CheckFault.{CheckFault}
use Rattle.verdict.specs.declared.moment_verdict.verdict.Verdict.{Verdict}
use Rattle.verdict.specs.declared.moment_verdict.verdict.Verdict.TheVariants.{Pass}
use Rattle.crash_test.proofs.Passing.{always_passes}
use Rattle.crash_test.proofs.Running.{has_trace}
use Rattle.crash_test.proofs.Surviving.{survives}
use Rattle.crash_test.specs.Checking.{HasVerdict}
use Rattle.crash_test.specs.Rows.{row_of}
use Rattle.crash_test.proofs.checking.check_program.Goals as goal

pub returns-clause-ok : goal.returns-clause-ok
returns-clause-ok g c = rw (c.start.ensures.value, c.trace.ensures.value) at c.check_events.ensures.ok

pub returns-clause-pass : goal.returns-clause-pass
returns-clause-pass g c = λ moments images passed zero all.
    let verdict : HasVerdict c.args.plan.now.operations c.args.run.now (row_of c.args.work) (Pass moments images) =
    subst (λ (found : Result (Verdict Cause) CheckFault). IfOk found (HasVerdict c.args.plan.now.operations c.args.run.now (row_of c.args.work))) passed
    (returns-clause-ok g c) in
    always_passes _ _ _ _ _ _ c.args.work.goes_on (Pass moments images) (has_trace c.args.run.now c.trace.ensures.run) verdict.verdict_is moments images refl zero all

pub returns-clause-survives : goal.returns-clause-survives
returns-clause-survives g c = λ moments images passed zero all.
    survives c.args.plan.now.operations c.args.run.now (returns-clause-pass g c moments images passed zero all) c.trace.ensures.run

pub returns-clause-err : goal.returns-clause-err
returns-clause-err g c = rw c.trace.ensures.value at c.check_events.ensures.err

pub returns-clause-told : goal.returns-clause-told
returns-clause-told g c = rw (c.start.ensures.value, c.trace.ensures.value) at c.check_events.ensures.told
