use Rattle.std.proofs.Common.{Result, refl, subst}
use Rattle.std.specs.Prelude.{IfOk}
use Rattle.routine_judge.specs.Rules.{judgement_view}
use Rattle.routine_judge.specs.declared.cause.Cause.{Cause}
use Rattle.routine_judge.specs.declared.fault.JudgeFault.{JudgeFault}
use Rattle.verdict.specs.declared.moment_verdict.verdict.Verdict.{Verdict}
use Rattle.verdict.specs.declared.moment_verdict.verdict.Verdict.TheVariants.{Pass}
use Rattle.crash_test.proofs.Recovering.{always_recovers, answers_after}
use Rattle.crash_test.proofs.Running.{has_trace}
use Rattle.crash_test.specs.Judging.{HasJudgement}
use Rattle.crash_test.specs.Rows.{row_of}
use Rattle.crash_test.proofs.judging.judge_program.Goals as goal

pub judge_events-requires-clause-runs : goal.judge_events-requires-clause-runs
judge_events-requires-clause-runs g c κs within = rw c.start.ensures.value c.requires.runs

pub returns-clause-ok : goal.returns-clause-ok
returns-clause-ok g c = rw (c.start.ensures.value, c.trace.ensures.value) at c.judge_events.ensures.ok

pub returns-clause-pass : goal.returns-clause-pass
returns-clause-pass g c = λ moments images passed zero all.
    let verdict : HasJudgement c.args.run.now (judgement_view c.args.judgement) (row_of c.args.work) (Pass moments images) =
    subst (λ (found : Result (Verdict Cause) JudgeFault). IfOk found (HasJudgement c.args.run.now (judgement_view c.args.judgement) (row_of c.args.work))) passed
    (returns-clause-ok g c) in
    always_recovers _ _ (judgement_view c.args.judgement) _ _ _ c.args.work.goes_on (Pass moments images) (has_trace c.args.run.now c.trace.ensures.run)
    verdict.verdict_is moments images refl zero all

pub returns-clause-survives : goal.returns-clause-survives
returns-clause-survives g c = λ moments images passed zero all.
    answers_after c.args.run.now.setup c.args.run.now.schedule (judgement_view c.args.judgement)
    (returns-clause-pass g c moments images passed zero all)

pub returns-clause-err : goal.returns-clause-err
returns-clause-err g c = rw c.trace.ensures.value at c.judge_events.ensures.err

pub returns-clause-told : goal.returns-clause-told
returns-clause-told g c = rw (c.start.ensures.value, c.trace.ensures.value) at c.judge_events.ensures.told
