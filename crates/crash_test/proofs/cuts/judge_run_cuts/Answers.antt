use Rattle.std.proofs.Common.{Result, refl, subst}
use Rattle.std.specs.Prelude.{IfOk}
use Rattle.routine_judge.specs.Rules.{judgement_view}
use Rattle.routine_judge.specs.declared.cuts.outcome.CutsVerdict.{CutsVerdict}
use Rattle.routine_judge.specs.declared.cuts.outcome.CutsVerdict.TheVariants.{Pass}
use Rattle.routine_judge.specs.declared.fault.JudgeFault.{JudgeFault}
use Rattle.crash_test.proofs.Running.{has_trace}
use Rattle.crash_test.proofs.StayingRecovered.{always_recovered, stays_recovered}
use Rattle.crash_test.specs.CutsJudging.{HasCutsJudgement}
use Rattle.crash_test.specs.Rows.{row_of}
use Rattle.crash_test.proofs.cuts.judge_run_cuts.Goals as goal

pub judge_event_cuts-requires-clause-runs : goal.judge_event_cuts-requires-clause-runs
judge_event_cuts-requires-clause-runs g c κs within = rw c.start.ensures.value c.requires.runs

pub returns-clause-ok : goal.returns-clause-ok
returns-clause-ok g c = rw (c.start.ensures.value, c.trace.ensures.value) at c.judge_event_cuts.ensures.ok

pub returns-clause-stays : goal.returns-clause-stays
returns-clause-stays g c = λ moments images passed zero all.
    let asked = c.args.judgement.cuts in
    let judgement = judgement_view c.args.judgement.judgement in
    let verdict : HasCutsJudgement c.args.run.now judgement asked (row_of c.args.work) (Pass moments images) =
    subst (λ (found : Result CutsVerdict JudgeFault). IfOk found (HasCutsJudgement c.args.run.now judgement asked (row_of c.args.work))) passed
    (returns-clause-ok g c) in
    stays_recovered _ _ judgement asked _ _ _ c.args.work.goes_on (Pass moments images) (has_trace c.args.run.now c.trace.ensures.run)
    verdict.verdict_is moments images refl zero all

pub returns-clause-pass : goal.returns-clause-pass
returns-clause-pass g c = λ moments images passed zero all.
    always_recovered c.args.run.now.setup c.args.run.now.schedule (judgement_view c.args.judgement.judgement) c.args.judgement.cuts
    (returns-clause-stays g c moments images passed zero all)

pub returns-clause-err : goal.returns-clause-err
returns-clause-err g c = rw c.trace.ensures.value at c.judge_event_cuts.ensures.err

pub returns-clause-told : goal.returns-clause-told
returns-clause-told g c = rw (c.start.ensures.value, c.trace.ensures.value) at c.judge_event_cuts.ensures.told
