-- What the reporter heard is what standard error got.
use Rattle.std.proofs.Common.{ap}
use Rattle.routine_judge.specs.Rules.{JudgementView}
use Rattle.command_line.proofs.OnTheWay.{same_stream, told_lines}
use Rattle.command_line.proofs.judge_cuts.reported_verdict.Goals as goal

pub returns-in_ok-judge_run_cuts-in-Run-clause-same : goal.returns-in_ok-judge_run_cuts-in-Run-clause-same
returns-in_ok-judge_run_cuts-in-Run-clause-same g c = same_stream _ _ _ _ _ _ _ _ _ _ c.judge_run_cuts.ensures.told

pub returns-in_ok-judge_run_cuts-in-Run-clause-told : goal.returns-in_ok-judge_run_cuts-in-Run-clause-told
returns-in_ok-judge_run_cuts-in-Run-clause-told g c = rw c.in-Run.is (told_lines _ _ _ _ _ _ _ _ _ _ (rw (
  c.work-work.ensures.first,
  c.work-work.ensures.last,
  c.work-work.ensures.goes_on,
  ap (λ (v : JudgementView). v.routine) c.judgement-judgement.ensures.asked,
  ap (λ (v : JudgementView). v.steps) c.judgement-judgement.ensures.asked,
  ap (λ (v : JudgementView). v.right) c.judgement-judgement.ensures.asked,
) at c.judge_run_cuts.ensures.told))

pub returns-in_ok-judge_event_cuts-in-Trace-clause-same : goal.returns-in_ok-judge_event_cuts-in-Trace-clause-same
returns-in_ok-judge_event_cuts-in-Trace-clause-same g c = same_stream _ _ _ _ _ _ _ _ _ _ c.judge_event_cuts.ensures.told

pub returns-in_ok-judge_event_cuts-in-Trace-clause-told : goal.returns-in_ok-judge_event_cuts-in-Trace-clause-told
returns-in_ok-judge_event_cuts-in-Trace-clause-told g c = rw c.in-Trace.is (told_lines _ _ _ _ _ _ _ _ _ _ (rw (
  c.work-work.ensures.first,
  c.work-work.ensures.last,
  c.work-work.ensures.goes_on,
  ap (λ (v : JudgementView). v.routine) c.judgement-judgement.ensures.asked,
  ap (λ (v : JudgementView). v.steps) c.judgement-judgement.ensures.asked,
  ap (λ (v : JudgementView). v.right) c.judgement-judgement.ensures.asked,
) at c.judge_event_cuts.ensures.told))

pub returns-in_err-judge_run_cuts-in-Run-clause-same : goal.returns-in_err-judge_run_cuts-in-Run-clause-same
returns-in_err-judge_run_cuts-in-Run-clause-same g c = same_stream _ _ _ _ _ _ _ _ _ _ c.judge_run_cuts.ensures.told

pub returns-in_err-judge_run_cuts-in-Run-clause-told : goal.returns-in_err-judge_run_cuts-in-Run-clause-told
returns-in_err-judge_run_cuts-in-Run-clause-told g c = rw c.in-Run.is (told_lines _ _ _ _ _ _ _ _ _ _ (rw (
  c.work-work.ensures.first,
  c.work-work.ensures.last,
  c.work-work.ensures.goes_on,
  ap (λ (v : JudgementView). v.routine) c.judgement-judgement.ensures.asked,
  ap (λ (v : JudgementView). v.steps) c.judgement-judgement.ensures.asked,
  ap (λ (v : JudgementView). v.right) c.judgement-judgement.ensures.asked,
) at c.judge_run_cuts.ensures.told))

pub returns-in_err-judge_event_cuts-in-Trace-clause-same : goal.returns-in_err-judge_event_cuts-in-Trace-clause-same
returns-in_err-judge_event_cuts-in-Trace-clause-same g c = same_stream _ _ _ _ _ _ _ _ _ _ c.judge_event_cuts.ensures.told

pub returns-in_err-judge_event_cuts-in-Trace-clause-told : goal.returns-in_err-judge_event_cuts-in-Trace-clause-told
returns-in_err-judge_event_cuts-in-Trace-clause-told g c = rw c.in-Trace.is (told_lines _ _ _ _ _ _ _ _ _ _ (rw (
  c.work-work.ensures.first,
  c.work-work.ensures.last,
  c.work-work.ensures.goes_on,
  ap (λ (v : JudgementView). v.routine) c.judgement-judgement.ensures.asked,
  ap (λ (v : JudgementView). v.steps) c.judgement-judgement.ensures.asked,
  ap (λ (v : JudgementView). v.right) c.judgement-judgement.ensures.asked,
) at c.judge_event_cuts.ensures.told))
