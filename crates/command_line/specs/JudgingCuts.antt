-- What `judge` comes to with power cuts in recovery.
use Rattle.std.specs.Prelude.{ℕ, List, [], Option, Result, MatchResult, ◌++◌}
use Rattle.crash_test.specs.CutsJudging.{HasCutsJudgementOn, IsToldOfCutsOn}
use Rattle.routine_judge.specs.Verdicts.{IsRefusal}
use Rattle.routine_judge.specs.declared.cuts.outcome.CutsVerdict.{CutsVerdict}
use Rattle.routine_judge.specs.declared.cuts.outcome.RecoveryCuts.{RecoveryCuts}
use Rattle.command_line.specs.CutReasons.{ExplainsChain, chain_told}
use Rattle.command_line.specs.CutVerdicts.{failing_chain, judges_none, told_verdict, verdict_status}
use Rattle.command_line.specs.Failures.{failure_of_judge}
use Rattle.command_line.specs.Judging.{Answers, judgement_asked, overlap_asked}
use Rattle.command_line.specs.Progress.{IsToldIf, Progresses, gets_line}
use Rattle.command_line.specs.Steps.{First, Prints, Step, Still, Tells}
use Rattle.command_line.specs.Traces.{events_of, medium_of}
use Rattle.command_line.specs.Verdicts.{first_of, row_asked}
use Rattle.command_line.specs.declared.answer.Answer.{Answer}
use Rattle.command_line.specs.declared.events.OpenEvents.{OpenEvents}
use Rattle.command_line.specs.declared.events.OpenEvents.TheVariants.{Run, Trace}
use Rattle.command_line.specs.declared.failure.Failure.{Failure}
use Rattle.command_line.specs.declared.made_run.MadeRun.{MadeRun}
use Rattle.command_line.specs.declared.opened.OpenJudge.{OpenJudge}

-- the verdict on what is asked for, or why there is none
pub record JudgesOpen (judge : OpenJudge) (most : RecoveryCuts) (outcome : Result CutsVerdict Failure) : Type 0 where
  pub judges : MatchResult outcome (HasCutsJudgementOn (medium_of judge.events) (events_of judge.events) (judgement_asked judge) most (row_asked judge.command.judged))
      (Tells (IsRefusal (overlap_asked judge.command.right) (events_of judge.events) (first_of judge.command.judged.moments)) failure_of_judge)

-- how far the judging had come was told
abbrev pub TellsProgress : OpenJudge → RecoveryCuts → Option (List ℕ) → Option (List ℕ) → Type 0
TellsProgress judge most =
    Progresses (IsToldOfCutsOn gets_line (medium_of judge.events) (events_of judge.events) (judgement_asked judge) most (row_asked judge.command.judged) [])

-- the verdict, and what standard error was told on the way
pub record Watches {E : Type 0} (said : E → Option (List ℕ)) (judge : OpenJudge) (most : RecoveryCuts) (errors : E) (outcome : Result CutsVerdict Failure) (errors' : E) : Type 0 where
  pub judges : JudgesOpen judge most outcome
  pub told : IsToldIf judge.command.judged.progress (TellsProgress judge most (said errors) (said errors')) errors errors'

-- what is printed of a verdict on a run, and of the power cuts of a failing chain
abbrev pub JudgesRunBy : {E : Type 0} → (E → Option (List ℕ)) → OpenJudge → RecoveryCuts → MadeRun → CutsVerdict → Step E Answer
JudgesRunBy said judge most made verdict =
    First (Still (ExplainsChain judge.recovery judge.command.steps made.run (failing_chain judge.command.judged.why verdict))) (λ cuts.
    First (Still (Prints (told_verdict judge.command.judged.json most verdict
    ++ chain_told judge.command.judged.json made.file.items judge.recovery_file.items cuts) (verdict_status verdict)))
    (Answers said (judges_none verdict)))

-- power cuts in recovery are asked for of a run alone
abbrev pub JudgesEventsBy : {E : Type 0} → (E → Option (List ℕ)) → OpenJudge → RecoveryCuts → OpenEvents → CutsVerdict → Step E Answer
JudgesEventsBy said judge most (Run made) verdict = JudgesRunBy said judge most made verdict
JudgesEventsBy said judge most (Trace trace) verdict = λ errors outcome errors'. ⊥

-- what the events come to by the right answers
abbrev pub JudgesCuts : {E : Type 0} → (E → Option (List ℕ)) → OpenJudge → RecoveryCuts → Step E Answer
JudgesCuts said judge most =
    First (Watches said judge most) (JudgesEventsBy said judge most judge.events)
