-- What `judge` comes to: by the run itself or by sequential runs, without power cuts in recovery or with them.
use Rattle.std.specs.Prelude.{ℕ, List, Option, Some, None}
use Rattle.arguments.specs.declared.asked.MostCuts.{MostCuts}
use Rattle.every_schedule.specs.declared.sequential.Sequential.{Sequential}
use Rattle.every_schedule.specs.declared.sequential.Sequential.TheVariants as known
use Rattle.command_line.specs.AllSchedules.{told_bound}
use Rattle.command_line.specs.CutVerdicts.{cuts_asked}
use Rattle.command_line.specs.ToldFull.{TellsFull}
use Rattle.command_line.specs.Judging.{FindsRuns}
use Rattle.command_line.specs.JudgingCuts.{JudgesCuts}
use Rattle.command_line.specs.JudgingOnce.{JudgesOnce}
use Rattle.command_line.specs.Steps.{First, Prints, Step, Still}
use Rattle.command_line.specs.declared.answer.Answer.{Answer}
use Rattle.command_line.specs.declared.opened.OpenJudge.{OpenJudge}

-- the verdict on the run by the right answers, with so many power cuts in recovery
abbrev pub JudgesWith : {E : Type 0} → (E → Option (List ℕ)) → OpenJudge → Option MostCuts → Step E Answer
JudgesWith said judge None = JudgesOnce said judge
JudgesWith said judge (Some most) = JudgesCuts said judge (cuts_asked most)

-- and behind a pass the answers on all full images, where these are asked for
abbrev pub JudgesRight : {E : Type 0} → (E → Option (List ℕ)) → OpenJudge → Step E Answer
JudgesRight said judge = First (JudgesWith said judge judge.command.cuts) (λ answer. Still (TellsFull judge answer))

-- without all of them there is no verdict, but the bound
abbrev pub JudgesBy : {E : Type 0} → (E → Option (List ℕ)) → OpenJudge → Option Sequential → Step E Answer
JudgesBy said judge None = JudgesRight said judge
JudgesBy said judge (Some (known.All runs states)) = JudgesRight said judge
JudgesBy said judge (Some (known.TooMany bound)) = Still (Prints (told_bound judge.command.judged.json judge.command.states bound) 3)

-- what the run comes to
abbrev pub JudgesRun : {E : Type 0} → (E → Option (List ℕ)) → OpenJudge → Step E Answer
JudgesRun said judge = First (Still (FindsRuns judge)) (λ runs. JudgesBy said judge runs)
