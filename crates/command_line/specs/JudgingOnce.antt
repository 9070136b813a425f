-- What `judge` comes to without power cuts in recovery.
use Rattle.std.specs.Prelude.{ℕ, List, Option}
use Rattle.command_line.specs.Judging.{Answers, ExplainsFailing, Watches, judges_none}
use Rattle.command_line.specs.Steps.{First, Step, Still}
use Rattle.command_line.specs.ToldAnswers.{PrintsJudged, TellsAnswers}
use Rattle.command_line.specs.declared.answer.Answer.{Answer}
use Rattle.command_line.specs.declared.opened.OpenJudge.{OpenJudge}

-- the verdict on the events by the right answers, and what is told of a failing image
abbrev pub JudgesOnce : {E : Type 0} → (E → Option (List ℕ)) → OpenJudge → Step E Answer
JudgesOnce said judge =
    First (Watches said judge) (λ verdict.
    First (Still (TellsAnswers judge verdict)) (λ answers.
    First (Still (ExplainsFailing judge verdict)) (λ why.
    First (Still (PrintsJudged judge verdict answers why))
    (Answers said (judges_none verdict)))))
