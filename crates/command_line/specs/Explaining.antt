-- What `explain` comes to.
use Rattle.std.specs.Prelude.{ℕ, Bool, true, false, List, [], Result, MatchResult}
use Rattle.arguments.specs.declared.asked.ExplainCommand.{ExplainCommand}
use Rattle.text.specs.declared.image_name.name.ImageName.{ImageName}
use Rattle.machine.specs.declared.schedule.items.Item.{Item}
use Rattle.crash_test.specs.Explaining.{ExplainsImage, ExplainsImageLeast}
use Rattle.crash_test.specs.Told.{LacksImage}
use Rattle.machine.specs.RunValues.{RunView}
use Rattle.command_line.specs.Failures.{failure_of_image}
use Rattle.command_line.specs.Demanding.{MeetsWhole}
use Rattle.command_line.specs.MakingRuns.{OpensRun}
use Rattle.command_line.specs.Steps.{First, Prints, Reads, Step, Still, Tells}
use Rattle.command_line.specs.Writing.{schedule_line}
use Rattle.command_line.specs.declared.answer.Answer.{Answer}
use Rattle.command_line.specs.declared.failure.Failure.{Failure}

-- an explanation by the needed evictions alone, or by all
abbrev pub ExplainsAs : Bool → RunView → ℕ → ImageName → List Item → Type 0
ExplainsAs true run moment image explanation = ExplainsImageLeast run moment image explanation
ExplainsAs false run moment image explanation = ExplainsImage run moment image explanation

-- an explanation of an image of a moment, or why there is none
pub record Explained (run : RunView) (command : ExplainCommand) (outcome : Result (List Item) Failure) : Type 0 where
  pub explains : MatchResult outcome (ExplainsAs command.least run command.moment command.image)
      (Tells (LacksImage run.events command.moment command.image) failure_of_image)

abbrev pub ExplainsFile : {F : Type 0} → Reads F → ExplainCommand → Step F Answer
ExplainsFile reads command =
    First (OpensRun reads command.run) (λ made.
    First (Still (MeetsWhole command.run.whole made [])) (λ _.
    First (Still (Explained made.run command)) (λ explanation.
    Still (Prints (schedule_line explanation) 0))))
