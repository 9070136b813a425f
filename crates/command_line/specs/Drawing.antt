-- What `interleave` comes to.
use Rattle.std.specs.Prelude.{List, Result, MatchResult, option_map, string_bytes}
use Rattle.arguments.specs.declared.asked.InterleaveCommand.{InterleaveCommand}
use Rattle.random_schedule.specs.Drawing.{IsDrawn, StopsDrawing}
use Rattle.random_schedule.specs.Interleaves.{IsWhole}
use Rattle.machine.specs.Run.{Config}
use Rattle.machine.specs.Represents.{MachineView, Represents}
use Rattle.machine.specs.declared.schedule.items.Item.{Item}
use Rattle.command_line.specs.Debugging.{Starts}
use Rattle.command_line.specs.Failures.{failure_of_drawing}
use Rattle.command_line.specs.Reading.{ReadsMedium, ReadsProgram, machine_of}
use Rattle.command_line.specs.Steps.{First, Prints, Reads, Step, Still, Tells}
use Rattle.command_line.specs.Writing.{schedule_line}
use Rattle.command_line.specs.declared.answer.Answer.{Answer}
use Rattle.command_line.specs.declared.failure.Failure.{Failure}

-- the schedule that the seed draws from c, which is that of a whole run
pub record IsInterleaving (c : Config) (command : InterleaveCommand) (schedule : List Item) : Type 0 where
  pub drawn : IsDrawn c command.seed command.steps command.evictions schedule
  pub whole : IsWhole c command.steps command.evictions schedule

-- the schedule that the seed draws for what the machine represents, or why there is none
pub record DrawsSchedule (machine : MachineView) (command : InterleaveCommand) (outcome : Result (List Item) Failure) : Type 0 where
  pub draws : MatchResult outcome (λ schedule. (c : Config) → Represents machine c → IsInterleaving c command schedule)
      (Tells (λ fault. (c : Config) → Represents machine c → StopsDrawing c command.seed command.steps fault) failure_of_drawing)

abbrev pub InterleavesFile : {F : Type 0} → Reads F → InterleaveCommand → Step F Answer
InterleavesFile reads command =
    First (ReadsProgram reads (string_bytes command.program)) (λ program.
    First (ReadsMedium reads (option_map string_bytes command.machine.medium)) (λ medium.
    First (Still (Starts (machine_of command.machine program medium))) (λ machine.
    First (Still (DrawsSchedule machine command)) (λ schedule.
    Still (Prints (schedule_line schedule) 0)))))
