-- What is printed of a failure beyond its first line.
use Rattle.std.specs.Prelude.{◌≡◌, ◌++◌, ℕ, List, [], Option, Result, Ok, MatchResult}
use Rattle.arguments.specs.declared.asked.Command.{Command}
use Rattle.command_line.specs.Absent.{SaysAbsent}
use Rattle.command_line.specs.FileNames.{names_of}
use Rattle.command_line.specs.Meanings.{ReadsThen, SaysByRow, SaysLost, refused_file}
use Rattle.command_line.specs.Others.{AreOthers}
use Rattle.command_line.specs.Steps.{Reads, Step, Still}
use Rattle.command_line.specs.declared.failure.Failure.{Failure}
use Rattle.command_line.specs.declared.failure.Failure.TheVariants.{File, Memory, Refused}
use Rattle.command_line.specs.declared.failure.Refusal.{Refusal}
use Rattle.command_line.specs.declared.failure.Refusal.TheVariants.{Image, Moment}

-- what a refusal means, and the further lines at fault of a source, where the file that is refused has these bytes
pub record AreLines (name : Option (List ℕ)) (refusal : Refusal) (file text : List ℕ) : Type 0 where
  pub first : List ℕ
  pub others : List ℕ
  pub means : SaysByRow name refusal file first
  pub are_others : AreOthers name refusal file others
  pub text_is : text ≡ first ++ others

pub record SaysLines (name : Option (List ℕ)) (refusal : Refusal) (file : List ℕ) (outcome : Result (List ℕ) Failure) : Type 0 where
  pub says : MatchResult outcome (AreLines name refusal file) (λ failure. failure ≡ Memory)

-- what is said of a refusal of a command: how much there is in place of a moment or an image, and else what is wrong in the file that is refused
abbrev pub SaysOfRefusal : {F : Type 0} → Reads F → Command → Refusal → Step F (List ℕ)
SaysOfRefusal reads command Moment = SaysAbsent reads Moment command
SaysOfRefusal reads command Image = SaysAbsent reads Image command
SaysOfRefusal reads command refusal = ReadsThen reads (refused_file (names_of command) refusal) (SaysLines (refused_file (names_of command) refusal) refusal)

-- and of a failure
abbrev pub SaysMore : {F : Type 0} → Reads F → Command → Failure → Step F (List ℕ)
SaysMore reads command (Refused refusal) = SaysOfRefusal reads command refusal
SaysMore reads command File = SaysLost reads (names_of command)
SaysMore reads command failure = Still (λ outcome. outcome ≡ Ok [])
