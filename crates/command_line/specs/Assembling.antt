-- What `asm` comes to.
use Rattle.std.specs.Prelude.{◌≡◌, ◌≢◌, ℕ, List, Result, ◌++◌, codes, decimal, length, string_bytes, MatchResult}
use Rattle.arguments.specs.declared.asked.AssembleCommand.{AssembleCommand}
use Rattle.assemble.specs.Assembly.{Assembles, IsFirstFault}
use Rattle.assemble.specs.declared.fault.AsmFault.{AsmFault}
use Rattle.program.specs.ObjectFile.{IsObjectFile}
use Rattle.program.specs.Sections.{Sections}
use Rattle.command_line.specs.Failures.{failure_of_assembly}
use Rattle.command_line.specs.Reports.{line_end}
use Rattle.command_line.specs.Steps.{First, Prints, Reads, ReadsFile, Step, Still, Tells, Writes, WritesFile}
use Rattle.command_line.specs.declared.answer.Answer.{Answer}
use Rattle.command_line.specs.declared.failure.Failure.{Failure}
use Rattle.command_line.specs.declared.failure.Failure.TheVariants.{Memory}

-- the object of a source, or its first fault
abbrev pub IsSourceFault : List ℕ → AsmFault → Type 0
IsSourceFault source fault = failure_of_assembly fault ≢ Memory → IsFirstFault source fault

pub record AssemblesTo (source : List ℕ) (outcome : Result Sections Failure) : Type 0 where
  pub assembles : MatchResult outcome (Assembles source) (Tells (IsSourceFault source) failure_of_assembly)

-- the bytes of an object's file; memory for them may be refused
pub record GivesFile (object : Sections) (outcome : Result (List ℕ) Failure) : Type 0 where
  pub gives : MatchResult outcome (λ bytes. IsObjectFile bytes object) (λ failure. failure ≡ Memory)

-- `text N data M`: the bytes of each section
abbrev pub sizes_line : Sections → List ℕ
sizes_line object = codes "text " ++ (decimal (length object.text) ++ (codes " data " ++ (decimal (length object.static_data) ++ line_end)))

abbrev pub AssemblesFile : {F : Type 0} → Reads F → Writes F → AssembleCommand → Step F Answer
AssemblesFile reads writes command =
    First (ReadsFile reads (string_bytes command.source)) (λ source.
    First (Still (AssemblesTo source)) (λ object.
    First (Still (GivesFile object)) (λ bytes.
    First (WritesFile writes (string_bytes command.object) bytes) (λ _.
    Still (Prints (sizes_line object) 0)))))
