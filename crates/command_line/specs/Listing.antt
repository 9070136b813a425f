-- What `listing` comes to.
use Rattle.std.specs.Prelude.{◌≡◌, ℕ, List, Result, MatchResult, string_bytes}
use Rattle.arguments.specs.declared.asked.ListingCommand.{ListingCommand}
use Rattle.asm_lex.specs.Lines.{lines_of}
use Rattle.report.specs.Listing.{IsListing}
use Rattle.program.specs.Sections.{Sections}
use Rattle.crash_test.specs.Origins.{origin_of}
use Rattle.crash_test.specs.Programs.{IsLoadFault, IsObjectOf, file_kind}
use Rattle.command_line.specs.Failures.{failure_of_program}
use Rattle.command_line.specs.Steps.{First, Reads, ReadsFile, Step, Still, Tells}
use Rattle.command_line.specs.declared.answer.Answer.{Answer}
use Rattle.command_line.specs.declared.failure.Failure.{Failure}
use Rattle.command_line.specs.declared.failure.Failure.TheVariants.{Memory}

-- the object of a program's file, or why it gives none
pub record SaysObject (file : List ℕ) (outcome : Result Sections Failure) : Type 0 where
  pub says : MatchResult outcome (IsObjectOf (file_kind file) file) (Tells (IsLoadFault file) failure_of_program)

-- the listing of a text, with status 0, each line of a source at its first word; memory for it may be refused
pub record PrintsListing (file text : List ℕ) (outcome : Result Answer Failure) : Type 0 where
  pub answer : MatchResult outcome (λ answer. IsListing text (lines_of file) (origin_of file) answer.text.items × (answer.status ≡ 0))
      (λ failure. failure ≡ Memory)

abbrev pub ListsFile : {F : Type 0} → Reads F → ListingCommand → Step F Answer
ListsFile reads command =
    First (ReadsFile reads (string_bytes command.program)) (λ file.
    First (Still (SaysObject file)) (λ object.
    Still (PrintsListing file object.text)))
