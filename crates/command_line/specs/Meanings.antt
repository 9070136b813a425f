-- What is printed of a refusal beyond its first line: the file that is refused, the place in it, what the code means, what stands there and
-- what is wanted.
use Rattle.std.specs.Prelude.{◌≡◌, ℕ, List, [], ◌∷◌, ◌++◌, Option, Some, None, Result, MatchOption, MatchResult, ◌==◌, codes, decimal, if◌then◌else◌, length, string_bytes}
use Rattle.arguments.specs.Codes.{IsMeaningOf}
use Rattle.arguments.specs.declared.codes.table.Meaning.{Meaning}
use Rattle.command_line.specs.Details.{IsDetail}
use Rattle.command_line.specs.Failures.{refusal_code}
use Rattle.command_line.specs.FileNames.{Names}
use Rattle.command_line.specs.Kinds.{IsKindTold}
use Rattle.command_line.specs.LostFiles.{FindsLost, Lost}
use Rattle.command_line.specs.Reports.{line_end}
use Rattle.report.specs.PrintedWords.{printed_words}
use Rattle.command_line.specs.Steps.{First, Reads, ReadsFile, Step, Still}
use Rattle.command_line.specs.declared.details.Detail.{Detail}
use Rattle.command_line.specs.declared.failure.Failure.{Failure}
use Rattle.command_line.specs.declared.failure.Failure.TheVariants.{Memory}
use Rattle.command_line.specs.declared.failure.Refusal.{Refusal}
use Rattle.command_line.specs.declared.files.FileFault.{FileFault}
use Rattle.command_line.specs.declared.files.FileFault.TheVariants as files
use Rattle.command_line.specs.declared.failure.Refusal.TheVariants.{Assembly, Object, Plan, ScheduleText, Trace, Medium, Volume, Step as Stopped, Beyond, Foreign, Moment, Image, Operation, Marks, Reply, NoReply, RecoverySource, RecoveryObject, Elf, RecoveryElf}

-- the one, where there is one, and else the other
abbrev pub first_name : Option (List ℕ) → Option (List ℕ) → Option (List ℕ)
first_name None other = other
first_name (Some name) other = Some name

-- the file that is refused, of those that a command reads: none of them alone is, where a moment or an image isn't there
abbrev pub refused_file : Names → Refusal → Option (List ℕ)
refused_file names (Assembly fault) = names.program
refused_file names (Object fault) = names.program
refused_file names (Elf fault) = names.program
refused_file names (Plan fault) = names.plan
refused_file names ScheduleText = names.schedule
refused_file names (Trace fault) = names.trace
refused_file names Medium = names.medium
refused_file names (Volume fault) = names.medium
refused_file names (Stopped fault) = names.schedule
refused_file names (Beyond limit) = names.schedule
refused_file names Foreign = names.program
refused_file names Moment = None
refused_file names Image = None
refused_file names Reply = None
refused_file names NoReply = None
refused_file names (Operation fault) = first_name names.program names.trace
refused_file names (Marks fault) = first_name names.program names.trace
refused_file names (RecoverySource fault) = names.recovery
refused_file names (RecoveryObject fault) = names.recovery
refused_file names (RecoveryElf fault) = names.recovery

-- the line at fault in it
abbrev pub refused_line : Refusal → Option ℕ
refused_line (Assembly fault) = Some fault.line
refused_line (Plan fault) = Some fault.line
refused_line (Trace fault) = Some fault.line
refused_line (RecoverySource fault) = Some fault.line
refused_line refusal = None

-- `FILE:LINE:COLUMN: `, without a line or a column where none is at fault
abbrev pub behind_name : Option ℕ → Option ℕ → List ℕ
behind_name None column = codes ": "
behind_name (Some line) None = codes ":" ++ (decimal line ++ codes ": ")
behind_name (Some line) (Some column) = codes ":" ++ (decimal line ++ (codes ":" ++ (decimal column ++ codes ": ")))

abbrev pub place_text : Option (List ℕ) → Option ℕ → Option ℕ → List ℕ
place_text None line column = []
place_text (Some name) line column = printed_words name ++ behind_name line column

-- `: TEXT`, and ` (TEXT)`, or nothing
abbrev pub behind_colon : List ℕ → List ℕ
behind_colon text = if length text == 0 then [] else codes ": " ++ text

abbrev pub in_brackets : List ℕ → List ℕ
in_brackets text = if length text == 0 then [] else codes " (" ++ (text ++ codes ")")

-- what is told of the file, and else what is wanted
abbrev pub told_hint : List ℕ → List ℕ → List ℕ
told_hint kind hint = if length kind == 0 then hint else kind

-- the row of the table for a code, if it has one
abbrev pub IsRowOf : List ℕ → Option Meaning → Type 0
IsRowOf code row = MatchOption row ((m : Meaning) → ¬ IsMeaningOf code m) (IsMeaningOf code)

-- `FILE:LINE:COLUMN: MEANING: WHAT STANDS THERE (WHAT IS WANTED)`
abbrev pub refused_text : Option (List ℕ) → Option ℕ → Meaning → Detail → List ℕ → List ℕ
refused_text name line m detail kind = place_text name line detail.column
    ++ (m.meaning.now ++ (behind_colon (string_bytes detail.text) ++ (in_brackets (told_hint kind detail.hint.now) ++ line_end)))

-- it is said of a refusal by a row of the table, where the refused file has these bytes
pub record IsRefusedText (name : Option (List ℕ)) (refusal : Refusal) (file : List ℕ) (m : Meaning) (text : List ℕ) : Type 0 where
  pub detail : Detail
  pub kind : List ℕ
  pub is_detail : IsDetail refusal file detail
  pub is_kind : IsKindTold name refusal file kind
  pub text_is : text ≡ refused_text name (refused_line refusal) m detail kind

abbrev pub IsTextByRow : Option (List ℕ) → Refusal → List ℕ → Option Meaning → List ℕ → Type 0
IsTextByRow name refusal file None text = text ≡ []
IsTextByRow name refusal file (Some m) text = IsRefusedText name refusal file m text

pub record SaysByRow (name : Option (List ℕ)) (refusal : Refusal) (file text : List ℕ) : Type 0 where
  pub row : Option Meaning
  pub is_row : IsRowOf (refusal_code refusal) row
  pub is_text : IsTextByRow name refusal file row text

pub record SaysRefused (name : Option (List ℕ)) (refusal : Refusal) (file : List ℕ) (outcome : Result (List ℕ) Failure) : Type 0 where
  pub says : MatchResult outcome (SaysByRow name refusal file) (λ failure. failure ≡ Memory)

-- what is said of the bytes of the refused file, which is read once more, where one is refused
abbrev pub ReadsThen : {F : Type 0} → Reads F → Option (List ℕ) → (List ℕ → Result (List ℕ) Failure → Type 0) → Step F (List ℕ)
ReadsThen reads None says = Still (says [])
ReadsThen reads (Some name) says = First (ReadsFile reads name) (λ file. Still (says file))

-- the files that a command reads
abbrev pub files_read : Names → List (Option (List ℕ))
files_read names = names.plan ∷ names.program ∷ names.schedule ∷ names.recovery ∷ names.medium ∷ names.trace ∷ []

-- why a file can't be read
abbrev pub cause_text : FileFault → List ℕ
cause_text files.Missing = codes "no such file"
cause_text files.Folder = codes "a folder"
cause_text files.Forbidden = codes "permission refused"
cause_text files.TooLong = codes "more than 67108864 bytes"
cause_text files.Failed = codes "can't be read"
cause_text files.Memory = codes "can't be read"

abbrev pub lost_line : Lost → List ℕ
lost_line lost = printed_words lost.name ++ (codes ": " ++ (cause_text lost.fault ++ line_end))

abbrev pub lost_text : Option Lost → List ℕ
lost_text None = []
lost_text (Some lost) = lost_line lost

-- which of them can't be read, and why
pub record SaysLost {F : Type 0} (reads : Reads F) (names : Names) (old : F) (outcome : Result (List ℕ) Failure) (new : F) : Type 0 where
  pub lost : Option Lost
  pub finds : FindsLost reads (files_read names) old lost new
  pub says : MatchResult outcome (λ text. text ≡ lost_text lost) (λ failure. failure ≡ Memory)
