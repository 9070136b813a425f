-- What is told of a failure: its first line on standard error, its object on standard output where the answer were JSON, and with `--explain`
-- a line that says more.
use Rattle.std.specs.Prelude.{◌≡◌, ◌⊎◌, ℕ, Bool, true, false, List, [], ◌∷◌, Option, Result, Ok, Err, String, codes, drop, map, string_bytes, if◌then◌else◌}
use Rattle.std.specs.Str.{bytes_eq}
use Rattle.std.specs.declared.alloc.Global.{Global}
use Rattle.arguments.specs.Line.{IsCommand, Refuses}
use Rattle.arguments.specs.declared.asked.Command.{Command}
use Rattle.arguments.specs.declared.asked.LineFault.{LineFault}
use Rattle.debugger.specs.StreamFailures.{AppendsFront}
use Rattle.command_line.specs.Failures.{failure_text}
use Rattle.command_line.specs.FileNames.{is_json, names_of}
use Rattle.command_line.specs.Further.{SaysMore}
use Rattle.command_line.specs.Meanings.{ReadsThen, refused_file}
use Rattle.command_line.specs.Objects.{SaysObject}
use Rattle.command_line.specs.Steps.{Reads, Step}
use Rattle.command_line.specs.declared.failure.Failure.{Failure}
use Rattle.command_line.specs.declared.failure.Failure.TheVariants.{Refused}
use Rattle.command_line.specs.declared.failure.Refusal.{Refusal}

abbrev pub Words : Type 0
Words = List (String Global)

-- a line begins, behind the program's name, with `--explain`
abbrev pub is_explained : Words → Bool
is_explained (name ∷ first ∷ rest) = bytes_eq (string_bytes first) (codes "--explain")
is_explained words = false

-- the line without it, which stands in place of the program's name
abbrev pub plain_words : Words → Words
plain_words words = if is_explained words then drop 1 words else words

-- the texts of the line without it
abbrev pub plain_texts : Words → List (List ℕ)
plain_texts words = map string_bytes (plain_words words)

-- what a line's command comes to, or that the line asks for none, or memory to read it is refused
abbrev pub OfCommand : List (List ℕ) → (Command → Type 0) → Type 0 → Type 0
OfCommand words of none = ((command : Command) × IsCommand words command × of command) ⊎ ((fault : LineFault) × Refuses words fault × none)

-- more is said of a failure of a line
abbrev pub SaysMoreOfLine : {F : Type 0} → Reads F → List (List ℕ) → Failure → Step F (List ℕ)
SaysMoreOfLine reads words failure old outcome new =
    OfCommand words (λ command. SaysMore reads command failure old outcome new) ((outcome ≡ Ok []) × (new ≡ old))

-- what is found is printed, or a front of it, and nothing where memory for it, or the file, is refused
abbrev pub IsToldIfFound : {E : Type 0} → (E → Option (List ℕ)) → Result (List ℕ) Failure → E → E → Type 0
IsToldIfFound said (Ok text) errors errors' = AppendsFront (said errors) (said errors') text
IsToldIfFound said (Err failure) errors errors' = errors' ≡ errors

pub record Explains {F E : Type 0} (reads : Reads F) (said : E → Option (List ℕ)) (words : List (List ℕ)) (failure : Failure) (files files' : F)
    (errors errors' : E) : Type 0 where
  pub found : Result (List ℕ) Failure
  pub says : SaysMoreOfLine reads words failure files found files'
  pub told : IsToldIfFound said found errors errors'

abbrev pub ExplainsIf : {F E : Type 0} → Bool → Reads F → (E → Option (List ℕ)) → List (List ℕ) → Failure → F → F → E → E → Type 0
ExplainsIf true reads said words failure files files' errors errors' = Explains reads said words failure files files' errors errors'
ExplainsIf false reads said words failure files files' errors errors' = (files' ≡ files) × (errors' ≡ errors)

-- the object of a refusal, where the command's answer is JSON
pub record PrintsObject {F W : Type 0} (reads : Reads F) (contents : W → Option (List ℕ)) (name : Option (List ℕ)) (refusal : Refusal)
    (files files' : F) (old new : W) : Type 0 where
  pub found : Result (List ℕ) Failure
  pub says : ReadsThen reads name (SaysObject name refusal) files found files'
  pub told : IsToldIfFound contents found old new

abbrev pub PrintsIf : {F W : Type 0} → Bool → Reads F → (W → Option (List ℕ)) → Option (List ℕ) → Refusal → F → F → W → W → Type 0
PrintsIf true reads contents name refusal files files' old new = PrintsObject reads contents name refusal files files' old new
PrintsIf false reads contents name refusal files files' old new = (files' ≡ files) × (new ≡ old)

abbrev pub PrintsOfCommand : {F W : Type 0} → Reads F → (W → Option (List ℕ)) → Refusal → F → F → W → W → Command → Type 0
PrintsOfCommand reads contents refusal files files' old new command =
    PrintsIf (is_json command) reads contents (refused_file (names_of command) refusal) refusal files files' old new

abbrev pub PrintsRefusal : {F W : Type 0} → Reads F → (W → Option (List ℕ)) → List (List ℕ) → Failure → F → F → W → W → Type 0
PrintsRefusal reads contents words (Refused refusal) files files' old new =
    OfCommand words (PrintsOfCommand reads contents refusal files files' old new) ((files' ≡ files) × (new ≡ old))
PrintsRefusal reads contents words failure files files' old new = (files' ≡ files) × (new ≡ old)

-- all of it, on the files, standard output and standard error
pub record TellsFailure {F W E : Type 0} (reads : Reads F) (contents : W → Option (List ℕ)) (said : E → Option (List ℕ)) (words : Words)
    (failure : Failure) (old new : F × W × E) : Type 0 where
  pub files : F
  pub errors : E
  pub told : AppendsFront (said old.2) (said errors) (failure_text failure)
  pub object : PrintsRefusal reads contents (plain_texts words) failure old.0 files old.1 new.1
  pub explained : ExplainsIf (is_explained words) reads said (plain_texts words) failure files new.0 errors new.2
