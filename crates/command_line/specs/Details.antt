-- What a refused file has at its fault: a token, a line, an item or its size, and what is wanted in place of it.
use Rattle.std.specs.Prelude.{◌≡◌, ◌⊎◌, ◌==◌, ℕ, ◌+◌, nat_lt, Bool, true, false, List, [], ◌++◌, Option, Some, None, All, codes, decimal, if◌then◌else◌, length, option_map, string_bytes}
use Rattle.std.specs.List.{list_any}
use Rattle.report.specs.SlipNearest.{IsFar, IsNear}
use Rattle.report.specs.Slips.{IsSlip}
use Rattle.report.specs.declared.slips.places.Part.{Part}
use Rattle.report.specs.declared.slips.slip.Slip.{Slip}
use Rattle.assemble.specs.declared.asm_line.fault.AsmCode.{AsmCode}
use Rattle.assemble.specs.declared.asm_line.fault.AsmCode.TheVariants.{Mnemonic}
use Rattle.command_line.specs.Items.{HasNoneBeyond, IsFirstBad, IsFirstBeyond, IsScheduleText, word_hint}
use Rattle.report.specs.PrintedWords.{printed_words}
use Rattle.command_line.specs.SourceLines.{front_of_line, numbered_line}
use Rattle.command_line.specs.declared.details.Detail.{Detail}
use Rattle.command_line.specs.declared.failure.Limit.{Limit}
use Rattle.command_line.specs.declared.failure.Limit.TheVariants.{Harts, Lines}
use Rattle.command_line.specs.declared.failure.Refusal.{Refusal}
use Rattle.command_line.specs.declared.failure.Refusal.TheVariants.{Assembly, Beyond, Marks, Medium, Plan, RecoverySource, ScheduleText, Trace}
use Rattle.routine_judge.specs.declared.history.fault.MarkFault.{MarkFault}
use Rattle.routine_judge.specs.declared.history.fault.MarkFault.TheVariants.{NoOperation}
use Rattle.text.specs.Words.{words_of_lines}

-- a token's column, what stands at the fault, and what is wanted
pub record HasParts (column : Option ℕ) (text hint : List ℕ) (detail : Detail) : Type 0 where
  pub column_is : detail.column ≡ column
  pub text_is : string_bytes detail.text ≡ text
  pub hint_is : detail.hint.now ≡ hint

-- a part of a line, or the front of the line where no part alone is at fault
abbrev pub part_text : List ℕ → Option Part → List ℕ
part_text line None = printed_words (front_of_line line)
part_text line (Some part) = printed_words part.text.now

abbrev pub line_text : Option (List ℕ) → List ℕ
line_text None = []
line_text (Some line) = printed_words (front_of_line line)

-- a line is refused for a name of which nothing is known
abbrev pub is_unnamed : AsmCode → List ℕ → Bool
is_unnamed Mnemonic hint = length hint == 0
is_unnamed code hint = false

-- ` (did you mean NAME?)`, of a mnemonic that is near a name, or nothing
abbrev pub near_text : List ℕ → List ℕ
near_text near = codes " (did you mean " ++ (printed_words near ++ codes "?)")

pub record TellsNear (name text : List ℕ) : Type 0 where
  pub near : List ℕ
  pub is_near : IsNear name near
  pub text_is : text ≡ near_text near

abbrev pub IsNearText : List ℕ → List ℕ → Type 0
IsNearText name text = TellsNear name text ⊎ (IsFar name × (text ≡ []))

abbrev pub IsMeant : Bool → Option Part → List ℕ → Type 0
IsMeant true (Some part) text = IsNearText part.text.now text
IsMeant true None text = text ≡ []
IsMeant false part text = text ≡ []

-- what is known of a line's slip, and of a name that is no mnemonic the nearest one
pub record IsSlipOf (code : AsmCode) (line : List ℕ) (slip : Slip) (detail : Detail) : Type 0 where
  pub meant : List ℕ
  pub is_meant : IsMeant (is_unnamed code slip.hint.now) slip.part meant
  pub parts : HasParts (option_map (λ (part : Part). part.column) slip.part) (part_text line slip.part ++ meant) slip.hint.now detail

pub record IsSlipDetail (code : AsmCode) (line : List ℕ) (detail : Detail) : Type 0 where
  pub slip : Slip
  pub is_slip : IsSlip line code slip
  pub known : IsSlipOf code line slip detail

abbrev pub IsSourceDetail : AsmCode → Option (List ℕ) → Detail → Type 0
IsSourceDetail code None detail = HasParts None [] [] detail
IsSourceDetail code (Some line) detail = IsSlipDetail code line detail

-- a plan has neither CR nor tabs
abbrev pub plan_hint : List ℕ → List ℕ
plan_hint file =
    if list_any (λ byte. byte == 13) file then codes "lines end with LF, without CR"
    else (if list_any (λ byte. byte == 9) file then codes "words are parted by spaces, not tabs" else [])

-- `item N, WORD`
abbrev pub item_text : ℕ → List ℕ → List ℕ
item_text number word = codes "item " ++ (decimal number ++ (codes ", " ++ printed_words (front_of_line word)))

-- the first item of a schedule's text that is none, or its steps are too many
pub record IsBadItemDetail (text : List ℕ) (detail : Detail) : Type 0 where
  pub number : ℕ
  pub word : List ℕ
  pub first : IsFirstBad text number word
  pub parts : HasParts None (item_text number word) (word_hint word) detail

pub record IsSumDetail (text : List ℕ) (detail : Detail) : Type 0 where
  pub items : All IsScheduleText (words_of_lines text)
  pub parts : HasParts None [] (codes "the steps of all harts together are below 4294967296") detail

abbrev pub IsItemDetail : List ℕ → Detail → Type 0
IsItemDetail text detail = IsBadItemDetail text detail ⊎ IsSumDetail text detail

-- ` (the medium has N cache lines)`, ` (--harts is N; hH takes --harts M)`, and where no run has such a hart ` (--harts is N, and at most 8)`
abbrev pub limit_text : Limit → ℕ → List ℕ
limit_text (Lines lines) named = codes " (the medium has " ++ (decimal lines ++ codes " cache lines)")
limit_text (Harts harts) named =
    if nat_lt named 8 then codes " (--harts is " ++ (decimal harts ++ (codes "; h" ++ (decimal named ++ (codes " takes --harts " ++ (decimal (named + 1) ++ codes ")")))))
    else codes " (--harts is " ++ (decimal harts ++ codes ", and at most 8)")

-- the first item of a schedule's text that goes past a limit, and what that is
abbrev pub far_text : Limit → ℕ → List ℕ → ℕ → List ℕ
far_text limit number word named = item_text number word ++ limit_text limit named

pub record TellsFar (limit : Limit) (text : List ℕ) (detail : Detail) : Type 0 where
  pub number : ℕ
  pub word : List ℕ
  pub named : ℕ
  pub first : IsFirstBeyond limit text number word named
  pub parts : HasParts None (far_text limit number word named) [] detail

abbrev pub IsFarDetail : Limit → List ℕ → Detail → Type 0
IsFarDetail limit text detail = TellsFar limit text detail ⊎ (HasNoneBeyond limit text × HasParts None [] [] detail)

-- `N bytes`
abbrev pub size_text : ℕ → List ℕ
size_text bytes = decimal bytes ++ codes " bytes"

-- a run in which no operation begins may be a recovery routine's
abbrev pub mark_hint : MarkFault → List ℕ
mark_hint NoOperation = codes "is this the recovery routine?"
mark_hint fault = []

-- what a refused file has at its fault
abbrev pub IsDetail : Refusal → List ℕ → Detail → Type 0
IsDetail (Assembly fault) file detail = IsSourceDetail fault.code (numbered_line file fault.line) detail
IsDetail (RecoverySource fault) file detail = IsSourceDetail fault.code (numbered_line file fault.line) detail
IsDetail (Plan fault) file detail = HasParts None (line_text (numbered_line file fault.line)) (plan_hint file) detail
IsDetail (Trace fault) file detail = HasParts None (line_text (numbered_line file fault.line)) [] detail
IsDetail ScheduleText file detail = IsItemDetail file detail
IsDetail (Beyond limit) file detail = IsFarDetail limit file detail
IsDetail Medium file detail = HasParts None (size_text (length file)) (codes "64 times 512 to 16384") detail
IsDetail (Marks fault) file detail = HasParts None [] (mark_hint fault) detail
IsDetail refusal file detail = HasParts None [] [] detail
