-- The faults of lines, and the first of them.
use Rattle.std.specs.Prelude.{◌≡◌, ℕ, ◌+◌, nat_lt, Bool, false, List, [], ◌∷◌, ◌++◌, length, reverse, Option, Some, None, Result, Ok, Err, is_some, if◌then◌else◌}
use Rattle.std.specs.Option.{option_or}
use Rattle.std.specs.Result.{result_err}
use Rattle.assemble.specs.declared.asm_line.fault.AsmCode.{AsmCode}
use Rattle.assemble.specs.declared.asm_line.fault.AsmCode.TheVariants.{LabelTwice, WrongSection, TooLarge}
use Rattle.assemble.specs.Lines.{line_of}
use Rattle.assemble.specs.Meanings.{Meaning, LineMeaning, nothing, instruction, pair, branch, jump, address, section, numbers, zeros, align}
use Rattle.assemble.specs.declared.TheConstants.{SOURCE_LIMIT}
use Rattle.assemble.specs.declared.fault.AsmFault.{AsmFault}
use Rattle.assemble.specs.Places.{limit_of, size_at, meaning_in, section_after, size_of, place_after, value_in}
use Rattle.assemble.specs.SourceLines.{Values, distance, branch_distance, jump_distance, stands_in}

-- the label has a value already
abbrev pub is_defined : Values → Option (List ℕ) → Bool
is_defined values None = false
is_defined values (Some label) = is_some (values label)

-- with this statement its section passes its limit
abbrev pub passes_limit : List (List ℕ) → Meaning → Bool
passes_limit earlier meaning =
    nat_lt (limit_of (section_after earlier)) (size_of (section_after earlier) earlier + size_at (place_after earlier) meaning)

-- the lowest code of a statement that may not stand where it does
abbrev pub code_of_meaning : List (List ℕ) → Meaning → Option AsmCode
code_of_meaning earlier meaning =
    if stands_in (section_after earlier) meaning then (if passes_limit earlier meaning then Some TooLarge else None)
    else Some WrongSection

-- the lowest code of a line that needs no label's place
abbrev pub code_of_said : List (List ℕ) → Result LineMeaning AsmCode → Option AsmCode
code_of_said earlier (Err code) = Some code
code_of_said earlier (Ok line) = if is_defined (value_in earlier) line.label then Some LabelTwice else code_of_meaning earlier line.meaning

-- a source past its limit is too large at its first line
abbrev pub code_of_length : ℕ → List (List ℕ) → Option AsmCode
code_of_length size [] = if nat_lt SOURCE_LIMIT size then Some TooLarge else None
code_of_length size (line ∷ earlier) = None

-- the lowest code of a line that needs no label's place, after these lines of a source of this size
unfoldable pub early_code : ℕ → List (List ℕ) → List ℕ → Option AsmCode
early_code size earlier line = option_or (code_of_said earlier (line_of line)) (code_of_length size earlier)

-- the code of a statement at a place whose label is unknown or out of reach
abbrev pub code_of_label : Values → ℕ → Meaning → Option AsmCode
code_of_label values place nothing = None
code_of_label values place (instruction instr) = None
code_of_label values place (pair first second) = None
code_of_label values place (branch op rs1 rs2 label) = result_err (branch_distance values place label)
code_of_label values place (jump rd label) = result_err (jump_distance values place label)
code_of_label values place (address rd label) = result_err (distance values place label)
code_of_label values place (section s) = None
code_of_label values place (numbers width ns) = None
code_of_label values place (zeros count) = None
code_of_label values place (align boundary) = None

unfoldable pub late_code : Values → List (List ℕ) → List ℕ → Option AsmCode
late_code values earlier line = code_of_label values (place_after earlier) (meaning_in line)

-- what gives the code of a line after these lines
abbrev pub Codes : Type 0
Codes = List (List ℕ) → List ℕ → Option AsmCode

-- none of the lines has a code
abbrev pub NoneHas : Codes → List (List ℕ) → Type 0
NoneHas code_of [] = Unit {0}
NoneHas code_of (line ∷ earlier) = (code_of earlier line ≡ None) × NoneHas code_of earlier

-- the fault is that of the first line that has a code
pub record IsFirst (code_of : Codes) (lines : List (List ℕ)) (fault : AsmFault) : Type 0 where
  pub earlier : List (List ℕ)
  pub line : List ℕ
  pub later : List (List ℕ)
  pub split : lines ≡ reverse earlier ++ line ∷ later
  pub number : fault.line ≡ length earlier + 1
  pub code : code_of earlier line ≡ Some fault.code
  pub before : NoneHas code_of earlier
