-- What a source is assembled to, and which fault it is refused with.
use Rattle.std.specs.Prelude.{◌≡◌, ℕ, ◌+◌, ◌≤◌, ◌⊎◌, false, List, [], ◌∷◌, ◌++◌, length, reverse}
use Rattle.asm_lex.specs.Lines.{lines_of}
use Rattle.asm_lex.specs.declared.asm_names.kinds.Section.{Section}
use Rattle.asm_lex.specs.declared.asm_names.kinds.Section.TheVariants.{Text, Data}
use Rattle.program.specs.Sections.{Sections}
use Rattle.program.specs.declared.TheConstants.{TEXT_LIMIT, DATA_LIMIT}
use Rattle.assemble.specs.declared.TheConstants.{SOURCE_LIMIT}
use Rattle.assemble.specs.declared.fault.AsmFault.{AsmFault}
use Rattle.assemble.specs.Places.{base_of, label_of, section_after, place_after, value_in}
use Rattle.assemble.specs.SourceLines.{Values, IsSourceLine}
use Rattle.assemble.specs.Faults.{IsFirst, NoneHas, early_code, late_code, is_defined}

-- the lines of a source, the last one first
abbrev pub lines_back : List ℕ → List (List ℕ)
lines_back source = reverse (lines_of source)

-- the values of a source's labels
abbrev pub values_of : List ℕ → Values
values_of source = value_in (lines_back source)

-- the bytes of a section, and the sections with bytes added at the end of one
abbrev pub bytes_in : Section → Sections → List ℕ
bytes_in Text sections = sections.text
bytes_in Data sections = sections.static_data

abbrev pub added : Section → List ℕ → Sections → Sections
added Text bytes sections = record { text = sections.text ++ bytes; static_data = sections.static_data }
added Data bytes sections = record { text = sections.text; static_data = sections.static_data ++ bytes }

-- the sections after one line more: the line stands in its section where the section's bytes end, which is its place, and
-- its bytes come there
pub record Adds (values : Values) (earlier : List (List ℕ)) (line : List ℕ) (before after : Sections) : Type 0 where
  pub bytes : List ℕ
  pub place : place_after earlier ≡ base_of (section_after earlier) + length (bytes_in (section_after earlier) before)
  pub is_line : IsSourceLine (section_after earlier) (place_after earlier) values line bytes
  pub once : is_defined (value_in earlier) (label_of line) ≡ false
  pub after_is : after ≡ added (section_after earlier) bytes before

-- the sections are the bytes of these lines, each of which is a source line at its place
abbrev pub AreBytesOf : Values → List (List ℕ) → Sections → Type 0
AreBytesOf values [] sections = sections ≡ record { text = []; static_data = [] }
AreBytesOf values (line ∷ earlier) sections = (before : Sections) × AreBytesOf values earlier before × Adds values earlier line before sections

-- each line of the source is a source line at its place, nothing passes its limit, and the object is the lines' bytes
pub record Assembles (source : List ℕ) (object : Sections) : Type 0 where
  pub source_fits : length source ≤ SOURCE_LIMIT
  pub text_fits : length object.text ≤ TEXT_LIMIT
  pub data_fits : length object.static_data ≤ DATA_LIMIT
  pub lines : AreBytesOf (values_of source) (lines_back source) object

-- the first fault: of those that need no label's place, or, where no line has one, of the others
abbrev pub IsFirstFault : List ℕ → AsmFault → Type 0
IsFirstFault source fault =
    IsFirst (early_code (length source)) (lines_of source) fault
    ⊎ (NoneHas (early_code (length source)) (lines_back source) × IsFirst (late_code (values_of source)) (lines_of source) fault)
