-- Where in a program an instruction stands: its hart, its pc, and what is known of where it comes from; or what a trace file says of that.
use Rattle.std.specs.Prelude.{ℕ, ◌-◌, List, [], ◌∷◌, ◌++◌, Option, Some, None, codes, decimal, option_map, slice_get}
use Rattle.std.specs.Global.{Vec}
use Rattle.assemble.specs.LineNumbers.{number_at}
use Rattle.elf_file.specs.FunctionSymbols.{FunctionSymbol}
use Rattle.elf_file.specs.Functions.{function_at}
use Rattle.elf_file.specs.Lines.{line_at}
use Rattle.elf_file.specs.SourceRows.{KnownRow}
use Rattle.hart.specs.HartLines.{hexadecimal}
use Rattle.report.specs.PrintedNames.{printed_name}
use Rattle.report.specs.PrintedWords.{printed_words}
use Rattle.report.specs.declared.origin.ExecutablePlace.{ExecutablePlace}
use Rattle.report.specs.declared.origin.FileLine.{FileLine}
use Rattle.report.specs.declared.origin.FunctionPlace.{FunctionPlace}
use Rattle.report.specs.declared.origin.Origin.{Origin}
use Rattle.report.specs.declared.origin.Origin.TheVariants as origins
use Rattle.report.specs.declared.place.CodePlace.{CodePlace}
use Rattle.report.specs.declared.place.Place.{Place}
use Rattle.report.specs.declared.place.Places.{Places}
use Rattle.report.specs.declared.place.Places.TheVariants.{Executable, Source, Traced, Unknown}

-- a function's name, and how many bytes behind its first one an instruction is
abbrev pub InFunction : Type 0
InFunction = List ℕ × ℕ

-- the name of a source file, and a line of it
abbrev pub InFile : Type 0
InFile = List ℕ × ℕ

-- of an instruction of an executable the line that it comes from and the function that it is in, where there are such
pub record InExecutable : Type 0 where
  pub line : Option InFile
  pub function : Option InFunction

-- what is known of where an instruction comes from: nothing; a line of its source; of an executable the line of a source file and the function, if any; of
-- an event of a trace file its place words, each behind a blank
pub data KnownOrigin : Type 0 where
  nowhere : KnownOrigin
  source_line : ℕ → KnownOrigin
  executable : InExecutable → KnownOrigin
  told_words : List ℕ → KnownOrigin

-- a pc, with what is known of it; the hart there
pub record KnownCode : Type 0 where
  pub pc : ℕ
  pub origin : KnownOrigin

pub record KnownPlace : Type 0 where
  pub hart : ℕ
  pub at : KnownCode

-- the line of a source
abbrev pub by_line : Option ℕ → KnownOrigin
by_line None = nowhere
by_line (Some line) = source_line line

-- the place in a function
abbrev pub in_function : ℕ → FunctionSymbol → InFunction
in_function pc function = (function.name, pc - function.address)

-- what the rows of a line table and functions say of an instruction
abbrev pub in_executable : List KnownRow → List FunctionSymbol → ℕ → InExecutable
in_executable rows functions pc = record { line = line_at rows pc; function = option_map (in_function pc) (function_at functions pc) }

-- the place words of a number
abbrev pub by_words : Option (Vec ℕ) → KnownOrigin
by_words None = nowhere
by_words (Some words) = told_words words.items

-- what is known at a pc, by the line numbers of a program's source, or the line table and the functions of an executable; of a trace file places have
-- numbers in place of a pc
abbrev pub origin_in : Places → ℕ → KnownOrigin
origin_in Unknown pc = nowhere
origin_in (Source numbers labels) pc = by_line (number_at numbers pc)
origin_in (Executable lines functions) pc = executable (in_executable lines.rows functions pc)
origin_in (Traced places) number = by_words (slice_get places.items number)

-- a pc, with what is known there
abbrev pub code_place : (ℕ → KnownOrigin) → ℕ → KnownCode
code_place origins pc = record { pc = pc; origin = origins pc }

-- the same of the program's own values, which refer to names
abbrev pub known_function : FunctionPlace → InFunction
known_function place = (place.name.now, place.offset)

abbrev pub known_line : FileLine → InFile
known_line line = (line.name.now, line.line)

abbrev pub known_executable : ExecutablePlace → InExecutable
known_executable place = record { line = option_map known_line place.line; function = option_map known_function place.function }

abbrev pub known_origin : Origin → KnownOrigin
known_origin origins.Unknown = nowhere
known_origin (origins.Line line) = source_line line
known_origin (origins.Executable place) = executable (known_executable place)
known_origin (origins.Words words) = told_words words.now

abbrev pub known_code : CodePlace → KnownCode
known_code at = record { pc = at.pc; origin = known_origin at.origin }

abbrev pub known_place : Place → KnownPlace
known_place place = record { hart = place.hart; at = known_code place.at }

-- `in=NAME+0xOFF`
abbrev pub function_text : InFunction → List ℕ
function_text place = codes "in=" ++ (printed_name place.0 ++ (codes "+0x" ++ hexadecimal place.1))

-- `at=FILE:LINE`
abbrev pub line_text : InFile → List ℕ
line_text line = codes "at=" ++ (printed_name line.0 ++ (codes ":" ++ decimal line.1))

-- each behind a blank; nothing where there is none
abbrev pub function_behind : Option InFunction → List ℕ
function_behind None = []
function_behind (Some place) = codes " " ++ function_text place

abbrev pub line_behind : Option InFile → List ℕ
line_behind None = []
line_behind (Some line) = codes " " ++ line_text line

-- ` line=N` of a source, ` at=FILE:LINE in=NAME+0xOFF` of an executable; nothing where nothing is known
abbrev pub origin_text : KnownOrigin → List ℕ
origin_text nowhere = []
origin_text (source_line line) = codes " line=" ++ decimal line
origin_text (executable place) = line_behind place.line ++ function_behind place.function
origin_text (told_words words) = printed_words words

-- ` pc=0xP`, and what is known there; place words stand alone
abbrev pub pc_text : ℕ → KnownOrigin → List ℕ
pc_text pc (told_words words) = printed_words words
pc_text pc origin = codes " pc=0x" ++ (hexadecimal pc ++ origin_text origin)

abbrev pub code_text : KnownCode → List ℕ
code_text at = pc_text at.pc at.origin

-- `hH pc=0xP`, and what is known there; or `hH` and place words
abbrev pub place_text : KnownPlace → List ℕ
place_text place = codes "h" ++ (decimal place.hart ++ code_text place.at)

-- the end of a line, LF
abbrev pub line_end : List ℕ
line_end = 10 ∷ []
