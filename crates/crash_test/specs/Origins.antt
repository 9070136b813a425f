-- Where a program's instruction comes from.
use Rattle.std.specs.Prelude.{◌≡◌, ℕ, List}
use Rattle.assemble.specs.Assembly.{lines_back, values_of}
use Rattle.assemble.specs.Labels.{place_at}
use Rattle.assemble.specs.LineNumbers.{line_number}
use Rattle.crash_test.specs.Programs.{file_kind}
use Rattle.crash_test.specs.declared.file_kind.FileKind.{FileKind}
use Rattle.crash_test.specs.declared.file_kind.FileKind.TheVariants.{Elf, Object, Source}
use Rattle.elf_file.specs.Functions.{functions_of}
use Rattle.elf_file.specs.LineTables.{line_table_of}
use Rattle.report.specs.Places.{KnownOrigin, by_line, executable, in_executable, nowhere}
use Rattle.report.specs.declared.place.Places.{Places}
use Rattle.report.specs.declared.place.Places.TheVariants.{Executable, Source as PlacesOfSource}

-- by the kind of the file: of an ELF file the line of the row that has the pc and the function that has it, and of a source the line, from 1, whose bytes
-- of text stand there
abbrev pub origin_by_kind : FileKind → List ℕ → ℕ → KnownOrigin
origin_by_kind Elf file pc = executable (in_executable (line_table_of file).rows (functions_of file) pc)
origin_by_kind Object file pc = nowhere
origin_by_kind Source file pc = by_line (line_number (lines_back file) pc)

-- what is known of a pc by the file of a program
abbrev pub origin_of : List ℕ → ℕ → KnownOrigin
origin_of file pc = origin_by_kind (file_kind file) file pc

-- places have names where they are those of an ELF file, of its line table and its functions, or those of a source: its labels
abbrev pub AreNamesOf : List ℕ → Places → Type 0
AreNamesOf file (PlacesOfSource numbers labels) = (file_kind file ≡ Source) × (place_at labels ≡ values_of file)
AreNamesOf file (Executable lines functions) = (file_kind file ≡ Elf) × (lines ≡ line_table_of file) × (functions ≡ functions_of file)
AreNamesOf file places = file_kind file ≡ Object
