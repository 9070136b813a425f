-- Which program a file is: an ELF executable's, an object's, or a source's.
use Rattle.std.specs.List.{starts_with}
use Rattle.std.specs.Prelude.{◌≡◌, ℕ, Bool, nat_eq, List, if◌then◌else◌}
use Rattle.assemble.specs.Assembly.{Assembles, IsFirstFault}
use Rattle.elf_file.specs.Executable.{IsExecutableOf}
use Rattle.elf_file.specs.Faults.{IsFirstFault as IsFirstElfFault}
use Rattle.elf_file.specs.Header.{begins_as_elf}
use Rattle.program.specs.ObjectFile.{IsObjectFile, magic, IsFirstFault as IsFirstFileFault}
use Rattle.program.specs.Sections.{Sections}
use Rattle.program.specs.Loading.{Loads}
use Rattle.crash_test.specs.declared.file_kind.FileKind.{FileKind}
use Rattle.crash_test.specs.declared.file_kind.FileKind.TheVariants as kinds
use Rattle.crash_test.specs.declared.loading.ProgramFault.{ProgramFault}
use Rattle.crash_test.specs.declared.loading.ProgramFault.TheVariants.{Assembly, Object, Elf, Memory}

abbrev pub begins_as_object : List ℕ → Bool
begins_as_object file = starts_with nat_eq file magic

-- a program's file is an ELF file where it begins as one, an object's where it begins with the magic of one, and else a source
abbrev pub file_kind : List ℕ → FileKind
file_kind file = if begins_as_elf file then kinds.Elf else (if begins_as_object file then kinds.Object else kinds.Source)

-- the text and data that a file of this kind gives
abbrev pub IsObjectOf : FileKind → List ℕ → Sections → Type 0
IsObjectOf kinds.Elf file object = IsExecutableOf file object
IsObjectOf kinds.Object file object = IsObjectFile file object
IsObjectOf kinds.Source file object = Assembles file object

-- the program that a file's object is loaded as
pub record IsProgramOf (file : List ℕ) (program : Sections) : Type 0 where
  pub object : Sections
  pub is_object : IsObjectOf (file_kind file) file object
  pub loaded : Loads program object

-- files of one object give one program
abbrev pub OneProgram : Type 0
OneProgram = (file other : List ℕ) (object program : Sections) → IsObjectOf (file_kind file) file object → IsObjectOf (file_kind other) other object
    → IsProgramOf file program → IsProgramOf other program

-- what a fault of loading says of the file
abbrev pub IsLoadFault : List ℕ → ProgramFault → Type 0
IsLoadFault file (Assembly fault) = (file_kind file ≡ kinds.Source) × IsFirstFault file fault
IsLoadFault file (Object fault) = (file_kind file ≡ kinds.Object) × IsFirstFileFault file fault
IsLoadFault file (Elf fault) = (file_kind file ≡ kinds.Elf) × IsFirstElfFault file fault
IsLoadFault file Memory = Unit {0}
