-- Files of one object.
use Rattle.std.proofs.Common.{◌≡◌, ℕ, List, subst}
use Rattle.assemble.specs.Assembly.{Assembles}
use Rattle.elf_file.proofs.OneReading.{one_program as one_executable}
use Rattle.program.proofs.Files.{one_object as one_file}
use Rattle.program.specs.Loading.{Loads}
use Rattle.program.specs.Sections.{Sections}
use Rattle.crash_test.specs.Programs.{IsObjectOf, IsProgramOf, file_kind}
use Rattle.crash_test.specs.declared.file_kind.FileKind.{FileKind}
use Rattle.crash_test.specs.declared.file_kind.FileKind.TheVariants as kinds

-- no source has two objects
abbrev pub OneObject : Type 0
OneObject = (source : List ℕ) (object other : Sections) → Assembles source object → Assembles source other → object ≡ other

-- nor has a file
one_object : OneObject → (kind : FileKind) (file : List ℕ) (object other : Sections) → IsObjectOf kind file object → IsObjectOf kind file other
    → object ≡ other
one_object one kinds.Elf file object other a b = one_executable file object other a b
one_object one kinds.Object file object other a b = one_file file object other a b
one_object one kinds.Source file object other a b = one file object other a b

pub one_program : OneObject → (file other : List ℕ) (object program : Sections) → IsObjectOf (file_kind file) file object
    → IsObjectOf (file_kind other) other object → IsProgramOf file program → IsProgramOf other program
one_program one file other object program here there is = record {
  object = object;
  is_object = there;
  loaded = subst (λ (o : Sections). Loads program o) (one_object one (file_kind file) file is.object object is.is_object here) is.loaded;
}
