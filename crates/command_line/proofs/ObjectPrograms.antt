-- The program of an object's file.
use Rattle.std.proofs.Common.{ℕ, List, refl}
use Rattle.program.specs.Sections.{Sections}
use Rattle.program.specs.declared.TheConstants.{TEXT_LIMIT}
use Rattle.program.specs.Loading.{zero_filled}
use Rattle.crash_test.specs.Programs.{IsObjectOf, IsProgramOf, file_kind}

-- an object's file is that of the program which it is loaded as
pub program_of_object : (file : List ℕ) (object : Sections) → IsObjectOf (file_kind file) file object
    → (program : Sections) × IsProgramOf file program
program_of_object file object is = (
  record { text = zero_filled object.text TEXT_LIMIT; static_data = object.static_data },
  record { object = object; is_object = is; loaded = record { text = refl; static_data = refl } },
)
