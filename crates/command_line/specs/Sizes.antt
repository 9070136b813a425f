-- What `program` comes to.
use Rattle.std.specs.Prelude.{ℕ, Bool, true, false, List, ◌++◌, Result, codes, decimal, length, string_bytes}
use Rattle.arguments.specs.declared.asked.ProgramCommand.{ProgramCommand}
use Rattle.elf_file.specs.Functions.{functions_of}
use Rattle.elf_file.specs.Header.{begins_as_elf}
use Rattle.elf_file.specs.LineTables.{line_table_of}
use Rattle.program.specs.Sections.{Sections}
use Rattle.report.specs.Places.{line_end}
use Rattle.command_line.specs.Listing.{SaysObject}
use Rattle.command_line.specs.Steps.{First, Prints, Reads, ReadsFile, Step, Still}
use Rattle.command_line.specs.declared.answer.Answer.{Answer}
use Rattle.command_line.specs.declared.failure.Failure.{Failure}

-- `text N data N`, in bytes, and what is behind it
abbrev pub sized_text : ℕ → ℕ → List ℕ → List ℕ
sized_text text static_data behind = codes "text " ++ (decimal text ++ (codes " data " ++ (decimal static_data ++ behind)))

-- of an executable ` functions N units N of N` behind it: how many functions it has, and of how many of all units of its line table the lines are read
abbrev pub executable_text : List ℕ → ℕ → ℕ → List ℕ
executable_text file text static_data = sized_text text static_data (codes " functions " ++ (decimal (length (functions_of file))
    ++ (codes " units " ++ (decimal (line_table_of file).units_read ++ (codes " of " ++ (decimal (line_table_of file).units ++ line_end))))))

-- by whether it is an ELF file
abbrev pub sizes_of : Bool → List ℕ → ℕ → ℕ → List ℕ
sizes_of true file text static_data = executable_text file text static_data
sizes_of false file text static_data = sized_text text static_data line_end

-- the line of a program's file
abbrev pub sizes_text : List ℕ → Sections → List ℕ
sizes_text file object = sizes_of (begins_as_elf file) file (length object.text) (length object.static_data)

abbrev pub PrintsSizes : List ℕ → Sections → Result Answer Failure → Type 0
PrintsSizes file object outcome = Prints (sizes_text file object) 0 outcome

abbrev pub SizesFile : {F : Type 0} → Reads F → ProgramCommand → Step F Answer
SizesFile reads command =
    First (ReadsFile reads (string_bytes command.program)) (λ file.
    First (Still (SaysObject file)) (λ object.
    Still (PrintsSizes file object)))
