-- The list of commands, as `help` prints it.
use Rattle.std.specs.Prelude.{ℕ, ◌++◌, List, codes, flat_map, map}
use Rattle.std.specs.Borrow.{Bor}
use Rattle.debugger.specs.declared.sessions.help.TheConstants.{COMMANDS}

-- the texts of a row: a command, and what it does
abbrev pub Texts : Type 0
Texts = List ℕ × List ℕ

-- a text of a static
abbrev pub StaticText : Type 0
StaticText = record { now : List ℕ }

abbrev pub texts_of_static : List (StaticText × StaticText) → List Texts
texts_of_static rows = map (λ row. (row.0.now, row.1.now)) rows

-- a row as the program reads it
abbrev pub Row : Type 0
Row = Bor (List ℕ) × Bor (List ℕ)

abbrev pub texts_of_row : Row → Texts
texts_of_row row = (row.0.now, row.1.now)

abbrev pub texts_of_rows : List Row → List Texts
texts_of_rows rows = map texts_of_row rows

-- the rows of the table
unfoldable pub commands : List Texts
commands = texts_of_static COMMANDS

-- `COMMAND: what it does`
abbrev pub help_line : Texts → List ℕ
help_line row = row.0 ++ (codes ": " ++ (row.1 ++ codes "\n"))

-- the line of each row, in order
abbrev pub help_lines : List Texts → List ℕ
help_lines rows = flat_map help_line rows

abbrev pub help_text : List ℕ
help_text = help_lines commands
