-- The codes that the program prints, the row of a code in their table, and how rows are printed.
use Rattle.std.specs.Prelude.{◌≡◌, ℕ, List, [], ◌∷◌, ◌++◌, Any, Contains, codes, flat_map, map}
use Rattle.std.specs.Char.{to_ascii_lowercase}
use Rattle.std.specs.Borrow.{Bor}
use Rattle.arguments.specs.declared.codes.table.Meaning.{Meaning}
use Rattle.arguments.specs.declared.codes.table.sources.TheConstants.{SOURCES}
use Rattle.arguments.specs.declared.codes.table.executables.TheConstants.{EXECUTABLES}
use Rattle.arguments.specs.declared.codes.table.traces.TheConstants.{TRACES}
use Rattle.arguments.specs.declared.codes.table.runs.TheConstants.{RUNS}
use Rattle.arguments.specs.declared.codes.table.volumes.TheConstants.{VOLUMES}
use Rattle.arguments.specs.declared.codes.table.operations.TheConstants.{OPERATIONS}
use Rattle.arguments.specs.declared.codes.table.traps.TheConstants.{TRAPS}
use Rattle.arguments.specs.declared.codes.table.words.TheConstants.{WORDS}

-- all codes, in the order in which they are listed: of sources, objects, ELF files, trace files, runs, media, moments, volumes, plans, operations,
-- sessions and traps, and the words that stand in place of a code
abbrev pub all_codes : List (List ℕ)
all_codes =
    codes "A1" ∷ codes "A2" ∷ codes "A3" ∷ codes "A4" ∷ codes "A5" ∷ codes "A6" ∷ codes "A7" ∷ codes "A8" ∷ codes "A9" ∷ codes "A10" ∷
    codes "P1" ∷ codes "P2" ∷ codes "P3" ∷ codes "P4" ∷ codes "P5" ∷ codes "P6" ∷
    codes "E1" ∷ codes "E2" ∷ codes "E3" ∷ codes "E4" ∷ codes "E5" ∷ codes "E6" ∷ codes "E7" ∷ codes "E8" ∷ codes "E9" ∷
    codes "V1" ∷ codes "V2" ∷ codes "V3" ∷ codes "V4" ∷ codes "V5" ∷ codes "V6" ∷ codes "V7" ∷ codes "G1" ∷ codes "G2" ∷ codes "G3" ∷ codes "G4" ∷
    codes "G5" ∷ codes "G6" ∷ codes "B3" ∷ codes "M3" ∷ codes "C1" ∷ codes "C2" ∷ codes "N1" ∷ codes "N2" ∷ codes "N3" ∷ codes "N4" ∷ codes "N5" ∷
    codes "N6" ∷ codes "N7" ∷ codes "N8" ∷ codes "N9" ∷ codes "N10" ∷ codes "N11" ∷ codes "L1" ∷ codes "L2" ∷ codes "L3" ∷ codes "L4" ∷
    codes "L5" ∷ codes "O1" ∷ codes "O2" ∷ codes "O3" ∷ codes "O4" ∷ codes "O5" ∷ codes "O6" ∷ codes "D1" ∷ codes "D2" ∷ codes "D3" ∷ codes "D4" ∷ codes "D5" ∷
    codes "T1" ∷ codes "T2" ∷ codes "T3" ∷ codes "T4" ∷ codes "T5" ∷ codes "T6" ∷ codes "T7" ∷
    codes "pass" ∷ codes "fail" ∷ codes "open" ∷ codes "too-many" ∷ codes "too-long" ∷ codes "not-whole" ∷ codes "illegal" ∷ codes "different" ∷ codes "changed" ∷ codes "unmatched" ∷ codes "running" ∷ codes "answer" ∷ codes "events" ∷ codes "memory" ∷ codes "file" ∷ []

-- the texts of a row: a code, what it means, and what to do
abbrev pub Texts : Type 0
Texts = List ℕ × List ℕ × List ℕ

-- a text of a static
abbrev pub StaticText : Type 0
StaticText = record { now : List ℕ }

abbrev pub texts_of_static : List (StaticText × StaticText × StaticText) → List Texts
texts_of_static rows = map (λ row. (row.0.now, row.1.now, row.2.now)) rows

-- the rows of each family
unfoldable pub sources : List Texts
sources = texts_of_static SOURCES

unfoldable pub executables : List Texts
executables = texts_of_static EXECUTABLES

unfoldable pub traces : List Texts
traces = texts_of_static TRACES

unfoldable pub runs : List Texts
runs = texts_of_static RUNS

unfoldable pub volumes : List Texts
volumes = texts_of_static VOLUMES

unfoldable pub operations : List Texts
operations = texts_of_static OPERATIONS

unfoldable pub traps : List Texts
traps = texts_of_static TRAPS

unfoldable pub words : List Texts
words = texts_of_static WORDS

-- the rows of the table: those of one family after the other
abbrev pub table : List Texts
table = flat_map (λ rows. rows) (sources ∷ executables ∷ traces ∷ runs ∷ volumes ∷ operations ∷ traps ∷ words ∷ [])

abbrev pub codes_of_table : List (List ℕ)
codes_of_table = map (λ (row : Texts). row.0) table

abbrev pub texts_of : Meaning → Texts
texts_of m = (m.code.now, m.meaning.now, m.remedy.now)

-- two words are one but for the case of their letters
abbrev pub IsSameWord : List ℕ → List ℕ → Type 0
IsSameWord one other = map to_ascii_lowercase one ≡ map to_ascii_lowercase other

-- the table says that this code, in either case, means this
pub record IsMeaningOf (code : List ℕ) (m : Meaning) : Type 0 where
  pub named : IsSameWord m.code.now code
  pub among : Contains table (texts_of m)

-- a code with what it means, as a line
abbrev pub meaning_line : List ℕ → List ℕ → List ℕ
meaning_line code meaning = code ++ (codes ": " ++ (meaning ++ codes "\n"))

-- a meaning as it's printed alone: that line, and what to do
abbrev pub meaning_text : Meaning → List ℕ
meaning_text m = meaning_line m.code.now m.meaning.now ++ (m.remedy.now ++ codes "\n")

-- the line of each row, in order
abbrev pub lines : List Texts → List ℕ
lines rows = flat_map (λ row. meaning_line row.0 row.1) rows

-- the list of all codes
abbrev pub list_text : List ℕ
list_text = lines table

-- a row as the program reads it
abbrev pub Row : Type 0
Row = Bor (List ℕ) × Bor (List ℕ) × Bor (List ℕ)

abbrev pub texts_of_row : Row → Texts
texts_of_row row = (row.0.now, row.1.now, row.2.now)

abbrev pub texts_of_rows : List Row → List Texts
texts_of_rows rows = map texts_of_row rows

-- the texts of the rows of families, one family after the other
abbrev pub texts_of_families : List (Bor (List Row)) → List Texts
texts_of_families families = flat_map (λ rows. texts_of_rows rows.now) families

-- a row has the texts of the meaning
abbrev pub HasRow : List Row → Meaning → Type 0
HasRow rows m = Any (λ row. (row.0.now ≡ m.code.now) × (row.1.now ≡ m.meaning.now) × (row.2.now ≡ m.remedy.now)) rows
