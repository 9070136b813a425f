-- The laws of the units of a line table: each is read by itself.
use Rattle.std.specs.Prelude.{◌≡◌, ◌≤◌, ◌++◌, ℕ, true, false, List, Contains, Some, is_some, length}
use Rattle.std.specs.List.{list_all, list_any}
use Rattle.elf_file.specs.Forms.{TextsByPlace}
use Rattle.elf_file.specs.Lines.{file_line, line_at, said_line}
use Rattle.elf_file.specs.LineTables.{table_of}
use Rattle.elf_file.specs.Numbers.{number_read, unsigned_at}
use Rattle.elf_file.specs.SourceRows.{KnownRow}
use Rattle.elf_file.specs.Units.{given_rows, is_read, rows_of_unit, units_of}

-- each unit has its length in the table
abbrev pub IsWhole : List ℕ → Type 0
IsWhole table = list_all is_some (units_of table) ≡ true

-- a table of more bytes isn't read
abbrev pub IsSmall : List ℕ → Type 0
IsSmall table = length table ≤ 4_194_304

-- none of the units is read
abbrev pub IsUnread : TextsByPlace → List ℕ → Type 0
IsUnread texts table = list_any (is_read texts) (units_of table) ≡ false

-- whole units with more behind them are these units and those of what is behind, and so with their rows
abbrev pub UnitsJoin : Type 0
UnitsJoin = (table more : List ℕ) → IsWhole table → IsSmall (table ++ more) → units_of (table ++ more) ≡ units_of table ++ units_of more

abbrev pub RowsJoin : Type 0
RowsJoin = (texts : TextsByPlace) (table more : List ℕ) → IsWhole table → IsSmall (table ++ more)
    → (table_of texts (table ++ more)).rows ≡ (table_of texts table).rows ++ (table_of texts more).rows

-- units that aren't read change the line of no pc: it is that of the table without them
abbrev pub UnreadChangeNone : Type 0
UnreadChangeNone = (texts : TextsByPlace) (front unread behind : List ℕ) → IsWhole front → IsWhole unread → IsUnread texts unread
    → IsSmall (front ++ (unread ++ behind))
    → (pc : ℕ) → line_at (table_of texts (front ++ (unread ++ behind))).rows pc ≡ line_at (table_of texts (front ++ behind)).rows pc

-- a unit of the table that is read has a row that says this line, at the pc or below it
pub record IsLineOfRow (texts : TextsByPlace) (table name : List ℕ) (line pc : ℕ) : Type 0 where
  pub unit : List ℕ
  pub rows : List KnownRow
  pub row : KnownRow
  pub of_table : Contains (units_of table) (Some unit)
  pub read : rows_of_unit texts unit ≡ given_rows rows
  pub of_unit : Contains rows row
  pub said : said_line row ≡ file_line name line
  pub below : row.address ≤ pc

-- so has the line of each pc that has one
abbrev pub LinesAreOfRows : Type 0
LinesAreOfRows = (texts : TextsByPlace) (table name : List ℕ) (line pc : ℕ) → line_at (table_of texts table).rows pc ≡ file_line name line
    → IsLineOfRow texts table name line pc

-- a number with other bytes behind it is the same number
abbrev pub NumbersStandAlone : Type 0
NumbersStandAlone = (bytes behind other : List ℕ) (number : ℕ) → unsigned_at (bytes ++ behind) ≡ number_read number behind
    → unsigned_at (bytes ++ other) ≡ number_read number other
