-- A line is said by a row of a unit that is read.
use Rattle.std.proofs.Common.{◌≡◌, ◌≤◌, ◌&&◌, not, ℕ, Bool, true, false, List, [], ◌∷◌, refl, arith, subst, inl, inr, Option, Some, None, option_and_then, unwrap_or, if◌then◌else◌}
use Rattle.std.proofs.lemmas.Bool.{leb-true}
use Rattle.std.proofs.lemmas.List.Elements.{Contains-append_cases, Contains-append_right}
use Rattle.std.specs.List.{Contains, flat_map}
use Rattle.std.specs.Prelude.{nat_le, nat_lt}
use Rattle.elf_file.specs.Forms.{TextsByPlace}
use Rattle.elf_file.specs.Lines.{file_line, holds, line_at, row_at, said_line}
use Rattle.elf_file.specs.LineTables.{table_of}
use Rattle.elf_file.specs.SourceRows.{KnownRow}
use Rattle.elf_file.specs.UnitLaws.{IsLineOfRow}
use Rattle.elf_file.specs.Units.{given_rows, read_unit, rows_given, rows_of_unit, units_of}

-- ---- the row that holds at a pc

record IsRowThere (rows : List KnownRow) (pc : ℕ) (row : KnownRow) : Type 0 where
  there : Contains rows row
  below : row.address ≤ pc

first_there : (row : KnownRow) (rows : List KnownRow) → Contains (row ∷ rows) row
first_there row rows = (0, omega arith, refl)

later_there : (first row : KnownRow) (rows : List KnownRow) → Contains rows row → Contains (first ∷ rows) row
later_there first row rows there = Contains-append_right (first ∷ []) rows row there

begun : (ends starts before : Bool) → (not ends && (starts && before)) ≡ true → starts ≡ true
begun true starts before e = absurd cc
begun false true before e = refl
begun false false before e = absurd cc

row_step : (b : Bool) (first next row : KnownRow) (rows : List KnownRow) (pc : ℕ) → holds first next pc ≡ b
    → (row_at (next ∷ rows) pc ≡ Some row → IsRowThere (next ∷ rows) pc row)
    → (if b then Some first else row_at (next ∷ rows) pc) ≡ Some row → IsRowThere (first ∷ next ∷ rows) pc row
row_step true first next row rows pc is later e =
    let same : first ≡ row = cc in
    let starts : nat_le first.address pc ≡ true = begun first.ends (nat_le first.address pc) (nat_lt pc next.address) is in
    subst (λ (r : KnownRow). IsRowThere (first ∷ next ∷ rows) pc r) same
    (record { there = first_there first (next ∷ rows); below = leb-true first.address pc starts })
row_step false first next row rows pc is later e =
    let found = later e in record { there = later_there first row (next ∷ rows) found.there; below = found.below }

row_there : (rows : List KnownRow) (pc : ℕ) (row : KnownRow) → row_at rows pc ≡ Some row → IsRowThere rows pc row
row_there [] pc row e = absurd cc
row_there (first ∷ []) pc row e = absurd cc
row_there (first ∷ next ∷ rows) pc row e = row_step (holds first next pc) first next row rows pc refl (row_there (next ∷ rows) pc row) e

-- ---- the unit that a row is of

record IsRowOfUnit (texts : TextsByPlace) (units : List (Option (List ℕ))) (row : KnownRow) : Type 0 where
  unit : List ℕ
  rows : List KnownRow
  of_units : Contains units (Some unit)
  read : rows_of_unit texts unit ≡ given_rows rows
  of_unit : Contains rows row

of_first : (texts : TextsByPlace) (unit : Option (List ℕ)) (units : List (Option (List ℕ))) (row : KnownRow) (rows : Option (List KnownRow))
    → read_unit texts unit ≡ rows → Contains (unwrap_or rows []) row → IsRowOfUnit texts (unit ∷ units) row
of_first texts None units row None is there = absurd (let less = there.1 in omega arith)
of_first texts None units row (Some rows) is there = absurd cc
of_first texts (Some unit) units row None is there = absurd (let less = there.1 in omega arith)
of_first texts (Some unit) units row (Some rows) is there =
    record { unit = unit; rows = rows; of_units = (0, omega arith, refl); read = is; of_unit = there }

row_of_unit : (texts : TextsByPlace) (units : List (Option (List ℕ))) (row : KnownRow) → Contains (flat_map (rows_given texts) units) row
    → IsRowOfUnit texts units row
row_of_unit texts [] row there = absurd (let less = there.1 in omega arith)
row_of_unit texts (unit ∷ units) row there =
    elim (Contains-append_cases (rows_given texts unit) (flat_map (rows_given texts) units) row there) [
      | inl own ↦ of_first texts unit units row (read_unit texts unit) refl own
      | inr others ↦
          let later = row_of_unit texts units row others in
          record {
            unit = later.unit;
            rows = later.rows;
            of_units = Contains-append_right (unit ∷ []) units (Some later.unit) later.of_units;
            read = later.read;
            of_unit = later.of_unit;
          }
    ]

line_of : (texts : TextsByPlace) (table name : List ℕ) (line pc : ℕ) (found : Option KnownRow) → row_at (table_of texts table).rows pc ≡ found
    → option_and_then said_line found ≡ file_line name line → IsLineOfRow texts table name line pc
line_of texts table name line pc None is e = absurd cc
line_of texts table name line pc (Some row) is e =
    let there = row_there (table_of texts table).rows pc row is in
    let of_unit = row_of_unit texts (units_of table) row there.there in
    record {
      unit = of_unit.unit;
      rows = of_unit.rows;
      row = row;
      of_table = of_unit.of_units;
      read = of_unit.read;
      of_unit = of_unit.of_unit;
      said = e;
      below = there.below;
    }

pub lines_of_rows : (texts : TextsByPlace) (table name : List ℕ) (line pc : ℕ) → line_at (table_of texts table).rows pc ≡ file_line name line
    → IsLineOfRow texts table name line pc
lines_of_rows texts table name line pc e = line_of texts table name line pc (row_at (table_of texts table).rows pc) refl e
