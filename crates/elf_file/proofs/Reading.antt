-- The units of a table, one by one.
use Rattle.std.proofs.Common.{◌≡◌, ◌∙◌, ◌+◌, ◌<◌, ◌≤◌, ◌++◌, ℕ, zero, suc, Bool, true, false, cond, List, [], ◌∷◌, length, refl, sym, ap, add-zero, arith, append_assoc, append-nil, Option, Some, None}
use Rattle.std.proofs.lemmas.Bool.{le-ltb, lt-ltb}
use Rattle.std.proofs.lemmas.List.Sums.{sum_by-cons}
use Rattle.std.specs.List.{count_by, flat_map}
use Rattle.std.specs.Option.{option_map_or}
use Rattle.elf_file.specs.Forms.{TextsByPlace}
use Rattle.elf_file.specs.LineTables.{KnownTable, table_of}
use Rattle.elf_file.specs.SourceRows.{KnownRow}
use Rattle.elf_file.specs.Units.{is_read, rows_given, unit_at, units_in}
use Rattle.elf_file.proofs.LineTexts.{found}

-- what some units give together
abbrev table_by : TextsByPlace → List (Option (List ℕ)) → KnownTable
table_by texts units = record { rows = flat_map (rows_given texts) units; units = length units; units_read = count_by (is_read texts) units }

abbrev known : List KnownRow → ℕ → ℕ → KnownTable
known rows units read = record { rows = rows; units = units; units_read = read }

same_table : (rows others : List KnownRow) (units more read seen : ℕ) → rows ≡ others → units ≡ more → read ≡ seen → known rows units read ≡ known others more seen
same_table rows others units more read seen p q s =
    ap (λ (l : List KnownRow). known l units read) p ∙ ap (λ (n : ℕ). known others n read) q ∙ ap (λ (n : ℕ). known others more n) s

pub not_read : (texts : TextsByPlace) (table : List ℕ) → 4194304 < length table → known [] 1 0 ≡ table_of texts table
not_read texts table large =
    sym (ap (λ (b : Bool). table_by texts (cond b (None ∷ []) (units_in (length table) table))) (lt-ltb 4194304 (length table) large))

small_table : (texts : TextsByPlace) (table : List ℕ) → length table ≤ 4194304 → table_by texts (units_in (length table) table) ≡ table_of texts table
small_table texts table small =
    sym (ap (λ (b : Bool). table_by texts (cond b (None ∷ []) (units_in (length table) table))) (le-ltb 4194304 (length table) small))

-- ---- one unit

one_unit : (n : ℕ) (rest unit behind : List ℕ) → length rest ≤ n → length behind < length rest → found unit behind ≡ unit_at rest
    → (m : ℕ) × (length behind ≤ m) × (units_in n rest ≡ Some unit ∷ units_in m behind)
one_unit n [] unit behind few shorter is = absurd (omega arith)
one_unit zero (byte ∷ bytes) unit behind few shorter is = absurd (omega arith)
one_unit (suc m) (byte ∷ bytes) unit behind few shorter is = (
  m,
  omega arith,
  sym (ap (λ (o : Option (List ℕ × List ℕ)). option_map_or (λ (u : List ℕ × List ℕ). Some u.0 ∷ units_in m u.1) o (None ∷ [])) is),
)

last_unit : (n : ℕ) (rest : List ℕ) → length rest ≤ n → 1 ≤ length rest → None ≡ unit_at rest → units_in n rest ≡ None ∷ []
last_unit n [] few some is = absurd (omega arith)
last_unit zero (byte ∷ bytes) few some is = absurd (omega arith)
last_unit (suc m) (byte ∷ bytes) few some is =
    sym (ap (λ (o : Option (List ℕ × List ℕ)). option_map_or (λ (u : List ℕ × List ℕ). Some u.0 ∷ units_in m u.1) o (None ∷ [])) is)

no_unit : (n : ℕ) (rest : List ℕ) → length rest ≤ 0 → units_in n rest ≡ []
no_unit n (byte ∷ bytes) empty = absurd (omega arith)
no_unit n [] empty = refl

-- ---- the units so far

one_or_none : (b : Bool) → cond b 1 0 ≤ 1
one_or_none true = omega arith
one_or_none false = omega arith

pub record AreRead (texts : TextsByPlace) (table rest : List ℕ) (rows : List KnownRow) (units read : ℕ) : Type 0 where
  pub fuel : ℕ
  pub enough : length rest ≤ fuel
  pub small : units + length rest ≤ length table
  pub fewer : read ≤ units
  pub all_rows : rows ++ flat_map (rows_given texts) (units_in fuel rest) ≡ flat_map (rows_given texts) (units_in (length table) table)
  pub all_units : units + length (units_in fuel rest) ≡ length (units_in (length table) table)
  pub all_read : read + count_by (is_read texts) (units_in fuel rest) ≡ count_by (is_read texts) (units_in (length table) table)

pub begun : (texts : TextsByPlace) (table : List ℕ) → AreRead texts table table [] 0 0
begun texts table = record {
  fuel = length table;
  enough = omega arith;
  small = omega arith;
  fewer = omega arith;
  all_rows = refl;
  all_units = omega arith;
  all_read = omega arith;
}

pub one_more : (texts : TextsByPlace) (table rest unit behind : List ℕ) (rows more : List KnownRow) (units read seen : ℕ)
    → length behind < length rest → found unit behind ≡ unit_at rest → more ≡ rows ++ rows_given texts (Some unit)
    → seen ≡ read + cond (is_read texts (Some unit)) 1 0
    → AreRead texts table rest rows units read → AreRead texts table behind more (units + 1) seen
one_more texts table rest unit behind rows more units read seen shorter is gives counts are =
    let one = one_unit are.fuel rest unit behind are.enough shorter is in
    let here : List KnownRow = rows_given texts (Some unit) in
    let count : ℕ = cond (is_read texts (Some unit)) 1 0 in
    let few : count ≤ 1 = one_or_none (is_read texts (Some unit)) in
    let sum : count_by (is_read texts) (units_in are.fuel rest) ≡ count + count_by (is_read texts) (units_in one.0 behind) =
    ap (λ (l : List (Option (List ℕ))). count_by (is_read texts) l) one.2
    ∙ sum_by-cons (λ (u : Option (List ℕ)). cond (is_read texts u) 1 0) (Some unit) (units_in one.0 behind) in
    let long : length (units_in are.fuel rest) ≡ suc (length (units_in one.0 behind)) = ap (λ (l : List (Option (List ℕ))). length l) one.2 in
    record {
      fuel = one.0;
      enough = one.1;
      small = omega (arith, are.small, shorter);
      fewer = omega (arith, are.fewer, counts, few);
      all_rows =
          ap (λ (l : List KnownRow). l ++ flat_map (rows_given texts) (units_in one.0 behind)) gives
          ∙ append_assoc rows here (flat_map (rows_given texts) (units_in one.0 behind))
          ∙ ap (λ (l : List (Option (List ℕ))). rows ++ flat_map (rows_given texts) l) (sym one.2)
          ∙ are.all_rows;
      all_units = omega (arith, long, are.all_units);
      all_read = omega (arith, sum, counts, are.all_read);
    }

-- a unit whose length isn't in the table ends them
pub broken : (texts : TextsByPlace) (table rest : List ℕ) (rows : List KnownRow) (units read : ℕ) → length table ≤ 4194304 → 1 ≤ length rest
    → None ≡ unit_at rest → AreRead texts table rest rows units read → known rows (units + 1) read ≡ table_of texts table
broken texts table rest rows units read small some is are =
    let last : units_in are.fuel rest ≡ None ∷ [] = last_unit are.fuel rest are.enough some is in
    same_table rows (flat_map (rows_given texts) (units_in (length table) table)) (units + 1) (length (units_in (length table) table)) read
    (count_by (is_read texts) (units_in (length table) table))
    (sym (append-nil rows) ∙ ap (λ (l : List (Option (List ℕ))). rows ++ flat_map (rows_given texts) l) (sym last) ∙ are.all_rows)
    (ap (λ (l : List (Option (List ℕ))). units + length l) (sym last) ∙ are.all_units)
    (sym (add-zero read) ∙ ap (λ (l : List (Option (List ℕ))). read + count_by (is_read texts) l) (sym last) ∙ are.all_read)
    ∙ small_table texts table small

pub is_done : (texts : TextsByPlace) (table rest : List ℕ) (rows : List KnownRow) (units read : ℕ) → length table ≤ 4194304 → length rest ≤ 0
    → AreRead texts table rest rows units read → known rows units read ≡ table_of texts table
is_done texts table rest rows units read small empty are =
    let none : units_in are.fuel rest ≡ [] = no_unit are.fuel rest empty in
    same_table rows (flat_map (rows_given texts) (units_in (length table) table)) units (length (units_in (length table) table)) read
    (count_by (is_read texts) (units_in (length table) table))
    (sym (append-nil rows) ∙ ap (λ (l : List (Option (List ℕ))). rows ++ flat_map (rows_given texts) l) (sym none) ∙ are.all_rows)
    (sym (add-zero units) ∙ ap (λ (l : List (Option (List ℕ))). units + length l) (sym none) ∙ are.all_units)
    (sym (add-zero read) ∙ ap (λ (l : List (Option (List ℕ))). read + count_by (is_read texts) l) (sym none) ∙ are.all_read)
    ∙ small_table texts table small
