-- The units of a table with more behind it.
use Rattle.std.proofs.Common.{◌≡◌, ◌∙◌, ◌+◌, ◌<◌, ◌≤◌, ◌++◌, ◌&&◌, ℕ, zero, suc, Bool, true, false, List, [], ◌∷◌, length, take, drop, refl, sym, ap, arith, inl, inr, Option, Some, None, option_and_then, option_map, unwrap_or, length-append, if◌then◌else◌}
use Rattle.std.proofs.lemmas.Bool.{cases_lt, le-leb, le-ltb, leb-true, lt-ltb, or_parts, true≢false}
use Rattle.std.proofs.lemmas.Grind.{flat_map-append}
use Rattle.std.proofs.lemmas.List.{drop-append-le, length-drop, take-append-le}
use Rattle.std.proofs.lemmas.Option.{some_pair_parts}
use Rattle.std.specs.List.{flat_map, list_all, list_any}
use Rattle.std.specs.Option.{option_map_or}
use Rattle.std.specs.Prelude.{is_some, nat_le, nat_lt}
use Rattle.elf_file.specs.Forms.{TextsByPlace}
use Rattle.elf_file.specs.Header.{number_at}
use Rattle.elf_file.specs.Lines.{line_at}
use Rattle.elf_file.specs.LineTables.{table_of}
use Rattle.elf_file.specs.SourceRows.{KnownRow}
use Rattle.elf_file.specs.UnitLaws.{IsSmall, IsUnread, IsWhole}
use Rattle.elf_file.specs.Units.{is_read, read_unit, rows_given, unit_at, units_in, units_of}
use Rattle.elf_file.proofs.LineTexts.{found}

-- ---- one unit

-- the number in the first four bytes
number_more : (table more : List ℕ) → 4 ≤ length table → number_at 4 (table ++ more) 0 ≡ number_at 4 table 0
unfolding number_at
number_more [] more long = absurd (omega arith)
number_more (a ∷ []) more long = absurd (omega arith)
number_more (a ∷ b ∷ []) more long = absurd (omega arith)
number_more (a ∷ b ∷ c ∷ []) more long = absurd (omega arith)
number_more (a ∷ b ∷ c ∷ d ∷ table) more long = refl

-- a unit of so many bytes, and the bytes behind it
abbrev sized : ℕ → List ℕ → Option (List ℕ × List ℕ)
sized size rest = if nat_lt size 0xffff_fff0 && nat_le size (length rest) then Some (take size rest, drop size rest) else None

abbrev measured : Option (ℕ × List ℕ) → Option (List ℕ × List ℕ)
measured size = option_and_then (λ (size : ℕ × List ℕ). sized size.0 size.1) size

-- what is known of a unit that is there
record IsUnit (table : List ℕ) (unit : List ℕ × List ℕ) : Type 0 where
  long : 4 ≤ length table
  small : nat_lt (number_at 4 table 0) 0xffff_fff0 ≡ true
  within : number_at 4 table 0 ≤ length (drop 4 table)
  is : found (take (number_at 4 table 0) (drop 4 table)) (drop (number_at 4 table 0) (drop 4 table)) ≡ found unit.0 unit.1

unit_by_size : (a b : Bool) (table : List ℕ) (unit : List ℕ × List ℕ) → 4 ≤ length table → nat_lt (number_at 4 table 0) 0xffff_fff0 ≡ a
    → nat_le (number_at 4 table 0) (length (drop 4 table)) ≡ b
    → (if a && b then found (take (number_at 4 table 0) (drop 4 table)) (drop (number_at 4 table 0) (drop 4 table)) else None) ≡ found unit.0 unit.1
    → IsUnit table unit
unit_by_size true true table unit long p q e =
    record { long = long; small = p; within = leb-true (number_at 4 table 0) (length (drop 4 table)) q; is = e }
unit_by_size true false table unit long p q e = absurd cc
unit_by_size false b table unit long p q e = absurd cc

unit_by_length : (short : Bool) (table : List ℕ) (unit : List ℕ × List ℕ) → nat_lt (length table) 4 ≡ short
    → measured (if short then None else Some (number_at 4 table 0, drop 4 table)) ≡ found unit.0 unit.1 → IsUnit table unit
unit_by_length true table unit short e = absurd cc
unit_by_length false table unit short e =
    let long : 4 ≤ length table = elim (cases_lt (length table) 4) [
      | inl less ↦ absurd (true≢false (sym (lt-ltb (length table) 4 less) ∙ short))
      | inr past ↦ past
    ] in
    unit_by_size (nat_lt (number_at 4 table 0) 0xffff_fff0) (nat_le (number_at 4 table 0) (length (drop 4 table))) table unit long refl refl e

is_unit : (table : List ℕ) (unit : List ℕ × List ℕ) → unit_at table ≡ found unit.0 unit.1 → IsUnit table unit
is_unit table unit e = unit_by_length (nat_lt (length table) 4) table unit refl e

-- fewer bytes are behind it
shorter : (table : List ℕ) (unit : List ℕ × List ℕ) → unit_at table ≡ found unit.0 unit.1 → length unit.1 < length table
shorter table unit e =
    let is = is_unit table unit e in
    let size : ℕ = number_at 4 table 0 in
    let behind : drop size (drop 4 table) ≡ unit.1 =
    (some_pair_parts (take size (drop 4 table)) unit.0 (drop size (drop 4 table)) unit.1 is.is).1 in
    let count : length (drop size (drop 4 table)) ≡ length unit.1 = ap (λ (l : List ℕ). length l) behind in
    omega (arith, count, is.long, length-drop size (drop 4 table), length-drop 4 table)

-- with more behind the table there is the same unit, and more behind it
unit_more : (table more : List ℕ) (unit : List ℕ × List ℕ) → unit_at table ≡ found unit.0 unit.1 → unit_at (table ++ more) ≡ found unit.0 (unit.1 ++ more)
unit_more table more unit e =
    let is = is_unit table unit e in
    let size : ℕ = number_at 4 table 0 in
    let rest : List ℕ = drop 4 table in
    let long : 4 ≤ length (table ++ more) = omega (arith, is.long, length-append table more) in
    let within : size ≤ length (rest ++ more) = omega (arith, is.within, length-append rest more) in
    ap (λ (short : Bool). measured (if short then None else Some (number_at 4 (table ++ more) 0, drop 4 (table ++ more)))) (le-ltb (length (table ++ more)) 4 long)
    ∙ ap (λ (n : ℕ). sized n (drop 4 (table ++ more))) (number_more table more is.long)
    ∙ ap (λ (l : List ℕ). sized size l) (drop-append-le 4 table more is.long)
    ∙ ap (λ (b : Bool). if b && nat_le size (length (rest ++ more)) then found (take size (rest ++ more)) (drop size (rest ++ more)) else None) is.small
    ∙ ap (λ (b : Bool). if b then found (take size (rest ++ more)) (drop size (rest ++ more)) else None) (le-leb size (length (rest ++ more)) within)
    ∙ ap (λ (l : List ℕ). found l (drop size (rest ++ more))) (take-append-le size rest more is.within)
    ∙ ap (λ (l : List ℕ). found (take size rest) l) (drop-append-le size rest more is.within)
    ∙ ap (option_map (λ (u : List ℕ × List ℕ). (u.0, u.1 ++ more))) is.is

-- ---- the units of a table

-- a unit, and those of the bytes behind it
abbrev with_units : (List ℕ → List (Option (List ℕ))) → Option (List ℕ × List ℕ) → List (Option (List ℕ))
with_units units unit = option_map_or (λ (u : List ℕ × List ℕ). Some u.0 ∷ units u.1) unit (None ∷ [])

same_step : (n m : ℕ) (unit : Option (List ℕ × List ℕ)) → ((u : List ℕ × List ℕ) → unit ≡ found u.0 u.1 → units_in n u.1 ≡ units_in m u.1)
    → with_units (units_in n) unit ≡ with_units (units_in m) unit
same_step n m None same = refl
same_step n m (Some u) same = ap (λ (l : List (Option (List ℕ))). Some u.0 ∷ l) (same u refl)

-- they are the same by any number that isn't below that of the bytes
same_units : (n m : ℕ) (bytes : List ℕ) → length bytes ≤ n → length bytes ≤ m → units_in n bytes ≡ units_in m bytes
same_units n m [] few less = refl
same_units zero m (byte ∷ bytes) few less = absurd (omega arith)
same_units (suc n) zero (byte ∷ bytes) few less = absurd (omega arith)
same_units (suc n) (suc m) (byte ∷ bytes) few less =
    same_step n m (unit_at (byte ∷ bytes)) (λ u is.
    let fewer : length u.1 < length (byte ∷ bytes) = shorter (byte ∷ bytes) u is in
    same_units n m u.1 (omega arith) (omega arith))

joined_step : (n m : ℕ) (unit other : Option (List ℕ × List ℕ)) (more : List ℕ) (units : List (Option (List ℕ)))
    → list_all is_some (with_units (units_in n) unit) ≡ true
    → ((u : List ℕ × List ℕ) → unit ≡ found u.0 u.1 → (other ≡ found u.0 (u.1 ++ more))
    × (list_all is_some (units_in n u.1) ≡ true → units_in m (u.1 ++ more) ≡ units_in n u.1 ++ units))
    → with_units (units_in m) other ≡ with_units (units_in n) unit ++ units
joined_step n m None other more units whole each = absurd cc
joined_step n m (Some u) other more units whole each =
    let one = each u refl in
    ap (λ (o : Option (List ℕ × List ℕ)). with_units (units_in m) o) one.0 ∙ ap (λ (l : List (Option (List ℕ))). Some u.0 ∷ l) (one.1 whole)

joined_in : (n m : ℕ) (table more : List ℕ) → length table ≤ n → length (table ++ more) ≤ m → list_all is_some (units_in n table) ≡ true
    → units_in m (table ++ more) ≡ units_in n table ++ units_in (length more) more
joined_in n m [] more few less whole = same_units m (length more) more less (omega arith)
joined_in zero m (byte ∷ bytes) more few less whole = absurd (omega arith)
joined_in (suc n) zero (byte ∷ bytes) more few less whole = absurd (omega arith)
joined_in (suc n) (suc m) (byte ∷ bytes) more few less whole =
    joined_step n m (unit_at (byte ∷ bytes)) (unit_at (byte ∷ (bytes ++ more))) more (units_in (length more) more) whole (λ u is.
    let fewer : length u.1 < length (byte ∷ bytes) = shorter (byte ∷ bytes) u is in
    let fits : length (u.1 ++ more) ≤ m = omega (arith, less, fewer, length-append u.1 more, length-append bytes more) in (
      unit_more (byte ∷ bytes) more u is,
      λ rest. joined_in n m u.1 more (omega arith) fits rest,
    ))

small_units : (table : List ℕ) → IsSmall table → units_of table ≡ units_in (length table) table
small_units table small =
    ap (λ (b : Bool). if b then None ∷ [] else units_in (length table) table) (le-ltb 4_194_304 (length table) small)

pub units_join : (table more : List ℕ) → IsWhole table → IsSmall (table ++ more) → units_of (table ++ more) ≡ units_of table ++ units_of more
units_join table more whole small =
    let front : units_of table ≡ units_in (length table) table = small_units table (omega (arith, small, length-append table more)) in
    let back : units_of more ≡ units_in (length more) more = small_units more (omega (arith, small, length-append table more)) in
    let all : list_all is_some (units_in (length table) table) ≡ true = ap (λ (l : List (Option (List ℕ))). list_all is_some l) (sym front) ∙ whole in
    small_units (table ++ more) small
    ∙ joined_in (length table) (length (table ++ more)) table more (omega arith) (omega arith) all
    ∙ ap (λ (l : List (Option (List ℕ))). l ++ units_in (length more) more) (sym front)
    ∙ ap (λ (l : List (Option (List ℕ))). units_of table ++ l) (sym back)

-- ---- their rows

pub rows_join : (texts : TextsByPlace) (table more : List ℕ) → IsWhole table → IsSmall (table ++ more)
    → flat_map (rows_given texts) (units_of (table ++ more)) ≡ flat_map (rows_given texts) (units_of table) ++ flat_map (rows_given texts) (units_of more)
rows_join texts table more whole small =
    ap (λ (l : List (Option (List ℕ))). flat_map (rows_given texts) l) (units_join table more whole small)
    ∙ flat_map-append (rows_given texts) (units_of table) (units_of more)

-- a unit that isn't read has none
none_given : (rows : Option (List KnownRow)) → is_some rows ≡ false → unwrap_or rows [] ≡ []
none_given None unread = refl
none_given (Some rows) unread = absurd cc

unread_rows : (texts : TextsByPlace) (units : List (Option (List ℕ))) → list_any (is_read texts) units ≡ false → flat_map (rows_given texts) units ≡ []
unread_rows texts [] unread = refl
unread_rows texts (unit ∷ units) unread =
    let parts = or_parts (is_read texts unit) (list_any (is_read texts) units) unread in
    ap (λ (l : List KnownRow). l ++ flat_map (rows_given texts) units) (none_given (read_unit texts unit) parts.0) ∙ unread_rows texts units parts.1

pub unread_change_none : (texts : TextsByPlace) (front unread behind : List ℕ) → IsWhole front → IsWhole unread → IsUnread texts unread
    → IsSmall (front ++ (unread ++ behind))
    → (pc : ℕ) → line_at (table_of texts (front ++ (unread ++ behind))).rows pc ≡ line_at (table_of texts (front ++ behind)).rows pc
unread_change_none texts front unread behind whole others none small pc =
    let long : length (front ++ (unread ++ behind)) ≡ length front + (length unread + length behind) =
    length-append front (unread ++ behind) ∙ ap (λ (n : ℕ). length front + n) (length-append unread behind) in
    let given : List (Option (List ℕ)) → List KnownRow = flat_map (rows_given texts) in
    let without : given (units_of (unread ++ behind)) ≡ given (units_of behind) =
    rows_join texts unread behind others (omega (arith, small, long, length-append unread behind))
    ∙ ap (λ (l : List KnownRow). l ++ given (units_of behind)) (unread_rows texts (units_of unread) none) in
    ap (λ (rows : List KnownRow). line_at rows pc)
    (rows_join texts front (unread ++ behind) whole small
    ∙ ap (λ (l : List KnownRow). given (units_of front) ++ l) without
    ∙ sym (rows_join texts front behind whole (omega (arith, small, long, length-append front behind))))
