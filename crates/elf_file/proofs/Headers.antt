-- What a header has that is read.
use Rattle.std.proofs.Common.{◌≡◌, ◌≤◌, ◌==◌, ◌&&◌, not, true, Bool, ℕ, List, length, get_or, take, drop, arith}
use Rattle.std.proofs.lemmas.Bool.{and_parts, eqb-false, leb-true, not-true}
use Rattle.std.specs.Prelude.{nat_le}
use Rattle.std.specs.Str.{bytes_eq}
use Rattle.elf_file.specs.Units.{is_coding, standard_counts}

pub front_there : (header : List ℕ) → is_coding header ≡ true → (18 ≤ length header) × (1 ≤ get_or header 4 0)
front_there header e =
    let counts : Bool = (get_or header 5 0 == 13) && bytes_eq (take 12 (drop 6 header)) standard_counts in
    let outer = and_parts (nat_le 18 (length header)) ((get_or header 1 0 == 1) && (not (get_or header 4 0 == 0) && counts)) e in
    let inner = and_parts (get_or header 1 0 == 1) (not (get_or header 4 0 == 0) && counts) outer.1 in
    let last = and_parts (not (get_or header 4 0 == 0)) counts inner.1 in
    let some = eqb-false (get_or header 4 0) 0 (not-true (get_or header 4 0 == 0) last.0) in (
      leb-true 18 (length header) outer.0,
      omega arith,
    )
