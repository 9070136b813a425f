-- One more row of a table.
use Rattle.std.proofs.Common.{◌≡◌, ◌∙◌, ℕ, zero, suc, ◌+◌, ◌-◌, ◌<◌, ◌≤◌, Bool, true, false, List, [], ◌∷◌, ◌++◌, Option, Some, None, length, get_or, map, take, refl, sym, ap, subst, arith, if◌then◌else◌}
use Rattle.std.proofs.lemmas.List.{get_or-map, get_or-take, length-map, length-take, take_all, take_more}
use Rattle.std.proofs.lemmas.Option.{slice_get-get_or}
use Rattle.std.specs.Option.{option_or}
use Rattle.std.specs.Bool.{then_some}
use Rattle.std.specs.Prelude.{slice_get}
use Rattle.elf_file.specs.Lines.{AreCells, IsRowAt, holds, row_at, with_row}
use Rattle.elf_file.specs.SourceRows.{KnownRow, known_row}
use Rattle.elf_file.specs.declared.lines.units.SourceRow.{SourceRow}

-- what is found first stays
over : (b : Bool) (row : KnownRow) (mine rest more : Option KnownRow) → mine ≡ option_or rest more
    → (if b then Some row else mine) ≡ option_or (if b then Some row else rest) more
over true row mine rest more e = refl
over false row mine rest more e = e

alone : (b : Bool) (row : KnownRow) → (if b then Some row else None) ≡ option_or None (then_some b row)
alone true row = refl
alone false row = refl

-- with one more row behind the last one
behind : (front : List KnownRow) (row next : KnownRow) (pc : ℕ)
    → row_at ((front ++ row ∷ []) ++ next ∷ []) pc ≡ option_or (row_at (front ++ row ∷ []) pc) (then_some (holds row next pc) row)
behind [] row next pc = alone (holds row next pc) row
behind (first ∷ []) row next pc =
    over (holds first row pc) first _ _ (then_some (holds row next pc) row) (behind [] row next pc)
behind (first ∷ second ∷ front) row next pc =
    over (holds first second pc) first _ _ (then_some (holds row next pc) row) (behind (second ∷ front) row next pc)

next : (rows : List KnownRow) (pc n : ℕ) (d : KnownRow) → 1 ≤ n → n < length rows → row_at (take (n + 1) rows) pc
    ≡ option_or (row_at (take n rows) pc) (then_some (holds (get_or rows (n - 1) d) (get_or rows n d) pc) (get_or rows (n - 1) d))
next rows pc n d some within =
    let before : n - 1 + 1 ≡ n = omega arith in
    let last : take n rows ≡ take (n - 1) rows ++ get_or rows (n - 1) d ∷ [] =
    ap (λ (k : ℕ). take k rows) (sym before) ∙ take_more rows (n - 1) d (omega arith) in
    let all : take (n + 1) rows ≡ (take (n - 1) rows ++ get_or rows (n - 1) d ∷ []) ++ get_or rows n d ∷ [] =
    take_more rows n d within ∙ ap (λ (l : List KnownRow). l ++ get_or rows n d ∷ []) last in
    ap (λ (l : List KnownRow). row_at l pc) all
    ∙ behind (take (n - 1) rows) (get_or rows (n - 1) d) (get_or rows n d) pc
    ∙ ap (λ (l : List KnownRow). option_or (row_at l pc) (then_some (holds (get_or rows (n - 1) d) (get_or rows n d) pc) (get_or rows (n - 1) d))) (sym last)

-- a row among the first ones of a table
got : (rows : List KnownRow) (m k : ℕ) (d : KnownRow) → m < k → k ≤ length rows → slice_get (take k rows) m ≡ Some (get_or rows m d)
got rows m k d less within =
    slice_get-get_or (take k rows) m d (omega (arith, length-take k rows)) ∙ ap (λ (r : KnownRow). Some r) (get_or-take k rows m d less)

-- a cell by the first rows, and by one more
step : (rows : List KnownRow) (pc n : ℕ) (d : KnownRow) (inside : Bool) (cell : Option ℕ) → 1 ≤ n → n < length rows
    → inside ≡ holds (get_or rows (n - 1) d) (get_or rows n d) pc → IsRowAt (take n rows) pc cell
    → IsRowAt (take (n + 1) rows) pc (option_or cell (then_some inside (n - 1)))
step rows pc n d inside (Some m) some within e is =
    let less : m < n = omega (arith, is.0, length-take n rows) in (
      omega (arith, length-take (n + 1) rows),
      next rows pc n d some within
          ∙ ap (λ (o : Option KnownRow). option_or o (then_some (holds (get_or rows (n - 1) d) (get_or rows n d) pc) (get_or rows (n - 1) d)))
          (is.1 ∙ got rows m n d less (omega arith))
          ∙ sym (got rows m (n + 1) d (omega arith) (omega arith)),
    )
step rows pc n d true None some within e is = (
  omega (arith, length-take (n + 1) rows),
  next rows pc n d some within
      ∙ ap (λ (o : Option KnownRow). option_or o (then_some (holds (get_or rows (n - 1) d) (get_or rows n d) pc) (get_or rows (n - 1) d))) is
      ∙ ap (λ (b : Bool). then_some b (get_or rows (n - 1) d)) (sym e)
      ∙ sym (got rows (n - 1) (n + 1) d (omega arith) (omega arith)),
)
step rows pc n d false None some within e is =
    next rows pc n d some within
    ∙ ap (λ (o : Option KnownRow). option_or o (then_some (holds (get_or rows (n - 1) d) (get_or rows n d) pc) (get_or rows (n - 1) d))) is
    ∙ ap (λ (b : Bool). then_some b (get_or rows (n - 1) d)) (sym e)

-- ---- a search among the rows

pub none_alone : (rows : List KnownRow) (pc : ℕ) → row_at (take 1 rows) pc ≡ None
none_alone [] pc = refl
none_alone (row ∷ rows) pc = refl

-- a row as the program reads it where there is none
abbrev pub no_row : SourceRow
no_row = record { address = 0; path = None; line = 0; ends = false }

-- each of the rows by its number
known : (rows : List SourceRow) (n : ℕ) → n < length rows → known_row (get_or rows n no_row) ≡ get_or (map known_row rows) n (known_row no_row)
known rows n less = sym (get_or-map known_row rows n no_row (known_row no_row) less)

held : (rows : List SourceRow) (n pc : ℕ) (b : Bool) → 1 ≤ n → n < length rows
    → holds (known_row (get_or rows (n - 1) no_row)) (known_row (get_or rows n no_row)) pc ≡ b
    → holds (get_or (map known_row rows) (n - 1) (known_row no_row)) (get_or (map known_row rows) n (known_row no_row)) pc ≡ b
held rows n pc b some within is =
    ap (λ (row : KnownRow). holds row (get_or (map known_row rows) n (known_row no_row)) pc) (sym (known rows (n - 1) (omega arith)))
    ∙ ap (λ (row : KnownRow). holds (known_row (get_or rows (n - 1) no_row)) row pc) (sym (known rows n within))
    ∙ is

pub still_none : (rows : List SourceRow) (pc n : ℕ) → 1 ≤ n → n < length rows
    → holds (known_row (get_or rows (n - 1) no_row)) (known_row (get_or rows n no_row)) pc ≡ false
    → row_at (take n (map known_row rows)) pc ≡ None → row_at (take (n + 1) (map known_row rows)) pc ≡ None
still_none rows pc n some within fails none =
    let all : List KnownRow = map known_row rows in
    let row : KnownRow = get_or all (n - 1) (known_row no_row) in
    next all pc n (known_row no_row) some (omega (arith, length-map rows known_row))
    ∙ ap (λ (o : Option KnownRow). option_or o (then_some (holds row (get_or all n (known_row no_row)) pc) row)) none
    ∙ ap (λ (b : Bool). then_some b row) (held rows n pc false some within fails)

-- a row that is found stays the first
stays : (rows : List KnownRow) (d : KnownRow) (pc more n : ℕ) (row : KnownRow) → 1 ≤ n → n + more ≤ length rows
    → row_at (take n rows) pc ≡ Some row → row_at (take (n + more) rows) pc ≡ Some row
stays rows d pc zero n row some within found = ap (λ (k : ℕ). row_at (take k rows) pc) (omega arith) ∙ found
stays rows d pc (suc more) n row some within found =
    let k : ℕ = n + more in
    let last : KnownRow = get_or rows (k - 1) d in
    ap (λ (m : ℕ). row_at (take m rows) pc) (omega arith)
    ∙ next rows pc k d (omega arith) (omega arith)
    ∙ ap (λ (o : Option KnownRow). option_or o (then_some (holds last (get_or rows k d) pc) last)) (stays rows d pc more n row some (omega arith) found)

pub found_first : (rows : List SourceRow) (pc n : ℕ) → 1 ≤ n → n < length rows
    → holds (known_row (get_or rows (n - 1) no_row)) (known_row (get_or rows n no_row)) pc ≡ true
    → row_at (take n (map known_row rows)) pc ≡ None → IsRowAt (map known_row rows) pc (Some (n - 1))
found_first rows pc n some within passes none =
    let all : List KnownRow = map known_row rows in
    let long : length all ≡ length rows = length-map rows known_row in
    let row : KnownRow = get_or all (n - 1) (known_row no_row) in
    let here : row_at (take (n + 1) all) pc ≡ Some row =
    next all pc n (known_row no_row) some (omega arith)
    ∙ ap (λ (o : Option KnownRow). option_or o (then_some (holds row (get_or all n (known_row no_row)) pc) row)) none
    ∙ ap (λ (b : Bool). then_some b row) (held rows n pc true some within passes) in
    let rest : ℕ = length all - (n + 1) in (
      omega arith,
      ap (λ (l : List KnownRow). row_at l pc) (sym (take_all (n + 1 + rest) all (omega arith)))
          ∙ stays all (known_row no_row) pc rest (n + 1) row (omega arith) (omega arith) here
          ∙ sym (slice_get-get_or all (n - 1) (known_row no_row) (omega arith)),
    )

pub none_at_all : (rows : List SourceRow) (pc n : ℕ) → length rows ≤ n → row_at (take n (map known_row rows)) pc ≡ None → row_at (map known_row rows) pc ≡ None
none_at_all rows pc n past none =
    ap (λ (l : List KnownRow). row_at l pc) (sym (take_all n (map known_row rows) (omega (arith, length-map rows known_row)))) ∙ none

-- ---- a cell for each byte

-- the cells by the first rows
pub record AreCellsUpTo (rows : List SourceRow) (n : ℕ) (cells : List (Option ℕ)) : Type 0 where
  pub size : length cells ≡ 65536
  pub at : (at : ℕ) → at < 65536 → IsRowAt (take n (map known_row rows)) (0x1_0000 + at) (get_or cells at None)

pub cells_begun : (rows : List SourceRow) (cells : List (Option ℕ)) → length cells ≡ 65536 → ((at : ℕ) → get_or cells at None ≡ None)
    → AreCellsUpTo rows 1 cells
cells_begun rows cells size none = record {
  size = size;
  at = λ at less.
      let family : Option ℕ → Type 0 = λ (o : Option ℕ). IsRowAt (take 1 (map known_row rows)) (0x1_0000 + at) o in
      subst family (sym (none at)) (none_alone (map known_row rows) (0x1_0000 + at));
}

pub cells_more : (rows : List SourceRow) (n : ℕ) (cells more : List (Option ℕ)) → 1 ≤ n → n < length rows → length more ≡ 65536
    → ((at : ℕ) → at < 65536 → get_or more at None ≡ with_row (known_row (get_or rows (n - 1) no_row)) (known_row (get_or rows n no_row)) (n - 1) at (get_or cells at None))
    → AreCellsUpTo rows n cells → AreCellsUpTo rows (n + 1) more
cells_more rows n cells more some within size is are = record {
  size = size;
  at = λ at less.
      let all : List KnownRow = map known_row rows in
      let pc : ℕ = 0x1_0000 + at in
      let inside : Bool = holds (known_row (get_or rows (n - 1) no_row)) (known_row (get_or rows n no_row)) pc in
      let family : Option ℕ → Type 0 = λ (o : Option ℕ). IsRowAt (take (n + 1) all) pc o in
      subst family (sym (is at less))
      (step all pc n (known_row no_row) inside (get_or cells at None) some (omega (arith, length-map rows known_row))
      (sym (held rows n pc inside some within refl)) (are.at at less));
}

pub cells_done : (rows : List SourceRow) (n : ℕ) (cells : List (Option ℕ)) → length rows ≤ n → AreCellsUpTo rows n cells → AreCells (map known_row rows) cells
cells_done rows n cells past are at less =
    let family : List KnownRow → Type 0 = λ (l : List KnownRow). IsRowAt l (0x1_0000 + at) (get_or cells at None) in
    subst family (take_all n (map known_row rows) (omega (arith, length-map rows known_row))) (are.at at (omega (arith, are.size)))
