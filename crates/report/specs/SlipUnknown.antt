-- Names that other assemblers and instruction sets have, and what stands for them here.
use Rattle.std.specs.Prelude.{ℕ, List, [], ◌∷◌, nat_eq, map, if◌then◌else◌}
use Rattle.std.specs.Borrow.{Bor}
use Rattle.std.specs.Cmp.Lexicographic.{pointwise}
use Rattle.report.specs.declared.slips.unknown.TheConstants.{OTHERS}

-- the texts of a row: a name, and what to write in its place
abbrev pub Texts : Type 0
Texts = List ℕ × List ℕ

-- a text of a static
abbrev pub StaticText : Type 0
StaticText = record { now : List ℕ }

abbrev pub texts_of : List (Bor (List ℕ) × Bor (List ℕ)) → List Texts
texts_of rows = map (λ row. (row.0.now, row.1.now)) rows

abbrev pub texts_of_static : List (StaticText × StaticText) → List Texts
texts_of_static rows = map (λ row. (row.0.now, row.1.now)) rows

-- what a table says of a name; nothing where it hasn't the name
abbrev pub instead_in : List Texts → List ℕ → List ℕ
instead_in [] name = []
instead_in (row ∷ rows) name = if pointwise nat_eq name row.0 then row.1 else instead_in rows name

unfoldable pub others : List Texts
others = texts_of_static OTHERS

unfoldable pub instead_of : List ℕ → List ℕ
instead_of name = instead_in others name
