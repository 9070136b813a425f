-- Rows of the table: what they say of a code, and the lines of the first ones.
use Rattle.std.proofs.Common.{◌≡◌, ◌∙◌, ℕ, ◌+◌, ◌<◌, List, [], ◌∷◌, ◌++◌, Option, Some, None, length, get_or, take, ap, arith, subst, sym}
use Rattle.std.specs.Prelude.{All, Any, Contains, MatchOption}
use Rattle.std.specs.Borrow.{Bor}
use Rattle.std.specs.List.{flat_map}
use Rattle.std.proofs.lemmas.Grind.{flat_map-append}
use Rattle.std.proofs.lemmas.List.{append-nil, get_or-map, length-map, take_more}
use Rattle.std.proofs.lemmas.List.Concat.{get_or-flat_map}
use Rattle.std.proofs.lemmas.List.Elements.{All-append, All-contains, All-head, All-map, All-nil, All-tail}
use Rattle.std.proofs.lemmas.List.Folds.{flat_map-map, length-flat_map-take}
use Rattle.arguments.specs.Codes.{HasRow, IsMeaningOf, IsSameWord, Row, Texts, lines, meaning_line, table, texts_of, texts_of_families, texts_of_row, texts_of_rows}
use Rattle.arguments.specs.declared.codes.table.Meaning.{Meaning}

abbrev pub Family : Type 0
Family = Bor (List Row)

abbrev pub texts_of_family : Family → List Texts
texts_of_family rows = texts_of_rows rows.now

-- another code than this one
abbrev pub IsOther : List ℕ → Texts → Type 0
IsOther code row = ¬ IsSameWord row.0 code

-- where no row of any family has the code, no row of the table of them has
others : (families : List Family) (code : List ℕ) → All (λ rows. All (λ row. ¬ IsSameWord row.0.now code) rows.now) families
    → All (IsOther code) (texts_of_families families)
others [] code none = All-nil (IsOther code)
others (rows ∷ families) code none =
    let P : Family → Type 0 = λ rows. All (λ row. ¬ IsSameWord row.0.now code) rows.now in
    All-append
    (IsOther code)
    (texts_of_rows rows.now)
    (texts_of_families families)
    (All-map (IsOther code) texts_of_row rows.now (All-head P rows families none))
    (others families code (All-tail P rows families none))

triple : (a b c x y z : List ℕ) → a ≡ x → b ≡ y → c ≡ z → ◌≡◌ {A = Texts} (a, b, c) (x, y, z)
triple a b c x y z p q r = cc

-- a row says what its code means
says : (rows : List Row) (m : Meaning) → HasRow rows m → Contains (texts_of_rows rows) (texts_of m)
says rows m has =
    let row : Row = has.1 in
    let same : texts_of_row row ≡ texts_of m =
    triple row.0.now row.1.now row.2.now m.code.now m.meaning.now m.remedy.now has.4.0 has.4.1 has.4.2 in (
      has.0,
      subst (λ (n : ℕ). has.0 < n) (sym (length-map rows texts_of_row)) has.2,
      get_or-map texts_of_row rows has.0 row (texts_of m) has.2 ∙ ap texts_of_row has.3 ∙ same,
    )

-- so does a row of a family
says_within : (families : List Family) (m : Meaning) → Any (λ rows. HasRow rows.now m) families
    → Contains (texts_of_families families) (texts_of m)
says_within families m has =
    let there : Contains (texts_of_family (get_or families has.0 has.1)) (texts_of m) =
    subst (λ (rows : Family). Contains (texts_of_family rows) (texts_of m)) (sym has.3) (says has.1.now m has.4) in (
      length (texts_of_families (take has.0 families)) + there.0,
      omega (arith, there.1, length-flat_map-take texts_of_family families has.0 has.1 has.2),
      get_or-flat_map texts_of_family families has.0 there.0 has.1 (texts_of m) has.2 there.1 ∙ there.2,
    )

-- a code that no row has means nothing, and the row of a code says what it means
pub meaning_by_row : (families : List Family) (code : List ℕ) (found : Option Meaning)
    → MatchOption found
    (All (λ rows. All (λ row. ¬ IsSameWord row.0.now code) rows.now) families)
    (λ m. IsSameWord m.code.now code × Any (λ rows. HasRow rows.now m) families)
    → texts_of_families families ≡ table
    → MatchOption found ((m : Meaning) → ¬ IsMeaningOf code m) (IsMeaningOf code)
meaning_by_row families code None none is = λ m means.
    All-contains (IsOther code) table (texts_of m) (subst (All (IsOther code)) is (others families code none)) means.among means.named
meaning_by_row families code (Some m) has is =
    record { named = has.0; among = subst (λ (rows : List Texts). Contains rows (texts_of m)) is (says_within families m has.1) }

more : {X A : Type 0} (f : X → List A) (xs : List X) (k : ℕ) (d : X) → k < length xs
    → flat_map f (take (k + 1) xs) ≡ flat_map f (take k xs) ++ f (get_or xs k d)
more f xs k d below =
    ap (flat_map f) (take_more xs k d below)
    ∙ flat_map-append f (take k xs) (get_or xs k d ∷ [])
    ∙ ap (λ l. flat_map f (take k xs) ++ l) (append-nil (f (get_or xs k d)))

abbrev pub line_of_texts : Texts → List ℕ
line_of_texts row = meaning_line row.0 row.1

abbrev pub line : Row → List ℕ
line row = line_of_texts (texts_of_row row)

-- a row more
pub rows_more : (rows : List Row) (k : ℕ) (d : Row) → k < length rows
    → lines (texts_of_rows (take (k + 1) rows)) ≡ lines (texts_of_rows (take k rows)) ++ line (get_or rows k d)
rows_more rows k d below =
    flat_map-map line_of_texts texts_of_row (take (k + 1) rows)
    ∙ more line rows k d below
    ∙ ap (λ (l : List ℕ). l ++ line (get_or rows k d)) (sym (flat_map-map line_of_texts texts_of_row (take k rows)))

-- a family more
pub family_more : (families : List Family) (k : ℕ) (d : Family) (old new : List ℕ) → k < length families
    → old ≡ lines (texts_of_families (take k families)) → new ≡ old ++ lines (texts_of_rows (get_or families k d).now)
    → new ≡ lines (texts_of_families (take (k + 1) families))
family_more families k d old new below so_far now =
    let this : List ℕ = lines (texts_of_rows (get_or families k d).now) in
    now
    ∙ ap (λ text. text ++ this) so_far
    ∙ sym (flat_map-append line_of_texts (texts_of_families (take k families)) (texts_of_rows (get_or families k d).now))
    ∙ ap lines (sym (more texts_of_family families k d below))
