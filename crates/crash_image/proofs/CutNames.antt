-- The cuts of a moment by what names them.
use Rattle.std.proofs.Common.{◌≡◌, ℕ, ◌<◌, ◌≤◌, ◌==◌, nat_lt, true, List, [], ◌∷◌, inl, inr, refl, ap, ◌∙◌, sym, subst, arith}
use Rattle.std.specs.Prelude.{All, Contains, map, if◌then◌else◌, slice_index, slice_index_or}
use Rattle.std.proofs.lemmas.Bool.Decides.{nat_tests}
use Rattle.store_trace.proofs.Bounds.{floor_le_stores}
use Rattle.store_trace.proofs.Lines.{cut_from_within}
use Rattle.store_trace.proofs.Radix.{radix_number, radix_number_place}
use Rattle.store_trace.specs.Cut.{IsCut, IsWithin, cut_count, cuts, numbered, stored_lines}
use Rattle.store_trace.specs.Floor.{floor}
use Rattle.store_trace.specs.declared.crash_model.step.PersistenceStep.{PersistenceStep}
use Rattle.crash_image.proofs.Counting.{product_lines, product_stored}
use Rattle.crash_image.specs.Bounds.{bounds_at, product_of, stored_bounds}
use Rattle.crash_image.specs.Named.{HasLinesOf, IsTable, cut_over, named_cut, number_from, number_or, number_over, raised, raised_from, renumbered}
use Rattle.crash_image.specs.declared.bounds.LineBounds.{LineBounds}

-- by a table
over_lines : (p : List PersistenceStep) (table ls : List ℕ) →
    map (λ (b : LineBounds). (b.line, number_over (λ l. b.floor) table b.line)) (map (λ l. bounds_at p l) ls)
    ≡ numbered (number_over (λ l. floor l p) table) ls
over_lines p table [] = refl
over_lines p table (l ∷ ls) =
    ap (λ (cut : List (ℕ × ℕ)). (l, number_over (λ m. floor m p) table l) ∷ cut) (over_lines p table ls)

table_within : (p : List PersistenceStep) (table : List ℕ) → IsTable p table → IsWithin p (number_over (λ l. floor l p) table)
table_within p table t = record {
  low = λ l. elim (t l) [
    | inl none ↦ let e : (slice_index table l == 0) ≡ true = grind (arith, nat_tests, none) in rw e (omega arith)
    | inr some ↦ grind (arith, nat_tests, some.0)
  ];
  high = λ l. elim (t l) [
    | inl none ↦ let e : (slice_index table l == 0) ≡ true = grind (arith, nat_tests, none) in rw e (floor_le_stores l p)
    | inr some ↦ grind (arith, nat_tests, some.1, floor_le_stores l p)
  ];
}

pub over_cut : (p : List PersistenceStep) (table : List ℕ) (bs : List LineBounds) (entries : List (ℕ × ℕ)) → IsTable p table →
    bs ≡ stored_bounds p → entries ≡ map (λ (b : LineBounds). (b.line, number_over (λ l. b.floor) table b.line)) bs →
    (entries ≡ cut_over p table) × IsCut p entries
over_cut p table bs entries t b e =
    let same : entries ≡ cut_over p table =
    e ∙ ap (λ (xs : List LineBounds). map (λ (x : LineBounds). (x.line, number_over (λ l. x.floor) table x.line)) xs) b
    ∙ over_lines p table (stored_lines p) in
    (same, subst (λ (cut : List (ℕ × ℕ)). IsCut p cut) (sym same) (cut_from_within p (number_over (λ l. floor l p) table) (table_within p table t)))

-- by its number
number_lines : (p : List PersistenceStep) (cut : List (ℕ × ℕ)) →
    number_from (map (λ l. bounds_at p l) (map (λ entry. entry.0) cut)) cut ≡ radix_number p cut
number_lines p [] = refl
number_lines p (e ∷ cut) = rw (product_lines p (map (λ entry. entry.0) cut), number_lines p cut) refl

pub number_cut : (p : List PersistenceStep) (bs : List LineBounds) (cut : List (ℕ × ℕ)) (n : ℕ) → IsCut p cut →
    bs ≡ stored_bounds p → n ≡ number_from bs cut → (n < cut_count p) × (cut ≡ slice_index_or (cuts p) n [])
number_cut p bs cut n c b e =
    let radix : n ≡ radix_number p cut =
    e ∙ ap (λ (xs : List LineBounds). number_from xs cut) b
    ∙ ap (λ (ls : List ℕ). number_from (map (λ l. bounds_at p l) ls) cut) (sym c.lines)
    ∙ number_lines p cut in
    rw radix ((radix_number_place p cut c).0, sym ((radix_number_place p cut c).1))

-- by the lines above their floor
raised_lines : (p : List PersistenceStep) (cut : List (ℕ × ℕ)) →
    raised_from (map (λ l. bounds_at p l) (map (λ entry. entry.0) cut)) cut ≡ raised p cut
raised_lines p [] = refl
raised_lines p (e ∷ cut) =
    ap (λ (es : List (ℕ × ℕ)). if nat_lt (floor e.0 p) e.1 then e ∷ es else es) (raised_lines p cut)

pub raised_cut : (p : List PersistenceStep) (bs : List LineBounds) (cut lines : List (ℕ × ℕ)) → IsCut p cut →
    bs ≡ stored_bounds p → lines ≡ raised_from bs cut → lines ≡ raised p cut
raised_cut p bs cut lines c b e =
    e ∙ ap (λ (xs : List LineBounds). raised_from xs cut) b
    ∙ ap (λ (ls : List ℕ). raised_from (map (λ l. bounds_at p l) ls) cut) (sym c.lines)
    ∙ raised_lines p cut

renumbered_floors : (p : List PersistenceStep) (lines : List (ℕ × ℕ)) (ls : List ℕ) →
    renumbered lines (map (λ (b : LineBounds). (b.line, b.floor)) (map (λ l. bounds_at p l) ls))
    ≡ numbered (λ l. number_or lines l (floor l p)) ls
renumbered_floors p lines [] = refl
renumbered_floors p lines (l ∷ ls) =
    ap (λ (cut : List (ℕ × ℕ)). (l, number_or lines l (floor l p)) ∷ cut) (renumbered_floors p lines ls)

pub lines_cut : (p : List PersistenceStep) (bs : List LineBounds) (lines floors cut : List (ℕ × ℕ)) → bs ≡ stored_bounds p →
    floors ≡ map (λ (b : LineBounds). (b.line, b.floor)) bs → cut ≡ renumbered lines floors → cut ≡ named_cut p lines
lines_cut p bs lines floors cut b f e =
    e ∙ ap (λ (es : List (ℕ × ℕ)). renumbered lines es)
    (f ∙ ap (λ (xs : List LineBounds). map (λ (x : LineBounds). (x.line, x.floor)) xs) b)
    ∙ renumbered_floors p lines (stored_lines p)

-- the lines that have floors are the stored ones
pub lines_there : (p : List PersistenceStep) (floors slice lines : List (ℕ × ℕ)) → map (λ entry. entry.0) floors ≡ stored_lines p →
    slice ≡ lines → All (λ line. Contains (map (λ entry. entry.0) floors) line.0) slice → HasLinesOf p lines
lines_there p floors slice lines m s all =
    subst (λ (ls : List ℕ). All (λ line. Contains ls line.0) lines) m
    (subst (λ (xs : List (ℕ × ℕ)). All (λ line. Contains (map (λ entry. entry.0) floors) line.0) xs) s all)

pub there_lines : (p : List PersistenceStep) (floors slice lines : List (ℕ × ℕ)) → map (λ entry. entry.0) floors ≡ stored_lines p →
    slice ≡ lines → HasLinesOf p lines → All (λ line. Contains (map (λ entry. entry.0) floors) line.0) slice
there_lines p floors slice lines m s all =
    subst (λ (ls : List ℕ). All (λ line. Contains ls line.0) slice) (sym m)
    (subst (λ (xs : List (ℕ × ℕ)). All (λ line. Contains (stored_lines p) line.0) xs) (sym s) all)

pub few_choices : (p : List PersistenceStep) (bs : List LineBounds) → bs ≡ stored_bounds p → cut_count p ≤ 65536 → product_of bs ≤ 65536
few_choices p bs b few = rw (b, product_stored p) few
