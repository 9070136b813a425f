-- How the cuts of a moment are named: by their number, or by the lines that stand above their floor.
use Rattle.std.specs.Prelude.{◌≡◌, ℕ, ◌+◌, ◌-◌, ◌*◌, ◌==◌, ◌<◌, ◌≤◌, ◌⊎◌, nat_lt, List, [], ◌∷◌, if◌then◌else◌, map, slice_index, slice_index_or, All, Contains}
use Rattle.std.specs.List.{filter}
use Rattle.store_trace.specs.Cut.{IsCut, cut_count, cuts, numbered, stored_lines}
use Rattle.store_trace.specs.Floor.{floor}
use Rattle.store_trace.specs.Stores.{stores}
use Rattle.store_trace.specs.declared.crash_model.step.PersistenceStep.{PersistenceStep}
use Rattle.text.specs.declared.image_name.name.ImageName.{ImageName}
use Rattle.text.specs.declared.image_name.name.ImageName.TheVariants.{Number, Cut}
use Rattle.crash_image.specs.Bounds.{product_of}
use Rattle.crash_image.specs.declared.bounds.LineBounds.{LineBounds}

-- the number that a table gives line l, and the line's low one where the table has 0 there
abbrev pub number_over : (ℕ → ℕ) → List ℕ → ℕ → ℕ
number_over low table l = if slice_index table l == 0 then low l else slice_index table l

-- where the table has a number, it lies from the line's floor to its stores
abbrev pub IsTable : List PersistenceStep → List ℕ → Type 0
IsTable p table = (l : ℕ) →
    (slice_index table l ≡ 0) ⊎ ((floor l p ≤ slice_index table l) × (slice_index table l ≤ stores l p))

-- the cut in which the lines have the numbers of the table, and else stand at their floors
abbrev pub cut_over : List PersistenceStep → List ℕ → List (ℕ × ℕ)
cut_over p table = numbered (number_over (λ l. floor l p) table) (stored_lines p)

-- the lines of a cut that stand above their floor
abbrev pub raised : List PersistenceStep → List (ℕ × ℕ) → List (ℕ × ℕ)
raised p cut = filter (λ entry. nat_lt (floor entry.0 p) entry.1) cut

-- the number that the lines give line l, and else this one
abbrev pub number_or : List (ℕ × ℕ) → ℕ → ℕ → ℕ
number_or [] l low = low
number_or (entry ∷ lines) l low = if entry.0 == l then entry.1 else number_or lines l low

-- the cut in which these lines have these numbers, and the others stand at their floors
abbrev pub named_cut : List PersistenceStep → List (ℕ × ℕ) → List (ℕ × ℕ)
named_cut p lines = numbered (λ l. number_or lines l (floor l p)) (stored_lines p)

-- each of these lines has a store
abbrev pub HasLinesOf : List PersistenceStep → List (ℕ × ℕ) → Type 0
HasLinesOf p lines = All (λ line. Contains (stored_lines p) line.0) lines

-- The cut has this name. A number names it where there are at most 65,536 cuts.
abbrev pub IsNamed : List PersistenceStep → ImageName → List (ℕ × ℕ) → Type 0
IsNamed p (Number n) cut = (cut_count p ≤ 65536) × (n < cut_count p) × (cut ≡ slice_index_or (cuts p) n [])
IsNamed p (Cut lines) cut = IsCut p cut × (cut ≡ named_cut p lines) × HasLinesOf p lines

-- The name that is told of the cut. Its lines are told where it has no number.
abbrev pub IsNameOf : List PersistenceStep → List (ℕ × ℕ) → ImageName → Type 0
IsNameOf p cut (Number n) = (cut_count p ≤ 65536) × (n < cut_count p) × (cut ≡ slice_index_or (cuts p) n [])
IsNameOf p cut (Cut lines) = (65536 < cut_count p) × (lines ≡ raised p cut)

-- the entries with the numbers of these lines
abbrev pub renumbered : List (ℕ × ℕ) → List (ℕ × ℕ) → List (ℕ × ℕ)
renumbered lines entries = map (λ entry. (entry.0, number_or lines entry.0 entry.1)) entries

-- the number of a choice for lines with these bounds, the highest line varying fastest
abbrev pub number_from : List LineBounds → List (ℕ × ℕ) → ℕ
number_from [] entries = 0
number_from (b ∷ bs) [] = 0
number_from (b ∷ bs) (entry ∷ entries) = (entry.1 - b.floor) * product_of bs + number_from bs entries

-- the entries that stand above their line's floor
abbrev pub raised_from : List LineBounds → List (ℕ × ℕ) → List (ℕ × ℕ)
raised_from [] entries = []
raised_from (b ∷ bs) [] = []
raised_from (b ∷ bs) (entry ∷ entries) =
    if nat_lt b.floor entry.1 then entry ∷ raised_from bs entries else raised_from bs entries
