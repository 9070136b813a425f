-- Cuts: what a power cut may leave, as a number for each line, and how they are numbered.
use Rattle.std.specs.Prelude.{◌≡◌, ℕ, zero, suc, ◌+◌, ◌-◌, ◌*◌, ◌<◌, ◌≤◌, ◌==◌, nat_lt, ◌⊎◌, List, [], ◌∷◌, ◌++◌, if◌then◌else◌, map, All}
use Rattle.store_trace.specs.Floor.{floor}
use Rattle.store_trace.specs.Image.{image}
use Rattle.store_trace.specs.Stores.{stores}
use Rattle.store_trace.specs.declared.crash_model.step.PersistenceStep.{PersistenceStep}
use Rattle.store_trace.specs.declared.crash_model.step.PersistenceStep.TheVariants.{Store, Clean, Fence, Evict}

-- the lines, upwards, with line m among them
abbrev pub with_line : ℕ → List ℕ → List ℕ
with_line m [] = m ∷ []
with_line m (l ∷ ls) = if nat_lt m l then m ∷ (l ∷ ls) else (if m == l then l ∷ ls else l ∷ with_line m ls)

-- the lines that have a store, upwards, each once
abbrev pub stored_lines : List PersistenceStep → List ℕ
stored_lines [] = []
stored_lines (Store m offset width value ∷ p) = with_line m (stored_lines p)
stored_lines (Clean h m ∷ p) = stored_lines p
stored_lines (Fence h ∷ p) = stored_lines p
stored_lines (Evict m ∷ p) = stored_lines p

-- each line stands between its floor and its number of stores (so an unstored line stands at 0)
pub record IsWithin (p : List PersistenceStep) (k : ℕ → ℕ) : Type 0 where
  pub low : (l : ℕ) → floor l p ≤ k l
  pub high : (l : ℕ) → k l ≤ stores l p

-- A cut is the list of the stored lines, upwards, each with its number, from its floor to its number of stores.
pub record IsCut (p : List PersistenceStep) (cut : List (ℕ × ℕ)) : Type 0 where
  pub lines : map (λ entry. entry.0) cut ≡ stored_lines p
  pub low : All (λ entry. floor entry.0 p ≤ entry.1) cut
  pub high : All (λ entry. entry.1 ≤ stores entry.0 p) cut

-- the number that a cut gives to line l, and 0 for a line that it doesn't have
abbrev pub number_in : List (ℕ × ℕ) → ℕ → ℕ
number_in [] l = 0
number_in (entry ∷ cut) l = if entry.0 == l then entry.1 else number_in cut l

-- these lines with the numbers that `k` gives them
abbrev pub numbered : (ℕ → ℕ) → List ℕ → List (ℕ × ℕ)
numbered k ls = map (λ l. (l, k l)) ls

-- the medium is the image of a cut
pub record IsCutImage (start : List (List ℕ)) (p : List PersistenceStep) (medium : List (List ℕ)) : Type 0 where
  pub cut : List (ℕ × ℕ)
  pub bounds : IsCut p cut
  pub bytes : medium ≡ image start (number_in cut) p

-- the lexicographic order of two cuts of the same lines, the lowest line first
abbrev pub IsBefore : List (ℕ × ℕ) → List (ℕ × ℕ) → Type 0
IsBefore [] d = ⊥
IsBefore (x ∷ c) [] = ⊥
IsBefore (x ∷ c) (y ∷ d) = (x.1 < y.1) ⊎ ((x.1 ≡ y.1) × IsBefore c d)

-- cuts of further lines, each with line l in front at each of the `many` numbers from `low` upwards
abbrev pub choices : ℕ → ℕ → ℕ → List (List (ℕ × ℕ)) → List (List (ℕ × ℕ))
choices l low zero rest = []
choices l low (suc many) rest = map (λ cut. (l, low) ∷ cut) rest ++ choices l (low + 1) many rest

-- how many numbers line l can stand at
abbrev pub width_of : List PersistenceStep → ℕ → ℕ
width_of p l = stores l p - floor l p + 1

-- all cuts of these lines: for each number of the first line, upwards, each cut of the others
abbrev pub cuts_of : List PersistenceStep → List ℕ → List (List (ℕ × ℕ))
cuts_of p [] = [] ∷ []
cuts_of p (l ∷ ls) = choices l (floor l p) (width_of p l) (cuts_of p ls)

-- All cuts in their order. The number of a cut is its place in this list, from 0.
abbrev pub cuts : List PersistenceStep → List (List (ℕ × ℕ))
cuts p = cuts_of p (stored_lines p)

-- how many cuts of these lines there are: the product of how many numbers each can stand at
abbrev pub count_of : List PersistenceStep → List ℕ → ℕ
count_of p [] = 1
count_of p (l ∷ ls) = width_of p l * count_of p ls

-- how many cuts there are
abbrev pub cut_count : List PersistenceStep → ℕ
cut_count p = count_of p (stored_lines p)
