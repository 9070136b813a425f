-- The search for the least cut with a given image.
use Rattle.std.specs.Prelude.{◌≡◌, ℕ, suc, ◌<◌, ◌≤◌, ◌⊎◌, ◌&&◌, nat_lt, nat_le, Bool, true, false, Option, Some, None, List, [], ◌∷◌, length, if◌then◌else◌, option_map, slice_index_or}
use Rattle.store_trace.specs.Cut.{IsBefore, IsCut, IsCutImage, number_in, numbered, stored_lines}
use Rattle.store_trace.specs.Image.{image, line_after}
use Rattle.store_trace.specs.Stores.{stores}
use Rattle.store_trace.specs.declared.crash_model.step.PersistenceStep.{PersistenceStep}
use Rattle.line_memory.specs.Lines.{line_at}
use Rattle.crash_image.specs.declared.search.Sought.{Sought}

-- the least cut whose image is the medium, or that it is the image of none
abbrev pub IsLeastCut : List (List ℕ) → List PersistenceStep → List (List ℕ) → Option (List (ℕ × ℕ)) → Type 0
IsLeastCut start p medium None = ¬ IsCutImage start p medium
IsLeastCut start p medium (Some cut) =
    IsCut p cut
    × (medium ≡ image start (number_in cut) p)
    × ((other : List (ℕ × ℕ)) → IsCut p other → medium ≡ image start (number_in other) p → (cut ≡ other) ⊎ IsBefore cut other)

-- the least number from `low` to all its stores at which line l has the bytes that are sought, or that there is none
abbrev pub IsLeastNumber : List ℕ → List ℕ → ℕ → ℕ → List PersistenceStep → Option ℕ → Type 0
IsLeastNumber start wanted low l p None = (k : ℕ) → low ≤ k → k ≤ stores l p → ¬ (line_after start l k p ≡ wanted)
IsLeastNumber start wanted low l p (Some n) =
    (low ≤ n) × (n ≤ stores l p) × (line_after start l n p ≡ wanted)
    × ((k : ℕ) → low ≤ k → k < n → ¬ (line_after start l k p ≡ wanted))

-- what is known of line l after these steps, of which there are at most `made`
pub record IsSought (start wanted : List ℕ) (low l made : ℕ) (p : List PersistenceStep) (sought : Sought) : Type 0 where
  pub floor_is : sought.floor ≡ low
  pub stores_is : sought.stores ≡ stores l p
  pub few : sought.stores ≤ made
  pub number_is : IsLeastNumber start wanted low l p sought.number

-- the same of all lines, with the medium after all these stores
pub record AreSought (start wanted : List (List ℕ)) (low : ℕ → ℕ) (made : ℕ) (p : List PersistenceStep) (shown : List (List ℕ)) (all : List Sought) : Type 0 where
  pub lines : length shown ≡ length start
  pub size : length all ≡ length start
  pub shown_is : (l : ℕ) → l < length start → line_at shown l ≡ line_after (line_at start l) l (stores l p) p
  pub each : (l : ℕ) (d : Sought) → l < length start →
      IsSought (line_at start l) (line_at wanted l) (low l) l made p (slice_index_or all l d)

-- a number that was found stays, and else the number of stores is one that fits or doesn't
abbrev pub number_after : Option ℕ → Bool → ℕ → Option ℕ
number_after (Some n) fits k = Some n
number_after None true k = Some k
number_after None false k = None

abbrev pub looked : Bool → Sought → Sought
looked same sought = record sought { number = number_after sought.number (nat_le sought.floor sought.stores && same) sought.stores }

-- a line's found number in front of the others', where it has one; a line without a store has no entry
abbrev pub with_number : ℕ → ℕ → Option ℕ → Option (List (ℕ × ℕ)) → Option (List (ℕ × ℕ))
with_number l stores None rest = None
with_number l stores (Some n) rest = option_map (λ entries. if nat_lt 0 stores then (l, n) ∷ entries else entries) rest

-- the found numbers of these lines, the first of which is line l, where every line has one
abbrev pub chosen_from : ℕ → List Sought → Option (List (ℕ × ℕ))
chosen_from l [] = Some []
chosen_from l (sought ∷ all) = with_number l sought.stores sought.number (chosen_from (suc l) all)

-- the entries give each line its least number
pub record AreLeast (start wanted : List (List ℕ)) (low : ℕ → ℕ) (p : List PersistenceStep) (entries : List (ℕ × ℕ)) : Type 0 where
  pub number : ℕ → ℕ
  pub numbers : entries ≡ numbered number (stored_lines p)
  pub each : (l : ℕ) → l < length start → IsLeastNumber (line_at start l) (line_at wanted l) (low l) l p (Some (number l))
  pub past : (l : ℕ) → length start ≤ l → number l ≡ 0

-- some line has no number
pub record IsNowhere (start wanted : List (List ℕ)) (low : ℕ → ℕ) (p : List PersistenceStep) : Type 0 where
  pub line : ℕ
  pub there : line < length start
  pub nowhere : IsLeastNumber (line_at start line) (line_at wanted line) (low line) line p None

abbrev pub AreNumbers : List (List ℕ) → List (List ℕ) → (ℕ → ℕ) → List PersistenceStep → Option (List (ℕ × ℕ)) → Type 0
AreNumbers start wanted low p None = IsNowhere start wanted low p
AreNumbers start wanted low p (Some entries) = AreLeast start wanted low p entries
