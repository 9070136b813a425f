-- The rule of the stop word, which holds between any two steps, and what each kind of step tells its seat.
use Rattle.std.specs.Prelude.{◌≡◌, ℕ, ◌+◌, ◌-◌, ◌==◌, ◌||◌, ◌⊎◌, Bool, true, false, if◌then◌else◌, List, [], ◌∷◌, ◌++◌, length, min, slice_index}
use Rattle.std.specs.List.{Contains, list_any}
use mathlib.Core.Option.{some}
use lib.ListN.{get_elem?}
use Rattle.atomic_table.specs.Table.{State, Me, Step}
use Rattle.workers.specs.Stops.{Sitting, all_found}
use Rattle.workers.specs.declared.stop_word.rule.StopView.{StopView}

-- a view of so many seats that have done nothing; one of none is what a joining leaves
abbrev pub newcomer : ℕ → StopView
newcomer parts = record { parts = parts; raised = false; found = [] }

abbrev pub with_raise : StopView → StopView
with_raise v = record { parts = v.parts; raised = true; found = v.found }

abbrev pub with_look : StopView → Bool → StopView
with_look v found = record { parts = v.parts; raised = v.raised; found = v.found ++ found ∷ [] }

-- two views in one
abbrev pub together : StopView → StopView → StopView
together v w = record { parts = v.parts + w.parts; raised = v.raised || w.raised; found = v.found ++ w.found }

-- a seat less, and that seat
abbrev pub without_part : StopView → StopView
without_part v = record { parts = v.parts - 1; raised = v.raised; found = v.found }

abbrev pub one_part : StopView → StopView
one_part v = newcomer 1

-- f of each, added up
abbrev pub total : {X : Type 0} → (X → ℕ) → List X → ℕ
total f [] = 0
total f (x ∷ xs) = f x + total f xs

-- 1 for a view that raised the word
abbrev pub raises : StopView → ℕ
raises v = if v.raised then 1 else 0

-- what holds of each view, where the word holds this: a view of no seat is empty, and where one saw it raised, it is raised
pub record Fits (word : ℕ) (v : StopView) : Type 0 where
  pub idle : v.parts ≡ 0 → (v.raised ≡ false) × (v.found ≡ [])
  pub seen : Contains v.found true → word ≡ 1

-- the rule: the word is 1 where some view raised it, and else 0
pub record Kept {S : Type 0} (seats : ℕ) (s : State S StopView) : Type 0 where
  pub one_word : length s.words ≡ 1
  pub word : slice_index s.words 0 ≡ min 1 (total raises s.views)
  pub parts : total (λ v. v.parts) s.views ≡ seats
  pub fits : (seat : ℕ) (v : StopView) → get_elem? s.views seat ≡ some v → Fits (slice_index s.words 0) v

module _ {S : Type 0} where
  -- the seat raised the word
  abbrev pub Raises : Step S → Me S StopView → ℕ → Me S StopView → Type 0
  Raises s v word w = (w.1 ≡ v.1) × (w.0 ≡ with_raise v.0)

  -- what was found joins what the seat has found; a seat that raised the word or saw it raised finds it raised
  abbrev pub Looks : Step S → Me S StopView → ℕ → Me S StopView → Type 0
  Looks s v word w = (w.1 ≡ v.1) × (w.0 ≡ with_look v.0 (word == 1)) × ((v.0.raised ≡ true) ⊎ Contains v.0.found true → word ≡ 1)

-- this is the view of these seats in one
pub record Gathers (seats : List Sitting) (v : StopView) : Type 0 where
  pub parts : v.parts ≡ length seats
  pub raised : v.raised ≡ list_any (λ s. s.raised) seats
  pub found : v.found ≡ all_found seats
