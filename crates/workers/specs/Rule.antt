-- The rule of a desk's two words, which holds between any two steps, and what each kind of step tells its seat.
-- Word 0 is the claim word, word 1 the least word.
use Rattle.std.specs.Prelude.{◌≡◌, ℕ, ◌+◌, ◌-◌, ◌^◌, ◌<◌, ◌≤◌, ◌⊎◌, List, [], ◌∷◌, ◌++◌, length, slice_index, All}
use Rattle.std.specs.List.{Contains}
use mathlib.Core.Option.{some}
use lib.ListN.{get_elem?}
use Rattle.atomic_table.specs.Table.{State, Me, Step}
use Rattle.workers.specs.Counts.{weigh, weigh_below, total, HasEachOnce}
use Rattle.workers.specs.Desks.{Sitting, nothing, all_bad, all_claimed, all_found, ended_count}
use Rattle.workers.specs.declared.rule.DeskView.{DeskView}

-- a view of so many seats that have had nothing; one of none is what a joining leaves
abbrev pub newcomer : ℕ → ℕ → DeskView
newcomer parts moments = record { parts = parts; moments = moments; claimed = []; ended = 0; bad = []; found = [] }

abbrev pub with_claim : DeskView → ℕ → DeskView
with_claim v x = record { parts = v.parts; moments = v.moments; claimed = v.claimed ++ x ∷ []; ended = v.ended; bad = v.bad; found = v.found }

abbrev pub with_end : DeskView → DeskView
with_end v = record { parts = v.parts; moments = v.moments; claimed = v.claimed; ended = v.ended + 1; bad = v.bad; found = v.found }

abbrev pub with_bad : DeskView → ℕ → DeskView
with_bad v x = record { parts = v.parts; moments = v.moments; claimed = v.claimed; ended = v.ended; bad = v.bad ++ x ∷ []; found = v.found }

abbrev pub with_found : DeskView → ℕ → DeskView
with_found v x = record { parts = v.parts; moments = v.moments; claimed = v.claimed; ended = v.ended; bad = v.bad; found = v.found ++ x ∷ [] }

-- two views in one
abbrev pub together : DeskView → DeskView → DeskView
together v w = record { parts = v.parts + w.parts; moments = w.moments; claimed = v.claimed ++ w.claimed; ended = v.ended + w.ended; bad = v.bad ++ w.bad; found = v.found ++ w.found }

-- a seat less, and that seat
abbrev pub without_part : DeskView → DeskView
without_part v = record { parts = v.parts - 1; moments = v.moments; claimed = v.claimed; ended = v.ended; bad = v.bad; found = v.found }

abbrev pub one_part : DeskView → DeskView
one_part v = newcomer 1 v.moments

-- what holds of each view at a desk of n moments, where the least word holds this
pub record Fits (n least : ℕ) (v : DeskView) : Type 0 where
  pub idle : v.parts ≡ 0 → (v.claimed ≡ []) × (v.bad ≡ []) × (v.found ≡ [])
  pub knows : 0 < v.parts → v.moments ≡ n
  pub ends : v.ended ≤ v.parts
  pub reported : All (λ b. (least ≤ b) × (b < 2 ^ 32)) v.bad
  pub looked : All (λ x. least ≤ x) v.found

-- the least word is a moment that a view reported bad, or says that there is none
abbrev pub IsReported : ℕ → List DeskView → Type 0
IsReported least views = (least ≡ nothing) ⊎ ((seat : ℕ) × (v : DeskView) × (get_elem? views seat ≡ some v) × Contains v.bad least)

-- the rule: `given` of n moments were given out
pub record Kept {S : Type 0} (n workers : ℕ) (s : State S DeskView) : Type 0 where
  pub given : ℕ
  pub within : given ≤ n
  pub over : slice_index s.words 0 ≡ given + total (λ v. v.ended) s.views
  pub full : 0 < total (λ v. v.ended) s.views → given ≡ n
  pub once : (h : ℕ → ℕ) → total (λ v. weigh h v.claimed) s.views ≡ weigh_below h given
  pub parts : total (λ v. v.parts) s.views ≡ workers
  pub wide : length s.words ≡ 2
  pub fits : (seat : ℕ) (v : DeskView) → get_elem? s.views seat ≡ some v → Fits n (slice_index s.words 1) v
  pub least : IsReported (slice_index s.words 1) s.views

-- what the two words hold at the end, where this is the view of all seats in one
pub record Closes (n : ℕ) (v : DeskView) (claims word : ℕ) : Type 0 where
  pub given : ℕ
  pub within : given ≤ n
  pub over : claims ≡ given + v.ended
  pub full : 0 < v.ended → given ≡ n
  pub once : HasEachOnce v.claimed given
  pub reported : All (λ b. (word ≤ b) × (b < 2 ^ 32)) v.bad
  pub looked : All (λ x. word ≤ x) v.found
  pub least : (word ≡ nothing) ⊎ Contains v.bad word

module _ {S : Type 0} where
  -- a number below the number of moments is a claim, and is no less than the claims that the seat had; another is its None
  abbrev pub Claims : Step S → Me S DeskView → ℕ → Me S DeskView → Type 0
  Claims s v number w = (w.1 ≡ v.1) × (number < v.0.moments → (w.0 ≡ with_claim v.0 number)) × (v.0.moments ≤ number → w.0 ≡ with_end v.0) × (number < v.0.moments → length v.0.claimed ≤ number)

  -- the value found joins those that the seat has found
  abbrev pub Looks : Step S → Me S DeskView → ℕ → Me S DeskView → Type 0
  Looks s v word w = (w.1 ≡ v.1) × (w.0 ≡ with_found v.0 word) × ((word ≡ nothing) ⊎ (word < 2 ^ 32))

  -- the moment joins those that the seat has reported bad
  abbrev pub Reports : Step S → Me S DeskView → ℕ → Me S DeskView → Type 0
  Reports s v word w = (w.1 ≡ v.1) × (w.0 ≡ with_bad v.0 s.first)

-- this is the view of these seats in one
pub record Gathers (seats : List Sitting) (v : DeskView) : Type 0 where
  pub parts : v.parts ≡ length seats
  pub claimed : v.claimed ≡ all_claimed seats
  pub ended : v.ended ≡ ended_count seats
  pub bad : v.bad ≡ all_bad seats
  pub found : v.found ≡ all_found seats
