-- Lines that go upwards, and the lines of events among them.
use Rattle.std.specs.Prelude.{◌≡◌, ◌≤◌, ◌+◌, ◌==◌, ℕ, true, List, [], ◌∷◌, insert, length, ⊤}
use Rattle.std.specs.List.{list_any}
use Rattle.store_trace.specs.Cut.{with_line}
use Rattle.store_trace.specs.declared.event.Event.{Event}
use Rattle.store_trace.specs.declared.event.Event.TheVariants.{Store, Clean, Fence, Begin, End}

-- each is above the one before it, and the first at least this one
abbrev pub IsUpwardFrom : ℕ → List ℕ → Type 0
IsUpwardFrom least [] = ⊤
IsUpwardFrom least (line ∷ lines) = (least ≤ line) × IsUpwardFrom (line + 1) lines

abbrev pub IsUpward : List ℕ → Type 0
IsUpward lines = IsUpwardFrom 0 lines

-- the line is among these
abbrev pub Has : List ℕ → ℕ → Type 0
Has lines line = list_any (λ other. other == line) lines ≡ true

-- the line that an event names, if it names one, is among these
abbrev pub NamesOneOf : List ℕ → Event → Type 0
NamesOneOf lines (Store hart line offset width value) = Has lines line
NamesOneOf lines (Clean hart line) = Has lines line
NamesOneOf lines (Fence hart) = ⊤
NamesOneOf lines (Begin hart op) = ⊤
NamesOneOf lines (End hart op) = ⊤

-- the line isn't among these, and this is its place
pub record IsPlaceOf (lines : List ℕ) (line place : ℕ) : Type 0 where
  pub inside : place ≤ length lines
  pub inserts : with_line line lines ≡ insert lines place line
