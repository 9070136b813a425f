-- Full images: those with all stores.
use Rattle.std.specs.Prelude.{ℕ, List}
use Rattle.store_trace.specs.Stores.{stores}
use Rattle.store_trace.specs.History.{at_moment, history}
use Rattle.store_trace.specs.Image.{image}
use Rattle.store_trace.specs.declared.event.Event.{Event}

-- the cut that has all stores
abbrev pub full_cut : List Event → ℕ → ℕ → ℕ
full_cut events moment l = stores l (at_moment events moment)

-- what loads find of the medium after these events
abbrev pub full_image : List (List ℕ) → List Event → List (List ℕ)
full_image medium events = image medium (λ l. stores l (history events)) (history events)
