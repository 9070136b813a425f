-- Walks through a schedule, joined from parts.
use Rattle.std.proofs.Common.{◌≡◌, ◌++◌, ℕ, ◌+◌, ◌<◌, ◌≤◌, List, [], ◌∷◌, length, replicate, slice_get}
use Rattle.machine.specs.Places.{steps_after, steps_of_item}
use Rattle.machine.specs.Walks.{Comes, HaltsAt}
use Rattle.machine.specs.declared.schedule.items.Item.{Item}
use Rattle.machine.specs.declared.schedule.items.Step.{Step}
use Rattle.machine.specs.declared.schedule.place.Place.{Place}
use Rattle.machine.proofs.Places.{leads_all, leads_more, leads_past, leads_self, leads_behind, leads_several, step_here}

module _ {S : Type 0} (makes : S → List Step → S → Type 0) (no_step : (s : S) → makes s [] s)
    (more_steps : (old middle new : S) (first others : List Step) → makes old first middle → makes middle others new → makes old (first ++ others) new) where
  pub comes_self : (s : S) (items : List Item) (place : Place) → Comes makes s s items place place
  comes_self s items place = record { steps = []; leads = leads_self items place; made = no_step s }

  pub comes_more : (old middle new : S) (items : List Item) (from there place : Place) → Comes makes old middle items from there
      → Comes makes middle new items there place → Comes makes old new items from place
  comes_more old middle new items from there place a b = record {
    steps = a.steps ++ b.steps;
    leads = leads_more items from there place a.steps b.steps a.leads b.leads;
    made = more_steps old middle new a.steps b.steps a.made b.made;
  }

  pub halts_more : {H : Type 0} (halts : S → Step → S → H → Type 0) (old middle new : S) (items : List Item) (from there place : Place) (halt : H)
      → Comes makes old middle items from there → HaltsAt makes halts middle new items there place halt → HaltsAt makes halts old new items from place halt
  halts_more halts old middle new items from there place halt a b = record {
    middle = b.middle;
    step = b.step;
    before = comes_more old middle b.middle items from there place a b.before;
    here = b.here;
    halted = b.halted;
  }

  pub comes_all : (old new : S) (items : List Item) (from : Place) (i steps : ℕ) → length items ≤ i
      → Comes makes old new items from (record { item = i; steps = steps }) → makes old (steps_after items from) new
  comes_all old new items from i steps past a = rw (leads_all items from i steps a.steps past a.leads) a.made

  pub comes_past : (old new : S) (items : List Item) (from : Place) (i : ℕ) (step : Step) (count steps : ℕ)
      → steps_of_item (slice_get items i) ≡ replicate count step → count ≤ steps
      → Comes makes old new items from (record { item = i; steps = steps }) → Comes makes old new items from (record { item = i + 1; steps = 0 })
  comes_past old new items from i step count steps equal past come =
      record { steps = come.steps; leads = leads_past items i step count equal from steps come.steps past come.leads; made = come.made }

  -- within an item, whose steps are all equal
  module _ (old middle new : S) (items : List Item) (from : Place) (i : ℕ) (step : Step) (count steps : ℕ)
      (equal : steps_of_item (slice_get items i) ≡ replicate count step)
      (come : Comes makes old middle items from (record { item = i; steps = steps })) where
    pub comes_on : (n : ℕ) → steps + n ≤ count → makes middle (replicate n step) new → Comes makes old new items from (record { item = i; steps = steps + n })
    comes_on n fits made = comes_more old middle new items from _ _ come
        (record { steps = replicate n step; leads = leads_several items i step count equal n steps fits; made = made })

    pub comes_one : steps < count → makes middle (step ∷ []) new → Comes makes old new items from (record { item = i; steps = steps + 1 })
    comes_one fits made = comes_more old middle new items from _ _ come
        (record { steps = step ∷ []; leads = leads_behind items _ step (step_here items i step count equal steps fits); made = made })

    pub halts_here : {H : Type 0} (halts : S → Step → S → H → Type 0) (halt : H) → steps < count → halts middle step new halt
        → HaltsAt makes halts old new items from (record { item = i; steps = steps }) halt
    halts_here halts halt fits halted =
        record { middle = middle; step = step; before = come; here = step_here items i step count equal steps fits; halted = halted }
