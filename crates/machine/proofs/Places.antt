-- The steps on both sides of a place in a schedule.
use Rattle.std.proofs.Common.{◌≡◌, ℕ, zero, suc, ◌+◌, ◌-◌, ◌<◌, ◌≤◌, List, [], ◌∷◌, ◌++◌, length, take, drop, replicate, Some, slice_get, refl, sym, ap, ◌∙◌, arith, append_assoc, add-one, add-zero}
use Rattle.std.proofs.lemmas.List.{append-nil, drop-replicate, get_or-replicate, length-replicate, take-append-drop}
use Rattle.std.proofs.lemmas.Option.{slice_get-get_or, slice_get_within}
use Rattle.std.proofs.Math.Seq.{take-append_seam}
use Rattle.machine.specs.Places.{IsPlaceOf, IsReached, IsStepAt, Leads, steps_after, steps_before, steps_of_item}
use Rattle.machine.specs.Steps.{all_steps, steps_of}
use Rattle.machine.specs.declared.schedule.items.Item.{Item}
use Rattle.machine.specs.declared.schedule.items.Step.{Step}
use Rattle.machine.specs.declared.schedule.place.Place.{Place}

-- from the start of an item on
pub after_start : (items : List Item) (i : ℕ) → steps_after items (record { item = i; steps = 0 }) ≡ all_steps (drop i items)
after_start [] zero = refl
after_start [] (suc i) = refl
after_start (item ∷ items) zero = refl
after_start (item ∷ items) (suc i) = after_start items i

-- no step is behind the last item
pub nothing_after : (items : List Item) (i steps : ℕ) → length items ≤ i → steps_after items (record { item = i; steps = steps }) ≡ []
nothing_after [] i zero past = refl
nothing_after [] i (suc steps) past = refl
nothing_after (item ∷ items) zero steps past = absurd (omega arith)
nothing_after (item ∷ items) (suc i) steps past = nothing_after items i steps (omega arith)

pub all_before : (items : List Item) (i steps : ℕ) → length items ≤ i → steps_before items i steps ≡ all_steps items
all_before [] zero zero past = refl
all_before [] zero (suc steps) past = refl
all_before [] (suc i) zero past = refl
all_before [] (suc i) (suc steps) past = refl
all_before (item ∷ items) zero steps past = absurd (omega arith)
all_before (item ∷ items) (suc i) steps past =
    append_assoc (steps_of item) (all_steps (take i items)) (take steps (steps_of_item (slice_get items i)))
    ∙ ap (λ (l : List Step). steps_of item ++ l) (all_before items i steps (omega arith))

-- the steps on both sides of a place
all_round : (items : List Item) (i steps : ℕ)
    → steps_before items i steps ++ steps_after items (record { item = i; steps = steps }) ≡ all_steps items
all_round [] zero zero = refl
all_round [] zero (suc steps) = refl
all_round [] (suc i) zero = refl
all_round [] (suc i) (suc steps) = refl
all_round (item ∷ items) zero steps =
    sym (append_assoc (take steps (steps_of item)) (drop steps (steps_of item)) (all_steps items))
    ∙ ap (λ (l : List Step). l ++ all_steps items) (take-append-drop steps (steps_of item))
all_round (item ∷ items) (suc i) steps =
    ap (λ (l : List Step). l ++ steps_after items (record { item = i; steps = steps }))
    (append_assoc (steps_of item) (all_steps (take i items)) (take steps (steps_of_item (slice_get items i))))
    ∙ append_assoc (steps_of item) (steps_before items i steps) (steps_after items (record { item = i; steps = steps }))
    ∙ ap (λ (l : List Step). steps_of item ++ l) (all_round items i steps)

-- an item that has steps is one of the schedule's
pub item_inside : (items : List Item) (i steps : ℕ) → steps < length (steps_of_item (slice_get items i)) → i < length items
item_inside [] zero steps inside = absurd (omega arith)
item_inside [] (suc i) steps inside = absurd (omega arith)
item_inside (item ∷ items) zero steps inside = omega arith
item_inside (item ∷ items) (suc i) steps inside = let less = item_inside items i steps inside in omega arith

-- from a place in an item to the start of the next
before_next : (items : List Item) (i steps : ℕ)
    → steps_before items (suc i) 0 ≡ steps_before items i steps ++ drop steps (steps_of_item (slice_get items i))
before_next [] zero zero = refl
before_next [] zero (suc steps) = refl
before_next [] (suc i) zero = refl
before_next [] (suc i) (suc steps) = refl
before_next (item ∷ items) zero steps =
    append-nil (steps_of item ++ []) ∙ append-nil (steps_of item) ∙ sym (take-append-drop steps (steps_of item))
before_next (item ∷ items) (suc i) steps =
    append_assoc (steps_of item) (all_steps (take (suc i) items)) []
    ∙ ap (λ (l : List Step). steps_of item ++ l) (before_next items i steps)
    ∙ sym (append_assoc (steps_of item) (steps_before items i steps) (drop steps (steps_of_item (slice_get items i))))
    ∙ ap (λ (l : List Step). l ++ drop steps (steps_of_item (slice_get items i)))
    (sym (append_assoc (steps_of item) (all_steps (take i items)) (take steps (steps_of_item (slice_get items i)))))

-- from a place to itself, and over a place between
pub leads_self : (items : List Item) (place : Place) → Leads items place place []
leads_self items place = record { before = sym (append-nil (steps_before items place.item place.steps)); after = refl }

pub leads_more : (items : List Item) (from middle place : Place) (first others : List Step) → Leads items from middle first
    → Leads items middle place others → Leads items from place (first ++ others)
leads_more items from middle place first others a b = record {
  before = b.before ∙ ap (λ (l : List Step). l ++ others) a.before ∙ append_assoc (steps_before items from.item from.steps) first others;
  after = a.after ∙ ap (λ (l : List Step). first ++ l) b.after ∙ sym (append_assoc first others (steps_after items place));
}

-- all steps from a place on lead behind the last item
pub leads_all : (items : List Item) (from : Place) (i steps : ℕ) (made : List Step) → length items ≤ i
    → Leads items from (record { item = i; steps = steps }) made → steps_after items from ≡ made
leads_all items from i steps made past leads =
    leads.after ∙ ap (λ (l : List Step). made ++ l) (nothing_after items i steps past) ∙ append-nil made

-- from a place behind the last item
pub leads_end : (items : List Item) (place : Place) → Leads items place (record { item = length items; steps = 0 }) (steps_after items place)
leads_end items place = record {
  before = all_before items (length items) 0 (omega arith) ∙ sym (all_round items place.item place.steps);
  after = sym (append-nil (steps_after items place))
      ∙ ap (λ (l : List Step). steps_after items place ++ l) (sym (nothing_after items (length items) 0 (omega arith)));
}

-- within an item, whose steps are all equal
module _ (items : List Item) (i : ℕ) (step : Step) (count : ℕ) (equal : steps_of_item (slice_get items i) ≡ replicate count step) where
  pub leads_to_next : (steps : ℕ) → Leads items (record { item = i; steps = steps }) (record { item = i + 1; steps = 0 }) (replicate (count - steps) step)
  leads_to_next steps = rw add-one (record {
    before = before_next items i steps
        ∙ ap (λ (l : List Step). steps_before items i steps ++ drop steps l) equal
        ∙ ap (λ (l : List Step). steps_before items i steps ++ l) (drop-replicate steps count step);
    after = ap (λ (l : List Step). drop steps l ++ all_steps (drop (suc i) items)) equal
        ∙ ap (λ (l : List Step). l ++ all_steps (drop (suc i) items)) (drop-replicate steps count step)
        ∙ ap (λ (l : List Step). replicate (count - steps) step ++ l) (sym (after_start items (suc i)));
  })

  -- past the item's last step
  pub leads_past : (from : Place) (steps : ℕ) (made : List Step) → count ≤ steps → Leads items from (record { item = i; steps = steps }) made
      → Leads items from (record { item = i + 1; steps = 0 }) made
  leads_past from steps made past leads =
      let none : count - steps ≡ 0 = omega arith in
      let next : Leads items (record { item = i; steps = steps }) (record { item = i + 1; steps = 0 }) [] = rw none at (leads_to_next steps) in
      rw (← append-nil made) (leads_more items from _ _ made [] leads next)

  pub step_here : (steps : ℕ) → steps < count → IsStepAt items (record { item = i; steps = steps }) step
  step_here steps fits =
      ap (λ (l : List Step). slice_get l steps) equal
      ∙ slice_get-get_or (replicate count step) steps step (rw length-replicate fits)
      ∙ ap (λ (x : Step). Some x) (get_or-replicate count steps step step fits)

-- an item's step is one of the schedule's
pub step_there : (items : List Item) (place : Place) (step : Step) → IsStepAt items place step
    → (place.item < length items) × (place.steps < length (steps_of_item (slice_get items place.item)))
step_there items place step here =
    let inside = slice_get_within (steps_of_item (slice_get items place.item)) place.steps step here in
    (item_inside items place.item place.steps inside, inside)

-- a place at a step is one of the schedule's, and so is the place behind it
pub place_at : (items : List Item) (place : Place) (step : Step) → IsStepAt items place step → IsPlaceOf items place
place_at items place step here = let there = step_there items place step here in record { item = omega arith; steps = omega arith }

pub place_behind : (items : List Item) (place : Place) (step : Step) → IsStepAt items place step
    → IsPlaceOf items (record { item = place.item; steps = place.steps + 1 })
place_behind items place step here = let there = step_there items place step here in record { item = omega arith; steps = omega arith }

-- behind a step
cut_at : (steps : List Step) (n : ℕ) (step : Step) → slice_get steps n ≡ Some step
    → (take (suc n) steps ≡ take n steps ++ step ∷ []) × (drop n steps ≡ step ∷ drop (suc n) steps)
cut_at [] zero step here = absurd (cc)
cut_at [] (suc n) step here = absurd (cc)
cut_at (first ∷ steps) zero step here = let same : first ≡ step = cc in (ap (λ (x : Step). x ∷ []) same, ap (λ (x : Step). x ∷ steps) same)
cut_at (first ∷ steps) (suc n) step here = let cut = cut_at steps n step here in (ap (λ (l : List Step). first ∷ l) cut.0, cut.1)

pub leads_behind : (items : List Item) (place : Place) (step : Step) → IsStepAt items place step
    → Leads items place (record { item = place.item; steps = place.steps + 1 }) (step ∷ [])
leads_behind items place step here =
    let cut = cut_at (steps_of_item (slice_get items place.item)) place.steps step here in
    rw add-one (record {
      before = ap (λ (l : List Step). all_steps (take place.item items) ++ l) cut.0
          ∙ sym (append_assoc (all_steps (take place.item items)) (take place.steps (steps_of_item (slice_get items place.item))) (step ∷ []));
      after = ap (λ (l : List Step). l ++ all_steps (drop (suc place.item) items)) cut.1;
    })

-- behind some of an item's steps, which are all equal
pub leads_several : (items : List Item) (i : ℕ) (step : Step) (count : ℕ) → steps_of_item (slice_get items i) ≡ replicate count step
    → (n steps : ℕ) → steps + n ≤ count
    → Leads items (record { item = i; steps = steps }) (record { item = i; steps = steps + n }) (replicate n step)
leads_several items i step count equal zero steps fits = rw add-zero (leads_self items (record { item = i; steps = steps }))
leads_several items i step count equal (suc n) steps fits =
    let first = leads_behind items (record { item = i; steps = steps }) step (step_here items i step count equal steps (omega arith)) in
    let place : steps + suc n ≡ steps + 1 + n = omega arith in
    rw place (leads_more items _ _ _ (step ∷ []) (replicate n step) first (leads_several items i step count equal n (steps + 1) (omega arith)))

-- the steps between two places by their number
pub reached : (items : List Item) (from place : Place) (steps : List Step) → Leads items from place steps → IsReached items from (length steps) place
reached items from place steps leads =
    let made : take (length steps) (steps_after items from) ≡ steps =
    ap (λ (l : List Step). take (length steps) l) leads.after ∙ take-append_seam steps (steps_after items place) in
    leads.before ∙ ap (λ (l : List Step). steps_before items from.item from.steps ++ l) (sym made)
