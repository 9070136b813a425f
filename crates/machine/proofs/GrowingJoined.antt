-- Further steps of a hart at the end of joined items leave them joined.
use Rattle.std.proofs.Common.{◌≡◌, ◌≢◌, ℕ, zero, suc, ◌+◌, ◌≤◌, List, [], ◌∷◌, ◌++◌, Some, length, slice_set, refl, subst, sym, arith}
use Rattle.std.proofs.lemmas.List.Sums.{sum_by-cons}
use Rattle.std.specs.List.{slice_get}
use Rattle.machine.specs.Grammar.{hart_steps, steps_in}
use Rattle.machine.specs.Joined.{AreApart, AreJoined, HasSteps}
use Rattle.machine.specs.declared.schedule.items.Item.{Item}
use Rattle.machine.specs.declared.schedule.items.Item.TheVariants.{Steps, Evict}
use Rattle.machine.proofs.Growing.{some_is}

apart_still : (item : Item) (h count others : ℕ) → AreApart item (Steps h count) → AreApart item (Steps h others)
apart_still (Steps hart more) h count others apart = apart
apart_still (Evict line) h count others apart = tt

-- the last item has them too
pub more_joined : (items : List Item) (end h count others : ℕ) → slice_get items end ≡ Some (Steps h count) → length items ≡ end + 1
    → AreJoined items → AreJoined (slice_set items end (Steps h (count + others)))
more_joined [] end h count others last ends all = absurd (omega (arith, ends))
more_joined (item ∷ []) zero h count others last ends all =
    let some : HasSteps (Steps h count) = subst HasSteps (some_is item (Steps h count) last) all in omega (arith, some)
more_joined (item ∷ []) (suc end) h count others last ends all = absurd (omega (arith, ends))
more_joined (item ∷ next ∷ rest) zero h count others last ends all = absurd (omega (arith, ends))
more_joined (item ∷ next ∷ []) (suc zero) h count others last ends all =
    let is : next ≡ Steps h count = some_is next (Steps h count) last in
    let some : HasSteps (Steps h count) = subst HasSteps is all.2 in
    (all.0, apart_still item h count (count + others) (subst (AreApart item) is all.1), omega (arith, some))
more_joined (item ∷ next ∷ []) (suc (suc end)) h count others last ends all = absurd (omega (arith, ends))
more_joined (item ∷ next ∷ more ∷ rest) (suc zero) h count others last ends all = absurd (omega (arith, ends))
more_joined (item ∷ next ∷ more ∷ rest) (suc (suc end)) h count others last ends all =
    (all.0, all.1, more_joined (next ∷ more ∷ rest) (suc end) h count others last (omega (arith, ends)) all.2)

-- the first steps of a hart after an item that isn't steps of it
first_joined : (items : List Item) (end h count : ℕ) (last : Item) → slice_get items end ≡ Some last → length items ≡ end + 1 → 1 ≤ count
    → AreApart last (Steps h count) → AreJoined items → AreJoined (items ++ Steps h count ∷ [])
first_joined [] end h count last at ends some apart all = absurd (omega (arith, ends))
first_joined (item ∷ []) zero h count last at ends some apart all =
    (all, subst (λ i. AreApart i (Steps h count)) (sym (some_is item last at)) apart, some)
first_joined (item ∷ []) (suc end) h count last at ends some apart all = absurd (omega (arith, ends))
first_joined (item ∷ next ∷ rest) zero h count last at ends some apart all = absurd (omega (arith, ends))
first_joined (item ∷ next ∷ rest) (suc end) h count last at ends some apart all =
    (all.0, all.1, first_joined (next ∷ rest) end h count last at (omega (arith, ends)) some apart all.2)

pub after_steps : (items : List Item) (end h hart count before : ℕ) → slice_get items end ≡ Some (Steps hart before) → length items ≡ end + 1
    → 1 ≤ count → hart ≢ h → AreJoined items → AreJoined (items ++ Steps h count ∷ [])
after_steps items end h hart count before at ends some other = first_joined items end h count (Steps hart before) at ends some other

apart_other : (item : Item) (h count : ℕ) → ((hart before : ℕ) → item ≡ Steps hart before → ⊥) → AreApart item (Steps h count)
apart_other (Steps hart before) h count other = absurd (other hart before refl)
apart_other (Evict line) h count other = tt

pub after_eviction : (items : List Item) (end h count : ℕ) (item : Item) → slice_get items end ≡ Some item → length items ≡ end + 1
    → 1 ≤ count → ((hart before : ℕ) → item ≡ Steps hart before → ⊥) → AreJoined items → AreJoined (items ++ Steps h count ∷ [])
after_eviction items end h count item at ends some other = first_joined items end h count item at ends some (apart_other item h count other)

pub at_front : (items : List Item) (h count : ℕ) → length items ≤ 0 → 1 ≤ count → AreJoined (items ++ Steps h count ∷ [])
at_front [] h count none some = some
at_front (item ∷ items) h count none some = absurd (omega (arith, none))

-- an item has no more steps than all of them
pub within_all : (items : List Item) (end h count : ℕ) → slice_get items end ≡ Some (Steps h count) → count ≤ hart_steps items
within_all [] end h count at = absurd cc
within_all (item ∷ items) zero h count at =
    rw (sum_by-cons steps_in item items, some_is item (Steps h count) at) (omega arith)
within_all (item ∷ items) (suc end) h count at =
    rw (sum_by-cons steps_in item items) (omega (arith, within_all items end h count at))
