-- What joining items keeps.
use Rattle.std.proofs.Common.{◌≡◌, ◌≢◌, ℕ, ◌+◌, ◌≤◌, Bool, true, false, List, [], ◌∷◌, ◌++◌, replicate, refl, sym, ap, ◌∙◌, subst, arith, eqb, ne_eqb, append_assoc}
use Rattle.std.proofs.lemmas.Bool.Decides.{nat_tests}
use Rattle.std.proofs.lemmas.List.{replicate-append-replicate}
use Rattle.std.proofs.lemmas.List.Sums.{sum_by-cons}
use Rattle.machine.specs.Grammar.{hart_steps, steps_in}
use Rattle.machine.specs.Joined.{AreApart, AreJoined, HasSteps, Joins, item_before, joined, run_before}
use Rattle.machine.specs.Steps.{all_steps, steps_of}
use Rattle.machine.specs.declared.schedule.items.Step.TheVariants.{Hart}
use Rattle.machine.specs.declared.schedule.items.Item.{Item}
use Rattle.machine.specs.declared.schedule.items.Item.TheVariants.{Steps, Evict}

same_number : (m n : ℕ) → eqb m n ≡ true → m ≡ n
same_number m n e = grind (arith, nat_tests)

other_number : (m n : ℕ) → eqb m n ≡ false → m ≢ n
other_number m n e = λ same. grind (arith, nat_tests)

-- how many steps there are
counted_next : (hart count next more : ℕ) (rest : List Item) (t : Bool) → eqb hart next ≡ t
    → hart_steps (run_before hart count (Steps next more ∷ rest)) ≡ count + hart_steps (Steps next more ∷ rest)
counted_next hart count next more rest true same =
    rw (same, sum_by-cons steps_in (Steps hart (count + more)) rest, sum_by-cons steps_in (Steps next more) rest) (omega arith)
counted_next hart count next more rest false other = rw (other, sum_by-cons steps_in (Steps hart count) (Steps next more ∷ rest)) refl

counted_steps : (hart count : ℕ) (items : List Item) → hart_steps (run_before hart count items) ≡ count + hart_steps items
counted_steps hart count [] = sum_by-cons steps_in (Steps hart count) []
counted_steps hart count (Evict line ∷ rest) = sum_by-cons steps_in (Steps hart count) (Evict line ∷ rest)
counted_steps hart count (Steps next more ∷ rest) = counted_next hart count next more rest (eqb hart next) refl

counted_some : (hart count : ℕ) (items : List Item) (t : Bool) → eqb count 0 ≡ t → hart_steps (item_before (Steps hart count) items) ≡ count + hart_steps items
counted_some hart count items true none = rw none (omega (arith, same_number count 0 none))
counted_some hart count items false some = rw some (counted_steps hart count items)

counted : (item : Item) (items : List Item) → hart_steps (item_before item items) ≡ steps_in item + hart_steps items
counted (Steps hart count) items = counted_some hart count items (eqb count 0) refl
counted (Evict line) items = sum_by-cons steps_in (Evict line) items

pub hart_steps-joined : (items : List Item) → hart_steps (joined items) ≡ hart_steps items
hart_steps-joined [] = refl
hart_steps-joined (item ∷ items) =
    counted item (joined items) ∙ rw (hart_steps-joined items, sum_by-cons steps_in item items) refl

-- which steps they are
made_next : (hart count next more : ℕ) (rest : List Item) (t : Bool) → eqb hart next ≡ t
    → all_steps (run_before hart count (Steps next more ∷ rest)) ≡ replicate count (Hart hart) ++ all_steps (Steps next more ∷ rest)
made_next hart count next more rest true same =
    let hart_is : hart ≡ next = same_number hart next same in
    rw (same, ← replicate-append-replicate count more (Hart hart), append_assoc) (rw hart_is refl)
made_next hart count next more rest false other = rw other refl

made_steps : (hart count : ℕ) (items : List Item) → all_steps (run_before hart count items) ≡ replicate count (Hart hart) ++ all_steps items
made_steps hart count [] = refl
made_steps hart count (Evict line ∷ rest) = refl
made_steps hart count (Steps next more ∷ rest) = made_next hart count next more rest (eqb hart next) refl

made_some : (hart count : ℕ) (items : List Item) (t : Bool) → eqb count 0 ≡ t
    → all_steps (item_before (Steps hart count) items) ≡ replicate count (Hart hart) ++ all_steps items
made_some hart count items true none = rw (none, same_number count 0 none) refl
made_some hart count items false some = rw some (made_steps hart count items)

made : (item : Item) (items : List Item) → all_steps (item_before item items) ≡ steps_of item ++ all_steps items
made (Steps hart count) items = made_some hart count items (eqb count 0) refl
made (Evict line) items = refl

all_steps-joined : (items : List Item) → all_steps (joined items) ≡ all_steps items
all_steps-joined [] = refl
all_steps-joined (item ∷ items) = made item (joined items) ∙ ap (λ rest. steps_of item ++ rest) (all_steps-joined items)

-- none is empty, and no neighbours are of one hart
longer : (hart count more : ℕ) (rest : List Item) → AreJoined (Steps hart more ∷ rest) → AreJoined (Steps hart (count + more) ∷ rest)
longer hart count more [] some = omega arith
longer hart count more (Steps next last ∷ rest) all = (omega (arith, all.0), all.1, all.2)
longer hart count more (Evict line ∷ rest) all = (omega (arith, all.0), all.1, all.2)

joins_next : (hart count next more : ℕ) (rest : List Item) (t : Bool) → eqb hart next ≡ t → 1 ≤ count
    → AreJoined (Steps next more ∷ rest) → AreJoined (run_before hart count (Steps next more ∷ rest))
joins_next hart count next more rest true same some all =
    let P : ℕ → Type 0 = λ h. AreJoined (Steps h more ∷ rest) in
    rw same (longer hart count more rest (subst P (sym (same_number hart next same)) all))
joins_next hart count next more rest false other some all = rw other (some, other_number hart next other, all)

joins_steps : (hart count : ℕ) (items : List Item) → 1 ≤ count → AreJoined items → AreJoined (run_before hart count items)
joins_steps hart count [] some all = some
joins_steps hart count (Evict line ∷ rest) some all = (some, tt, all)
joins_steps hart count (Steps next more ∷ rest) some all = joins_next hart count next more rest (eqb hart next) refl some all

joins_some : (hart count : ℕ) (items : List Item) (t : Bool) → eqb count 0 ≡ t → AreJoined items → AreJoined (item_before (Steps hart count) items)
joins_some hart count items true none all = rw none all
joins_some hart count items false some all = rw some (joins_steps hart count items (grind (arith, nat_tests)) all)

joins : (item : Item) (items : List Item) → AreJoined items → AreJoined (item_before item items)
joins (Steps hart count) items all = joins_some hart count items (eqb count 0) refl all
joins (Evict line) [] all = tt
joins (Evict line) (next ∷ rest) all = (tt, tt, all)

are_joined : (items : List Item) → AreJoined (joined items)
are_joined [] = tt
are_joined (item ∷ items) = joins item (joined items) (are_joined items)

-- items that are joined already stay
stays : (first next : Item) (rest : List Item) → HasSteps first → AreApart first next → item_before first (next ∷ rest) ≡ first ∷ next ∷ rest
stays (Evict line) next rest some apart = refl
stays (Steps hart count) (Evict line) rest some apart = rw (ne_eqb count 0 (λ none. omega arith)) refl
stays (Steps hart count) (Steps next more) rest some apart = rw (ne_eqb count 0 (λ none. omega arith), ne_eqb hart next apart) refl

joined_stay : (items : List Item) → AreJoined items → joined items ≡ items
joined_stay [] all = refl
joined_stay (Steps hart count ∷ []) some = rw (ne_eqb count 0 (λ none. omega arith)) refl
joined_stay (Evict line ∷ []) some = refl
joined_stay (first ∷ next ∷ rest) all =
    ap (λ after. item_before first after) (joined_stay (next ∷ rest) all.2) ∙ stays first next rest all.0 all.1

pub joining : (items : List Item) → Joins items (joined items)
joining items = record { steps = all_steps-joined items; parted = are_joined items; kept = λ all. joined_stay items all }
