-- Which items are joined to one.
use Rattle.std.proofs.Common.{◌≡◌, ℕ, ◌+◌, ◌<◌, ◌≤◌, ◌^◌, Bool, true, false, not, suc, eq-eqb, get_or, List, [], ◌∷◌, Some, None, length, take, drop, refl, sym, ap, ◌∙◌, subst, arith, one-add, add-one, add-zero, drop-cons, eqb, position, unwrap_or, length-drop}
use Rattle.std.specs.List.{position_or_len}
use Rattle.std.proofs.lemmas.Bool.Decides.{nat_tests}
use Rattle.std.proofs.lemmas.List.Sums.{passes_at_first, sum_by-cons, sum_by-take-drop}
use Rattle.std.proofs.lemmas.List.{drop_all}
use Rattle.text.proofs.Parting.{ends_at, found, missing, not_true}
use Rattle.machine.specs.Grammar.{hart_steps, steps_in}
use Rattle.machine.specs.Joined.{item_before, joined, run_before}
use Rattle.machine.specs.Runs.{IsFirstJoined, IsFirstBusy, IsRun, continues, is_idle}
use Rattle.machine.specs.declared.schedule.items.Item.{Item}
use Rattle.machine.specs.declared.schedule.items.Item.TheVariants.{Steps, Evict}

abbrev busy_place : List Item → ℕ
busy_place items = position_or_len (λ item. not (is_idle item)) items

abbrev run_end : ℕ → List Item → ℕ
run_end hart items = position_or_len (λ item. not (continues hart item)) items

-- what begins with steps of a hart goes on doing so with further items before it
same_hart_before : (hart count : ℕ) (items : List Item) → (more : ℕ) × (rest : List Item) × (run_before hart count items ≡ Steps hart more ∷ rest)
same_hart_before hart count [] = (count, [], refl)
same_hart_before hart count (Evict line ∷ rest) = (count, Evict line ∷ rest, refl)
same_hart_before hart count (Steps next more ∷ rest) = joins_or_not (eqb hart next) refl where
  joins_or_not : (t : Bool) → eqb hart next ≡ t → (all : ℕ) × (after : List Item) × (run_before hart count (Steps next more ∷ rest) ≡ Steps hart all ∷ after)
  joins_or_not true h = (count + more, rest, rw h refl)
  joins_or_not false h = (count, Steps next more ∷ rest, rw h refl)

-- an item that isn't idle and doesn't go on with a hart's steps stays apart from them
stays_apart : (hart count : ℕ) (item : Item) (items : List Item) → is_idle item ≡ false → continues hart item ≡ false
    → run_before hart count (item_before item items) ≡ Steps hart count ∷ item_before item items
stays_apart hart count (Evict line) items busy other = refl
stays_apart hart count (Steps next more) items busy other =
    let (all, rest, begins) = same_hart_before next more items in
    let differs : eqb hart next ≡ false = grind (arith, nat_tests) in
    rw (busy, begins, differs) refl

abbrev TakesIn : ℕ → List Item → ℕ → Type 0
TakesIn hart items place = (count : ℕ) → run_before hart count (joined items) ≡ Steps hart (count + hart_steps (take place items)) ∷ joined (drop place items)

idle_taken : (hart : ℕ) (item : Item) (items : List Item) (place : ℕ) → is_idle item ≡ true → TakesIn hart items place → TakesIn hart (item ∷ items) (suc place)
idle_taken hart (Steps next more) items place idle takes count =
    let none : more ≡ 0 = grind (arith, nat_tests) in
    rw (idle, takes count, sum_by-cons steps_in (Steps next more) (take place items), none) (ap (λ n. Steps hart n ∷ joined (drop place items)) (omega arith))
idle_taken hart (Evict line) items place idle takes count = absurd cc

steps_taken : (hart more : ℕ) (items : List Item) (place : ℕ) → eqb more 0 ≡ false → TakesIn hart items place → TakesIn hart (Steps hart more ∷ items) (suc place)
steps_taken hart more items place busy takes count =
    rw (busy, takes more, eq-eqb hart hart refl, sum_by-cons steps_in (Steps hart more) (take place items)) (ap (λ n. Steps hart n ∷ joined (drop place items)) (omega arith))

busy_taken : (hart : ℕ) (item : Item) (items : List Item) (place : ℕ) → continues hart item ≡ true → is_idle item ≡ false
    → TakesIn hart items place → TakesIn hart (item ∷ items) (suc place)
busy_taken hart (Steps next more) items place goes_on busy takes =
    let same : next ≡ hart = grind (arith, nat_tests) in
    let P : ℕ → Type 0 = λ h. TakesIn hart (Steps h more ∷ items) (suc place) in
    subst P (sym same) (steps_taken hart more items place busy takes)
busy_taken hart (Evict line) items place goes_on busy takes = absurd cc

idle_continues : (hart : ℕ) (item : Item) → is_idle item ≡ true → continues hart item ≡ false → ⊥
idle_continues hart (Steps next more) idle other = grind (arith, nat_tests)
idle_continues hart (Evict line) idle other = cc

run_step : (hart : ℕ) (item : Item) (items : List Item) (t u : Bool) → continues hart item ≡ t → is_idle item ≡ u
    → TakesIn hart items (run_end hart items) → TakesIn hart (item ∷ items) (run_end hart (item ∷ items))
run_step hart item items false false other busy takes count =
    rw (other, add-zero) (stays_apart hart count item (joined items) busy other)
run_step hart item items false true other idle takes count = absurd (idle_continues hart item idle other)
run_step hart item items true true goes_on idle takes count = rw (goes_on, one-add) (idle_taken hart item items (run_end hart items) idle takes count)
run_step hart item items true false goes_on busy takes count = rw (goes_on, one-add) (busy_taken hart item items (run_end hart items) goes_on busy takes count)

run_taken : (hart : ℕ) (items : List Item) → TakesIn hart items (run_end hart items)
run_taken hart [] = λ count. rw add-zero refl
run_taken hart (item ∷ items) = run_step hart item items (continues hart item) (is_idle item) refl refl (run_taken hart items)

pub run_joined : (hart : ℕ) (items : List Item) (place : ℕ) → place ≡ unwrap_or (position (λ item. not (continues hart item)) items) (length items)
    → IsRun hart items (take place items) (drop place items)
run_joined hart items place e =
    let same : place ≡ run_end hart items = e ∙ ends_at (λ item. not (continues hart item)) items in
    record {
      taken = λ count. rw same (run_taken hart items count);
      steps = sum_by-take-drop steps_in items place;
      shorter = omega (arith, length-drop place items);
    }

idle_more : (item : Item) (items : List Item) (t : Bool) → is_idle item ≡ t → joined items ≡ joined (drop (busy_place items) items)
    → joined (item ∷ items) ≡ joined (drop (busy_place (item ∷ items)) (item ∷ items))
idle_more item items false busy ih = rw busy refl
idle_more (Steps hart count) items true idle ih = rw (idle, one-add) ih
idle_more (Evict line) items true idle ih = absurd cc

idle_dropped : (items : List Item) → joined items ≡ joined (drop (busy_place items) items)
idle_dropped [] = refl
idle_dropped (item ∷ items) = idle_more item items (is_idle item) refl (idle_dropped items)

pub nothing_busy : (items : List Item) → position (λ item. not (is_idle item)) items ≡ None → joined items ≡ []
nothing_busy items none =
    let whole : busy_place items ≡ length items = missing (λ item. not (is_idle item)) items none in
    idle_dropped items ∙ rw (whole, drop_all (length items) items (omega arith)) refl

pub busy_found : (items : List Item) (start : ℕ) (default : Item) → position (λ item. not (is_idle item)) items ≡ Some start
    → IsFirstBusy items (get_or items start default) (drop (start + 1) items)
busy_found items start default e =
    let (same, inside) = found (λ item. not (is_idle item)) items start e in
    let item : Item = get_or items start default in
    let rest : drop start items ≡ get_or items start default ∷ drop (start + 1) items = rw (add-one, drop-cons items start default inside) refl in
    record {
      same = idle_dropped items ∙ rw (← same, rest) refl;
      busy = not_true (is_idle item) (rw same (passes_at_first (λ i. not (is_idle i)) items default (omega arith)));
      steps = omega (arith, sum_by-take-drop steps_in items start, ap hart_steps rest ∙ sum_by-cons steps_in item (drop (start + 1) items));
      shorter = omega (arith, length-drop (start + 1) items);
    }

pub eviction_first : (items after : List Item) (line : ℕ) → IsFirstBusy items (Evict line) after
    → hart_steps items < 2 ^ 32 → line < 2 ^ 32 → IsFirstJoined items (Evict line) after
eviction_first items after line busy within small = record {
  first = busy.same;
  writable = small;
  within = omega (arith, busy.steps);
  shorter = busy.shorter;
}

pub steps_first : (items after run rest : List Item) (hart count : ℕ) → IsFirstBusy items (Steps hart count) after
    → IsRun hart after run rest → hart_steps items < 2 ^ 32 → hart < 2 ^ 32
    → IsFirstJoined items (Steps hart (count + hart_steps run)) rest
steps_first items after run rest hart count busy taken within small =
    let some : eqb count 0 ≡ false = busy.busy in
    let counted : 1 ≤ count = grind (arith, nat_tests) in
    record {
      first = busy.same ∙ rw some (taken.taken count);
      writable = (small, omega (arith, busy.steps, taken.steps), omega arith);
      within = omega (arith, busy.steps, taken.steps);
      shorter = omega (arith, busy.shorter, taken.shorter);
    }
