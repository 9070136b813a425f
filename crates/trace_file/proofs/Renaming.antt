-- Lines by other names in the same order: stores, floors, cuts and images are the same up to the names.
use Rattle.std.proofs.Common.{◌≡◌, ℕ, zero, suc, ◌+◌, ◌-◌, ◌<◌, Bool, true, false, List, [], ◌∷◌, ◌++◌, map, reverse, length, get_or, refl, sym, ap, ◌∙◌, subst, arith, eqb, ltb, inl, inr}
use Rattle.std.specs.Prelude.{All, slice_index}
use Rattle.std.specs.List.{AllByRecursion, flat_map}
use Rattle.std.specs.List.Sorted.{IsStrictlyIncreasing}
use Rattle.std.proofs.lemmas.Bool.{cases_order, eq-eqb, le-ltb, lt-ltb, ne_eqb}
use Rattle.std.proofs.lemmas.List.{map-append, reverse-append}
use Rattle.std.proofs.lemmas.List.Elements.{recursion_from_All}
use Rattle.store_trace.specs.Cut.{choices, cuts, cuts_of, stored_lines, width_of, with_line}
use Rattle.store_trace.specs.Floor.{cleaned, floor}
use Rattle.store_trace.specs.History.{history, steps_of}
use Rattle.store_trace.specs.Image.{line_after}
use Rattle.store_trace.specs.Stores.{stores}
use Rattle.store_trace.specs.TraceView.{NamesLine}
use Rattle.store_trace.specs.declared.crash_model.step.PersistenceStep.{PersistenceStep}
use Rattle.store_trace.specs.declared.crash_model.step.PersistenceStep.TheVariants as step
use Rattle.store_trace.specs.declared.event.Event.{Event}
use Rattle.store_trace.specs.declared.event.Event.TheVariants.{Store, Clean, Fence, Begin, End}
use Rattle.trace_file.specs.Ranks.{named}
use Rattle.trace_file.specs.Renamed.{named_entry}

-- names that rise below n
abbrev Rises : (ℕ → ℕ) → ℕ → Type 0
Rises f n = (a b : ℕ) → a < n → b < n → a < b → f a < f b

same_less : (f : ℕ → ℕ) (n a b : ℕ) → Rises f n → a < n → b < n → ltb (f a) (f b) ≡ ltb a b
same_less f n a b up low high = elim (cases_order a b) [
  | inl same ↦ ap (λ (x : ℕ). ltb (f a) (f x)) (sym same) ∙ le-ltb (f a) (f a) (omega arith) ∙ sym (le-ltb a b (omega arith))
  | inr other ↦ elim other [
    | inl less ↦ lt-ltb (f a) (f b) (up a b low high less) ∙ sym (lt-ltb a b less)
    | inr more ↦ le-ltb (f a) (f b) (omega (arith, up b a high low more)) ∙ sym (le-ltb a b (omega arith))
  ]
]

same_equal : (f : ℕ → ℕ) (n a b : ℕ) → Rises f n → a < n → b < n → eqb (f a) (f b) ≡ eqb a b
same_equal f n a b up low high = elim (cases_order a b) [
  | inl same ↦ eq-eqb (f a) (f b) (ap f same) ∙ sym (eq-eqb a b same)
  | inr other ↦ elim other [
    | inl less ↦ ne_eqb (f a) (f b) (λ e. omega (arith, up a b low high less)) ∙ sym (ne_eqb a b (λ e. omega arith))
    | inr more ↦ ne_eqb (f a) (f b) (λ e. omega (arith, up b a high low more)) ∙ sym (ne_eqb a b (λ e. omega arith))
  ]
]

-- a step with another name of its line
abbrev renamed : (ℕ → ℕ) → PersistenceStep → PersistenceStep
renamed f (step.Store line offset width value) = step.Store (f line) offset width value
renamed f (step.Clean hart line) = step.Clean hart (f line)
renamed f (step.Fence hart) = step.Fence hart
renamed f (step.Evict line) = step.Evict (f line)

abbrev IsBelow : ℕ → PersistenceStep → Type 0
IsBelow n (step.Store line offset width value) = line < n
IsBelow n (step.Clean hart line) = line < n
IsBelow n (step.Fence hart) = Unit {0}
IsBelow n (step.Evict line) = line < n

abbrev AreBelow : ℕ → List PersistenceStep → Type 0
AreBelow n p = AllByRecursion (IsBelow n) p

module _ (f : ℕ → ℕ) (n : ℕ) (up : Rises f n) where
  stores_same : (l : ℕ) (p : List PersistenceStep) → l < n → AreBelow n p → stores (f l) (map (renamed f) p) ≡ stores l p
  stores_same l [] low all = refl
  stores_same l (step.Store m o w v ∷ p) low all =
      rw (same_equal f n m l up all.0 low, stores_same l p low all.1) refl
  stores_same l (step.Clean h m ∷ p) low all = stores_same l p low all.1
  stores_same l (step.Fence h ∷ p) low all = stores_same l p low all.1
  stores_same l (step.Evict m ∷ p) low all = stores_same l p low all.1

  cleaned_same : (l h : ℕ) (p : List PersistenceStep) → l < n → AreBelow n p → cleaned (f l) h (map (renamed f) p) ≡ cleaned l h p
  cleaned_same l h [] low all = refl
  cleaned_same l h (step.Store m o w v ∷ p) low all = cleaned_same l h p low all.1
  cleaned_same l h (step.Clean g m ∷ p) low all =
      rw (same_equal f n m l up all.0 low, stores_same l p low all.1, cleaned_same l h p low all.1) refl
  cleaned_same l h (step.Fence g ∷ p) low all = cleaned_same l h p low all.1
  cleaned_same l h (step.Evict m ∷ p) low all = cleaned_same l h p low all.1

  floor_same : (l : ℕ) (p : List PersistenceStep) → l < n → AreBelow n p → floor (f l) (map (renamed f) p) ≡ floor l p
  floor_same l [] low all = refl
  floor_same l (step.Store m o w v ∷ p) low all = floor_same l p low all.1
  floor_same l (step.Clean g m ∷ p) low all = floor_same l p low all.1
  floor_same l (step.Fence g ∷ p) low all = rw (floor_same l p low all.1, cleaned_same l g p low all.1) refl
  floor_same l (step.Evict m ∷ p) low all = floor_same l p low all.1

  after_same : (start : List ℕ) (l k : ℕ) (p : List PersistenceStep) → l < n → AreBelow n p → line_after start (f l) k (map (renamed f) p) ≡ line_after start l k p
  after_same start l k [] low all = refl
  after_same start l k (step.Store m o w v ∷ p) low all =
      rw (same_equal f n m l up all.0 low, stores_same l p low all.1, after_same start l k p low all.1) refl
  after_same start l k (step.Clean h m ∷ p) low all = after_same start l k p low all.1
  after_same start l k (step.Fence h ∷ p) low all = after_same start l k p low all.1
  after_same start l k (step.Evict m ∷ p) low all = after_same start l k p low all.1

  -- lines by other names, upwards
  line_added : (t u : Bool) (m l : ℕ) (ls : List ℕ) → m < n → l < n → AllByRecursion (λ x. x < n) ls → ltb m l ≡ t → eqb m l ≡ u
      → with_line (f m) (map f ls) ≡ map f (with_line m ls) → with_line (f m) (map f (l ∷ ls)) ≡ map f (with_line m (l ∷ ls))
  line_added true u m l ls low high all less same ih =
      let there : ltb (f m) (f l) ≡ true = same_less f n m l up low high ∙ less in rw (there, less) refl
  line_added false true m l ls low high all less same ih =
      let there : ltb (f m) (f l) ≡ false = same_less f n m l up low high ∙ less in
      let equal : eqb (f m) (f l) ≡ true = same_equal f n m l up low high ∙ same in
      rw (there, equal, less, same) refl
  line_added false false m l ls low high all less same ih =
      let there : ltb (f m) (f l) ≡ false = same_less f n m l up low high ∙ less in
      let equal : eqb (f m) (f l) ≡ false = same_equal f n m l up low high ∙ same in
      rw (there, equal, less, same) (ap (λ (rest : List ℕ). f l ∷ rest) ih)

  with_line_same : (m : ℕ) (ls : List ℕ) → m < n → AllByRecursion (λ x. x < n) ls → with_line (f m) (map f ls) ≡ map f (with_line m ls)
  with_line_same m [] low all = refl
  with_line_same m (l ∷ ls) low all = line_added (ltb m l) (eqb m l) m l ls low all.0 all.1 refl refl (with_line_same m ls low all.1)

  low_added : (t u : Bool) (m l : ℕ) (ls : List ℕ) → ltb m l ≡ t → eqb m l ≡ u → m < n → l < n → AllByRecursion (λ x. x < n) ls
      → AllByRecursion (λ x. x < n) (with_line m ls) → AllByRecursion (λ x. x < n) (with_line m (l ∷ ls))
  low_added true u m l ls less same low high all ih = rw less (low, (high, all))
  low_added false true m l ls less same low high all ih = rw (less, same) (high, all)
  low_added false false m l ls less same low high all ih = rw (less, same) (high, ih)

  with_line_low : (m : ℕ) (ls : List ℕ) → m < n → AllByRecursion (λ x. x < n) ls → AllByRecursion (λ x. x < n) (with_line m ls)
  with_line_low m [] low all = (low, tt)
  with_line_low m (l ∷ ls) low all = low_added (ltb m l) (eqb m l) m l ls refl refl low all.0 all.1 (with_line_low m ls low all.1)

  stored_low : (p : List PersistenceStep) → AreBelow n p → AllByRecursion (λ x. x < n) (stored_lines p)
  stored_low [] all = tt
  stored_low (step.Store m o w v ∷ p) all = with_line_low m (stored_lines p) all.0 (stored_low p all.1)
  stored_low (step.Clean h m ∷ p) all = stored_low p all.1
  stored_low (step.Fence h ∷ p) all = stored_low p all.1
  stored_low (step.Evict m ∷ p) all = stored_low p all.1

  stored_same : (p : List PersistenceStep) → AreBelow n p → stored_lines (map (renamed f) p) ≡ map f (stored_lines p)
  stored_same [] all = refl
  stored_same (step.Store m o w v ∷ p) all =
      ap (with_line (f m)) (stored_same p all.1) ∙ with_line_same m (stored_lines p) all.0 (stored_low p all.1)
  stored_same (step.Clean h m ∷ p) all = stored_same p all.1
  stored_same (step.Fence h ∷ p) all = stored_same p all.1
  stored_same (step.Evict m ∷ p) all = stored_same p all.1

  -- cuts by other names
  abbrev put : List (ℕ × ℕ) → List (ℕ × ℕ)
  put cut = map (λ (entry : ℕ × ℕ). (f entry.0, entry.1)) cut

  in_front : (l k : ℕ) (rest : List (List (ℕ × ℕ))) → map (λ (cut : List (ℕ × ℕ)). (f l, k) ∷ cut) (map put rest) ≡ map put (map (λ (cut : List (ℕ × ℕ)). (l, k) ∷ cut) rest)
  in_front l k [] = refl
  in_front l k (cut ∷ rest) = ap (λ (more : List (List (ℕ × ℕ))). ((f l, k) ∷ put cut) ∷ more) (in_front l k rest)

  choices_same : (l low many : ℕ) (rest : List (List (ℕ × ℕ))) → choices (f l) low many (map put rest) ≡ map put (choices l low many rest)
  choices_same l low zero rest = refl
  choices_same l low (suc many) rest =
      rw (in_front l low rest, choices_same l (low + 1) many rest)
      (sym (map-append put (map (λ (cut : List (ℕ × ℕ)). (l, low) ∷ cut) rest) (choices l (low + 1) many rest)))

  cuts_same : (p : List PersistenceStep) (ls : List ℕ) → AreBelow n p → AllByRecursion (λ x. x < n) ls → cuts_of (map (renamed f) p) (map f ls) ≡ map put (cuts_of p ls)
  cuts_same p [] all lows = refl
  cuts_same p (l ∷ ls) all lows =
      rw (stores_same l p lows.0 all, floor_same l p lows.0 all, cuts_same p ls all lows.1) (choices_same l (floor l p) (width_of p l) (cuts_of p ls))

-- the names of a file
rises_next : (names : List ℕ) (a d : ℕ) → IsStrictlyIncreasing names → a + suc d < length names → get_or names a 0 < get_or names (a + suc d) 0
rises_next names a zero up inside =
    let here : get_or names a 0 < get_or names (a + 1) 0 = up a (omega arith) in here
rises_next names a (suc d) up inside =
    let so_far : get_or names a 0 < get_or names (a + suc d) 0 = rises_next names a d up (omega arith) in
    let last : get_or names (a + suc d) 0 < get_or names (a + suc d + 1) 0 = up (a + suc d) (omega arith) in
    let place : a + suc d + 1 ≡ a + suc (suc d) = omega arith in
    let all : get_or names a 0 < get_or names (a + suc d + 1) 0 = omega arith in
    subst (λ (i : ℕ). get_or names a 0 < get_or names i 0) place all

rises : (names : List ℕ) → IsStrictlyIncreasing names → Rises (λ rank. get_or names rank 0) (length names)
rises names up a b low high less =
    let place : a + suc (b - suc a) ≡ b = omega arith in
    subst (λ (i : ℕ). get_or names a 0 < get_or names i 0) place (rises_next names a (b - suc a) up (omega arith))

-- the steps of events by their names
steps_named : (names : List ℕ) (event : Event) → steps_of (named names event) ≡ map (renamed (λ rank. get_or names rank 0)) (steps_of event)
steps_named names (Store hart line offset width value) = refl
steps_named names (Clean hart line) = refl
steps_named names (Fence hart) = refl
steps_named names (Begin hart op) = refl
steps_named names (End hart op) = refl

flat_named : (names : List ℕ) (events : List Event) → flat_map steps_of (map (named names) events) ≡ map (renamed (λ rank. get_or names rank 0)) (flat_map steps_of events)
flat_named names [] = refl
flat_named names (event ∷ events) =
    rw (steps_named names event, flat_named names events)
    (sym (map-append (renamed (λ rank. get_or names rank 0)) (steps_of event) (flat_map steps_of events)))

reverse_named : (names : List ℕ) (events : List Event) → reverse (map (named names) events) ≡ map (named names) (reverse events)
reverse_named names [] = refl
reverse_named names (event ∷ events) =
    reverse-append (named names event ∷ []) (map (named names) events)
    ∙ ap (λ (es : List Event). es ++ named names event ∷ []) (reverse_named names events)
    ∙ sym (map-append (named names) (reverse events) (event ∷ []))
    ∙ ap (map (named names)) (sym (reverse-append (event ∷ []) events))

history_named : (names : List ℕ) (events : List Event) → history (map (named names) events) ≡ map (renamed (λ rank. get_or names rank 0)) (history events)
history_named names events = ap (flat_map steps_of) (reverse_named names events) ∙ flat_named names (reverse events)

-- events that name lines below n make such steps
steps_below : (n : ℕ) (event : Event) → NamesLine n event → AreBelow n (steps_of event)
steps_below n (Store hart line offset width value) low = (low, tt)
steps_below n (Clean hart line) low = (low, tt)
steps_below n (Fence hart) low = (tt, tt)
steps_below n (Begin hart op) low = tt
steps_below n (End hart op) low = tt

below_append : (n : ℕ) (p q : List PersistenceStep) → AreBelow n p → AreBelow n q → AreBelow n (p ++ q)
below_append n [] q a b = b
below_append n (x ∷ p) q a b = (a.0, below_append n p q a.1 b)

flat_below : (n : ℕ) (events : List Event) → AllByRecursion (NamesLine n) events → AreBelow n (flat_map steps_of events)
flat_below n [] all = tt
flat_below n (event ∷ events) all = below_append n (steps_of event) (flat_map steps_of events) (steps_below n event all.0) (flat_below n events all.1)

all_append : (n : ℕ) (xs ys : List Event) → AllByRecursion (NamesLine n) xs → AllByRecursion (NamesLine n) ys → AllByRecursion (NamesLine n) (xs ++ ys)
all_append n [] ys a b = b
all_append n (x ∷ xs) ys a b = (a.0, all_append n xs ys a.1 b)

reverse_below : (n : ℕ) (events : List Event) → AllByRecursion (NamesLine n) events → AllByRecursion (NamesLine n) (reverse events)
reverse_below n [] all = tt
reverse_below n (event ∷ events) all =
    subst (AllByRecursion (NamesLine n)) (sym (reverse-append (event ∷ []) events)) (all_append n (reverse events) (event ∷ []) (reverse_below n events all.1) (all.0, tt))

history_below : (n : ℕ) (events : List Event) → All (NamesLine n) events → AreBelow n (history events)
history_below n events all = flat_below n (reverse events) (reverse_below n events (recursion_from_All (NamesLine n) events all))

-- the law
pub floors_by_rank : (names : List ℕ) (events : List Event) → IsStrictlyIncreasing names → All (NamesLine (length names)) events → (rank : ℕ) → rank < length names
    → floor (slice_index names rank) (history (map (named names) events)) ≡ floor rank (history events)
floors_by_rank names events up all rank low =
    ap (floor (get_or names rank 0)) (history_named names events)
    ∙ floor_same (λ r. get_or names r 0) (length names) (rises names up) rank (history events) low (history_below (length names) events all)

pub cuts_by_rank : (names : List ℕ) (events : List Event) → IsStrictlyIncreasing names → All (NamesLine (length names)) events
    → cuts (history (map (named names) events)) ≡ map (map (named_entry names)) (cuts (history events))
cuts_by_rank names events up all =
    let f : ℕ → ℕ = λ r. get_or names r 0 in
    let below = history_below (length names) events all in
    ap cuts (history_named names events)
    ∙ ap (cuts_of (map (renamed f) (history events))) (stored_same f (length names) (rises names up) (history events) below)
    ∙ cuts_same f (length names) (rises names up) (history events) (stored_lines (history events)) below (stored_low f (length names) (rises names up) (history events) below)

pub lines_by_rank : (names : List ℕ) (events : List Event) → IsStrictlyIncreasing names → All (NamesLine (length names)) events → (start : List ℕ) (rank k : ℕ) → rank < length names
    → line_after start (slice_index names rank) k (history (map (named names) events)) ≡ line_after start rank k (history events)
lines_by_rank names events up all start rank k low =
    ap (line_after start (get_or names rank 0) k) (history_named names events)
    ∙ after_same (λ r. get_or names r 0) (length names) (rises names up) start rank k (history events) low (history_below (length names) events all)
