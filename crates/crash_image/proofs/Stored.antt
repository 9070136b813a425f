-- The stored lines as those of a row of lines that have a store, and the steps of a trace read back.
use Rattle.std.proofs.Common.{◌≡◌, ℕ, zero, suc, ◌+◌, ◌<◌, ◌≤◌, ◌==◌, nat_lt, true, List, [], ◌∷◌, ◌++◌, length, get_or, take, inl, inr, refl, ap, ◌∙◌, sym, subst, arith}
use Rattle.std.specs.Prelude.{if◌then◌else◌, All, map}
use Rattle.std.specs.List.{flat_map}
use Rattle.std.proofs.lemmas.Bool.{cases_Bool}
use Rattle.std.proofs.lemmas.Bool.Decides.{nat_tests}
use Rattle.std.proofs.lemmas.List.{reverse-append, take_more, get_or-map, length-map}
use Rattle.std.proofs.lemmas.List.Elements.{All-cons, All-nil}
use Rattle.std.proofs.lemmas.Grind.{common_steps}
use Rattle.store_trace.specs.Cut.{IsCut, with_line, stored_lines}
use Rattle.store_trace.specs.Stores.{stores}
use Rattle.store_trace.specs.declared.crash_model.step.PersistenceStep.{PersistenceStep}
use Rattle.store_trace.specs.declared.crash_model.step.PersistenceStep.TheVariants as step
use Rattle.store_trace.specs.History.{history, steps_of}
use Rattle.store_trace.specs.declared.event.Event.{Event}
use Rattle.store_trace.specs.declared.event.Event.TheVariants.{Store, Clean, Fence, Begin, End}
use Rattle.crash_image.specs.View.{NamesLine}

-- of `many` lines from line i on, those that have a store
abbrev pub stored_among : List PersistenceStep → ℕ → ℕ → List ℕ
stored_among p i zero = []
stored_among p i (suc many) = if nat_lt 0 (stores i p) then i ∷ stored_among p (suc i) many else stored_among p (suc i) many

among_none : (i many : ℕ) → stored_among [] i many ≡ []
among_none i zero = refl
among_none i (suc many) = among_none (suc i) many

-- a store of a line below these changes nothing
among_above : (m o w v : ℕ) (p : List PersistenceStep) (i many : ℕ) → m < i →
    stored_among (step.Store m o w v ∷ p) i many ≡ stored_among p i many
among_above m o w v p i zero h = refl
among_above m o w v p i (suc many) h = grind (arith, nat_tests, among_above m o w v p (suc i) many (omega arith))

line_in_front : (m : ℕ) (p : List PersistenceStep) (i many : ℕ) → m < i →
    with_line m (stored_among p i many) ≡ m ∷ stored_among p i many
line_in_front m p i zero h = refl
line_in_front m p i (suc many) h = elim (cases_Bool (nat_lt 0 (stores i p))) [
  | inl some ↦ rw some (let less : nat_lt m i ≡ true = grind (arith, nat_tests, h) in rw less refl)
  | inr none ↦ rw none (line_in_front m p (suc i) many (omega arith))
]

among_store : (m o w v : ℕ) (p : List PersistenceStep) (i many : ℕ) → i ≤ m → m < i + many →
    stored_among (step.Store m o w v ∷ p) i many ≡ with_line m (stored_among p i many)
among_store m o w v p i zero a b = absurd (omega arith)
among_store m o w v p i (suc many) a b = elim (cases_Bool (m == i)) [
  | inl same ↦
      let e : m ≡ i = grind (arith, nat_tests, same) in
      let rest : stored_among (step.Store m o w v ∷ p) (suc i) many ≡ stored_among p (suc i) many = among_above m o w v p (suc i) many (omega arith) in
      grind (arith, nat_tests, e, rest, line_in_front m p (suc i) many)
  | inr other ↦
      let more : i < m = grind (arith, nat_tests, other) in
      grind (arith, nat_tests, other, more, among_store m o w v p (suc i) many (omega arith) (omega arith))
]

-- each step's store is of one of the first `count` lines
abbrev pub AreBelow : ℕ → List PersistenceStep → Type 0
AreBelow count [] = Unit {0}
AreBelow count (step.Store m o w v ∷ p) = (m < count) × AreBelow count p
AreBelow count (step.Clean h m ∷ p) = AreBelow count p
AreBelow count (step.Fence h ∷ p) = AreBelow count p
AreBelow count (step.Evict m ∷ p) = AreBelow count p

pub stored_lines_among : (count : ℕ) (p : List PersistenceStep) → AreBelow count p → stored_among p 0 count ≡ stored_lines p
stored_lines_among count [] below = among_none 0 count
stored_lines_among count (step.Store m o w v ∷ p) below =
    among_store m o w v p 0 count (omega arith) (omega (arith, below.0))
    ∙ ap (λ (ls : List ℕ). with_line m ls) (stored_lines_among count p below.1)
stored_lines_among count (step.Clean h m ∷ p) below = stored_lines_among count p below
stored_lines_among count (step.Fence h ∷ p) below = stored_lines_among count p below
stored_lines_among count (step.Evict m ∷ p) below = stored_lines_among count p below

-- one event more
pub history_push : (events : List Event) (event : Event) → history (events ++ event ∷ []) ≡ steps_of event ++ history events
history_push events event = ap (λ (es : List Event). flat_map steps_of es) (reverse-append events (event ∷ []))

pub history_more : (events : List Event) (i : ℕ) (d : Event) → i < length events →
    history (take (i + 1) events) ≡ steps_of (get_or events i d) ++ history (take i events)
history_more events i d h =
    ap (λ (es : List Event). history es) (take_more events i d h) ∙ history_push (take i events) (get_or events i d)

below_more : (count : ℕ) (event : Event) (p : List PersistenceStep) → NamesLine count event → AreBelow count p →
    AreBelow count (steps_of event ++ p)
below_more count (Store h l o w v) p named below = (named, below)
below_more count (Clean h l) p named below = below
below_more count (Fence h) p named below = below
below_more count (Begin h op) p named below = below
below_more count (End h op) p named below = below

below_taken : (count : ℕ) (events : List Event) (i : ℕ) → i ≤ length events → All (NamesLine count) events →
    AreBelow count (history (take i events))
below_taken count events zero h named = tt
below_taken count [] (suc i) h named = absurd (omega arith)
below_taken count (first ∷ events) (suc i) h named =
    let one : i + 1 ≡ suc i = omega arith in
    let rest : AreBelow count (history (take i (first ∷ events))) = below_taken count (first ∷ events) i (omega arith) named in
    let next : AreBelow count (steps_of (get_or (first ∷ events) i first) ++ history (take i (first ∷ events))) =
    below_more count (get_or (first ∷ events) i first) (history (take i (first ∷ events))) (named i first (omega arith)) rest in
    let more : AreBelow count (history (take (i + 1) (first ∷ events))) =
    subst (λ (p : List PersistenceStep). AreBelow count p) (sym (history_more (first ∷ events) i first (omega arith))) next in
    subst (λ (n : ℕ). AreBelow count (history (take n (first ∷ events)))) one more

pub below_history : (count : ℕ) (events : List Event) → All (NamesLine count) events → AreBelow count (history events)
below_history count events named =
    let all : take (length events) events ≡ events = grind (arith, common_steps) in
    subst (λ (es : List Event). AreBelow count (history es)) all (below_taken count events (length events) (omega arith) named)

-- the stored lines are among the first `count` lines, and so are those of a cut
among_below : (p : List PersistenceStep) (i many count : ℕ) → i + many ≤ count → All (λ l. l < count) (stored_among p i many)
among_below p i zero count h = All-nil _
among_below p i (suc many) count h =
    let rest : All (λ l. l < count) (stored_among p (suc i) many) = among_below p (suc i) many count (omega (arith, h)) in
    elim (cases_Bool (nat_lt 0 (stores i p))) [
      | inl some ↦ rw some (All-cons (λ (l : ℕ). l < count) i (stored_among p (suc i) many) (omega (arith, h)) rest)
      | inr none ↦ rw none rest
    ]

pub cut_below : (count : ℕ) (events : List Event) (cut : List (ℕ × ℕ)) → All (NamesLine count) events → IsCut (history events) cut →
    All (λ entry. entry.0 < count) cut
cut_below count events cut named c i d h =
    let below : All (λ l. l < count) (stored_lines (history events)) =
    subst (λ (ls : List ℕ). All (λ l. l < count) ls) (stored_lines_among count (history events) (below_history count events named))
    (among_below (history events) 0 count count (omega arith)) in
    let all : All (λ l. l < count) (map (λ entry. entry.0) cut) = subst (λ (ls : List ℕ). All (λ l. l < count) ls) (sym c.lines) below in
    rw (get_or-map (λ entry. entry.0) cut i d d.0 h) at (all i d.0 (omega (arith, h, length-map cut (λ (entry : ℕ × ℕ). entry.0))))
