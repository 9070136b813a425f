-- Moments, and which events stand between two places of a run.
use Rattle.std.proofs.Common.{◌≡◌, ℕ, ◌+◌, ◌<◌, ◌≤◌, ◌⊎◌, inl, inr, List, ◌∷◌, [], ◌++◌, Some, length, get_or, take, arith, ap, ◌∙◌, sym}
use Rattle.std.proofs.lemmas.Bool.Decides.{nat_tests}
use Rattle.std.proofs.lemmas.List.{take_more}
use Rattle.std.proofs.lemmas.Option.{get_or_from_slice_get, slice_get_within}
use Rattle.std.specs.Prelude.{slice_get}
use Rattle.store_trace.specs.Floor.{cleaned, floor}
use Rattle.store_trace.specs.Stores.{stores}
use Rattle.store_trace.specs.declared.crash_model.step.PersistenceStep.{PersistenceStep}
use Rattle.store_trace.specs.History.{at_moment, history, steps_of}
use Rattle.store_trace.specs.declared.event.Event.{Event}
use Rattle.durability.proofs.Back.{history_more}
use Rattle.durability.specs.Reading.{HasWithin}

pub at_moment_more : (events : List Event) (at : ℕ) (event : Event) → slice_get events at ≡ Some event →
    at_moment events (at + 1) ≡ steps_of event ++ at_moment events at
at_moment_more events at event is =
    let within : at < length events = slice_get_within events at event is in
    let read : get_or events at event ≡ event = get_or_from_slice_get events at event event is in
    ap (λ (es : List Event). history es) (take_more events at event within ∙ ap (λ (e : Event). take at events ++ e ∷ []) read)
    ∙ history_more (take at events) event

pub stores_more : (events : List Event) (at l : ℕ) (event : Event) → slice_get events at ≡ Some event →
    stores l (at_moment events (at + 1)) ≡ stores l (steps_of event ++ at_moment events at)
stores_more events at l event is = ap (λ (p : List PersistenceStep). stores l p) (at_moment_more events at event is)

pub floor_more : (events : List Event) (at l : ℕ) (event : Event) → slice_get events at ≡ Some event →
    floor l (at_moment events (at + 1)) ≡ floor l (steps_of event ++ at_moment events at)
floor_more events at l event is = ap (λ (p : List PersistenceStep). floor l p) (at_moment_more events at event is)

pub cleaned_more : (events : List Event) (at l h : ℕ) (event : Event) → slice_get events at ≡ Some event →
    cleaned l h (at_moment events (at + 1)) ≡ cleaned l h (steps_of event ++ at_moment events at)
cleaned_more events at l h event is = ap (λ (p : List PersistenceStep). cleaned l h p) (at_moment_more events at event is)

pub below_or_at : (n at : ℕ) → n < at + 1 → (n < at) ⊎ (n ≡ at)
below_or_at n at less = grind (arith, nat_tests, less)

pub same_event : (events : List Event) (n m : ℕ) (one other : Event) → slice_get events n ≡ Some one → slice_get events m ≡ Some other →
    n ≡ m → one ≡ other
same_event events n m one other here there e = cc

pub none_narrower : (events : List Event) (i j k m : ℕ) (event : Event) → (HasWithin events i k event → ⊥) → i ≤ j → m ≤ k →
    HasWithin events j m event → ⊥
none_narrower events i j k m event none low high has =
    none (record { place = has.place; from = omega (arith, has.from, low); below = omega (arith, has.below, high); is = has.is })

pub none_more : (events : List Event) (i at : ℕ) (here event : Event) → (HasWithin events i at event → ⊥) → slice_get events at ≡ Some here →
    (here ≡ event → ⊥) → HasWithin events i (at + 1) event → ⊥
none_more events i at here event none is other has = elim (below_or_at has.place at has.below) [
  | inl less ↦ none (record { place = has.place; from = has.from; below = less; is = has.is })
  | inr e ↦ other (same_event events at has.place here event is has.is (sym e))
]

pub none_empty : (events : List Event) (i k : ℕ) (event : Event) → k ≤ i → HasWithin events i k event → ⊥
none_empty events i k event empty has = absurd (omega (arith, has.from, has.below, empty))

-- an event that stands from place i on, and neither there nor past k
pub none_after : (events : List Event) (i k : ℕ) (here event : Event) → (HasWithin events (i + 1) k event → ⊥) → slice_get events i ≡ Some here →
    (here ≡ event → ⊥) → HasWithin events i k event → ⊥
none_after events i k here event none is other has = elim (below_or_at i has.place (omega (arith, has.from))) [
  | inl less ↦ none (record { place = has.place; from = omega (arith, less); below = has.below; is = has.is })
  | inr e ↦ other (same_event events i has.place here event is has.is e)
]
