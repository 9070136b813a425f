-- How many operations have ended, one event more.
use Rattle.std.proofs.Common.{◌≡◌, ℕ, ◌+◌, List, [], ◌∷◌, ◌++◌, Option, None, Some, length, refl, ap, ◌∙◌, arith}
use Rattle.std.proofs.lemmas.List.{length-append}
use Rattle.std.proofs.lemmas.List.Elements.{filter_map-append}
use Rattle.std.specs.List.{cons_option}
use Rattle.store_trace.specs.Marks.{ended, ended_by}
use Rattle.store_trace.specs.declared.event.Event.{Event}
use Rattle.store_trace.specs.declared.event.Event.TheVariants.{Begin, Clean, End, Fence, Store}

pub ended_count : (events : List Event) (event : Event) (o : Option ℕ) → ended_by event ≡ o →
    length (ended (events ++ event ∷ [])) ≡ length (ended events) + length (cons_option o [])
ended_count events event o is =
    ap (λ (ops : List ℕ). length ops) (filter_map-append ended_by events (event ∷ []))
    ∙ ap (λ (p : Option ℕ). length (ended events ++ cons_option p [])) is
    ∙ length-append (ended events) (cons_option o [])

pub none_ended : (events : List Event) (event : Event) → ended_by event ≡ None → length (ended (events ++ event ∷ [])) ≡ length (ended events)
none_ended events event is =
    let count : length (ended (events ++ event ∷ [])) ≡ length (ended events) + 0 = ended_count events event None is in
    omega (arith, count)

-- behind each mark
pub end_counted : (events : List Event) (hart op : ℕ) → length (ended (events ++ End hart op ∷ [])) ≡ length (ended events) + 1
end_counted events hart op = ended_count events (End hart op) (Some op) refl

pub begin_counted : (events : List Event) (hart op : ℕ) → length (ended (events ++ Begin hart op ∷ [])) ≡ length (ended events)
begin_counted events hart op = none_ended events (Begin hart op) refl

-- behind an event that is no mark
pub fence_counted : (events : List Event) (hart : ℕ) → length (ended (events ++ Fence hart ∷ [])) ≡ length (ended events)
fence_counted events hart = none_ended events (Fence hart) refl

pub clean_counted : (events : List Event) (hart line : ℕ) → length (ended (events ++ Clean hart line ∷ [])) ≡ length (ended events)
clean_counted events hart line = none_ended events (Clean hart line) refl

pub store_counted : (events : List Event) (hart line offset width value : ℕ) →
    length (ended (events ++ Store hart line offset width value ∷ [])) ≡ length (ended events)
store_counted events hart line offset width value = none_ended events (Store hart line offset width value) refl
