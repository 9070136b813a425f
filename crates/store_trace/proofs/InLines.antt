-- An aligned store lies in its line.
use Rattle.std.proofs.Common.{◌≡◌, ℕ, suc, ◌+◌, ◌%◌, ◌<◌, ◌≤◌, List, [], ◌∷◌, ◌++◌, reverse, arith}
use Rattle.std.specs.Prelude.{All}
use Rattle.std.specs.List.{flat_map}
use Rattle.std.proofs.lemmas.Grind.{common_steps}
use Rattle.std.proofs.lemmas.List.Elements.{All-append, All-cons, All-nil}
use Rattle.store_trace.specs.Stores.{IsInLine}
use Rattle.store_trace.specs.declared.crash_model.step.PersistenceStep.TheVariants as step
use Rattle.store_trace.specs.History.{history, steps_of}
use Rattle.store_trace.specs.TraceView.{IsEvent, IsWidth}
use Rattle.store_trace.specs.declared.event.Event.{Event}
use Rattle.store_trace.specs.declared.event.Event.TheVariants.{Store, Clean, Fence, Begin, End}

aligned_fits : (offset width : ℕ) → IsWidth width → offset % width ≡ 0 → offset < 64 → (width ≤ 8) × (offset + width ≤ 64)
aligned_fits offset width w a h = (grind (arith, w), grind (arith, w, a))

step_in_line : (event : Event) → IsEvent event → All IsInLine (steps_of event)
step_in_line (Store hart line offset width value) e =
    All-cons IsInLine (step.Store line offset width value) [] (aligned_fits offset width e.1 e.2 e.3) (All-nil IsInLine)
step_in_line (Clean hart line) e = All-cons IsInLine (step.Clean hart line) [] tt (All-nil IsInLine)
step_in_line (Fence hart) e = All-cons IsInLine (step.Fence hart) [] tt (All-nil IsInLine)
step_in_line (Begin hart op) e = All-nil IsInLine
step_in_line (End hart op) e = All-nil IsInLine

steps_in_lines : (events : List Event) → All IsEvent events → All IsInLine (flat_map steps_of events)
steps_in_lines [] e = All-nil IsInLine
steps_in_lines (event ∷ events) e =
    All-append IsInLine (steps_of event) (flat_map steps_of events)
    (step_in_line event (e 0 event (omega arith))) (steps_in_lines events (λ i d h. e (suc i) d (omega arith)))

events_reversed : (events : List Event) → All IsEvent events → All IsEvent (reverse events)
events_reversed [] e = All-nil IsEvent
events_reversed (event ∷ events) e =
    let rest : All IsEvent (reverse events) = events_reversed events (λ i d h. e (suc i) d (omega arith)) in
    let first : All IsEvent (event ∷ []) = All-cons IsEvent event [] (e 0 event (omega arith)) (All-nil IsEvent) in
    let both : All IsEvent (reverse events ++ event ∷ []) = All-append IsEvent (reverse events) (event ∷ []) rest first in
    let same : reverse (event ∷ events) ≡ reverse events ++ event ∷ [] = grind (arith, common_steps) in
    rw same both

pub all_in_lines : (events : List Event) → All IsEvent events → All IsInLine (history events)
all_in_lines events e = steps_in_lines (reverse events) (events_reversed events e)
