-- What is kept of a run that may be sequential: laws of it.
use Rattle.std.proofs.Common.{◌≡◌, ℕ, ◌+◌, ◌<◌, Bool, true, ◌&&◌, List, [], ◌∷◌, ◌++◌, Option, Some, None, length, slice_get, refl, sym, ap, ◌∙◌, subst, arith}
use Rattle.std.specs.Cmp.Lexicographic.{pointwise}
use Rattle.std.specs.Option.{option_eq}
use Rattle.std.proofs.lemmas.List.{get_or_append_left, length-append, take-append-le}
use Rattle.std.proofs.lemmas.Option.{get_or_from_slice_get, slice_get-get_or}
use Rattle.routine_judge.proofs.Equal.{equal_states, same_operation}
use Rattle.routine_judge.proofs.Sequencing.{other_state}
use Rattle.routine_judge.specs.MarkFaults.{AreSound, HasFault}
use Rattle.routine_judge.specs.declared.history.overlap.Overlap.TheVariants.{Never}
use Rattle.routine_judge.specs.declared.order.sequential.SequentialState.{SequentialState}
use Rattle.schedule_states.specs.Marks.{IsUnmarked}
use Rattle.store_trace.specs.declared.event.Event.{Event}
use Rattle.every_schedule.specs.Sequential.{IsKeptOf}

-- marks that are right stay so of the events in front
front_get : (front more : List Event) (i : ℕ) (event : Event) → i < length front → slice_get front i ≡ Some event → slice_get (front ++ more) i ≡ Some event
front_get front more i event inside at =
    let long : length (front ++ more) ≡ length front + length more = length-append front more in
    slice_get-get_or (front ++ more) i event (omega (arith, long, inside))
    ∙ ap (λ (e : Event). Some e) (get_or_append_left front more event i inside ∙ get_or_from_slice_get front i event event at)

pub sound_front : (front more : List Event) → AreSound Never (front ++ more) (length (front ++ more)) → AreSound Never front (length front)
sound_front front more sound i event fault inside at has =
    let long : length (front ++ more) ≡ length front + length more = length-append front more in
    sound i event fault (omega (arith, long, inside)) (front_get front more i event inside at)
    (subst (λ (before : List Event). HasFault Never before event fault) (sym (take-append-le i front more (omega (arith, inside)))) has)

-- what is kept of a run
pub kept_unmarked : (standing : Option SequentialState) (events : List Event) (event : Event) → IsUnmarked event → IsKeptOf standing events →
    IsKeptOf standing (events ++ event ∷ [])
kept_unmarked (Some state) events event plain kept = other_state events event state state plain.begun plain.ended refl refl kept
kept_unmarked None events event plain kept = λ sound. kept (sound_front events (event ∷ []) sound)

abbrev pub same_state : SequentialState → SequentialState → Bool
same_state one other = pointwise same_operation one.done.operations.items other.done.operations.items && option_eq same_operation one.pending other.pending

pub kept_equal : (one other : Option SequentialState) (events : List Event) → option_eq same_state one other ≡ true → IsKeptOf one events → IsKeptOf other events
kept_equal (Some one) (Some other) events same kept = equal_states events one other same kept
kept_equal (Some one) None events same kept = absurd cc
kept_equal None (Some other) events same kept = absurd cc
kept_equal None None events same kept = kept
