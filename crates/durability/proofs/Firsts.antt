-- The first number of which something holds.
use Rattle.std.proofs.Common.{◌≡◌, ℕ, suc, ◌+◌, ◌<◌, ◌≤◌, ◌⊎◌, inl, inr, zero, List, Option, Some, None, length, get_or, ap, ◌∙◌, arith}
use Rattle.std.proofs.lemmas.Option.{slice_get-get_or, slice_get_within}
use Rattle.store_trace.specs.declared.event.Event.{Event}
use Rattle.durability.specs.Numbered.{event_at, IsFirstIfAny}

-- what holds of the same numbers has the same first one
pub first_same : (P Q : ℕ → Type 0) (o : Option ℕ) → ((n : ℕ) → P n → Q n) → ((n : ℕ) → Q n → P n) →
    IsFirstIfAny P o → IsFirstIfAny Q o
first_same P Q None to from f = λ n q. f n (from n q)
first_same P Q (Some k) to from f = record { holds = to k f.holds; first = λ n q. f.first n (from n q) }

-- the event at a place has the number after it
pub event_here : (events : List Event) (at : ℕ) (d : Event) (event : Event) → at < length events → get_or events at d ≡ event →
    event_at events (at + 1) ≡ Some event
event_here events at d event h is =
    let e : at + 1 ≡ suc at = omega arith in
    rw e (slice_get-get_or events at d h ∙ ap (λ (x : Event). Some x) is)

-- there is no event past the last one
pub event_within : (events : List Event) (n : ℕ) (event : Event) → event_at events n ≡ Some event → n ≤ length events
event_within events zero event is = omega arith
event_within events (suc at) event is = omega (arith, slice_get_within events at event is)

-- where nothing holds, there is no first one
pub none_first : (P : ℕ → Type 0) (o : Option ℕ) → o ≡ None → ((n : ℕ) → P n → ⊥) → IsFirstIfAny P o
none_first P o e none = rw e none
