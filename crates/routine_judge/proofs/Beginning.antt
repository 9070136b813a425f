-- The first Begin of a run, looked for from its first event on.
use Rattle.std.proofs.Common.{◌≡◌, ℕ, ◌+◌, ◌<◌, Bool, true, false, cond, List, length, drop, get_or, sym, ap, ◌∙◌, arith, Option, Some, None}
use Rattle.std.specs.Prelude.{is_some}
use Rattle.std.specs.List.{position_from}
use Rattle.std.specs.Option.{option_map_or}
use Rattle.std.proofs.lemmas.List.{drop_more, drop_all}
use Rattle.store_trace.specs.Marks.{begun_by}
use Rattle.routine_judge.specs.Verdicts.{first_judged}
use Rattle.store_trace.specs.declared.event.Event.{Event}

-- no Begin is among the first `at` events
abbrev pub NoneBefore : List Event → ℕ → Type 0
NoneBefore events at = position_from (λ event. is_some (begun_by event)) 0 events ≡ position_from (λ event. is_some (begun_by event)) at (drop at events)

position_more : (events : List Event) (at : ℕ) (d : Event) → at < length events →
    position_from (λ event. is_some (begun_by event)) at (drop at events)
    ≡ cond (is_some (begun_by (get_or events at d))) (Some at) (position_from (λ event. is_some (begun_by event)) (at + 1) (drop (at + 1) events))
position_more events at d h = ap (λ (es : List Event). position_from (λ event. is_some (begun_by event)) at es) (drop_more events at d h)

pub begins_here : (events : List Event) (at : ℕ) (d : Event) → at < length events → NoneBefore events at → is_some (begun_by (get_or events at d)) ≡ true →
    at + 1 ≡ first_judged events
begins_here events at d h none here =
    let found : position_from (λ event. is_some (begun_by event)) 0 events ≡ Some at =
    none ∙ position_more events at d h
    ∙ ap (λ (b : Bool). cond b (Some at) (position_from (λ event. is_some (begun_by event)) (at + 1) (drop (at + 1) events))) here in
    sym (ap (λ (o : Option ℕ). option_map_or (λ (n : ℕ). n + 1) o (length events + 1)) found)

pub begins_later : (events : List Event) (at : ℕ) (d : Event) → at < length events → NoneBefore events at → is_some (begun_by (get_or events at d)) ≡ false →
    NoneBefore events (at + 1)
begins_later events at d h none here =
    none ∙ position_more events at d h
    ∙ ap (λ (b : Bool). cond b (Some at) (position_from (λ event. is_some (begun_by event)) (at + 1) (drop (at + 1) events))) here

pub begins_nowhere : (events : List Event) → NoneBefore events (length events) → length events + 1 ≡ first_judged events
begins_nowhere events none =
    let found : position_from (λ event. is_some (begun_by event)) 0 events ≡ None =
    none ∙ ap (λ (es : List Event). position_from (λ event. is_some (begun_by event)) (length events) es) (drop_all (length events) events (omega arith)) in
    sym (ap (λ (o : Option ℕ). option_map_or (λ (n : ℕ). n + 1) o (length events + 1)) found)
