-- The events after one more, and what ends with it.
use Rattle.std.proofs.Common.{◌≡◌, ℕ, suc, ◌+◌, ◌-◌, ◌<◌, List, [], ◌∷◌, Some, None, length, get_or, take, refl, ap, ◌∙◌, arith}
use Rattle.std.specs.Prelude.{reverse, slice_get}
use Rattle.std.proofs.lemmas.List.{reverse-append, take_more}
use Rattle.std.proofs.lemmas.Option.{get_or_from_slice_get, slice_get_within}
use Rattle.store_trace.specs.declared.event.Event.{Event}
use Rattle.store_trace.specs.declared.event.Event.TheVariants.{End}
use Rattle.durability.specs.Numbered.{event_at}
use Rattle.durability.specs.Operations.{IsEndedBy, open_at, open_begins}

-- the newest first
pub newest : (events : List Event) (i : ℕ) (event : Event) → event_at events (i + 1) ≡ Some event →
    reverse (take (i + 1) events) ≡ event ∷ reverse (take i events)
newest events i event here =
    let one : i + 1 ≡ suc i = omega arith in
    let place : slice_get events i ≡ Some event = rw one at here in
    let there : i < length events = slice_get_within events i event place in
    let is : get_or events i event ≡ event = get_or_from_slice_get events i event event place in
    ap (λ (es : List Event). reverse es) (take_more events i event there)
    ∙ reverse-append (take i events) (get_or events i event ∷ [])
    ∙ ap (λ (e : Event). e ∷ reverse (take i events)) is

pub open_more : (events : List Event) (i h op : ℕ) (event : Event) → event_at events (i + 1) ≡ Some event →
    open_at events (i + 1) h op ≡ open_begins h op (event ∷ reverse (take i events))
open_more events i h op event here = ap (λ (es : List Event). open_begins h op es) (newest events i event here)

-- an event that is no End ends nothing
pub ends_nothing : (events : List Event) (n : ℕ) (event : Event) → event_at events n ≡ Some event →
    ((h op : ℕ) → event ≡ End h op → ⊥) → IsEndedBy events n None
ends_nothing events n event here other = λ h op b e.
    let ends : event_at events n ≡ Some (End h op) = e.ends in
    let same : event ≡ End h op = cc in
    other h op same

pub end_hart : (g h o op : ℕ) → End g o ≡ End h op → g ≡ h
end_hart g h o op e = cc

pub end_operation : (g h o op : ℕ) → End g o ≡ End h op → o ≡ op
end_operation g h o op e = cc

pub same_event : (events : List Event) (n : ℕ) (one other : Event) → event_at events n ≡ Some one → event_at events n ≡ Some other → one ≡ other
same_event events n one other here there = cc

no_first : (b : ℕ) (ns : List ℕ) → ns ≡ [] → slice_get ns 0 ≡ Some b → ⊥
no_first b [] e got = cc
no_first b (n ∷ ns) e got = cc

-- an End where none of its Begins is open
pub ends_no_begin : (events : List Event) (i h op : ℕ) → event_at events (i + 1) ≡ Some (End h op) → open_at events i h op ≡ [] →
    IsEndedBy events (i + 1) None
ends_no_begin events i h op here empty = λ g other b e.
    let same : End h op ≡ End g other = same_event events (i + 1) (End h op) (End g other) here e.ends in
    let hart : h ≡ g = end_hart h g op other same in
    let operation : op ≡ other = end_operation h g op other same in
    let back : i + 1 - 1 ≡ i = omega arith in
    let begins : slice_get (open_at events i h op) 0 ≡ Some b = rw (hart, operation) (rw back at e.begins) in
    no_first b (open_at events i h op) empty begins

-- and where one is
pub ends_its_first : (events : List Event) (i h op b : ℕ) → event_at events (i + 1) ≡ Some (End h op) →
    slice_get (open_at events i h op) 0 ≡ Some b → IsEndedBy events (i + 1) (Some (record { hart = h; operation = op; begin = b; end = i + 1 }))
ends_its_first events i h op b here first =
    let back : i + 1 - 1 ≡ i = omega arith in
    (refl, record { ends = here; begins = rw back first })
