-- The persistence steps of a run after further events, the newest first.
use Rattle.std.proofs.Common.{◌≡◌, List, [], ◌∷◌, ◌++◌, append_assoc, refl, ap, ◌∙◌, sym}
use Rattle.std.specs.List.{flat_map}
use Rattle.std.proofs.lemmas.List.{append-nil, reverse-append}
use Rattle.store_trace.specs.declared.crash_model.step.PersistenceStep.{PersistenceStep}
use Rattle.store_trace.specs.History.{history, steps_of}
use Rattle.store_trace.specs.declared.event.Event.{Event}

-- the steps after these events, the first of them first
abbrev pub back : List Event → List PersistenceStep → List PersistenceStep
back [] p = p
back (event ∷ events) p = back events (steps_of event ++ p)

pub history_more : (events : List Event) (event : Event) → history (events ++ event ∷ []) ≡ steps_of event ++ history events
history_more events event = ap (λ (es : List Event). flat_map steps_of es) (reverse-append events (event ∷ []))

pub one_more : (xs ys : List Event) (y : Event) → xs ++ (y ∷ ys) ≡ (xs ++ y ∷ []) ++ ys
one_more xs ys y = sym (append_assoc xs (y ∷ []) ys)

pub history_back : (xs ys : List Event) → history (xs ++ ys) ≡ back ys (history xs)
history_back xs [] = ap (λ (es : List Event). history es) (append-nil xs)
history_back xs (y ∷ ys) =
    ap (λ (es : List Event). history es) (one_more xs ys y)
    ∙ history_back (xs ++ y ∷ []) ys
    ∙ ap (λ (p : List PersistenceStep). back ys p) (history_more xs y)

pub back_back : (xs ys : List Event) (p : List PersistenceStep) → back (xs ++ ys) p ≡ back ys (back xs p)
back_back [] ys p = refl
back_back (x ∷ xs) ys p = back_back xs ys (steps_of x ++ p)
