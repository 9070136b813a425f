-- What is kept, with one event more.
use Rattle.std.proofs.Common.{◌≡◌, ℕ, List, [], ◌∷◌, ◌++◌, map, sym, ap, ◌∙◌}
use Rattle.std.specs.Borrow.{Bor}
use Rattle.std.proofs.lemmas.List.{map-append}
use Rattle.store_trace.specs.declared.event.Event.{Event}
use Rattle.trace_file.specs.Entries.{Entry, place_text}
use Rattle.trace_file.specs.Kept.{HoldsEntries}
use Rattle.trace_file.specs.declared.kept.Kept.{Kept}

pub one_more_kept : (old new : Kept) (event : Event) (place : Bor (List ℕ)) → new.events.items ≡ old.events.items ++ event ∷ []
    → new.places.items ≡ old.places.items ++ place ∷ [] → (entries : List Entry) (entry : Entry) → HoldsEntries entries old → entry.event ≡ event
    → place.now ≡ place_text entry.places → HoldsEntries (entries ++ entry ∷ []) new
one_more_kept old new event place events places entries entry holds same at = record {
  events = events ∙ ap (λ (es : List Event). es ++ event ∷ []) holds.events
      ∙ ap (λ (e : Event). map (λ (entry : Entry). entry.event) entries ++ e ∷ []) (sym same)
      ∙ sym (map-append (λ (entry : Entry). entry.event) entries (entry ∷ []));
  places = ap (map (λ (place : Bor (List ℕ)). place.now)) places
      ∙ map-append (λ (place : Bor (List ℕ)). place.now) old.places.items (place ∷ [])
      ∙ ap (λ (ps : List (List ℕ)). ps ++ place.now ∷ []) holds.places
      ∙ ap (λ (p : List ℕ). map (λ (entry : Entry). place_text entry.places) entries ++ p ∷ []) at
      ∙ sym (map-append (λ (entry : Entry). place_text entry.places) entries (entry ∷ []));
}
