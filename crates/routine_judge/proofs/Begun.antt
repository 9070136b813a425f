-- Whether an operation begins in some events.
use Rattle.std.proofs.Common.{◌≡◌, ◌≢◌, ℕ, ◌+◌, ◌<◌, true, false, List, [], ◌∷◌, ◌++◌, length, get_or, take, refl, ap, ◌∙◌, subst, arith, None, Option, Some}
use Rattle.std.specs.Prelude.{is_some}
use Rattle.std.specs.List.{Contains, cons_option}
use Rattle.std.proofs.lemmas.List.{append-nil, take_more}
use Rattle.std.proofs.lemmas.List.Elements.{filter_map-append}
use Rattle.std.proofs.lemmas.Option.{slice_get-get_or}
use Rattle.store_trace.proofs.Members.{contains_first, from_mapped, mapped_here, no_members}
use Rattle.store_trace.specs.Marks.{begun, begun_by}
use Rattle.routine_judge.proofs.Marked.{begin_of}
use Rattle.routine_judge.specs.MarkFaults.{AreSound, HasSoundBegin}
use Rattle.routine_judge.specs.declared.history.overlap.Overlap.{Overlap}
use Rattle.store_trace.specs.declared.event.Event.{Event}

none_of : (o : Option ℕ) → is_some o ≡ false → o ≡ None
none_of None e = refl
none_of (Some op) e = absurd cc

one_of : (o : Option ℕ) → is_some o ≡ true → (op : ℕ) × (o ≡ Some op)
one_of None e = absurd cc
one_of (Some op) e = (op, refl)

pub begun_one : (events : List Event) (i : ℕ) (d : Event) → i < length events → is_some (begun_by (get_or events i d)) ≡ true → begun events ≡ [] → ⊥
begun_one events i d inside begins none =
    let here = one_of (begun_by (get_or events i d)) begins in
    no_members here.0 (subst (λ (ops : List ℕ). Contains ops here.0) none (mapped_here begun_by events i d here.0 inside here.1))

pub begun_none : (events : List Event) (i : ℕ) (d : Event) → i < length events → begun (take i events) ≡ [] → is_some (begun_by (get_or events i d)) ≡ false →
    begun (take (i + 1) events) ≡ []
begun_none events i d inside none other =
    ap (λ (es : List Event). begun es) (take_more events i d inside)
    ∙ filter_map-append begun_by (take i events) (get_or events i d ∷ [])
    ∙ ap (λ (o : Option ℕ). begun (take i events) ++ cons_option o []) (none_of (begun_by (get_or events i d)) other)
    ∙ append-nil (begun (take i events)) ∙ none

first_of : (ops : List ℕ) → ops ≢ [] → (op : ℕ) × Contains ops op
first_of [] some = absurd (some refl)
first_of (op ∷ ops) some = (op, contains_first op ops op refl)

-- where no event is at fault, and an operation begins
pub sound_begin : (overlap : Overlap) (events : List Event) → AreSound overlap events (length events) → begun events ≢ [] → HasSoundBegin overlap events
sound_begin overlap events sound some =
    let op = first_of (begun events) some in
    let from = from_mapped begun_by events op.0 op.1 in
    let begins = begin_of from.0 op.0 from.2 in
    let inside : from.1.0 < length events = from.1.1 in
    record {
      at = from.1.0;
      hart = begins.0;
      op = op.0;
      begins = slice_get-get_or events from.1.0 from.0 inside ∙ ap (λ (event : Event). Some event) (from.1.2 ∙ begins.1);
      sound = λ i event fault before. sound i event fault (omega (arith, before, inside));
    }
