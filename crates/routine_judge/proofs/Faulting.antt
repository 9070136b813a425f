-- The faults of one event, and the first event that has one.
use Rattle.std.proofs.Common.{◌≡◌, ℕ, ◌+◌, ◌<◌, inl, inr, List, [], ◌∷◌, ◌++◌, None, length, get_or, take, sym, subst, arith}
use Rattle.std.specs.List.{Contains}
use Rattle.std.proofs.lemmas.Bool.{cases_lt}
use Rattle.std.proofs.lemmas.Option.{get_or_from_slice_get}
use Rattle.store_trace.specs.declared.event.Event.{Event}
use Rattle.store_trace.specs.declared.event.Event.TheVariants.{Store, Clean, Fence, Begin, End}
use Rattle.store_trace.specs.Marks.{begun, begun_by, ended, ended_by}
use Rattle.image_check.specs.OrderFaults.{IsBegunTwice, IsNotPending}
use Rattle.routine_judge.proofs.Splitting.{ended_began, none_more}
use Rattle.routine_judge.specs.MarkFaults.{AreSound, HasFault, IsLowestFault, IsOverlap, MayNotBegin, code_of}
use Rattle.routine_judge.specs.Operations.{IsPendingBy}
use Rattle.routine_judge.specs.declared.history.fault.MarkFault.{MarkFault}
use Rattle.routine_judge.specs.declared.history.overlap.Overlap.{Overlap}
use Rattle.routine_judge.specs.declared.history.fault.MarkFault.TheVariants.{BegunTwice, NotPending, Overlaps, NoOperation, Memory}

pub begin_faultless : (overlap : Overlap) (before : List Event) (hart op : ℕ) → ¬ Contains (begun before) op →
    ¬ MayNotBegin overlap before hart → (fault : MarkFault) → ¬ HasFault overlap before (Begin hart op) fault
begin_faultless overlap before hart op new apart BegunTwice f = new f
begin_faultless overlap before hart op new apart NotPending f = f
begin_faultless overlap before hart op new apart Overlaps f = apart f
begin_faultless overlap before hart op new apart NoOperation f = f
begin_faultless overlap before hart op new apart Memory f = f

pub end_faultless : (overlap : Overlap) (before : List Event) (hart op : ℕ) → IsPendingBy before hart op →
    (fault : MarkFault) → ¬ HasFault overlap before (End hart op) fault
end_faultless overlap before hart op pending BegunTwice f = f
end_faultless overlap before hart op pending NotPending f = f pending
end_faultless overlap before hart op pending Overlaps f = f
end_faultless overlap before hart op pending NoOperation f = f
end_faultless overlap before hart op pending Memory f = f

-- an event that is no mark
not_twice : (before : List Event) (event : Event) → begun_by event ≡ None → ¬ IsBegunTwice before event
not_twice before (Store hart line offset width value) b f = f
not_twice before (Clean hart line) b f = f
not_twice before (Fence hart) b f = f
not_twice before (Begin hart op) b f = absurd cc
not_twice before (End hart op) b f = f

not_unended : (before : List Event) (event : Event) → ended_by event ≡ None → ¬ IsNotPending before event
not_unended before (Store hart line offset width value) b f = f
not_unended before (Clean hart line) b f = f
not_unended before (Fence hart) b f = f
not_unended before (Begin hart op) b f = f
not_unended before (End hart op) b f = absurd cc

not_overlapping : (overlap : Overlap) (before : List Event) (event : Event) → begun_by event ≡ None → ¬ IsOverlap overlap before event
not_overlapping overlap before (Store hart line offset width value) b f = f
not_overlapping overlap before (Clean hart line) b f = f
not_overlapping overlap before (Fence hart) b f = f
not_overlapping overlap before (Begin hart op) b f = absurd cc
not_overlapping overlap before (End hart op) b f = f

pub other_faultless : (overlap : Overlap) (before : List Event) (event : Event) → begun_by event ≡ None → ended_by event ≡ None →
    (fault : MarkFault) → ¬ HasFault overlap before event fault
other_faultless overlap before event b e BegunTwice f = not_twice before event b f
other_faultless overlap before event b e NotPending f = not_unended before event e f
other_faultless overlap before event b e Overlaps f = not_overlapping overlap before event b f
other_faultless overlap before event b e NoOperation f = f
other_faultless overlap before event b e Memory f = f

-- a fault is the lowest one where the event has none of the lower ones
below : (overlap : Overlap) (before : List Event) (event : Event) (n : ℕ) →
    (2 < n → ¬ HasFault overlap before event BegunTwice) → (3 < n → ¬ HasFault overlap before event NotPending) →
    (5 < n → ¬ HasFault overlap before event Overlaps) →
    (lower : MarkFault) → code_of lower < n → ¬ HasFault overlap before event lower
below overlap before event n twice unended overlaps BegunTwice l = twice l
below overlap before event n twice unended overlaps NotPending l = unended l
below overlap before event n twice unended overlaps Overlaps l = overlaps l
below overlap before event n twice unended overlaps NoOperation l = λ f. f
below overlap before event n twice unended overlaps Memory l = λ f. f

pub begin_twice : (overlap : Overlap) (before : List Event) (hart op : ℕ) → Contains (begun before) op → IsLowestFault overlap before (Begin hart op) BegunTwice
begin_twice overlap before hart op c = record {
  has = c;
  lowest = below overlap before (Begin hart op) 2 (λ l. absurd (omega arith)) (λ l. absurd (omega arith)) (λ l. absurd (omega arith));
}

pub begin_overlaps : (overlap : Overlap) (before : List Event) (hart op : ℕ) → ¬ Contains (begun before) op → MayNotBegin overlap before hart →
    IsLowestFault overlap before (Begin hart op) Overlaps
begin_overlaps overlap before hart op new pends = record {
  has = pends;
  lowest = below overlap before (Begin hart op) 5 (λ l. new) (λ l f. f) (λ l. absurd (omega arith));
}

pub end_not_pending : (overlap : Overlap) (before : List Event) (hart op : ℕ) → ¬ IsPendingBy before hart op → IsLowestFault overlap before (End hart op) NotPending
end_not_pending overlap before hart op lacks = record {
  has = lacks;
  lowest = below overlap before (End hart op) 3 (λ l f. f) (λ l. absurd (omega arith)) (λ l. absurd (omega arith));
}

-- the events so far, and the next one
pub sound_more : (overlap : Overlap) (events : List Event) (i : ℕ) (d : Event) → AreSound overlap events i →
    ((fault : MarkFault) → ¬ HasFault overlap (take i events) (get_or events i d) fault) → AreSound overlap events (i + 1)
sound_more overlap events i d s h j event fault l at f = elim (cases_lt j i) [
  | inl before ↦ s j event fault before at f
  | inr late ↦
      let e : j ≡ i = omega arith in
      let here : get_or events i d ≡ event = subst (λ (k : ℕ). get_or events k d ≡ event) e (get_or_from_slice_get events j event d at) in
      let g : HasFault overlap (take i events) event fault = subst (λ (k : ℕ). HasFault overlap (take k events) event fault) e f in
      h fault (subst (λ (x : Event). HasFault overlap (take i events) x fault) (sym here) g)
]

pub no_fault : (overlap : Overlap) (events : List Event) (event : Event) → AreSound overlap events (length events) →
    ((fault : MarkFault) → ¬ HasFault overlap events event fault) → AreSound overlap (events ++ event ∷ []) (length (events ++ event ∷ []))
no_fault overlap events event h last i e fault inside at f =
    none_more (λ before one. HasFault overlap before one fault) events event (λ k one within there. h k one fault within there) (last fault) i e inside at f

-- an operation that has ended has begun
pub ended_begun : (overlap : Overlap) (events : List Event) (op : ℕ) → AreSound overlap events (length events) → Contains (ended events) op →
    Contains (begun events) op
ended_begun overlap events op sound c = ended_began events op (λ i event inside at. sound i event NotPending inside at) c
