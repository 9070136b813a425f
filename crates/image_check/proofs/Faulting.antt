-- The faults of one event, and the first event that has one.
use Rattle.std.proofs.Common.{◌≡◌, ℕ, ◌+◌, ◌<◌, inl, inr, List, length, get_or, take, sym, subst, arith}
use Rattle.std.specs.List.{Contains}
use Rattle.std.proofs.lemmas.Bool.{cases_lt}
use Rattle.std.proofs.lemmas.Option.{slice_get-get_or, get_or_from_slice_get}
use Rattle.plan.specs.declared.operation.Operation.{Operation}
use Rattle.store_trace.specs.declared.event.Event.{Event}
use Rattle.store_trace.specs.declared.event.Event.TheVariants.{Store, Clean, Fence, Begin, End}
use Rattle.store_trace.specs.Marks.{begun, ended, pending}
use Rattle.image_check.specs.OrderFaults.{AreSound, HasFault, IsFirstFault, IsLowestFault, IsPlanned, ShareInode, code_of}
use Rattle.image_check.specs.declared.fault.OpFault.{OpFault}
use Rattle.image_check.specs.declared.fault.OpFault.TheVariants.{Unknown, BegunTwice, NotPending, SharesInode}

pub store_faultless : (plan : List Operation) (before : List Event) (hart line offset width value : ℕ) (fault : OpFault) → ¬ HasFault plan before (Store hart line offset width value) fault
store_faultless plan before hart line offset width value Unknown f = f
store_faultless plan before hart line offset width value BegunTwice f = f
store_faultless plan before hart line offset width value NotPending f = f
store_faultless plan before hart line offset width value SharesInode f = f

pub clean_faultless : (plan : List Operation) (before : List Event) (hart line : ℕ) (fault : OpFault) → ¬ HasFault plan before (Clean hart line) fault
clean_faultless plan before hart line Unknown f = f
clean_faultless plan before hart line BegunTwice f = f
clean_faultless plan before hart line NotPending f = f
clean_faultless plan before hart line SharesInode f = f

pub fence_faultless : (plan : List Operation) (before : List Event) (hart : ℕ) (fault : OpFault) → ¬ HasFault plan before (Fence hart) fault
fence_faultless plan before hart Unknown f = f
fence_faultless plan before hart BegunTwice f = f
fence_faultless plan before hart NotPending f = f
fence_faultless plan before hart SharesInode f = f

-- the lowest fault is one that the event has, where it has none of the lower ones
below : (plan : List Operation) (before : List Event) (event : Event) (n : ℕ) →
    (1 < n → ¬ HasFault plan before event Unknown) → (2 < n → ¬ HasFault plan before event BegunTwice) →
    (3 < n → ¬ HasFault plan before event NotPending) → (4 < n → ¬ HasFault plan before event SharesInode) →
    (lower : OpFault) → code_of lower < n → ¬ HasFault plan before event lower
below plan before event n u b p s Unknown l = u l
below plan before event n u b p s BegunTwice l = b l
below plan before event n u b p s NotPending l = p l
below plan before event n u b p s SharesInode l = s l

unknown_lowest : (plan : List Operation) (before : List Event) (event : Event) → HasFault plan before event Unknown → IsLowestFault plan before event Unknown
unknown_lowest plan before event h = record {
  has = h;
  lowest = below plan before event 1 (λ l. absurd (omega arith)) (λ l. absurd (omega arith)) (λ l. absurd (omega arith)) (λ l. absurd (omega arith));
}

twice_lowest : (plan : List Operation) (before : List Event) (event : Event) → ¬ HasFault plan before event Unknown →
    HasFault plan before event BegunTwice → IsLowestFault plan before event BegunTwice
twice_lowest plan before event u h = record {
  has = h;
  lowest = below plan before event 2 (λ l. u) (λ l. absurd (omega arith)) (λ l. absurd (omega arith)) (λ l. absurd (omega arith));
}

not_pending_lowest : (plan : List Operation) (before : List Event) (event : Event) → ¬ HasFault plan before event Unknown →
    ¬ HasFault plan before event BegunTwice → HasFault plan before event NotPending → IsLowestFault plan before event NotPending
not_pending_lowest plan before event u b h = record {
  has = h;
  lowest = below plan before event 3 (λ l. u) (λ l. b) (λ l. absurd (omega arith)) (λ l. absurd (omega arith));
}

sharing_lowest : (plan : List Operation) (before : List Event) (event : Event) → ¬ HasFault plan before event Unknown →
    ¬ HasFault plan before event BegunTwice → ¬ HasFault plan before event NotPending → HasFault plan before event SharesInode →
    IsLowestFault plan before event SharesInode
sharing_lowest plan before event u b n h = record {
  has = h;
  lowest = below plan before event 4 (λ l. u) (λ l. b) (λ l. n) (λ l. absurd (omega arith));
}

faultless : (plan : List Operation) (before : List Event) (event : Event) → ¬ HasFault plan before event Unknown →
    ¬ HasFault plan before event BegunTwice → ¬ HasFault plan before event NotPending → ¬ HasFault plan before event SharesInode →
    (fault : OpFault) → ¬ HasFault plan before event fault
faultless plan before event u b n s Unknown = u
faultless plan before event u b n s BegunTwice = b
faultless plan before event u b n s NotPending = n
faultless plan before event u b n s SharesInode = s

-- a Begin
pub begin_unknown : (plan : List Operation) (before : List Event) (hart op : ℕ) → ¬ IsPlanned plan op → IsLowestFault plan before (Begin hart op) Unknown
begin_unknown plan before hart op h = unknown_lowest plan before (Begin hart op) h

pub begin_twice : (plan : List Operation) (before : List Event) (hart op : ℕ) → IsPlanned plan op → Contains (begun before) op →
    IsLowestFault plan before (Begin hart op) BegunTwice
begin_twice plan before hart op p h = twice_lowest plan before (Begin hart op) (λ u. u p) h

pub begin_sharing : (plan : List Operation) (before : List Event) (hart op : ℕ) → IsPlanned plan op → ¬ Contains (begun before) op →
    ((other : ℕ) × Contains (pending before) other × ShareInode plan other op) → IsLowestFault plan before (Begin hart op) SharesInode
begin_sharing plan before hart op p n h = sharing_lowest plan before (Begin hart op) (λ u. u p) n (λ f. f) h

pub begin_faultless : (plan : List Operation) (before : List Event) (hart op : ℕ) → IsPlanned plan op → ¬ Contains (begun before) op →
    ¬ ((other : ℕ) × Contains (pending before) other × ShareInode plan other op) → (fault : OpFault) → ¬ HasFault plan before (Begin hart op) fault
begin_faultless plan before hart op p n s = faultless plan before (Begin hart op) (λ u. u p) n (λ f. f) s

-- an End
pub end_unknown : (plan : List Operation) (before : List Event) (hart op : ℕ) → ¬ IsPlanned plan op → IsLowestFault plan before (End hart op) Unknown
end_unknown plan before hart op h = unknown_lowest plan before (End hart op) h

pub end_not_pending : (plan : List Operation) (before : List Event) (hart op : ℕ) → IsPlanned plan op →
    ¬ (Contains before (Begin hart op) × ¬ Contains (ended before) op) → IsLowestFault plan before (End hart op) NotPending
end_not_pending plan before hart op p n = not_pending_lowest plan before (End hart op) (λ u. u p) (λ f. f) n

pub end_unbegun : (plan : List Operation) (before : List Event) (hart op : ℕ) → IsPlanned plan op → ¬ Contains before (Begin hart op) →
    IsLowestFault plan before (End hart op) NotPending
end_unbegun plan before hart op p n = not_pending_lowest plan before (End hart op) (λ u. u p) (λ f. f) (λ h. n h.0)

pub end_ended : (plan : List Operation) (before : List Event) (hart op : ℕ) → IsPlanned plan op → Contains (ended before) op →
    IsLowestFault plan before (End hart op) NotPending
end_ended plan before hart op p e = not_pending_lowest plan before (End hart op) (λ u. u p) (λ f. f) (λ h. h.1 e)

pub end_faultless : (plan : List Operation) (before : List Event) (hart op : ℕ) → IsPlanned plan op → Contains before (Begin hart op) →
    ¬ Contains (ended before) op → (fault : OpFault) → ¬ HasFault plan before (End hart op) fault
end_faultless plan before hart op p b n = faultless plan before (End hart op) (λ u. u p) (λ f. f) (λ f. f (b, n)) (λ f. f)

-- the events so far, and the next one
pub none_sound : (plan : List Operation) (events : List Event) → AreSound plan events 0
none_sound plan events i event fault l at f = omega arith

pub sound_more : (plan : List Operation) (events : List Event) (i : ℕ) (d : Event) → i < length events → AreSound plan events i →
    ((fault : OpFault) → ¬ HasFault plan (take i events) (get_or events i d) fault) → AreSound plan events (i + 1)
sound_more plan events i d inside s h j event fault l at f = elim (cases_lt j i) [
  | inl before ↦ s j event fault before at f
  | inr late ↦
      let e : j ≡ i = omega arith in
      let here : get_or events i d ≡ event = subst (λ (k : ℕ). get_or events k d ≡ event) e (get_or_from_slice_get events j event d at) in
      let g : HasFault plan (take i events) event fault = subst (λ (k : ℕ). HasFault plan (take k events) event fault) e f in
      h fault (subst (λ (x : Event). HasFault plan (take i events) x fault) (sym here) g)
]

pub first_fault : (plan : List Operation) (events : List Event) (i : ℕ) (d : Event) (fault : OpFault) → i < length events → AreSound plan events i →
    IsLowestFault plan (take i events) (get_or events i d) fault → IsFirstFault plan events fault
first_fault plan events i d fault inside s h = record {
  number = i;
  event = get_or events i d;
  place = slice_get-get_or events i d inside;
  here = h;
  earlier = s;
}
