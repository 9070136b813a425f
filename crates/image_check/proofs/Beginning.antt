-- Where the marks are right, an operation ends only after it begins, so its End is looked for from its Begin on.
use Rattle.std.proofs.Common.{◌≡◌, ℕ, ◌+◌, ◌-◌, ◌<◌, ◌≤◌, inl, inr, List, ◌++◌, length, get_or, take, drop, sym, ap, ◌∙◌, subst, arith, Some, take-append-drop}
use Rattle.std.specs.Prelude.{slice_index_or}
use Rattle.std.specs.List.{Contains}
use Rattle.std.proofs.lemmas.Bool.{cases_lt}
use Rattle.std.proofs.lemmas.List.{get_or-take, length-drop, length-take-le, take_all, take-append-le}
use Rattle.std.proofs.lemmas.List.Elements.{Contains-append_cases, Contains-append_left, Contains-append_right, filter_map-append}
use Rattle.std.proofs.lemmas.Option.{slice_get-get_or, get_or_from_slice_get}
use Rattle.plan.specs.declared.operation.Operation.{Operation}
use Rattle.store_trace.specs.declared.event.Event.{Event}
use Rattle.store_trace.specs.declared.event.Event.TheVariants.{Store, Clean, Fence, Begin, End}
use Rattle.store_trace.specs.Marks.{begun, begun_by, ended, ended_by, pending}
use Rattle.image_check.specs.OrderFaults.{AreSound, HasFault, IsBegunTwice, IsNotPending, OpensSharer, ShareInode}
use Rattle.image_check.specs.declared.fault.OpFault.TheVariants.{BegunTwice, NotPending}
use Rattle.store_trace.proofs.Marking.{open_true, open_unended}
use Rattle.store_trace.proofs.Members.{from_mapped, mapped_here}
use Rattle.image_check.proofs.Sharing.{shared_here}

-- the first events of a sound trace
pub sound_front : (plan : List Operation) (events : List Event) (i : ℕ) → i ≤ length events → AreSound plan events i →
    AreSound plan (take i events) (length (take i events))
sound_front plan events i h s j event fault l at f =
    let whole : length (take i events) ≡ i = length-take-le i events h in
    let inside : j < i = omega arith in
    let short : j ≤ length (take i events) = omega arith in
    let there : j < length events = omega arith in
    let same : take j (take i events) ≡ take j events =
    sym (take-append-le j (take i events) (drop i events) short) ∙ ap (λ (es : List Event). take j es) (take-append-drop i events) in
    let here : get_or events j event ≡ event = sym (get_or-take i events j event inside) ∙ get_or_from_slice_get (take i events) j event event at in
    s j event fault inside (slice_get-get_or events j event there ∙ ap (λ (e : Event). Some e) here)
    (subst (λ (es : List Event). HasFault plan es event fault) same f)

pub sound_first : (plan : List Operation) (events : List Event) (i : ℕ) → i ≤ length events → AreSound plan events (length events) →
    AreSound plan (take i events) (length (take i events))
sound_first plan events i h s = sound_front plan events i h (λ j event fault l. s j event fault (omega arith))

pub twice_from : (before : List Event) (event : Event) (op : ℕ) → begun_by event ≡ Some op → Contains (begun before) op → IsBegunTwice before event
twice_from before (Store hart line offset width value) op e c = absurd cc
twice_from before (Clean hart line) op e c = absurd cc
twice_from before (Fence hart) op e c = absurd cc
twice_from before (Begin hart begins) op e c = let same : op ≡ begins = cc in subst (λ (o : ℕ). Contains (begun before) o) same c
twice_from before (End hart ends) op e c = absurd cc

pub ends_twice : (before : List Event) (event : Event) (op : ℕ) → ended_by event ≡ Some op → Contains (ended before) op → IsNotPending before event
ends_twice before (Store hart line offset width value) op e c = absurd cc
ends_twice before (Clean hart line) op e c = absurd cc
ends_twice before (Fence hart) op e c = absurd cc
ends_twice before (Begin hart begins) op e c = absurd cc
ends_twice before (End hart ends) op e c = λ both. let same : op ≡ ends = cc in both.1 (subst (λ (o : ℕ). Contains (ended before) o) same c)

unbegun_ends : (before : List Event) (event : Event) (op : ℕ) → ended_by event ≡ Some op → ¬ Contains (begun before) op → IsNotPending before event
unbegun_ends before (Store hart line offset width value) op e n = absurd cc
unbegun_ends before (Clean hart line) op e n = absurd cc
unbegun_ends before (Fence hart) op e n = absurd cc
unbegun_ends before (Begin hart begins) op e n = absurd cc
unbegun_ends before (End hart ends) op e n = λ both.
    n (mapped_here begun_by before both.0.0 (Begin hart ends) op both.0.1 (ap (λ (x : Event). begun_by x) both.0.2 ∙ e))

begun_front : (events : List Event) (i op : ℕ) → Contains (begun (take i events)) op → Contains (begun events) op
begun_front events i op c =
    let parts : begun events ≡ begun (take i events) ++ begun (drop i events) =
    ap (λ (es : List Event). begun es) (sym (take-append-drop i events)) ∙ filter_map-append begun_by (take i events) (drop i events) in
    subst (λ (ops : List ℕ). Contains ops op) (sym parts) (Contains-append_left (begun (take i events)) (begun (drop i events)) op c)

-- what begins hasn't ended
pub unended : (plan : List Operation) (before : List Event) (event : Event) (op : ℕ) → AreSound plan before (length before) →
    ¬ HasFault plan before event BegunTwice → begun_by event ≡ Some op → ¬ Contains (ended before) op
unended plan before event op s n b c =
    let from = from_mapped ended_by before op c in
    let at = slice_get-get_or before from.1.0 from.0 from.1.1 ∙ ap (λ (e : Event). Some e) from.1.2 in
    s from.1.0 from.0 NotPending from.1.1 at
    (unbegun_ends (take from.1.0 before) from.0 op from.2 (λ begins. n (twice_from before event op b (begun_front before from.1.0 op begins))))

pub ended_parts : (events : List Event) (i : ℕ) → ended events ≡ ended (take i events) ++ ended (drop i events)
ended_parts events i =
    ap (λ (es : List Event). ended es) (sym (take-append-drop i events)) ∙ filter_map-append ended_by (take i events) (drop i events)

-- from its Begin on an operation ends where it ends at all
opens_whole : (plan : List Operation) (events : List Event) (i : ℕ) (d : Event) (op : ℕ) → i < length events → AreSound plan events (length events) →
    OpensSharer plan (drop i events) (get_or events i d) op → OpensSharer plan events (get_or events i d) op
opens_whole plan events i d op l s o = record {
  other = o.other;
  begins = o.begins;
  open_still = open_true events o.other (λ c.
      elim (Contains-append_cases (ended (take i events)) (ended (drop i events)) o.other (subst (λ (ops : List ℕ). Contains ops o.other) (ended_parts events i) c)) [
        | inl a ↦
            unended plan (take i events) (get_or events i d) o.other
            (sound_first plan events i (omega arith) s)
            (s i (get_or events i d) BegunTwice l (slice_get-get_or events i d l)) o.begins a
        | inr b ↦ open_unended (drop i events) o.other o.open_still b
      ]);
  shares = o.shares;
}

opens_rest : (plan : List Operation) (events : List Event) (i : ℕ) (event : Event) (op : ℕ) →
    OpensSharer plan events event op → OpensSharer plan (drop i events) event op
opens_rest plan events i event op o = record {
  other = o.other;
  begins = o.begins;
  open_still = open_true (drop i events) o.other (λ c. open_unended events o.other o.open_still
      (subst (λ (ops : List ℕ). Contains ops o.other) (sym (ended_parts events i)) (Contains-append_right (ended (take i events)) (ended (drop i events)) o.other c)));
  shares = o.shares;
}

-- the events from one on, as a slice
pub rest_is : (events : List Event) (i : ℕ) → take (length events - i) (drop i events) ≡ drop i events
rest_is events i =
    let whole : length (drop i events) ≡ length events - i = length-drop i events in
    take_all (length events - i) (drop i events) (omega arith)

pub shared_from_here : (plan : List Operation) (events : List Event) (i : ℕ) (d : Event) (op : ℕ) → i < length events → AreSound plan events (length events) →
    OpensSharer plan (take (length events - i) (drop i events)) (get_or events i d) op → (other : ℕ) × Contains (pending events) other × ShareInode plan other op
shared_from_here plan events i d op l s o = shared_here plan events i d op l
    (opens_whole plan events i d op l s (subst (λ (es : List Event). OpensSharer plan es (get_or events i d) op) (rest_is events i) o))

pub unshared_more : (plan : List Operation) (events : List Event) (i : ℕ) (e : Event) (op : ℕ) → i < length events →
    ((k : ℕ) (d : Event) → k < i → ¬ OpensSharer plan events (slice_index_or events k d) op) →
    ¬ OpensSharer plan (take (length events - i) (drop i events)) (get_or events i e) op →
    (k : ℕ) (d : Event) → k < i + 1 → ¬ OpensSharer plan events (slice_index_or events k d) op
unshared_more plan events i e op l h n k d less o = elim (cases_lt k i) [
  | inl before ↦ h k d before o
  | inr late ↦
      let at : k ≡ i = omega arith in
      let same : get_or events k d ≡ get_or events i e = ap (λ (j : ℕ). get_or events j d) at ∙ get_or_from_slice_get events i (get_or events i e) d (slice_get-get_or events i e l) in
      n (subst (λ (es : List Event). OpensSharer plan es (get_or events i e) op) (sym (rest_is events i))
      (opens_rest plan events i (get_or events i e) op (subst (λ (x : Event). OpensSharer plan events x op) same o)))
]
