-- The legal outcomes, one event further.
use Rattle.std.proofs.Common.{◌≡◌, ◌⊎◌, ℕ, inl, inr, not, cond, List, [], ◌∷◌, ◌++◌, length, get_or, take, refl, sym, ap, ◌∙◌, subst, arith, Option, Some, None, append-nil, ◌<◌, ◌≤◌, ◌+◌, IsPermutation}
use Rattle.std.specs.Prelude.{◌==◌, filter, option_and_then}
use Rattle.std.specs.List.{Contains, flat_map}
use Rattle.std.proofs.lemmas.List.{take_all, take_more}
use Rattle.std.proofs.lemmas.Option.{slice_get-get_or}
use Rattle.plan.specs.declared.operation.Operation.{Operation}
use Rattle.plan.specs.declared.operation.PlannedEntry.{PlannedEntry}
use Rattle.store_trace.specs.declared.event.Event.{Event}
use Rattle.store_trace.specs.declared.event.Event.TheVariants.{Store, Clean, Fence, Begin, End}
use Rattle.nova_log.specs.declared.volume.entry.Entry.{Entry}
use Rattle.image_check.specs.Growth.{AreOutcomes, begun_on, pending_harts, times}
use Rattle.image_check.specs.Legal.{with_entries}
use Rattle.store_trace.specs.Marks.{begun_by, ended, ended_by}
use Rattle.image_check.specs.OrderFaults.{AreSound}
use Rattle.image_check.specs.Planned.{planned}
use Rattle.image_check.specs.declared.fault.OpFault.TheVariants.{BegunTwice}
use Rattle.image_check.specs.declared.legal.UnderWay.{UnderWay}
use Rattle.image_check.proofs.Beginning.{sound_first, unended}
use Rattle.image_check.proofs.Judging.{joined}
use Rattle.image_check.proofs.Counting.{times_first, times_last, times_permuted, times_without}
use Rattle.image_check.proofs.Pending.{harts_kept, harts_less, harts_more}
use Rattle.store_trace.proofs.Marking.{ended_kept, ended_step}

-- an event that neither begins nor ends anything
pub other_noted : (plan : List Operation) (start settled : Option (List (List Entry))) (before : List Event) (event : Event) (under : List UnderWay) →
    begun_by event ≡ None → ended_by event ≡ None → AreOutcomes plan start before settled under → AreOutcomes plan start (before ++ event ∷ []) settled under
other_noted plan start settled before event under b e h = record {
  settled_is =
      h.settled_is
      ∙ ap (λ (over : List ℕ). option_and_then (λ v. with_entries v (flat_map (planned plan) over)) start) (sym (ended_kept before event e));
  under_way_is = λ hart op. h.under_way_is hart op ∙ ap (λ (us : List UnderWay). times hart op us) (sym (harts_kept before event b e));
}

pub begin_noted : (plan : List Operation) (start settled new : Option (List (List Entry))) (before : List Event) (hart op : ℕ) (under more : List UnderWay) →
    ¬ Contains (ended before) op → new ≡ settled → IsPermutation (begun_on hart op ∷ under) more → AreOutcomes plan start before settled under →
    AreOutcomes plan start (before ++ Begin hart op ∷ []) new more
begin_noted plan start settled new before hart op under more n s m h = record {
  settled_is =
      s
      ∙ h.settled_is
      ∙ ap (λ (over : List ℕ). option_and_then (λ v. with_entries v (flat_map (planned plan) over)) start) (sym (ended_kept before (Begin hart op) refl));
  under_way_is = λ on other.
      let last : times on other (pending_harts (before ++ Begin hart op ∷ [])) ≡ times on other (pending_harts before ++ begun_on hart op ∷ []) =
      ap (λ (us : List UnderWay). times on other us) (harts_more before hart op n) in
      omega (
        arith,
        times_permuted on other (begun_on hart op ∷ under) more m,
        times_first on other (begun_on hart op) under,
        h.under_way_is on other,
        times_last on other (pending_harts before) (begun_on hart op),
        last,
      );
}

settled_later : (plan : List Operation) (start : Option (List (List Entry))) (over : List ℕ) (op : ℕ) →
    option_and_then (λ v. with_entries v (planned plan op)) (option_and_then (λ v. with_entries v (flat_map (planned plan) over)) start)
    ≡ option_and_then (λ v. with_entries v (flat_map (planned plan) (over ++ op ∷ []))) start
settled_later plan None over op = refl
settled_later plan (Some v) over op =
    ap (λ (es : List PlannedEntry). option_and_then (λ w. with_entries w es) (with_entries v (flat_map (planned plan) over))) (sym (append-nil (planned plan op)))
    ∙ sym (joined (planned plan) v (with_entries v (flat_map (planned plan) over)) over (op ∷ []) refl)

-- one less
end_noted : (plan : List Operation) (start settled new : Option (List (List Entry))) (before : List Event) (hart op : ℕ) (under fewer : List UnderWay) →
    new ≡ option_and_then (λ v. with_entries v (planned plan op)) settled → fewer ≡ filter (λ other. not (op == other.op)) under →
    AreOutcomes plan start before settled under → AreOutcomes plan start (before ++ End hart op ∷ []) new fewer
end_noted plan start settled new before hart op under fewer s m h = record {
  settled_is =
      s
      ∙ ap (λ (o : Option (List (List Entry))). option_and_then (λ v. with_entries v (planned plan op)) o) h.settled_is
      ∙ settled_later plan start (ended before) op
      ∙ ap (λ (over : List ℕ). option_and_then (λ v. with_entries v (flat_map (planned plan) over)) start) (sym (ended_step before (End hart op)));
  under_way_is = λ on other.
      ap (λ (us : List UnderWay). times on other us) m
      ∙ times_without on other op under
      ∙ ap (λ (n : ℕ). cond (not (op == other)) n 0) (h.under_way_is on other)
      ∙ sym (times_without on other op (pending_harts before))
      ∙ ap (λ (us : List UnderWay). times on other us) (sym (harts_less before hart op));
}

-- by what an event is
pub begins_noted : (plan : List Operation) (start settled new : Option (List (List Entry))) (before : List Event) (event : Event) (hart op : ℕ) (ops more : List UnderWay) →
    event ≡ Begin hart op → new ≡ settled → IsPermutation (begun_on hart op ∷ ops) more → AreOutcomes plan start before settled ops →
    ((other : ℕ) → begun_by event ≡ Some other → ¬ Contains (ended before) other) → AreOutcomes plan start (before ++ event ∷ []) new more
begins_noted plan start settled new before event hart op ops more e s m h n =
    subst (λ (x : Event). AreOutcomes plan start (before ++ x ∷ []) new more) (sym e)
    (begin_noted plan start settled new before hart op ops more (n op (ap (λ (x : Event). begun_by x) e)) s m h)

pub ends_noted : (plan : List Operation) (start settled new : Option (List (List Entry))) (before : List Event) (event : Event) (hart op : ℕ) (ops fewer : List UnderWay) →
    event ≡ End hart op → new ≡ option_and_then (λ v. with_entries v (planned plan op)) settled → fewer ≡ filter (λ other. not (op == other.op)) ops →
    AreOutcomes plan start before settled ops → AreOutcomes plan start (before ++ event ∷ []) new fewer
ends_noted plan start settled new before event hart op ops fewer e s m h =
    subst (λ (x : Event). AreOutcomes plan start (before ++ x ∷ []) new fewer) (sym e)
    (end_noted plan start settled new before hart op ops fewer s m h)

abbrev IsOther : Event → Type 0
IsOther event =
    ((hart : ℕ) × (line : ℕ) × (offset : ℕ) × (width : ℕ) × (value : ℕ) × (event ≡ Store hart line offset width value))
    ⊎ (((hart : ℕ) × (line : ℕ) × (event ≡ Clean hart line)) ⊎ ((hart : ℕ) × (event ≡ Fence hart)))

no_mark : (event : Event) → IsOther event → (begun_by event ≡ None) × (ended_by event ≡ None)
no_mark event o = elim o [
  | inl s ↦ let e = s.5 in (ap (λ (x : Event). begun_by x) e, ap (λ (x : Event). ended_by x) e)
  | inr r ↦ elim r [
    | inl c ↦ let e = c.2 in (ap (λ (x : Event). begun_by x) e, ap (λ (x : Event). ended_by x) e)
    | inr f ↦ let e = f.1 in (ap (λ (x : Event). begun_by x) e, ap (λ (x : Event). ended_by x) e)
  ]
]

pub others_noted : (plan : List Operation) (start settled : Option (List (List Entry))) (before : List Event) (event : Event) (ops : List UnderWay) →
    IsOther event → AreOutcomes plan start before settled ops → AreOutcomes plan start (before ++ event ∷ []) settled ops
others_noted plan start settled before event ops is h =
    let none = no_mark event is in
    other_noted plan start settled before event ops none.0 none.1 h

-- the next event of a sound trace
pub note_next : (plan : List Operation) (start settled new : Option (List (List Entry))) (events : List Event) (i : ℕ) (d : Event) (ops more : List UnderWay) →
    i < length events → AreSound plan events (length events) → AreOutcomes plan start (take i events) settled ops →
    ((first : Option (List (List Entry))) (before : List Event) → AreOutcomes plan first before settled ops →
    ((op : ℕ) → begun_by (get_or events i d) ≡ Some op → ¬ Contains (ended before) op) →
    AreOutcomes plan first (before ++ get_or events i d ∷ []) new more) →
    AreOutcomes plan start (take (i + 1) events) new more
note_next plan start settled new events i d ops more l s h next =
    subst (λ (es : List Event). AreOutcomes plan start es new more) (sym (take_more events i d l))
    (next start (take i events) h (λ op b.
    unended plan (take i events) (get_or events i d) op
    (sound_first plan events i (omega arith) s)
    (s i (get_or events i d) BegunTwice l (slice_get-get_or events i d l)) b))

pub note_at : (plan : List Operation) (settled new : Option (List (List Entry))) (events all : List Event) (i : ℕ) (event : Event) (ops more : List UnderWay) →
    all ≡ events → i < length all → event ≡ get_or all i event → AreSound plan events (length events) →
    ((first : Option (List (List Entry))) (before : List Event) → AreOutcomes plan first before settled ops →
    ((op : ℕ) → begun_by event ≡ Some op → ¬ Contains (ended before) op) → AreOutcomes plan first (before ++ event ∷ []) new more) →
    (start : Option (List (List Entry))) → AreOutcomes plan start (take i events) settled ops → AreOutcomes plan start (take (i + 1) events) new more
note_at plan settled new events all i event ops more same l at s next start h =
    note_next plan start settled new events i event ops more (subst (λ (es : List Event). i < length es) same l) s h
    (subst
    (λ (x : Event). (first : Option (List (List Entry))) (before : List Event) → AreOutcomes plan first before settled ops →
    ((op : ℕ) → begun_by x ≡ Some op → ¬ Contains (ended before) op) → AreOutcomes plan first (before ++ x ∷ []) new more)
    (at ∙ ap (λ (es : List Event). get_or es i event) same) next)

pub note_last : (plan : List Operation) (start settled : Option (List (List Entry))) (events : List Event) (i : ℕ) (ops : List UnderWay) →
    length events ≤ i → AreOutcomes plan start (take i events) settled ops → AreOutcomes plan start (take (i + 1) events) settled ops
note_last plan start settled events i ops l h =
    let whole : take i events ≡ events = take_all i events l in
    let more : take (i + 1) events ≡ events = take_all (i + 1) events (omega arith) in
    subst (λ (es : List Event). AreOutcomes plan start es settled ops) (whole ∙ sym more) h
