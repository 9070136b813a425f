-- The marks that led to a state, by what the state keeps.
use Rattle.std.proofs.Common.{◌≡◌, ◌↔◌, ◌⊎◌, ℕ, ◌+◌, ◌<◌, Bool, true, false, ◌&&◌, ◌||◌, inl, inr, List, [], ◌∷◌, ◌++◌, map, length, get_or, take, refl, sym, ap, ◌∙◌, subst, arith, Option, Some, None, IsPermutation, true≢false, eqb-true, eq-eqb}
use Rattle.std.specs.Prelude.{◌==◌, nat_eq, IsTrue}
use Rattle.std.specs.Cmp.{first_so, second_so, unsigned_Decides}
use Rattle.std.specs.Cmp.Lexicographic.{pointwise, pointwise_decides}
use Rattle.std.specs.List.{AllPairs, Contains, cons_option, filter_map, list_any}
use Rattle.std.proofs.lemmas.Bool.{cases_Bool, cases_lt}
use Rattle.std.proofs.lemmas.List.{get_or_append_left, get_or_push, length_push, take-append-le, take_all}
use Rattle.std.proofs.lemmas.List.Elements.{Contains-append_cases, Contains-append_left, Contains-append_right}
use Rattle.std.proofs.lemmas.List.Sorted.{Contains-permutation, IsPermutation-sym}
use Rattle.std.proofs.lemmas.Option.{slice_get-get_or, get_or_from_slice_get}
use Rattle.nova_log.specs.declared.volume.entry.Entry.{Entry}
use Rattle.plan.specs.declared.operation.Operation.{Operation}
use Rattle.store_trace.specs.declared.event.Event.{Event}
use Rattle.store_trace.specs.declared.event.Event.TheVariants.{Store, Clean, Fence, Begin, End}
use Rattle.store_trace.specs.Marks.{begun, begun_by, ended, ended_by, is_open, pending}
use Rattle.store_trace.proofs.Marking.{ended_kept, ended_step, open_true, open_unended}
use Rattle.store_trace.proofs.Members.{contains_cases, contains_first, contains_later, from_filter, from_mapped, from_some, in_filter, mapped_here, no_members}
use Rattle.image_check.specs.Growth.{AreApart, AreInOrder, AreOutcomes, beginning, begun_on, pending_harts}
use Rattle.image_check.specs.OrderFaults.{AreSound, HasFault, ShareInode}
use Rattle.image_check.specs.PlanStates.{IsPendingOn, IsPlanState}
use Rattle.image_check.specs.SameOutcomes.{same_outcomes, same_settled}
use Rattle.image_check.specs.SameOutcomes as tests
use Rattle.image_check.specs.declared.fault.OpFault.{OpFault}
use Rattle.image_check.specs.declared.fault.OpFault.TheVariants.{BegunTwice, NotPending}
use Rattle.image_check.specs.declared.legal.UnderWay.{UnderWay}
use Rattle.image_check.specs.declared.plan_state.PlanState.{PlanState}
use Rattle.image_check.proofs.Apart.{sound_apart}
use Rattle.image_check.proofs.Beginning.{ends_twice, twice_from, unended}
use Rattle.image_check.proofs.Comparing.{both_true, mark_decides, settled_decides}
use Rattle.image_check.proofs.Counting.{counted, found_counted}
use Rattle.image_check.proofs.Faulting.{clean_faultless, fence_faultless, store_faultless}
use Rattle.image_check.proofs.Judging.{pending_permuted}
use Rattle.image_check.proofs.Noting.{other_noted}
use Rattle.image_check.proofs.Rising.{none_in_order, one_list}

or_first : (a b : Bool) → a ≡ true → (a || b) ≡ true
or_first true b e = refl
or_first false b e = absurd cc

or_second : (a b : Bool) → b ≡ true → (a || b) ≡ true
or_second true b e = refl
or_second false b e = e

or_cases : (a b : Bool) → (a || b) ≡ true → (a ≡ true) ⊎ (b ≡ true)
or_cases true b e = inl refl
or_cases false b e = inr e

-- a test that finds a number
number_found : (xs : List ℕ) (op : ℕ) → IsTrue (list_any (λ y. y == op) xs) ↔ Contains xs op
number_found [] op = (λ e. absurd (true≢false (sym e)), λ c. absurd (no_members op c))
number_found (x ∷ xs) op = (
  λ e. elim (or_cases (x == op) (list_any (λ y. y == op) xs) e) [
    | inl a ↦ contains_first x xs op (eqb-true x op a)
    | inr b ↦ contains_later x xs op ((number_found xs op).0 b)
  ],
  λ c. elim (contains_cases x xs op c) [
    | inl s ↦ or_first (x == op) (list_any (λ y. y == op) xs) (eq-eqb x op s)
    | inr d ↦ or_second (x == op) (list_any (λ y. y == op) xs) ((number_found xs op).1 d)
  ],
)

-- what began on this hart and hasn't ended
one_beginning : (event : Event) (hart op : ℕ) → beginning event ≡ Some (begun_on hart op) → event ≡ Begin hart op
one_beginning (Store h line offset width value) hart op e = absurd cc
one_beginning (Clean h line) hart op e = absurd cc
one_beginning (Fence h) hart op e = absurd cc
one_beginning (Begin h o) hart op e =
    let same : begun_on h o ≡ begun_on hart op = cc in
    ap (λ (u : UnderWay). Begin u.hart u.op) same
one_beginning (End h o) hart op e = absurd cc

pub under_way_marks : (plan : List Operation) (start settled : Option (List (List Entry))) (events : List Event) (under : List UnderWay) (hart op : ℕ) →
    AreOutcomes plan start events settled under → Contains under (begun_on hart op) ↔ IsPendingOn events hart op
under_way_marks plan start settled events under hart op h = (
  λ c.
      let there : Contains (pending_harts events) (begun_on hart op) =
      found_counted hart op (pending_harts events) (subst (λ (n : ℕ). 0 < n) (h.under_way_is hart op) (counted (begun_on hart op) under c)) in
      let both = from_filter (λ u. is_open events u.op) (filter_map beginning events) (begun_on hart op) there in
      let from = from_mapped beginning events (begun_on hart op) both.0 in
      (subst (λ (x : Event). Contains events x) (one_beginning from.0 hart op from.2) from.1, open_unended events op both.1),
  λ b.
      let mark : Contains (filter_map beginning events) (begun_on hart op) =
      mapped_here beginning events b.0.0 (Begin hart op) (begun_on hart op) b.0.1 (ap (λ (x : Event). beginning x) b.0.2) in
      let there : Contains (pending_harts events) (begun_on hart op) =
      in_filter (λ u. is_open events u.op) (filter_map beginning events) (begun_on hart op) mark (open_true events op b.1) in
      found_counted hart op under (subst (λ (n : ℕ). 0 < n) (sym (h.under_way_is hart op)) (counted (begun_on hart op) (pending_harts events) there)),
)

-- the pending operations
pub under_way_pending : (plan : List Operation) (start settled : Option (List (List Entry))) (events : List Event) (under : List UnderWay) (op : ℕ) →
    AreOutcomes plan start events settled under → Contains (map (λ u. u.op) under) op ↔ Contains (pending events) op
under_way_pending plan start settled events under op h =
    let p = pending_permuted plan start events settled under h in (
      λ c. Contains-permutation (map (λ u. u.op) under) (pending events) op p c,
      λ c. Contains-permutation (pending events) (map (λ u. u.op) under) op (IsPermutation-sym (map (λ u. u.op) under) (pending events) p) c,
    )

-- what ended began
ended_begun : (plan : List Operation) (events : List Event) (op : ℕ) → AreSound plan events (length events) → Contains (ended events) op → Contains (begun events) op
ended_begun plan events op s c = elim (cases_Bool (list_any (λ y. y == op) (begun events))) [
  | inl t ↦ (number_found (begun events) op).0 t
  | inr f ↦ absurd (unended plan events (Begin 0 op) op s (λ b. true≢false (sym ((number_found (begun events) op).1 b) ∙ f)) refl c)
]

pub begun_state : (plan : List Operation) (start : Option (List (List Entry))) (events : List Event) (state : PlanState) (op : ℕ) → IsPlanState plan start events state →
    (Contains (map (λ u. u.op) state.outcomes.under_way.items) op ⊎ Contains state.ended.items op) ↔ Contains (begun events) op
begun_state plan start events state op h =
    let under = under_way_pending plan start state.outcomes.settled events state.outcomes.under_way.items op h.outcomes_are in (
      λ c. elim c [
        | inl a ↦ (from_filter (is_open events) (begun events) op (under.0 a)).0
        | inr b ↦ ended_begun plan events op h.sound ((h.ended_are op).0 b)
      ],
      λ b. elim (cases_Bool (is_open events op)) [
        | inl t ↦ inl (under.1 (in_filter (is_open events) (begun events) op b t))
        | inr f ↦ inr ((h.ended_are op).1 (shut events op f))
      ],
    )
  where
    shut : (events : List Event) (op : ℕ) → is_open events op ≡ false → Contains (ended events) op
    shut events op f = elim (cases_Bool (list_any (λ y. y == op) (ended events))) [
      | inl t ↦ (number_found (ended events) op).0 t
      | inr g ↦ absurd (true≢false (sym (open_true events op (λ c. true≢false (sym ((number_found (ended events) op).1 c) ∙ g))) ∙ f))
    ]

-- a pending operation that shares an inode
pub sharing_state : (plan : List Operation) (start : Option (List (List Entry))) (events : List Event) (state : PlanState) (op : ℕ) → IsPlanState plan start events state →
    ((other : ℕ) × Contains (map (λ u. u.op) state.outcomes.under_way.items) other × ShareInode plan other op)
    ↔ ((other : ℕ) × Contains (pending events) other × ShareInode plan other op)
sharing_state plan start events state op h = (
  λ s. (s.0, (under_way_pending plan start state.outcomes.settled events state.outcomes.under_way.items s.0 h.outcomes_are).0 s.1, s.2),
  λ s. (s.0, (under_way_pending plan start state.outcomes.settled events state.outcomes.under_way.items s.0 h.outcomes_are).1 s.1, s.2),
)

-- pending operations share no inode
pub apart_state : (plan : List Operation) (start : Option (List (List Entry))) (events : List Event) (state : PlanState) → IsPlanState plan start events state →
    AreApart plan events
apart_state plan start events state h =
    subst (λ (es : List Event). AreApart plan es) (take_all (length events) events (omega arith)) (sound_apart plan events (length events) (omega arith) h.sound)

-- one event more that has no fault
sound_next : (plan : List Operation) (events : List Event) (event : Event) → AreSound plan events (length events) →
    ((fault : OpFault) → ¬ HasFault plan events event fault) → AreSound plan (events ++ event ∷ []) (length (events ++ event ∷ []))
sound_next plan events event s n i e fault l at f =
    let long : length (events ++ event ∷ []) ≡ length events + 1 = length_push events event in
    elim (cases_lt i (length events)) [
      | inl before ↦
          let same : take i (events ++ event ∷ []) ≡ take i events = take-append-le i events (event ∷ []) (omega arith) in
          let here : get_or events i e ≡ e =
          sym (get_or_append_left events (event ∷ []) e i before) ∙ get_or_from_slice_get (events ++ event ∷ []) i e e at in
          s i e fault before (slice_get-get_or events i e before ∙ ap (λ (x : Event). Some x) here)
          (subst (λ (es : List Event). HasFault plan es e fault) same f)
      | inr late ↦
          let last : length events ≡ i = omega arith in
          let same : take i (events ++ event ∷ []) ≡ events =
          take-append-le i events (event ∷ []) (omega arith) ∙ take_all i events (omega arith) in
          let here : event ≡ e = sym (get_or_push events event e i last) ∙ get_or_from_slice_get (events ++ event ∷ []) i e e at in
          n fault (subst (λ (x : Event). HasFault plan events x fault) (sym here) (subst (λ (es : List Event). HasFault plan es e fault) same f))
    ]

-- before any event
pub first_state : (plan : List Operation) (start : Option (List (List Entry))) (state : PlanState) →
    AreOutcomes plan start [] state.outcomes.settled state.outcomes.under_way.items → state.ended.items ≡ [] → IsPlanState plan start [] state
first_state plan start state h none = record {
  sound = λ i event fault l at f. absurd (omega (arith, l));
  outcomes_are = h;
  ended_are = λ op. (
    λ c. subst (λ (ops : List ℕ). Contains ops op) none c,
    λ c. subst (λ (ops : List ℕ). Contains ops op) (sym none) c,
  );
  in_order = none_in_order state.outcomes.under_way.items h.under_way_is;
  ended_in_order = subst (λ (ops : List ℕ). AllPairs (λ x y. x < y) ops) (sym none) (λ i j d less inside. absurd (omega arith));
}

-- one more that has ended
pub one_ended : (over : Option ℕ) (x : ℕ) (old new : List ℕ) → over ≡ Some x → IsPermutation (x ∷ old) new →
    (op : ℕ) → Contains new op ↔ (Contains old op ⊎ (over ≡ Some op))
one_ended over x old new e p op = (
  λ c. elim (contains_cases x old op (Contains-permutation new (x ∷ old) op (IsPermutation-sym (x ∷ old) new p) c)) [
    | inl s ↦ inr (e ∙ ap (λ (y : ℕ). Some y) s)
    | inr d ↦ inl d
  ],
  λ c. Contains-permutation (x ∷ old) new op p (elim c [
    | inl d ↦ contains_later x old op d
    | inr s ↦ let same : x ≡ op = cc in contains_first x old op same
  ]),
)

pub ended_next : (events : List Event) (event : Event) (old new : List ℕ) → ((op : ℕ) → Contains new op ↔ (Contains old op ⊎ (ended_by event ≡ Some op))) →
    ((op : ℕ) → Contains old op ↔ Contains (ended events) op) → (op : ℕ) → Contains new op ↔ Contains (ended (events ++ event ∷ [])) op
ended_next events event old new h was op =
    let step : ended (events ++ event ∷ []) ≡ ended events ++ cons_option (ended_by event) [] = ended_step events event in (
      λ c. subst (λ (ops : List ℕ). Contains ops op) (sym step) (elim ((h op).0 c) [
        | inl d ↦ Contains-append_left (ended events) (cons_option (ended_by event) []) op ((was op).0 d)
        | inr e ↦
            Contains-append_right (ended events) (cons_option (ended_by event) []) op
            (subst (λ (o : Option ℕ). Contains (cons_option o []) op) (sym e) (contains_first op [] op refl))
      ]),
      λ c. (h op).1 (elim (Contains-append_cases (ended events) (cons_option (ended_by event) []) op (subst (λ (ops : List ℕ). Contains ops op) step c)) [
        | inl d ↦ inl ((was op).1 d)
        | inr d ↦ elim (from_some (ended_by event) [] op d) [ inl e ↦ inr e | inr z ↦ absurd (no_members op z) ]
      ]),
    )

-- one event more
pub state_next : (plan : List Operation) (start : Option (List (List Entry))) (events : List Event) (event : Event) (state copy next : PlanState) →
    copy.outcomes.settled ≡ state.outcomes.settled → copy.outcomes.under_way.items ≡ state.outcomes.under_way.items → copy.ended.items ≡ state.ended.items →
    ((fault : OpFault) → ¬ HasFault plan events event fault) →
    (AreOutcomes plan start events copy.outcomes.settled copy.outcomes.under_way.items →
    ((op : ℕ) → begun_by event ≡ Some op → ¬ Contains (ended events) op) →
    AreOutcomes plan start (events ++ event ∷ []) next.outcomes.settled next.outcomes.under_way.items) →
    (AreInOrder copy.outcomes.under_way.items → ((op : ℕ) → begun_by event ≡ Some op → ¬ Contains (map (λ u. u.op) copy.outcomes.under_way.items) op) →
    AreInOrder next.outcomes.under_way.items) →
    ((op : ℕ) → Contains next.ended.items op ↔ (Contains copy.ended.items op ⊎ (ended_by event ≡ Some op))) →
    (AllPairs (λ x y. x < y) copy.ended.items → ((op : ℕ) → ended_by event ≡ Some op → ¬ Contains copy.ended.items op) →
    AllPairs (λ x y. x < y) next.ended.items) →
    IsPlanState plan start events state → IsPlanState plan start (events ++ event ∷ []) next
state_next plan start events event state copy next settled under over faultless noted ordered more rising is = record {
  sound = sound_next plan events event is.sound faultless;
  outcomes_are =
      noted
      (subst (λ (us : List UnderWay). AreOutcomes plan start events copy.outcomes.settled us) (sym under)
      (subst (λ (v : Option (List (List Entry))). AreOutcomes plan start events v state.outcomes.under_way.items) (sym settled) is.outcomes_are))
      (λ op b. unended plan events event op is.sound (faultless BegunTwice) b);
  ended_are =
      ended_next events event copy.ended.items next.ended.items more
      (subst (λ (ops : List ℕ). (op : ℕ) → Contains ops op ↔ Contains (ended events) op) (sym over) is.ended_are);
  in_order =
      ordered (subst (λ (us : List UnderWay). AreInOrder us) (sym under) is.in_order)
      (λ op b c. faultless BegunTwice (twice_from events event op b
      ((begun_state plan start events state op is).0 (inl (subst (λ (us : List UnderWay). Contains (map (λ u. u.op) us) op) under c)))));
  ended_in_order =
      rising (subst (λ (ops : List ℕ). AllPairs (λ x y. x < y) ops) (sym over) is.ended_in_order)
      (λ op e c. faultless NotPending (ends_twice events event op e ((is.ended_are op).0 (subst (λ (ops : List ℕ). Contains ops op) over c))));
}

-- an event that neither begins nor ends anything
unmarked_faultless : (plan : List Operation) (before : List Event) (event : Event) → begun_by event ≡ None → ended_by event ≡ None →
    (fault : OpFault) → ¬ HasFault plan before event fault
unmarked_faultless plan before (Store hart line offset width value) b e = store_faultless plan before hart line offset width value
unmarked_faultless plan before (Clean hart line) b e = clean_faultless plan before hart line
unmarked_faultless plan before (Fence hart) b e = fence_faultless plan before hart
unmarked_faultless plan before (Begin hart op) b e = absurd cc
unmarked_faultless plan before (End hart op) b e = absurd cc

pub state_kept : (plan : List Operation) (start : Option (List (List Entry))) (events : List Event) (event : Event) (state : PlanState) →
    begun_by event ≡ None → ended_by event ≡ None → IsPlanState plan start events state → IsPlanState plan start (events ++ event ∷ []) state
state_kept plan start events event state b e is = record {
  sound = sound_next plan events event is.sound (unmarked_faultless plan events event b e);
  outcomes_are = other_noted plan start state.outcomes.settled events event state.outcomes.under_way.items b e is.outcomes_are;
  ended_are = subst (λ (ops : List ℕ). (op : ℕ) → Contains state.ended.items op ↔ Contains ops op) (sym (ended_kept events event e)) is.ended_are;
  in_order = is.in_order;
  ended_in_order = is.ended_in_order;
}

-- equal states
pub state_same : (plan : List Operation) (start : Option (List (List Entry))) (events : List Event) (state other : PlanState) →
    (same_outcomes state.outcomes other.outcomes && pointwise nat_eq state.ended.items other.ended.items) ≡ true →
    IsPlanState plan start events state → IsPlanState plan start events other
state_same plan start events state other told is =
    let outcomes = first_so (same_outcomes state.outcomes other.outcomes) (pointwise nat_eq state.ended.items other.ended.items) told in
    let over = second_so (same_outcomes state.outcomes other.outcomes) (pointwise nat_eq state.ended.items other.ended.items) told in
    let settled_told = first_so (same_settled state.outcomes.settled other.outcomes.settled) (pointwise tests.same_mark state.outcomes.under_way.items other.outcomes.under_way.items) outcomes in
    let under_told = second_so (same_settled state.outcomes.settled other.outcomes.settled) (pointwise tests.same_mark state.outcomes.under_way.items other.outcomes.under_way.items) outcomes in
    let settled = (settled_decides state.outcomes.settled other.outcomes.settled).0 settled_told in
    let under = (pointwise_decides mark_decides state.outcomes.under_way.items other.outcomes.under_way.items).0 under_told in
    let gone = (pointwise_decides unsigned_Decides state.ended.items other.ended.items).0 over in
    record {
      sound = is.sound;
      outcomes_are =
          subst (λ (us : List UnderWay). AreOutcomes plan start events other.outcomes.settled us) under
          (subst (λ (v : Option (List (List Entry))). AreOutcomes plan start events v state.outcomes.under_way.items) settled is.outcomes_are);
      ended_are = subst (λ (ops : List ℕ). (op : ℕ) → Contains ops op ↔ Contains (ended events) op) gone is.ended_are;
      in_order = subst (λ (us : List UnderWay). AreInOrder us) under is.in_order;
      ended_in_order = subst (λ (ops : List ℕ). AllPairs (λ x y. x < y) ops) gone is.ended_in_order;
    }

-- states after events that leave the same
mark_hart : (plan : List Operation) (start other_start settled other_settled : Option (List (List Entry))) (events others : List Event) (us vs : List UnderWay) →
    AreOutcomes plan start events settled us → AreOutcomes plan other_start others other_settled vs →
    ((hart op : ℕ) → IsPendingOn events hart op → IsPendingOn others hart op) →
    (u : UnderWay) → Contains us u → Contains vs u
mark_hart plan start other_start settled other_settled events others us vs h k same u c =
    (under_way_marks plan other_start other_settled others vs u.hart u.op k).1
    (same u.hart u.op ((under_way_marks plan start settled events us u.hart u.op h).0 c))

pub state_one : (plan : List Operation) (start : Option (List (List Entry))) (events others : List Event) (state other : PlanState) →
    IsPlanState plan start events state → IsPlanState plan start others other → state.outcomes.settled ≡ other.outcomes.settled →
    ((hart op : ℕ) → IsPendingOn events hart op ↔ IsPendingOn others hart op) →
    ((op : ℕ) → Contains (ended events) op ↔ Contains (ended others) op) →
    (same_outcomes state.outcomes other.outcomes && pointwise nat_eq state.ended.items other.ended.items) ≡ true
state_one plan start events others state other is its settled pending_same ended_same =
    let us = state.outcomes.under_way.items in
    let vs = other.outcomes.under_way.items in
    let under : us ≡ vs =
    one_list (λ (u : UnderWay). u.op) us vs is.in_order its.in_order
    (mark_hart plan start start state.outcomes.settled other.outcomes.settled events others us vs is.outcomes_are its.outcomes_are (λ hart op. (pending_same hart op).0))
    (mark_hart plan start start other.outcomes.settled state.outcomes.settled others events vs us its.outcomes_are is.outcomes_are (λ hart op. (pending_same hart op).1)) in
    let gone : state.ended.items ≡ other.ended.items =
    one_list (λ (x : ℕ). x) state.ended.items other.ended.items is.ended_in_order its.ended_in_order
    (λ op c. (its.ended_are op).1 ((ended_same op).0 ((is.ended_are op).0 c)))
    (λ op c. (is.ended_are op).1 ((ended_same op).1 ((its.ended_are op).0 c))) in
    both_true (same_outcomes state.outcomes other.outcomes) (pointwise nat_eq state.ended.items other.ended.items)
    (both_true (same_settled state.outcomes.settled other.outcomes.settled) (pointwise tests.same_mark us vs)
    ((settled_decides state.outcomes.settled other.outcomes.settled).1 settled) ((pointwise_decides mark_decides us vs).1 under))
    ((pointwise_decides unsigned_Decides state.ended.items other.ended.items).1 gone)
