-- The state of sequential events, one event more.
use Rattle.std.proofs.Common.{◌≡◌, ◌⊎◌, ℕ, Bool, true, false, not, inl, inr, List, [], ◌∷◌, ◌++◌, map, append-nil, refl, sym, ap, ◌∙◌, subst, arith, Option, Some, None, eqb-true, eq-eqb}
use Rattle.std.specs.Prelude.{◌↔◌, ◌==◌, ◌||◌, IsTrue, is_some, option_to_list}
use Rattle.std.specs.List.{Contains, cons_option}
use Rattle.std.proofs.lemmas.List.Elements.{Contains-append_left, Contains-push, Contains-push_cases, filter_map-append}
use Rattle.store_trace.proofs.Marking.{open_true, open_unended}
use Rattle.store_trace.proofs.Members.{contains_cases, contains_first, contains_later, from_filter, in_filter, no_members}
use Rattle.store_trace.specs.Marks.{begun, begun_by, ended_by, is_open}
use Rattle.routine_judge.proofs.Faulting.{begin_faultless, end_faultless, ended_begun, no_fault, other_faultless}
use Rattle.routine_judge.proofs.Fitted.{begun_numbers, in_numbers}
use Rattle.routine_judge.proofs.Preceding.{from_map, in_map}
use Rattle.routine_judge.proofs.Splitting.{beginner, begun_in, from_more, in_last, in_more, same_or_not}
use Rattle.routine_judge.specs.Fitting.{IsStateOf, IsWordOf, beginning, beginnings, has, operation_of}
use Rattle.routine_judge.specs.MarkFaults.{HasFault, SomePending}
use Rattle.routine_judge.specs.Operations.{IsPendingBy}
use Rattle.routine_judge.specs.Order.{AreAtRest}
use Rattle.routine_judge.specs.declared.history.fault.MarkFault.{MarkFault}
use Rattle.routine_judge.specs.declared.history.fault.MarkFault.TheVariants.{BegunTwice, NotPending, Overlaps}
use Rattle.routine_judge.specs.declared.order.operation.Operation.{Operation}
use Rattle.routine_judge.specs.declared.order.sequential.SequentialState.{SequentialState}
use Rattle.routine_judge.specs.declared.order.word.Word.{Word}
use Rattle.store_trace.specs.declared.event.Event.{Event}
use Rattle.routine_judge.specs.declared.history.overlap.Overlap.TheVariants.{Never}
use Rattle.store_trace.specs.declared.event.Event.TheVariants.{Store, Clean, Fence, Begin, End}

no_number : (op : ℕ) → None ≡ Some op → ⊥
no_number op e = cc

number_of : (a b : ℕ) → Some a ≡ Some b → a ≡ b
number_of a b e = cc

same_operation : (hart op h q : ℕ) → ◌≡◌ {A = Option Operation} (Some (operation_of hart op)) (Some (operation_of h q)) → (hart ≡ h) × (op ≡ q)
same_operation hart op h q e =
    let same : operation_of hart op ≡ operation_of h q = cc in (ap (λ (o : Operation). o.hart) same, ap (λ (o : Operation). o.op) same)

no_operation : (hart op : ℕ) → ◌≡◌ {A = Option Operation} None (Some (operation_of hart op)) → ⊥
no_operation hart op e = cc

same_begin : (hart op h q : ℕ) → Begin hart op ≡ Begin h q → (hart ≡ h) × (op ≡ q)
same_begin hart op h q e = (cc, cc)

-- what is pending
none_if_not : (pending : Option Operation) → ((hart op : ℕ) → ¬ (pending ≡ Some (operation_of hart op))) → pending ≡ None
none_if_not None h = refl
none_if_not (Some o) h = absurd (h o.hart o.op refl)

this_if_not_other : (pending : Option Operation) (hart op : ℕ) → ¬ (¬ (pending ≡ Some (operation_of hart op))) → pending ≡ Some (operation_of hart op)
this_if_not_other None hart op twice = absurd (twice (λ e. no_operation hart op e))
this_if_not_other (Some o) hart op twice = elim (same_or_not o.op op) [
  | inr other ↦ absurd (twice (λ e. other ((same_operation o.hart o.op hart op e).1)))
  | inl same ↦ elim (same_or_not o.hart hart) [
    | inr other ↦ absurd (twice (λ e. other ((same_operation o.hart o.op hart op e).0)))
    | inl on ↦ ap (λ (q : ℕ). Some (operation_of o.hart q)) same ∙ ap (λ (h : ℕ). Some (operation_of h op)) on
  ]
]

pending_some : (events : List Event) (hart op : ℕ) → IsPendingBy events hart op → SomePending events
pending_some events hart op p = (op, in_filter (is_open events) (begun events) op (begun_in events hart op p.0) (open_true events op p.1))

some_pending : (events : List Event) → SomePending events → (hart : ℕ) × (op : ℕ) × IsPendingBy events hart op
some_pending events s =
    let kept = from_filter (is_open events) (begun events) s.0 s.1 in
    let by = beginner events s.0 kept.0 in
    (by.0, s.0, (by.1, open_unended events s.0 kept.1))

none_pending : (events : List Event) (state : SequentialState) → IsStateOf events state → ¬ SomePending events → state.pending ≡ None
none_pending events state is none = none_if_not state.pending (λ hart op e. none (pending_some events hart op ((is.pends hart op).1 e)))

pub at_rest : (events : List Event) (state : SequentialState) → IsStateOf events state → (state.pending ≡ None) ↔ AreAtRest events
at_rest events state is = (
  λ none hart op p. no_operation hart op (sym none ∙ (is.pends hart op).0 p),
  λ rest. none_if_not state.pending (λ hart op e. rest hart op ((is.pends hart op).1 e)),
)

-- the word, one event further
one_more : (events : List Event) (event : Event) → beginnings (events ++ event ∷ []) ≡ beginnings events ++ cons_option (beginning event) []
one_more events event = filter_map-append beginning events (event ∷ [])

-- no events
pub first_state : (state : SequentialState) → state.done.operations.items ≡ [] → state.pending ≡ None → IsStateOf [] state
first_state state done pending = record {
  sound = λ i event fault inside. absurd (omega (arith, inside));
  begins =
      sym (ap (λ (os : List Operation). os ++ option_to_list state.pending) done ∙ ap (λ (o : Option Operation). [] ++ option_to_list o) pending);
  pends = λ hart op. (λ p. absurd (no_members (Begin hart op) p.0), λ e. absurd (no_operation hart op (sym pending ∙ e)));
}

-- an event that is no mark
other_begins : (event : Event) → begun_by event ≡ None → beginning event ≡ None
other_begins (Store hart line offset width value) b = refl
other_begins (Clean hart line) b = refl
other_begins (Fence hart) b = refl
other_begins (Begin hart op) b = absurd cc
other_begins (End hart op) b = refl

kept_word : (events : List Event) (event : Event) → beginning event ≡ None → beginnings (events ++ event ∷ []) ≡ beginnings events
kept_word events event none =
    one_more events event ∙ ap (λ (o : Option Operation). beginnings events ++ cons_option o []) none ∙ append-nil (beginnings events)

pub other_state : (events : List Event) (event : Event) (old new : SequentialState) → begun_by event ≡ None → ended_by event ≡ None →
    new.done.operations.items ≡ old.done.operations.items → new.pending ≡ old.pending → IsStateOf events old → IsStateOf (events ++ event ∷ []) new
other_state events event old new b e done pending is = record {
  sound = no_fault Never events event is.sound (other_faultless Never events event b e);
  begins =
      kept_word events event (other_begins event b)
      ∙ is.begins
      ∙ sym (ap (λ (os : List Operation). os ++ option_to_list new.pending) done ∙ ap (λ (o : Option Operation). old.done.operations.items ++ option_to_list o) pending);
  pends = λ hart op. (
    λ p.
        pending
        ∙ (is.pends hart op).0 (
          elim (Contains-push_cases events event (Begin hart op) p.0) [
            | inl c ↦ c
            | inr here ↦ absurd (no_number op (sym b ∙ ap (λ (x : Event). begun_by x) here))
          ],
          λ c. p.1 (in_more ended_by events event op c),
        ),
    λ same.
        let p = (is.pends hart op).1 (sym pending ∙ same) in (
          Contains-append_left events (event ∷ []) (Begin hart op) p.0,
          λ c. elim (from_more ended_by events event op c) [ inl d ↦ p.1 d | inr here ↦ no_number op (sym e ∙ here) ],
        ),
  );
}

-- a Begin
pub begin_state : (events : List Event) (hart op : ℕ) (old new : SequentialState) → ((fault : MarkFault) → ¬ HasFault Never events (Begin hart op) fault) →
    new.done.operations.items ≡ old.done.operations.items → new.pending ≡ Some (operation_of hart op) → IsStateOf events old →
    IsStateOf (events ++ Begin hart op ∷ []) new
begin_state events hart op old new none done pending is =
    let unpended : ¬ SomePending events = λ s. none Overlaps s in
    let before : old.pending ≡ None = none_pending events old is unpended in
    let word : beginnings events ≡ old.done.operations.items =
    is.begins ∙ ap (λ (o : Option Operation). old.done.operations.items ++ option_to_list o) before ∙ append-nil old.done.operations.items in
    record {
      sound = no_fault Never events (Begin hart op) is.sound none;
      begins =
          one_more events (Begin hart op)
          ∙ ap (λ (os : List Operation). os ++ operation_of hart op ∷ []) (word ∙ sym done)
          ∙ sym (ap (λ (o : Option Operation). new.done.operations.items ++ option_to_list o) pending);
      pends = λ h q. (
        λ p. elim (Contains-push_cases events (Begin hart op) (Begin h q) p.0) [
          | inl c ↦ absurd (unpended (pending_some events h q (c, λ d. p.1 (in_more ended_by events (Begin hart op) q d))))
          | inr here ↦
              let same = same_begin hart op h q here in
              pending ∙ ap (λ (n : ℕ). Some (operation_of n op)) same.0 ∙ ap (λ (n : ℕ). Some (operation_of h n)) same.1
        ],
        λ e.
            let same = same_operation hart op h q (sym pending ∙ e) in
            let here : Begin hart op ≡ Begin h q = ap (λ (n : ℕ). Begin n op) same.0 ∙ ap (λ (n : ℕ). Begin h n) same.1 in (
              subst (λ (x : Event). Contains (events ++ Begin hart op ∷ []) x) here (Contains-push events (Begin hart op)),
              λ c. elim (from_more ended_by events (Begin hart op) q c) [
                | inl d ↦ none BegunTwice (subst (λ (n : ℕ). Contains (begun events) n) (sym same.1) (ended_begun Never events q is.sound d))
                | inr f ↦ no_number q f
              ],
            ),
      );
    }

-- an End
pub end_state : (events : List Event) (hart op : ℕ) (old new : SequentialState) → ((fault : MarkFault) → ¬ HasFault Never events (End hart op) fault) →
    new.done.operations.items ≡ old.done.operations.items ++ operation_of hart op ∷ [] → new.pending ≡ None → IsStateOf events old →
    IsStateOf (events ++ End hart op ∷ []) new
end_state events hart op old new none done pending is =
    let before : old.pending ≡ Some (operation_of hart op) =
    this_if_not_other old.pending hart op (λ other. none NotPending (λ p. other ((is.pends hart op).0 p))) in
    record {
      sound = no_fault Never events (End hart op) is.sound none;
      begins =
          kept_word events (End hart op) refl
          ∙ is.begins
          ∙ ap (λ (o : Option Operation). old.done.operations.items ++ option_to_list o) before
          ∙ sym done
          ∙ sym (append-nil new.done.operations.items)
          ∙ sym (ap (λ (o : Option Operation). new.done.operations.items ++ option_to_list o) pending);
      pends = λ h q. (
        λ p. elim (Contains-push_cases events (End hart op) (Begin h q) p.0) [
          | inl c ↦
              let was = (is.pends h q).0 (c, λ d. p.1 (in_more ended_by events (End hart op) q d)) in
              let same = same_operation hart op h q (sym before ∙ was) in
              absurd (p.1 (in_last ended_by events (End hart op) q (ap (λ (n : ℕ). Some n) same.1)))
          | inr here ↦ absurd (no_number q (ap (λ (x : Event). begun_by x) here))
        ],
        λ e. absurd (no_operation h q (sym pending ∙ e)),
      );
    }

-- whether the next mark has a fault
pub begin_taken : (events : List Event) (hart op : ℕ) (state : SequentialState) → IsStateOf events state → state.pending ≡ None →
    ¬ Contains (map (λ o. o.op) state.done.operations.items) op → (fault : MarkFault) → ¬ HasFault Never events (Begin hart op) fault
begin_taken events hart op state is none lacks =
    begin_faultless Never events hart op
    (λ c.
    let all : beginnings events ≡ state.done.operations.items =
    is.begins ∙ ap (λ (o : Option Operation). state.done.operations.items ++ option_to_list o) none ∙ append-nil state.done.operations.items in
    lacks (subst (λ (os : List Operation). Contains (map (λ (o : Operation). o.op) os) op) all (in_numbers events op c)))
    (λ some.
    let p = some_pending events some in
    no_operation p.0 p.1 (sym none ∙ (is.pends p.0 p.1).0 p.2))

pub begin_overlapping : (events : List Event) (hart op : ℕ) (state : SequentialState) (o : Operation) → IsStateOf events state → state.pending ≡ Some o →
    (fault : MarkFault) × HasFault Never events (Begin hart op) fault
begin_overlapping events hart op state o is some = (Overlaps, pending_some events o.hart o.op ((is.pends o.hart o.op).1 some))

pub begin_again : (events : List Event) (hart op : ℕ) (state : SequentialState) → IsStateOf events state →
    Contains (map (λ o. o.op) state.done.operations.items) op → (fault : MarkFault) × HasFault Never events (Begin hart op) fault
begin_again events hart op state is c =
    let o = from_map (λ (p : Operation). p.op) state.done.operations.items op c in
    let among : Contains (beginnings events) o.0 =
    subst (λ (os : List Operation). Contains os o.0) (sym is.begins)
    (Contains-append_left state.done.operations.items (option_to_list state.pending) o.0 o.1) in (
      BegunTwice,
      subst (λ (ops : List ℕ). Contains ops op) (begun_numbers events)
          (subst (λ (q : ℕ). Contains (map (λ (p : Operation). p.op) (beginnings events)) q) o.2 (in_map (λ (p : Operation). p.op) (beginnings events) o.0 among)),
    )

pub end_taken : (events : List Event) (hart op : ℕ) (state : SequentialState) → IsStateOf events state → state.pending ≡ Some (operation_of hart op) →
    (fault : MarkFault) → ¬ HasFault Never events (End hart op) fault
end_taken events hart op state is some = end_faultless Never events hart op ((is.pends hart op).1 some)

pub end_refused : (events : List Event) (hart op : ℕ) (state : SequentialState) → IsStateOf events state → ¬ (state.pending ≡ Some (operation_of hart op)) →
    (fault : MarkFault) × HasFault Never events (End hart op) fault
end_refused events hart op state is other = (NotPending, λ p. other ((is.pends hart op).0 p))

-- the word of a run at rest
pub word_at_rest : (events : List Event) (state : SequentialState) (word : Word) → word.operations.items ≡ state.done.operations.items → IsStateOf events state →
    AreAtRest events → IsWordOf events word
word_at_rest events state word same is rest = record {
  sound = is.sound;
  begins =
      is.begins
      ∙ ap (λ (o : Option Operation). state.done.operations.items ++ option_to_list o) ((at_rest events state is).1 rest)
      ∙ append-nil state.done.operations.items
      ∙ sym same;
}

-- an operation in a list
or_first : (a b : Bool) → a ≡ true → (a || b) ≡ true
or_first true b e = refl
or_first false b e = absurd cc

or_second : (a b : Bool) → b ≡ true → (a || b) ≡ true
or_second true b e = refl
or_second false b e = e

or_cases : (a b : Bool) → (a || b) ≡ true → (a ≡ true) ⊎ (b ≡ true)
or_cases true b e = inl refl
or_cases false b e = inr e

pub has_so : (word : List Operation) (op : ℕ) → Contains (map (λ o. o.op) word) op → has word op ≡ true
has_so [] op c = absurd (no_members op c)
has_so (o ∷ word) op c = elim (contains_cases o.op (map (λ (p : Operation). p.op) word) op c) [
  | inl e ↦ or_first (o.op == op) (has word op) (eq-eqb o.op op e)
  | inr d ↦ or_second (o.op == op) (has word op) (has_so word op d)
]

pub so_has : (word : List Operation) (op : ℕ) → has word op ≡ true → Contains (map (λ o. o.op) word) op
so_has [] op e = absurd cc
so_has (o ∷ word) op e = elim (or_cases (o.op == op) (has word op) e) [
  | inl here ↦ contains_first o.op (map (λ (p : Operation). p.op) word) op (eqb-true o.op op here)
  | inr there ↦ contains_later o.op (map (λ (p : Operation). p.op) word) op (so_has word op there)
]

-- what a state shows of what is pending
pub none_told : (pending : Option Operation) (so : Bool) → is_some pending ≡ not so → so ≡ true → pending ≡ None
none_told None so e t = refl
none_told (Some o) true e t = absurd cc
none_told (Some o) false e t = absurd cc

pub some_told : (pending : Option Operation) (so : Bool) → is_some pending ≡ not so → so ≡ false → (o : Operation) × (pending ≡ Some o)
some_told (Some o) so e t = (o, refl)
some_told None true e t = absurd cc
some_told None false e t = absurd cc

pub rests_so : (events : List Event) (state : SequentialState) (so : Bool) → IsStateOf events state → is_some state.pending ≡ not so → IsTrue so ↔ AreAtRest events
rests_so events state so is e = (
  λ t. (at_rest events state is).0 (none_told state.pending so e t),
  λ rest. so_none so (sym e ∙ ap (λ (o : Option Operation). is_some o) ((at_rest events state is).1 rest)),
)
  where
    so_none : (b : Bool) → not b ≡ false → b ≡ true
    so_none true t = refl
    so_none false t = absurd cc

pub goes_on : (events : List Event) (state : SequentialState) (pending : Operation) (hart : ℕ) → IsStateOf events state → state.pending ≡ Some pending →
    IsTrue (pending.hart == hart) ↔ ((beginner op : ℕ) → IsPendingBy events beginner op → beginner ≡ hart)
goes_on events state pending hart is some = (
  λ t beginner op p.
      let same = same_operation pending.hart pending.op beginner op (sym some ∙ (is.pends beginner op).0 p) in
      sym same.0 ∙ eqb-true pending.hart hart t,
  λ all. eq-eqb pending.hart hart (all pending.hart pending.op ((is.pends pending.hart pending.op).1 some)),
)

pub goes_any : (events : List Event) (state : SequentialState) (hart : ℕ) → IsStateOf events state → state.pending ≡ None →
    IsTrue true ↔ ((beginner op : ℕ) → IsPendingBy events beginner op → beginner ≡ hart)
goes_any events state hart is none = (
  λ t beginner op p. absurd (no_operation beginner op (sym none ∙ (is.pends beginner op).0 p)),
  λ all. refl,
)
