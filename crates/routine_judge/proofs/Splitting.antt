-- Events split at one of them, and what is sound event by event.
use Rattle.std.proofs.Common.{◌≡◌, ◌⊎◌, ℕ, ◌+◌, ◌<◌, inl, inr, List, [], ◌∷◌, ◌++◌, length, get_or, take, drop, refl, sym, ap, ◌∙◌, subst, arith, append_assoc, Option, Some, eqb-true, eq-eqb, true≢false, length-append}
use Rattle.std.specs.Prelude.{◌==◌, slice_get}
use Rattle.std.specs.List.{Contains, cons_option, filter_map}
use Rattle.std.proofs.lemmas.Bool.{cases_Bool, cases_lt}
use Rattle.std.proofs.lemmas.List.{get_or-append-add, get_or_append_left, take-append-drop, take-append-le, take_all}
use Rattle.std.proofs.lemmas.List.Elements.{Contains-append_left, Contains-append_right, Contains-push_cases, filter_map-append}
use Rattle.std.proofs.lemmas.Option.{get_or_from_slice_get, slice_get-get_or}
use Rattle.store_trace.proofs.Members.{contains_cases, contains_first, contains_later, from_mapped, mapped_here, no_members}
use Rattle.store_trace.specs.Marks.{begun, begun_by, ended, ended_by}
use Rattle.image_check.specs.OrderFaults.{IsNotPending}
use Rattle.routine_judge.proofs.Marked.{begin_of}
use Rattle.routine_judge.specs.Order.{EndsBefore}
use Rattle.store_trace.specs.declared.event.Event.{Event}
use Rattle.store_trace.specs.declared.event.Event.TheVariants.{Store, Clean, Fence, Begin, End}

-- numbers in a list
pub same_or_not : (a b : ℕ) → (a ≡ b) ⊎ ¬ (a ≡ b)
same_or_not a b = elim (cases_Bool (a == b)) [
  | inl e ↦ inl (eqb-true a b e)
  | inr e ↦ inr (λ same. true≢false (sym (eq-eqb a b same) ∙ e))
]

pub in_or_not : (ops : List ℕ) (op : ℕ) → Contains ops op ⊎ ¬ Contains ops op
in_or_not [] op = inr (no_members op)
in_or_not (x ∷ ops) op = elim (same_or_not x op) [
  | inl e ↦ inl (contains_first x ops op e)
  | inr other ↦ elim (in_or_not ops op) [
    | inl c ↦ inl (contains_later x ops op c)
    | inr lacks ↦ inr (λ c. elim (contains_cases x ops op c) [ inl e ↦ other e | inr d ↦ lacks d ])
  ]
]

pub in_if_not_out : (ops : List ℕ) (op : ℕ) → ¬ (¬ Contains ops op) → Contains ops op
in_if_not_out ops op twice = elim (in_or_not ops op) [ inl c ↦ c | inr lacks ↦ absurd (twice lacks) ]

-- lists split at an element
not_nil : {X : Type 0} (before after : List X) (x : X) → [] ≡ before ++ x ∷ after → ⊥
not_nil [] after x e = absurd cc
not_nil (b ∷ before) after x e = absurd cc

pub split_last : {X : Type 0} (xs : List X) (e : X) (before after : List X) (x : X) → xs ++ e ∷ [] ≡ before ++ x ∷ after →
    ((before ≡ xs) × (x ≡ e)) ⊎ ((rest : List X) × (xs ≡ before ++ x ∷ rest))
split_last [] e [] after x h = inl (refl, cc)
split_last [] e (b ∷ before) after x h = absurd (not_nil before after x cc)
split_last (y ∷ xs) e [] after x h = inr (xs, cc)
split_last {X = X} (y ∷ xs) e (b ∷ before) after x h =
    let rest : xs ++ e ∷ [] ≡ before ++ x ∷ after = cc in
    let first : y ≡ b = cc in
    elim (split_last xs e before after x rest) [
      | inl both ↦ inl (cc, both.1)
      | inr more ↦ inr (more.0, let tail : xs ≡ before ++ x ∷ more.0 = more.1 in cc)
    ]

-- one operation that ended before another begins
pub kept_before : (events : List Event) (event : Event) (x y : ℕ) → EndsBefore events x y → EndsBefore (events ++ event ∷ []) x y
kept_before events event x y e = record {
  before = e.before;
  after = e.after ++ event ∷ [];
  hart = e.hart;
  is = ap (λ (es : List Event). es ++ event ∷ []) e.is ∙ append_assoc e.before (Begin e.hart y ∷ e.after) (event ∷ []);
  ended_then = e.ended_then;
}

pub before_last : (events : List Event) (hart x y : ℕ) → Contains (ended events) x → EndsBefore (events ++ Begin hart y ∷ []) x y
before_last events hart x y c = record { before = events; after = []; hart = hart; is = refl; ended_then = c }

pub before_cases : (events : List Event) (event : Event) (x y : ℕ) → EndsBefore (events ++ event ∷ []) x y →
    EndsBefore events x y ⊎ ((hart : ℕ) × (event ≡ Begin hart y) × Contains (ended events) x)
before_cases events event x y e = elim (split_last events event e.before e.after (Begin e.hart y) e.is) [
  | inl both ↦ inr (e.hart, sym both.1, subst (λ (es : List Event). Contains (ended es) x) both.0 e.ended_then)
  | inr more ↦ inl (record { before = e.before; after = more.0; hart = e.hart; is = more.1; ended_then = e.ended_then })
]

pub begun_in : (events : List Event) (hart op : ℕ) → Contains events (Begin hart op) → Contains (begun events) op
begun_in events hart op c = mapped_here begun_by events c.0 (Begin hart op) op c.1 (ap (λ (e : Event). begun_by e) c.2)

pub begun_behind : (events : List Event) (x y : ℕ) → EndsBefore events x y → Contains (begun events) y
begun_behind events x y e =
    begun_in events e.hart y
    (subst (λ (es : List Event). Contains es (Begin e.hart y)) (sym e.is)
    (Contains-append_right e.before (Begin e.hart y ∷ e.after) (Begin e.hart y) (contains_first (Begin e.hart y) e.after (Begin e.hart y) refl)))

pub beginner : (events : List Event) (op : ℕ) → Contains (begun events) op → (hart : ℕ) × Contains events (Begin hart op)
beginner events op c =
    let from = from_mapped begun_by events op c in
    let is = begin_of from.0 op from.2 in
    (is.0, subst (λ (e : Event). Contains events e) is.1 from.1)

-- what the events give with one more, by what that one gives
more : (h : Event → Option ℕ) (before : List Event) (event : Event) → filter_map h (before ++ event ∷ []) ≡ filter_map h before ++ cons_option (h event) []
more h before event = filter_map-append h before (event ∷ [])

pub from_more : (h : Event → Option ℕ) (before : List Event) (event : Event) (op : ℕ) → Contains (filter_map h (before ++ event ∷ [])) op →
    Contains (filter_map h before) op ⊎ (h event ≡ Some op)
from_more h before event op c =
    let from = from_mapped h (before ++ event ∷ []) op c in
    elim (Contains-push_cases before event from.0 from.1) [
      | inl a ↦ let d : Contains before from.0 = a in inl (mapped_here h before d.0 from.0 op d.1 (ap h d.2 ∙ from.2))
      | inr b ↦ inr (ap h b ∙ from.2)
    ]

pub in_more : (h : Event → Option ℕ) (before : List Event) (event : Event) (op : ℕ) → Contains (filter_map h before) op →
    Contains (filter_map h (before ++ event ∷ [])) op
in_more h before event op c =
    subst (λ (ops : List ℕ). Contains ops op) (sym (more h before event)) (Contains-append_left (filter_map h before) (cons_option (h event) []) op c)

pub in_last : (h : Event → Option ℕ) (before : List Event) (event : Event) (op : ℕ) → h event ≡ Some op → Contains (filter_map h (before ++ event ∷ [])) op
in_last h before event op here =
    let one : cons_option (h event) [] ≡ op ∷ [] = ap (λ (o : Option ℕ). cons_option o []) here in
    subst (λ (ops : List ℕ). Contains ops op) (sym (more h before event))
    (Contains-append_right (filter_map h before) (cons_option (h event) []) op (subst (λ (ops : List ℕ). Contains ops op) (sym one) (contains_first op [] op refl)))

pub in_front : (h : Event → Option ℕ) (events : List Event) (i op : ℕ) → Contains (filter_map h (take i events)) op → Contains (filter_map h events) op
in_front h events i op c =
    subst (λ (es : List Event). Contains (filter_map h es) op) (take-append-drop i events)
    (subst (λ (ops : List ℕ). Contains ops op) (sym (filter_map-append h (take i events) (drop i events)))
    (Contains-append_left (filter_map h (take i events)) (filter_map h (drop i events)) op c))

-- F doesn't hold of an event behind those in front of it
abbrev pub NoneIs : (List Event → Event → Type 0) → List Event → Type 0
NoneIs F events = (i : ℕ) (event : Event) → i < length events → slice_get events i ≡ Some event → ¬ F (take i events) event

module _ (F : List Event → Event → Type 0) where
  pub none_more : (events : List Event) (event : Event) → NoneIs F events → ¬ F events event → NoneIs F (events ++ event ∷ [])
  none_more events event h last i e inside at f =
      let all : length (events ++ event ∷ []) ≡ length events + length (event ∷ []) = length-append events (event ∷ []) in
      let here : get_or (events ++ event ∷ []) i e ≡ e = get_or_from_slice_get (events ++ event ∷ []) i e e at in
      elim (cases_lt i (length events)) [
        | inl before ↦
            let old : slice_get events i ≡ Some e =
            slice_get-get_or events i e before ∙ ap (λ (x : Event). Some x) (sym (get_or_append_left events (event ∷ []) e i before) ∙ here) in
            h i e before old (subst (λ (es : List Event). F es e) (take-append-le i events (event ∷ []) (omega (arith, before))) f)
        | inr late ↦
            let same : i ≡ length events = omega (arith, late, inside, all) in
            let is : event ≡ e =
            sym (get_or-append-add events (event ∷ []) 0 e)
            ∙ ap (λ (k : ℕ). get_or (events ++ event ∷ []) k e) (let back : length events + 0 ≡ i = omega (arith, same) in back)
            ∙ here in
            let front : take i (events ++ event ∷ []) ≡ events =
            take-append-le i events (event ∷ []) (omega (arith, same)) ∙ take_all i events (omega (arith, same)) in
            last (subst (λ (x : Event). F events x) (sym is) (subst (λ (es : List Event). F es e) front f))
      ]

  pub none_front : (front rest : List Event) → NoneIs F (front ++ rest) → NoneIs F front
  none_front front rest h i e inside at f =
      let here : get_or front i e ≡ e = get_or_from_slice_get front i e e at in
      let all : length (front ++ rest) ≡ length front + length rest = length-append front rest in
      let within : i < length (front ++ rest) = omega (arith, inside, all) in
      h i e within (slice_get-get_or (front ++ rest) i e within ∙ ap (λ (x : Event). Some x) (get_or_append_left front rest e i inside ∙ here))
      (subst (λ (es : List Event). F es e) (sym (take-append-le i front rest (omega (arith, inside)))) f)

  pub none_at : (events front rest : List Event) (e : Event) → events ≡ front ++ e ∷ rest → NoneIs F events → ¬ F front e
  none_at events front rest e is h f =
      let g : NoneIs F (front ++ e ∷ rest) = subst (λ (es : List Event). NoneIs F es) is h in
      let all : length (front ++ e ∷ rest) ≡ length front + length (e ∷ rest) = length-append front (e ∷ rest) in
      let within : length front < length (front ++ e ∷ rest) = omega (arith, all) in
      let here : get_or (front ++ e ∷ rest) (length front) e ≡ e =
      ap (λ (k : ℕ). get_or (front ++ e ∷ rest) k e) (let back : length front ≡ length front + 0 = omega arith in back)
      ∙ get_or-append-add front (e ∷ rest) 0 e in
      let whole : take (length front) (front ++ e ∷ rest) ≡ front =
      take-append-le (length front) front (e ∷ rest) (omega arith) ∙ take_all (length front) front (omega arith) in
      g (length front) e within (slice_get-get_or (front ++ e ∷ rest) (length front) e within ∙ ap (λ (x : Event). Some x) here)
      (subst (λ (es : List Event). F es e) (sym whole) f)

-- an operation that has ended has begun
pub end_of : (event : Event) (op : ℕ) → ended_by event ≡ Some op → (hart : ℕ) × (event ≡ End hart op)
end_of (Store hart line offset width value) op e = absurd cc
end_of (Clean hart line) op e = absurd cc
end_of (Fence hart) op e = absurd cc
end_of (Begin hart other) op e = absurd cc
end_of (End hart other) op e = (hart, let same : other ≡ op = cc in ap (λ (o : ℕ). End hart o) same)

pub ended_began : (events : List Event) (op : ℕ) → NoneIs IsNotPending events → Contains (ended events) op → Contains (begun events) op
ended_began events op none c =
    let from = from_mapped ended_by events op c in
    let is = end_of from.0 op from.2 in
    let at : Contains events (End is.0 op) = subst (λ (e : Event). Contains events e) is.1 from.1 in
    let there : slice_get events at.0 ≡ Some (End is.0 op) =
    slice_get-get_or events at.0 (End is.0 op) at.1 ∙ ap (λ (e : Event). Some e) at.2 in
    in_if_not_out (begun events) op
    (λ lacks. none at.0 (End is.0 op) at.1 there (λ pending. lacks (in_front begun_by events at.0 op (begun_in (take at.0 events) is.0 op pending.0))))
