-- A run is whole exactly where nothing keeps it from being so.
use Rattle.std.proofs.Common.{◌≡◌, ◌∙◌, ◌⊎◌, ℕ, zero, suc, ◌+◌, ◌<◌, Bool, true, false, not, cond, inl, inr, List, [], ◌∷◌, ◌++◌, length, map, refl, sym, ap, subst, ◌↔◌, All, arith, eqb-true, eq-eqb, true≢false}
use Rattle.std.specs.Prelude.{◌==◌}
use Rattle.std.specs.List.{Contains, enumerate_from, flat_map}
use Rattle.std.proofs.lemmas.Bool.{cases_Bool}
use Rattle.std.proofs.lemmas.List.Elements.{All-cons, All-nil}
use Rattle.hart.specs.declared.state.HartState.{HartState}
use Rattle.hart.specs.declared.state.Status.{Status}
use Rattle.hart.specs.declared.state.Status.TheVariants.{Running, Exited, Trapped}
use Rattle.store_trace.specs.Marks.{begun, ended, is_open, pending}
use Rattle.store_trace.proofs.Members.{contains_first, from_filter, in_filter, no_members}
use Rattle.store_trace.specs.declared.event.Event.{Event}
use Rattle.unfinished.specs.Causes.{AreCauses, AreUnended, IsMissing, cause_of, cause_of_hart, hart_causes, is_among, is_success}
use Rattle.unfinished.specs.Whole.{IsWhole}
use Rattle.unfinished.specs.declared.unfinished.Unfinished.{Unfinished}
use Rattle.unfinished.proofs.Numbers.{among_false, from_among, not_among}

success_exits : (status : Status) → is_success status ≡ true → status ≡ Exited 0
success_exits Running e = absurd cc
success_exits (Exited code) e = ap (λ (c : ℕ). Exited c) (eqb-true code 0 e)
success_exits (Trapped trap) e = absurd cc

exits_success : (status : Status) → status ≡ Exited 0 → is_success status ≡ true
exits_success status e = rw e refl

first_none : {X : Type 0} (xs ys : List X) → xs ++ ys ≡ [] → xs ≡ []
first_none [] ys e = refl
first_none (x ∷ xs) ys e = absurd cc

second_none : {X : Type 0} (xs ys : List X) → xs ++ ys ≡ [] → ys ≡ []
second_none [] ys e = e
second_none (x ∷ xs) ys e = absurd cc

none_mapped : {X Y : Type 0} (f : X → Y) (xs : List X) → map f xs ≡ [] → xs ≡ []
none_mapped f [] e = refl
none_mapped f (x ∷ xs) e = absurd cc

no_cause : (b : Bool) (u : Unfinished) → cond b [] (u ∷ []) ≡ [] → b ≡ true
no_cause true u e = refl
no_cause false u e = absurd cc

none_exits : (n : ℕ) (harts : List HartState) → flat_map cause_of_hart (enumerate_from n harts) ≡ [] → All (λ s. s.status ≡ Exited 0) harts
none_exits n [] e = All-nil (λ s. s.status ≡ Exited 0)
none_exits n (s ∷ harts) e =
    let here = first_none (cause_of_hart (n, s)) (flat_map cause_of_hart (enumerate_from (n + 1) harts)) e in
    let later = second_none (cause_of_hart (n, s)) (flat_map cause_of_hart (enumerate_from (n + 1) harts)) e in
    All-cons (λ s. s.status ≡ Exited 0) s harts (success_exits s.status (no_cause (is_success s.status) _ here)) (none_exits (n + 1) harts later)

exits_none : (n : ℕ) (harts : List HartState) → All (λ s. s.status ≡ Exited 0) harts → flat_map cause_of_hart (enumerate_from n harts) ≡ []
exits_none n [] all = refl
exits_none n (s ∷ harts) all =
    rw (exits_success s.status (all 0 s (omega arith)), exits_none (n + 1) harts (λ k d below. all (suc k) d (omega arith))) refl

-- no operation is left where none is pending and none is missing
none_left : (planned : List ℕ) (events : List Event) (numbers : List ℕ) → AreUnended planned events numbers
    → ((op : ℕ) → ¬ Contains (pending events) op) → ((op : ℕ) → ¬ IsMissing planned events op) → numbers ≡ []
none_left planned events [] are no_pending no_missing = refl
none_left planned events (op ∷ numbers) are no_pending no_missing =
    elim ((are.which op).0 (contains_first op numbers op refl)) [
      | inl p ↦ absurd (no_pending op p)
      | inr m ↦ absurd (no_missing op m)
    ]

pub none_whole : (planned : List ℕ) (harts : List HartState) (events : List Event) (causes : List Unfinished)
    → AreCauses planned harts events causes → causes ≡ [] → IsWhole planned harts events
none_whole planned harts events causes are none =
    let joined : hart_causes harts ++ map (cause_of events) are.numbers ≡ [] = sym are.all ∙ none in
    let empty : are.numbers ≡ [] =
    none_mapped (cause_of events) are.numbers (second_none (hart_causes harts) (map (cause_of events) are.numbers) joined) in
    let gone : (op : ℕ) → ¬ (Contains (pending events) op ⊎ IsMissing planned events op) = λ op left.
    no_members op (subst (λ (l : List ℕ). Contains l op) empty ((are.unended.which op).1 left)) in
    record {
      exited = none_exits 0 harts (first_none (hart_causes harts) (map (cause_of events) are.numbers) joined);
      began = λ op in_plan. elim (cases_Bool (is_among (begun events) op)) [
        | inl t ↦ from_among (begun events) op t
        | inr f ↦ absurd (gone op (inr (in_plan, not_among (begun events) op f)))
      ];
      ended = λ op started. elim (cases_Bool (is_among (ended events) op)) [
        | inl t ↦ from_among (ended events) op t
        | inr f ↦ absurd (gone op (inl (in_filter (is_open events) (begun events) op started (ap not f))))
      ];
    }

not_true : (b : Bool) → not b ≡ true → b ≡ false
not_true true e = absurd cc
not_true false e = refl

pub whole_none : (planned : List ℕ) (harts : List HartState) (events : List Event) (causes : List Unfinished)
    → AreCauses planned harts events causes → IsWhole planned harts events → causes ≡ []
whole_none planned harts events causes are whole =
    let no_pending : (op : ℕ) → ¬ Contains (pending events) op = λ op p.
    let still = from_filter (is_open events) (begun events) op p in
    not_among (ended events) op (not_true (is_among (ended events) op) still.1) (whole.ended op still.0) in
    let no_missing : (op : ℕ) → ¬ IsMissing planned events op = λ op m. m.1 (whole.began op m.0) in
    let empty : are.numbers ≡ [] = none_left planned events are.numbers are.unended no_pending no_missing in
    are.all ∙ rw (exits_none 0 harts whole.exited, empty) refl

pub whole_iff : (planned : List ℕ) (harts : List HartState) (events : List Event) (causes : List Unfinished)
    → AreCauses planned harts events causes → (causes ≡ []) ↔ IsWhole planned harts events
whole_iff planned harts events causes are =
    (none_whole planned harts events causes are, whole_none planned harts events causes are)
