-- The marks among events, one event further.
use Rattle.std.proofs.Common.{◌≡◌, ◌⊎◌, ℕ, ◌+◌, ◌<◌, Bool, true, false, not, inl, inr, List, [], ◌∷◌, length, get_or, take, refl, sym, ap, ◌∙◌, subst, Option, Some, None, ◌++◌, append-nil, ◌||◌, eqb-true, eq-eqb, true≢false}
use Rattle.std.specs.Prelude.{◌==◌}
use Rattle.std.specs.List.{Contains, cons_option, list_any}
use Rattle.std.proofs.lemmas.Bool.{cases_Bool}
use Rattle.std.proofs.lemmas.List.{take_more}
use Rattle.std.proofs.lemmas.List.Elements.{Contains-append_cases, Contains-get_or, filter_map-append}
use Rattle.store_trace.specs.declared.event.Event.{Event}
use Rattle.store_trace.specs.Marks.{begun, begun_by, ended, ended_by, is_open}
use Rattle.store_trace.proofs.Members.{contains_cases, contains_first, contains_later, mapped_here, no_members, none_mapped}

pub begun_here : (events : List Event) (i : ℕ) (d : Event) (op : ℕ) → i < length events → begun_by (get_or events i d) ≡ Some op → Contains (begun events) op
begun_here events i d op l e = mapped_here begun_by events i d op l e

pub no_more_begun : (events : List Event) (i : ℕ) (d : Event) (op : ℕ) → i < length events →
    ¬ Contains (begun (take i events)) op → ¬ (begun_by (get_or events i d) ≡ Some op) → ¬ Contains (begun (take (i + 1) events)) op
no_more_begun events i d op l n m = none_mapped begun_by events i d op l n m

pub none_begun : (op : ℕ) → ¬ Contains (begun []) op
none_begun op = no_members op

pub ended_here : (events : List Event) (i : ℕ) (d : Event) (op : ℕ) → i < length events → ended_by (get_or events i d) ≡ Some op → Contains (ended events) op
ended_here events i d op l e = mapped_here ended_by events i d op l e

pub no_more_ended : (events : List Event) (i : ℕ) (d : Event) (op : ℕ) → i < length events →
    ¬ Contains (ended (take i events)) op → ¬ (ended_by (get_or events i d) ≡ Some op) → ¬ Contains (ended (take (i + 1) events)) op
no_more_ended events i d op l n m = none_mapped ended_by events i d op l n m

pub none_ended : (op : ℕ) → ¬ Contains (ended []) op
none_ended op = no_members op

pub event_here : (events : List Event) (i : ℕ) (d event : Event) → i < length events → get_or events i d ≡ event → Contains events event
event_here events i d event l e = subst (λ (x : Event). Contains events x) e (Contains-get_or events i d l)

pub no_more_events : (events : List Event) (i : ℕ) (d event : Event) → i < length events →
    ¬ Contains (take i events) event → ¬ (get_or events i d ≡ event) → ¬ Contains (take (i + 1) events) event
no_more_events events i d event l n m c =
    elim (Contains-append_cases (take i events) (get_or events i d ∷ []) event (subst (λ (xs : List Event). Contains xs event) (take_more events i d l) c)) [
      | inl a ↦ n a
      | inr b ↦ elim (contains_cases (get_or events i d) [] event b) [ inl e ↦ m e | inr z ↦ no_members event z ]
    ]

pub no_events : (event : Event) → ¬ Contains [] event
no_events event = no_members event

or_first : (a b : Bool) → a ≡ true → (a || b) ≡ true
or_first true b e = refl
or_first false b e = absurd cc

or_second : (a b : Bool) → b ≡ true → (a || b) ≡ true
or_second true b e = refl
or_second false b e = e

or_cases : (a b : Bool) → (a || b) ≡ true → (a ≡ true) ⊎ (b ≡ true)
or_cases true b e = inl refl
or_cases false b e = inr e

-- the test of an operation that is in the list, or that isn't
any_true : (ops : List ℕ) (op : ℕ) → Contains ops op → list_any (λ other. other == op) ops ≡ true
any_true [] op c = absurd (no_members op c)
any_true (x ∷ ops) op c = elim (contains_cases x ops op c) [
  | inl e ↦ or_first (x == op) (list_any (λ other. other == op) ops) (eq-eqb x op e)
  | inr d ↦ or_second (x == op) (list_any (λ other. other == op) ops) (any_true ops op d)
]

from_any : (ops : List ℕ) (op : ℕ) → list_any (λ other. other == op) ops ≡ true → Contains ops op
from_any [] op e = absurd cc
from_any (x ∷ ops) op e = elim (or_cases (x == op) (list_any (λ other. other == op) ops) e) [
  | inl a ↦ contains_first x ops op (eqb-true x op a)
  | inr b ↦ contains_later x ops op (from_any ops op b)
]

pub open_false : (events : List Event) (op : ℕ) → Contains (ended events) op → is_open events op ≡ false
open_false events op c = ap not (any_true (ended events) op c)

pub open_true : (events : List Event) (op : ℕ) → ¬ Contains (ended events) op → is_open events op ≡ true
open_true events op n = elim (cases_Bool (list_any (λ other. other == op) (ended events))) [
  | inl e ↦ absurd (n (from_any (ended events) op e))
  | inr e ↦ ap not e
]

pub open_unended : (events : List Event) (op : ℕ) → is_open events op ≡ true → ¬ Contains (ended events) op
open_unended events op e c = true≢false (sym e ∙ open_false events op c)

-- an event more at the end
pub ended_step : (before : List Event) (event : Event) → ended (before ++ event ∷ []) ≡ ended before ++ cons_option (ended_by event) []
ended_step before event = filter_map-append ended_by before (event ∷ [])

pub begun_step : (before : List Event) (event : Event) → begun (before ++ event ∷ []) ≡ begun before ++ cons_option (begun_by event) []
begun_step before event = filter_map-append begun_by before (event ∷ [])

pub ended_kept : (before : List Event) (event : Event) → ended_by event ≡ None → ended (before ++ event ∷ []) ≡ ended before
ended_kept before event e = ended_step before event ∙ ap (λ (o : Option ℕ). ended before ++ cons_option o []) e ∙ append-nil (ended before)

pub begun_kept : (before : List Event) (event : Event) → begun_by event ≡ None → begun (before ++ event ∷ []) ≡ begun before
begun_kept before event e = begun_step before event ∙ ap (λ (o : Option ℕ). begun before ++ cons_option o []) e ∙ append-nil (begun before)
