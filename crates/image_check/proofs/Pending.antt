-- The pending operations, one event further.
use Rattle.std.proofs.Common.{◌≡◌, ℕ, Bool, true, false, not, cond, ◌&&◌, ◌||◌, List, [], ◌∷◌, ◌++◌, map, refl, sym, ap, ◌∙◌, Option, None, append-nil}
use Rattle.std.specs.Prelude.{◌==◌, filter}
use Rattle.std.specs.List.{Contains, cons_option, filter_map, list_any}
use Rattle.std.proofs.lemmas.List.{map-append}
use Rattle.std.proofs.lemmas.List.Elements.{filter-append, filter_map-append}
use Rattle.std.proofs.lemmas.List.Folds.{list_any-append}
use Rattle.store_trace.specs.declared.event.Event.{Event}
use Rattle.store_trace.specs.declared.event.Event.TheVariants.{Store, Clean, Fence, Begin, End}
use Rattle.store_trace.specs.Marks.{begun, begun_by, ended, ended_by, is_open, pending}
use Rattle.store_trace.proofs.Marking.{ended_kept, ended_step, open_true}
use Rattle.image_check.specs.Growth.{beginning, begun_on, pending_harts}
use Rattle.image_check.specs.declared.legal.UnderWay.{UnderWay}
use Rattle.image_check.proofs.Permuting.{map_filtered}

abbrev still_open : List ℕ → ℕ → Bool
still_open over op = not (list_any (λ other. other == op) over)

abbrev beginnings : List Event → List UnderWay
beginnings events = filter_map beginning events

-- without their harts they are the pending operations
one_begun : (event : Event) (us : List UnderWay) (ops : List ℕ) → map (λ u. u.op) us ≡ ops →
    map (λ u. u.op) (cons_option (beginning event) us) ≡ cons_option (begun_by event) ops
one_begun (Store hart line offset width value) us ops e = e
one_begun (Clean hart line) us ops e = e
one_begun (Fence hart) us ops e = e
one_begun (Begin hart op) us ops e = ap (λ (xs : List ℕ). op ∷ xs) e
one_begun (End hart op) us ops e = e

all_begun : (events : List Event) → map (λ u. u.op) (beginnings events) ≡ begun events
all_begun [] = refl
all_begun (event ∷ events) = one_begun event (beginnings events) (begun events) (all_begun events)

pub all_pending : (events : List Event) → map (λ u. u.op) (pending_harts events) ≡ pending events
all_pending events =
    map_filtered (is_open events) (λ (u : UnderWay). u.op) (beginnings events)
    ∙ ap (λ (ops : List ℕ). filter (is_open events) ops) (all_begun events)

-- an event that neither begins nor ends anything
begins_nothing : (event : Event) → begun_by event ≡ None → beginning event ≡ None
begins_nothing (Store hart line offset width value) b = refl
begins_nothing (Clean hart line) b = refl
begins_nothing (Fence hart) b = refl
begins_nothing (Begin hart op) b = absurd cc
begins_nothing (End hart op) b = refl

beginnings_kept : (before : List Event) (event : Event) → begun_by event ≡ None → beginnings (before ++ event ∷ []) ≡ beginnings before
beginnings_kept before event b =
    filter_map-append beginning before (event ∷ [])
    ∙ ap (λ (o : Option UnderWay). beginnings before ++ cons_option o []) (begins_nothing event b)
    ∙ append-nil (beginnings before)

pub harts_kept : (before : List Event) (event : Event) → begun_by event ≡ None → ended_by event ≡ None →
    pending_harts (before ++ event ∷ []) ≡ pending_harts before
harts_kept before event b e =
    ap (λ (us : List UnderWay). filter (λ u. is_open (before ++ event ∷ []) u.op) us) (beginnings_kept before event b)
    ∙ ap (λ (over : List ℕ). filter (λ u. still_open over u.op) (beginnings before)) (ended_kept before event e)

pub pending_kept : (before : List Event) (event : Event) → begun_by event ≡ None → ended_by event ≡ None →
    pending (before ++ event ∷ []) ≡ pending before
pending_kept before event b e =
    sym (all_pending (before ++ event ∷ []))
    ∙ ap (λ (us : List UnderWay). map (λ u. u.op) us) (harts_kept before event b e)
    ∙ all_pending before

-- a Begin
one_kept : (p : UnderWay → Bool) (u : UnderWay) → p u ≡ true → filter p (u ∷ []) ≡ u ∷ []
one_kept p u e = rw e refl

pub harts_more : (before : List Event) (hart op : ℕ) → ¬ Contains (ended before) op →
    pending_harts (before ++ Begin hart op ∷ []) ≡ pending_harts before ++ begun_on hart op ∷ []
harts_more before hart op n =
    ap (λ (us : List UnderWay). filter (λ u. is_open (before ++ Begin hart op ∷ []) u.op) us) (filter_map-append beginning before (Begin hart op ∷ []))
    ∙ ap (λ (over : List ℕ). filter (λ u. still_open over u.op) (beginnings before ++ begun_on hart op ∷ [])) (ended_kept before (Begin hart op) refl)
    ∙ filter-append (λ u. is_open before u.op) (beginnings before) (begun_on hart op ∷ [])
    ∙ ap (λ (last : List UnderWay). pending_harts before ++ last) (one_kept (λ u. is_open before u.op) (begun_on hart op) (open_true before op n))

pub pending_more : (before : List Event) (hart op : ℕ) → ¬ Contains (ended before) op → pending (before ++ Begin hart op ∷ []) ≡ pending before ++ op ∷ []
pending_more before hart op n =
    sym (all_pending (before ++ Begin hart op ∷ []))
    ∙ ap (λ (us : List UnderWay). map (λ u. u.op) us) (harts_more before hart op n)
    ∙ map-append (λ (u : UnderWay). u.op) (pending_harts before) (begun_on hart op ∷ [])
    ∙ ap (λ (ops : List ℕ). ops ++ op ∷ []) (all_pending before)

-- an End
both_tests : (a b : Bool) → not (a || (b || false)) ≡ (not a && not b)
both_tests true b = refl
both_tests false true = refl
both_tests false false = refl

kept_twice : {X : Type 0} (a b : Bool) (q : X → Bool) (x : X) (xs : List X) → q x ≡ b → cond (a && b) (x ∷ filter q xs) (filter q xs) ≡ filter q (cond a (x ∷ xs) xs)
kept_twice true true q x xs e = rw e refl
kept_twice true false q x xs e = rw e refl
kept_twice false b q x xs e = refl

-- a test and then another
filter_twice : {X : Type 0} (p q r : X → Bool) → ((x : X) → r x ≡ (p x && q x)) → (xs : List X) → filter r xs ≡ filter q (filter p xs)
filter_twice p q r h [] = refl
filter_twice {X} p q r h (x ∷ xs) =
    ap (λ (b : Bool). cond b (x ∷ filter r xs) (filter r xs)) (h x)
    ∙ ap (λ (rest : List X). cond (p x && q x) (x ∷ rest) rest) (filter_twice p q r h xs)
    ∙ kept_twice (p x) (q x) q x (filter p xs) refl

open_after : (before : List Event) (hart op x : ℕ) → is_open (before ++ End hart op ∷ []) x ≡ (is_open before x && not (op == x))
open_after before hart op x =
    ap (λ (over : List ℕ). still_open over x) (ended_step before (End hart op))
    ∙ ap not (list_any-append (λ other. other == x) (ended before) (op ∷ []))
    ∙ both_tests (list_any (λ other. other == x) (ended before)) (op == x)

pub harts_less : (before : List Event) (hart op : ℕ) → pending_harts (before ++ End hart op ∷ []) ≡ filter (λ u. not (op == u.op)) (pending_harts before)
harts_less before hart op =
    ap (λ (us : List UnderWay). filter (λ u. is_open (before ++ End hart op ∷ []) u.op) us) (beginnings_kept before (End hart op) refl)
    ∙ filter_twice (λ u. is_open before u.op) (λ u. not (op == u.op)) (λ u. is_open (before ++ End hart op ∷ []) u.op) (λ u. open_after before hart op u.op) (beginnings before)
