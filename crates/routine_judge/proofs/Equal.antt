-- Precedences, words and states that the code finds equal, and events that have one precedence.
use Rattle.std.proofs.Common.{◌≡◌, ℕ, Bool, true, false, ◌&&◌, List, [], ◌∷◌, ◌++◌, map, refl, sym, ap, ◌∙◌, subst, Option, Some, None, eqb-true, eq-eqb}
use Rattle.std.specs.Prelude.{◌==◌, IsTrue, nat_eq, option_to_list}
use Rattle.std.specs.Cmp.{unsigned_Decides}
use Rattle.std.specs.Cmp.Lexicographic.{pointwise, pointwise_decides}
use Rattle.std.specs.List.{Contains}
use Rattle.std.specs.Option.{option_eq}
use mathlib.Core.Bool.{beq}
use Rattle.store_trace.specs.Marks.{ended}
use Rattle.image_check.proofs.Rising.{one_list}
use Rattle.routine_judge.specs.Fitting.{IsStateOf, IsWordOf, operation_of}
use Rattle.routine_judge.specs.Order.{AreAlike, AreOperations, AreOrdered, Begun, EndsBefore, IsBegun, begun_of, operations_in}
use Rattle.routine_judge.specs.declared.order.entry.Entry.{Entry}
use Rattle.routine_judge.specs.declared.order.operation.Operation.{Operation}
use Rattle.routine_judge.specs.declared.order.precedence.Precedence.{Precedence}
use Rattle.routine_judge.specs.declared.order.sequential.SequentialState.{SequentialState}
use Rattle.routine_judge.specs.declared.order.word.Word.{Word}
use Rattle.store_trace.specs.declared.event.Event.{Event}

and_both : (a b : Bool) → a ≡ true → b ≡ true → (a && b) ≡ true
and_both true b e f = f
and_both false b e f = absurd cc

and_parts : (a b : Bool) → (a && b) ≡ true → (a ≡ true) × (b ≡ true)
and_parts true b e = (refl, e)
and_parts false b e = absurd cc

one_bool : (a b : Bool) → beq a b ≡ true → a ≡ b
one_bool true true e = refl
one_bool false false e = refl
one_bool true false e = absurd cc
one_bool false true e = absurd cc

bool_one : (a b : Bool) → a ≡ b → beq a b ≡ true
bool_one true true e = refl
bool_one false false e = refl
bool_one true false e = absurd cc
bool_one false true e = absurd cc

both_ways : (a b : Bool) → (IsTrue a → IsTrue b) → (IsTrue b → IsTrue a) → a ≡ b
both_ways true b to from = sym (to refl)
both_ways false true to from = from refl
both_ways false false to from = refl

same_begun : (a b : Begun) → a.op ≡ b.op → a.hart ≡ b.hart → a.has_ended ≡ b.has_ended → a.earlier ≡ b.earlier → a ≡ b
same_begun a b op hart over earlier = λ i. record { op = op i; hart = hart i; has_ended = over i; earlier = earlier i }

-- entries
abbrev pub same_entry : Entry → Entry → Bool
same_entry a b = (a.op == b.op) && ((a.hart == b.hart) && (beq a.ended b.ended && pointwise nat_eq a.earlier.items b.earlier.items))

entry_told : (a b : Entry) → same_entry a b ≡ true → begun_of a ≡ begun_of b
entry_told a b e =
    let first = and_parts (a.op == b.op) ((a.hart == b.hart) && (beq a.ended b.ended && pointwise nat_eq a.earlier.items b.earlier.items)) e in
    let second = and_parts (a.hart == b.hart) (beq a.ended b.ended && pointwise nat_eq a.earlier.items b.earlier.items) first.1 in
    let third = and_parts (beq a.ended b.ended) (pointwise nat_eq a.earlier.items b.earlier.items) second.1 in
    same_begun (begun_of a) (begun_of b) (eqb-true a.op b.op first.0) (eqb-true a.hart b.hart second.0) (one_bool a.ended b.ended third.0)
    ((pointwise_decides unsigned_Decides a.earlier.items b.earlier.items).0 third.1)

told_entry : (a b : Entry) → begun_of a ≡ begun_of b → same_entry a b ≡ true
told_entry a b e =
    and_both (a.op == b.op) ((a.hart == b.hart) && (beq a.ended b.ended && pointwise nat_eq a.earlier.items b.earlier.items))
    (eq-eqb a.op b.op (ap (λ (x : Begun). x.op) e))
    (and_both (a.hart == b.hart) (beq a.ended b.ended && pointwise nat_eq a.earlier.items b.earlier.items)
    (eq-eqb a.hart b.hart (ap (λ (x : Begun). x.hart) e))
    (and_both (beq a.ended b.ended) (pointwise nat_eq a.earlier.items b.earlier.items) (bool_one a.ended b.ended (ap (λ (x : Begun). x.has_ended) e))
    ((pointwise_decides unsigned_Decides a.earlier.items b.earlier.items).1 (ap (λ (x : Begun). x.earlier) e))))

pub entries_told : (xs ys : List Entry) → pointwise same_entry xs ys ≡ true → map begun_of xs ≡ map begun_of ys
entries_told [] [] e = refl
entries_told [] (y ∷ ys) e = absurd cc
entries_told (x ∷ xs) [] e = absurd cc
entries_told (x ∷ xs) (y ∷ ys) e =
    let parts = and_parts (same_entry x y) (pointwise same_entry xs ys) e in
    ap (λ (b : Begun). b ∷ map begun_of xs) (entry_told x y parts.0) ∙ ap (λ (bs : List Begun). begun_of y ∷ bs) (entries_told xs ys parts.1)

first_begun : (a b : Begun) (ops bs : List Begun) → a ∷ ops ≡ b ∷ bs → (a ≡ b) × (ops ≡ bs)
first_begun a b ops bs e = (cc, cc)

pub told_entries : (xs ys : List Entry) → map begun_of xs ≡ map begun_of ys → pointwise same_entry xs ys ≡ true
told_entries [] [] e = refl
told_entries [] (y ∷ ys) e = absurd cc
told_entries (x ∷ xs) [] e = absurd cc
told_entries (x ∷ xs) (y ∷ ys) e =
    let parts = first_begun (begun_of x) (begun_of y) (map begun_of xs) (map begun_of ys) e in
    and_both (same_entry x y) (pointwise same_entry xs ys) (told_entry x y parts.0) (told_entries xs ys parts.1)

pub equal_ordered : (events : List Event) (one other : Precedence) → pointwise same_entry one.entries.items other.entries.items ≡ true →
    AreOrdered events one → AreOrdered events other
equal_ordered events one other e h = subst (λ (ops : List Begun). AreOperations events ops) (entries_told one.entries.items other.entries.items e) h

-- events of which the same has begun, ended, and ended before which began
alike_begun : (events others : List Event) (a b : Begun) → AreAlike events others → IsBegun events a → IsBegun others b → a.op ≡ b.op → a.hart ≡ b.hart → a ≡ b
alike_begun events others a b alike h k op hart =
    same_begun a b op hart
    (both_ways a.has_ended b.has_ended
    (λ t. k.ends.1 (subst (λ (q : ℕ). Contains (ended others) q) op ((alike.end_alike a.op).0 (h.ends.0 t))))
    (λ t. h.ends.1 ((alike.end_alike a.op).1 (subst (λ (q : ℕ). Contains (ended others) q) (sym op) (k.ends.0 t)))))
    (one_list (λ (x : ℕ). x) a.earlier b.earlier h.in_order k.in_order
    (λ x c. (k.ends_before x).1 (subst (λ (q : ℕ). EndsBefore others x q) op ((alike.order_alike x a.op).0 ((h.ends_before x).0 c))))
    (λ x c. (h.ends_before x).1 ((alike.order_alike x a.op).1 (subst (λ (q : ℕ). EndsBefore others x q) (sym op) ((k.ends_before x).0 c)))))

alike_back : (events others : List Event) → AreAlike events others → AreAlike others events
alike_back events others alike = record {
  begin_alike = λ hart op. ((alike.begin_alike hart op).1, (alike.begin_alike hart op).0);
  end_alike = λ op. ((alike.end_alike op).1, (alike.end_alike op).0);
  order_alike = λ x y. ((alike.order_alike x y).1, (alike.order_alike x y).0);
}

alike_among : (events others : List Event) (ops bs : List Begun) → AreAlike events others → AreOperations events ops → AreOperations others bs →
    (o : Begun) → Contains ops o → Contains bs o
alike_among events others ops bs alike h k o c =
    let its = h.each o c in
    let b = k.all o.hart o.op ((alike.begin_alike o.hart o.op).0 its.begins) in
    subst (λ (x : Begun). Contains bs x) (sym (alike_begun events others o b.0 alike its (k.each b.0 b.1) (sym b.2) (sym b.3))) b.1

pub alike_equal : (events others : List Event) (one other : Precedence) → AreOrdered events one → AreOrdered others other → AreAlike events others →
    pointwise same_entry one.entries.items other.entries.items ≡ true
alike_equal events others one other h k alike =
    told_entries one.entries.items other.entries.items
    (one_list (λ (b : Begun). b.op) (operations_in one) (operations_in other) h.in_order k.in_order
    (alike_among events others (operations_in one) (operations_in other) alike h k)
    (alike_among others events (operations_in other) (operations_in one) (alike_back events others alike) k h))

-- words, and states of sequential runs
abbrev pub same_operation : Operation → Operation → Bool
same_operation a b = (a.op == b.op) && (a.hart == b.hart)

operation_told : (a b : Operation) → same_operation a b ≡ true → a ≡ b
operation_told a b e =
    let parts = and_parts (a.op == b.op) (a.hart == b.hart) e in
    ap (λ (q : ℕ). operation_of a.hart q) (eqb-true a.op b.op parts.0) ∙ ap (λ (h : ℕ). operation_of h b.op) (eqb-true a.hart b.hart parts.1)

pub operations_told : (xs ys : List Operation) → pointwise same_operation xs ys ≡ true → xs ≡ ys
operations_told [] [] e = refl
operations_told [] (y ∷ ys) e = absurd cc
operations_told (x ∷ xs) [] e = absurd cc
operations_told (x ∷ xs) (y ∷ ys) e =
    let parts = and_parts (same_operation x y) (pointwise same_operation xs ys) e in
    ap (λ (o : Operation). o ∷ xs) (operation_told x y parts.0) ∙ ap (λ (os : List Operation). y ∷ os) (operations_told xs ys parts.1)

told_operation : (a b : Operation) → a ≡ b → same_operation a b ≡ true
told_operation a b e =
    and_both (a.op == b.op) (a.hart == b.hart) (eq-eqb a.op b.op (ap (λ (o : Operation). o.op) e)) (eq-eqb a.hart b.hart (ap (λ (o : Operation). o.hart) e))

first_operation : (x y : Operation) (xs ys : List Operation) → x ∷ xs ≡ y ∷ ys → (x ≡ y) × (xs ≡ ys)
first_operation x y xs ys e = (cc, cc)

pub told_operations : (xs ys : List Operation) → xs ≡ ys → pointwise same_operation xs ys ≡ true
told_operations [] [] e = refl
told_operations [] (y ∷ ys) e = absurd cc
told_operations (x ∷ xs) [] e = absurd cc
told_operations (x ∷ xs) (y ∷ ys) e =
    let parts = first_operation x y xs ys e in
    and_both (same_operation x y) (pointwise same_operation xs ys) (told_operation x y parts.0) (told_operations xs ys parts.1)

pending_told : (a b : Option Operation) → option_eq same_operation a b ≡ true → a ≡ b
pending_told None None e = refl
pending_told None (Some b) e = absurd cc
pending_told (Some a) None e = absurd cc
pending_told (Some a) (Some b) e = ap (λ (o : Operation). Some o) (operation_told a b e)

pub equal_words : (events : List Event) (one other : Word) → pointwise same_operation one.operations.items other.operations.items ≡ true →
    IsWordOf events one → IsWordOf events other
equal_words events one other e is = record {
  sound = is.sound;
  begins = is.begins ∙ operations_told one.operations.items other.operations.items e;
}

pub equal_states : (events : List Event) (one other : SequentialState) →
    (pointwise same_operation one.done.operations.items other.done.operations.items && option_eq same_operation one.pending other.pending) ≡ true →
    IsStateOf events one → IsStateOf events other
equal_states events one other e is =
    let parts = and_parts (pointwise same_operation one.done.operations.items other.done.operations.items) (option_eq same_operation one.pending other.pending) e in
    let done = operations_told one.done.operations.items other.done.operations.items parts.0 in
    let pending = pending_told one.pending other.pending parts.1 in
    record {
      sound = is.sound;
      begins =
          is.begins
          ∙ ap (λ (os : List Operation). os ++ option_to_list one.pending) done
          ∙ ap (λ (o : Option Operation). other.done.operations.items ++ option_to_list o) pending;
      pends = λ hart op. (λ p. sym pending ∙ (is.pends hart op).0 p, λ f. (is.pends hart op).1 (pending ∙ f));
    }
