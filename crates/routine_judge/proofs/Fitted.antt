-- The words of sequential events, and which of them fit.
use Rattle.std.proofs.Common.{◌≡◌, ℕ, zero, suc, ◌<◌, inl, inr, List, [], ◌∷◌, ◌++◌, length, take, map, refl, sym, ap, ◌∙◌, subst, arith, Option, Some, None}
use Rattle.std.specs.Prelude.{IsTrue, slice_get}
use Rattle.std.specs.List.{Contains, cons_option}
use Rattle.std.proofs.lemmas.Bool.{cases_lt}
use Rattle.std.proofs.lemmas.List.Elements.{filter_map-append}
use Rattle.std.proofs.lemmas.Option.{get_or_from_slice_get, slice_get-get_or, slice_get_within}
use Rattle.store_trace.proofs.Marking.{open_true}
use Rattle.store_trace.proofs.Members.{contains_first, contains_later, from_mapped, in_filter, mapped_here}
use Rattle.store_trace.specs.Marks.{begun, ended, is_open}
use Rattle.image_check.specs.OrderFaults.{IsBegunTwice, IsNotPending}
use Rattle.routine_judge.proofs.Faulting.{ended_begun}
use Rattle.routine_judge.proofs.Preceding.{found, from_map}
use Rattle.routine_judge.proofs.Splitting.{NoneIs, beginner, begun_in, ended_began, in_if_not_out, none_at, none_front}
use Rattle.routine_judge.specs.Fitting.{Fits, HasAllEnded, MayFollowAll, beginning, beginnings, operation_of}
use Rattle.routine_judge.specs.MarkFaults.{AreSound, IsOverlap, SomePending}
use Rattle.routine_judge.specs.Order.{AreAtRest, AreOperations, Begun, EndsBefore}
use Rattle.routine_judge.specs.declared.history.fault.MarkFault.TheVariants.{BegunTwice, NotPending, Overlaps}
use Rattle.routine_judge.specs.declared.order.operation.Operation.{Operation}
use Rattle.store_trace.specs.declared.event.Event.{Event}
use Rattle.routine_judge.specs.declared.history.overlap.Overlap.TheVariants.{BetweenHarts, Never}
use Rattle.store_trace.specs.declared.event.Event.TheVariants.{Store, Clean, Fence, Begin, End}

-- what begins, with its hart
beginning_of : (event : Event) (o : Operation) → beginning event ≡ Some o → event ≡ Begin o.hart o.op
beginning_of (Store hart line offset width value) o e = absurd cc
beginning_of (Clean hart line) o e = absurd cc
beginning_of (Fence hart) o e = absurd cc
beginning_of (Begin hart op) o e =
    let same : operation_of hart op ≡ o = cc in
    ap (λ (x : Operation). Begin x.hart x.op) same
beginning_of (End hart op) o e = absurd cc

pub begun_numbers : (events : List Event) → map (λ o. o.op) (beginnings events) ≡ begun events
begun_numbers [] = refl
begun_numbers (Store hart line offset width value ∷ events) = begun_numbers events
begun_numbers (Clean hart line ∷ events) = begun_numbers events
begun_numbers (Fence hart ∷ events) = begun_numbers events
begun_numbers (Begin hart op ∷ events) = ap (λ (ops : List ℕ). op ∷ ops) (begun_numbers events)
begun_numbers (End hart op ∷ events) = begun_numbers events

numbers_begun : (events : List Event) (op : ℕ) → Contains (map (λ o. o.op) (beginnings events)) op → Contains (begun events) op
numbers_begun events op c = subst (λ (ops : List ℕ). Contains ops op) (begun_numbers events) c

pub in_numbers : (events : List Event) (op : ℕ) → Contains (begun events) op → Contains (map (λ o. o.op) (beginnings events)) op
in_numbers events op c = subst (λ (ops : List ℕ). Contains ops op) (sym (begun_numbers events)) c

in_word : (events : List Event) (hart op : ℕ) → Contains events (Begin hart op) → Contains (beginnings events) (operation_of hart op)
in_word events hart op c =
    mapped_here beginning events c.0 (Begin hart op) (operation_of hart op) c.1 (ap (λ (e : Event). beginning e) c.2)

from_word : (events : List Event) (o : Operation) → Contains (beginnings events) o → Contains events (Begin o.hart o.op)
from_word events o c =
    let from = from_mapped beginning events o c in
    subst (λ (e : Event). Contains events e) (beginning_of from.0 o from.2) from.1

-- places in lists
in_take : {X : Type 0} (xs : List X) (j k : ℕ) (x : X) → j < k → slice_get xs j ≡ Some x → Contains (take k xs) x
in_take [] j k x l at = absurd cc
in_take (y ∷ xs) j zero x l at = absurd (omega (arith, l))
in_take (y ∷ xs) zero (suc k) x l at = contains_first y (take k xs) x cc
in_take (y ∷ xs) (suc j) (suc k) x l at = contains_later y (take k xs) x (in_take xs j k x (omega (arith, l)) at)

at_length : {X : Type 0} (xs ys : List X) (y : X) → slice_get (xs ++ y ∷ ys) (length xs) ≡ Some y
at_length [] ys y = refl
at_length (x ∷ xs) ys y = at_length xs ys y

take_length : {X : Type 0} (xs ys : List X) → take (length xs) (xs ++ ys) ≡ xs
take_length [] ys = refl
take_length {X = X} (x ∷ xs) ys = ap (λ (zs : List X). x ∷ zs) (take_length xs ys)

got : {X : Type 0} (xs : List X) (x : X) (c : Contains xs x) → slice_get xs c.0 ≡ Some x
got {X = X} xs x c = slice_get-get_or xs c.0 x c.1 ∙ ap (λ (y : X). Some y) c.2

there : {X : Type 0} (xs : List X) (k : ℕ) (x : X) → slice_get xs k ≡ Some x → Contains xs x
there xs k x at = (k, slice_get_within xs k x at, get_or_from_slice_get xs k x x at)

-- the events, split where an operation of the word begins
record SplitsAt (events : List Event) (k : ℕ) (o : Operation) : Type 0 where
  before : List Event
  after : List Event
  is : events ≡ before ++ Begin o.hart o.op ∷ after
  front : beginnings before ≡ take k (beginnings events)

later : (event : Event) (events : List Event) (k : ℕ) (o : Operation) → beginning event ≡ None → SplitsAt events k o → SplitsAt (event ∷ events) k o
later event events k o none s = record {
  before = event ∷ s.before;
  after = s.after;
  is = ap (λ (es : List Event). event ∷ es) s.is;
  front =
      ap (λ (x : Option Operation). cons_option x (beginnings s.before)) none
      ∙ s.front
      ∙ ap (λ (x : Option Operation). take k (cons_option x (beginnings events))) (sym none);
}

split_at : (events : List Event) (k : ℕ) (o : Operation) → slice_get (beginnings events) k ≡ Some o → SplitsAt events k o
split_at [] k o at = absurd cc
split_at (Store hart line offset width value ∷ events) k o at = later (Store hart line offset width value) events k o refl (split_at events k o at)
split_at (Clean hart line ∷ events) k o at = later (Clean hart line) events k o refl (split_at events k o at)
split_at (Fence hart ∷ events) k o at = later (Fence hart) events k o refl (split_at events k o at)
split_at (Begin hart op ∷ events) zero o at =
    let same : operation_of hart op ≡ o = cc in
    record { before = []; after = events; is = ap (λ (x : Operation). Begin x.hart x.op ∷ events) same; front = refl }
split_at (Begin hart op ∷ events) (suc k) o at =
    let s = split_at events k o at in
    record {
      before = Begin hart op ∷ s.before;
      after = s.after;
      is = ap (λ (es : List Event). Begin hart op ∷ es) s.is;
      front = ap (λ (os : List Operation). operation_of hart op ∷ os) s.front;
    }
split_at (End hart op ∷ events) k o at = later (End hart op) events k o refl (split_at events k o at)

joined : (before after : List Event) (hart op : ℕ) → beginnings (before ++ Begin hart op ∷ after) ≡ beginnings before ++ operation_of hart op ∷ beginnings after
joined before after hart op = filter_map-append beginning before (Begin hart op ∷ after)

-- sequential events
module _ (w : List Event) (sound : AreSound Never w (length w)) where
  ends_sound : NoneIs IsNotPending w
  ends_sound i event inside at = sound i event NotPending inside at

  begins_sound : NoneIs IsBegunTwice w
  begins_sound i event inside at = sound i event BegunTwice inside at

  apart : NoneIs (λ before event. IsOverlap Never before event) w
  apart i event inside at = sound i event Overlaps inside at

  front_ended : (before after : List Event) (hart op x : ℕ) → w ≡ before ++ Begin hart op ∷ after → Contains (begun before) x → Contains (ended before) x
  front_ended before after hart op x is c =
      in_if_not_out (ended before) x
      (λ lacks.
      let pending : SomePending before = (x, in_filter (is_open before) (begun before) x c (open_true before x lacks)) in
      none_at (λ front event. IsOverlap Never front event) w before after (Begin hart op) is apart pending)

  front_begun : (before after : List Event) (hart op x : ℕ) → w ≡ before ++ Begin hart op ∷ after → Contains (ended before) x → Contains (begun before) x
  front_begun before after hart op x is c =
      ended_began before x
      (none_front (λ front event. IsNotPending front event) before (Begin hart op ∷ after) (subst (λ (es : List Event). NoneIs IsNotPending es) is ends_sound)) c

  -- no operation stands twice in the word
  not_before : (j k : ℕ) (a b : Operation) → slice_get (beginnings w) j ≡ Some a → slice_get (beginnings w) k ≡ Some b → a.op ≡ b.op → ¬ (j < k)
  not_before j k a b at also same less =
      let s = split_at w k b also in
      let among : Contains (beginnings s.before) a = subst (λ (os : List Operation). Contains os a) (sym s.front) (in_take (beginnings w) j k a less at) in
      let twice : Contains (begun s.before) b.op =
      subst (λ (op : ℕ). Contains (begun s.before) op) same (begun_in s.before a.hart a.op (from_word s.before a among)) in
      none_at (λ front event. IsBegunTwice front event) w s.before s.after (Begin b.hart b.op) s.is begins_sound twice

  one_place : (j k : ℕ) (a b : Operation) → slice_get (beginnings w) j ≡ Some a → slice_get (beginnings w) k ≡ Some b → a.op ≡ b.op → j ≡ k
  one_place j k a b at also same = elim (cases_lt j k) [
    | inl less ↦ absurd (not_before j k a b at also same less)
    | inr late ↦ elim (cases_lt k j) [
      | inl more ↦ absurd (not_before k j b a also at (sym same) more)
      | inr less ↦ omega (arith, late, less)
    ]
  ]

  -- what has ended before an operation of the word begins stands in front of it
  placed : (x y : ℕ) → EndsBefore w x y →
      (k : ℕ) × (o : Operation) × (slice_get (beginnings w) k ≡ Some o) × (o.op ≡ y) × Contains (map (λ p. p.op) (take k (beginnings w))) x
  placed x y e =
      let parts : beginnings w ≡ beginnings e.before ++ operation_of e.hart y ∷ beginnings e.after =
      ap (λ (es : List Event). beginnings es) e.is ∙ joined e.before e.after e.hart y in
      let k : ℕ = length (beginnings e.before) in
      let front : take k (beginnings w) ≡ beginnings e.before =
      ap (λ (os : List Operation). take k os) parts ∙ take_length (beginnings e.before) (operation_of e.hart y ∷ beginnings e.after) in
      let in_front : Contains (map (λ (p : Operation). p.op) (beginnings e.before)) x =
      in_numbers e.before x (front_begun e.before e.after e.hart y x e.is e.ended_then) in (
        k,
        operation_of e.hart y,
        ap (λ (os : List Operation). slice_get os k) parts ∙ at_length (beginnings e.before) (beginnings e.after) (operation_of e.hart y),
        refl,
        subst (λ (os : List Operation). Contains (map (λ (p : Operation). p.op) os) x) (sym front) in_front,
      )

  ended_in_front : (k x : ℕ) (o : Operation) → slice_get (beginnings w) k ≡ Some o → Contains (map (λ p. p.op) (take k (beginnings w))) x → EndsBefore w x o.op
  ended_in_front k x o at c =
      let s = split_at w k o at in
      let among : Contains (begun s.before) x =
      numbers_begun s.before x (subst (λ (os : List Operation). Contains (map (λ (p : Operation). p.op) os) x) (sym s.front) c) in
      record {
        before = s.before;
        after = s.after;
        hart = o.hart;
        is = s.is;
        ended_then = front_ended s.before s.after o.hart o.op x s.is among;
      }

  -- which words fit
  pub fitting : (p : List Event) (ops : List Begun) → AreAtRest w → AreOperations p ops → HasAllEnded ops (beginnings w) → MayFollowAll ops (beginnings w) → Fits w p
  fitting p ops rest h over follow = record {
    begins = λ hart op c.
        let member : Contains (beginnings w) (operation_of hart op) = in_word w hart op c in
        let m = follow member.0 (operation_of hart op) (got (beginnings w) (operation_of hart op) member) in
        subst (λ (on : ℕ). Contains p (Begin on op)) m.hart_is
        (subst (λ (q : ℕ). Contains p (Begin m.operation.hart q)) m.op_is (h.each m.operation m.among).begins);
    ends = λ op c.
        let o = found p ops op h (ended_begun BetweenHarts p op h.sound c) in
        let so : IsTrue o.0.has_ended = (h.each o.0 o.1).ends.1 (subst (λ (q : ℕ). Contains (ended p) q) (sym o.2) c) in
        let among : Contains (begun w) op =
        numbers_begun w op (subst (λ (q : ℕ). Contains (map (λ (b : Operation). b.op) (beginnings w)) q) o.2 (over o.0 o.1 so)) in
        let by = beginner w op among in
        in_if_not_out (ended w) op (λ lacks. rest by.0 op (by.1, lacks));
    orders = λ x y e c.
        let o = from_map (λ (b : Operation). b.op) (beginnings w) y (in_numbers w y c) in
        let at : slice_get (beginnings w) o.1.0 ≡ Some o.0 = got (beginnings w) o.0 o.1 in
        let m = follow o.1.0 o.0 at in
        let its : m.operation.op ≡ y = m.op_is ∙ o.2 in
        let earlier : Contains m.operation.earlier x =
        ((h.each m.operation m.among).ends_before x).1 (subst (λ (q : ℕ). EndsBefore p x q) (sym its) e) in
        subst (λ (q : ℕ). EndsBefore w x q) o.2 (ended_in_front o.1.0 x o.0 at (m.earlier_done x earlier));
  }

  pub all_ended : (p : List Event) (ops : List Begun) → AreOperations p ops → Fits w p → HasAllEnded ops (beginnings w)
  all_ended p ops h f o c so =
      in_numbers w o.op (ended_began w o.op ends_sound (f.ends o.op ((h.each o c).ends.0 so)))

  pub all_follow : (p : List Event) (ops : List Begun) → AreOperations p ops → Fits w p → MayFollowAll ops (beginnings w)
  all_follow p ops h f k next at =
      let member : Contains w (Begin next.hart next.op) = from_word w next (there (beginnings w) k next at) in
      let o = h.all next.hart next.op (f.begins next.hart next.op member) in
      record {
        operation = o.0;
        among = o.1;
        op_is = o.2;
        hart_is = o.3;
        earlier_done = λ x c.
            let in_p : EndsBefore p x next.op = subst (λ (q : ℕ). EndsBefore p x q) o.2 (((h.each o.0 o.1).ends_before x).0 c) in
            let place = placed x next.op (f.orders x next.op in_p (begun_in w next.hart next.op member)) in
            subst (λ (n : ℕ). Contains (map (λ (b : Operation). b.op) (take n (beginnings w))) x)
            (one_place place.0 k place.1 next place.2 at place.3) place.4;
      }
