-- The window of a moment, by until when operations are pending.
use Rattle.std.proofs.Common.{◌≡◌, ℕ, ◌<◌, ◌≤◌, inl, inr, List, length, get_or, map, refl, sym, ap, ◌∙◌, subst, arith, Some}
use Rattle.std.specs.Prelude.{min}
use Rattle.std.proofs.lemmas.Bool.{cases_lt}
use Rattle.std.proofs.lemmas.List.{get_or-map}
use Rattle.std.proofs.lemmas.Option.{slice_get-get_or, slice_get_within, get_or_from_slice_get}
use Rattle.routine_judge.proofs.Ends.{above_unended, end_of_until, unended_above, until_positive}
use Rattle.routine_judge.specs.Spans.{IsAloneIn, IsFirstAbove, IsHighest, NoneAbove, until, until_of}
use Rattle.routine_judge.specs.Windows.{IsAlonePending, IsBegunAt, IsLastEnd, IsPendingFrom, IsWindow, OverlapsNone, end_moment}
use Rattle.routine_judge.specs.declared.history.moments.Window.TheVariants.{Itself, Either, Through}
use Rattle.store_trace.specs.declared.event.Event.{Event}
use Rattle.store_trace.specs.declared.event.Event.TheVariants.{Store, Clean, Fence, Begin, End}

-- the numbers of these events
abbrev pub numbers_of : List Event → List ℕ
numbers_of events = map (until_of events) events

abbrev number : List Event → ℕ → ℕ
number events i = get_or (numbers_of events) i 0

pub begin_inside : (events : List Event) (i op : ℕ) → IsBegunAt events i op → i < length events
begin_inside events i op b = slice_get_within events i (Begin b.0 op) b.1

-- the number of a Begin
pub begin_number : (events : List Event) (i op : ℕ) → IsBegunAt events i op → number events i ≡ until events op
begin_number events i op b =
    let event : Event = Begin b.0 op in
    get_or-map (until_of events) events i event 0 (begin_inside events i op b)
    ∙ ap (λ (e : Event). until_of events e) (get_or_from_slice_get events i event event b.1)

record HasBegin (events : List Event) (i : ℕ) : Type 0 where
  op : ℕ
  begins : IsBegunAt events i op
  until_then : number events i ≡ until events op

positive_begin : (events : List Event) (event : Event) → 0 < until_of events event → (hart : ℕ) × (op : ℕ) × (event ≡ Begin hart op)
positive_begin events (Store hart line offset width value) p = absurd (omega (arith, p))
positive_begin events (Clean hart line) p = absurd (omega (arith, p))
positive_begin events (Fence hart) p = absurd (omega (arith, p))
positive_begin events (Begin hart op) p = (hart, op, refl)
positive_begin events (End hart op) p = absurd (omega (arith, p))

-- a number that isn't 0 is that of a Begin
number_begin : (events : List Event) (i : ℕ) → i < length events → 0 < number events i → HasBegin events i
number_begin events i inside p =
    let none : Event = Fence 0 in
    let is : number events i ≡ until_of events (get_or events i none) = get_or-map (until_of events) events i none 0 inside in
    let b = positive_begin events (get_or events i none) (omega (arith, p, is)) in
    let begins : IsBegunAt events i b.1 = (b.0, slice_get-get_or events i none inside ∙ ap (λ (e : Event). Some e) b.2) in
    record { op = b.1; begins = begins; until_then = begin_number events i b.1 begins }

pub begin_op : (events : List Event) (i op other : ℕ) → IsBegunAt events i op → IsBegunAt events i other → op ≡ other
begin_op events i op other b c =
    let both : Some (Begin b.0 op) ≡ Some (Begin c.0 other) = sym b.1 ∙ c.1 in
    cc

-- an operation is pending exactly where its number is above the moment
pub pending_above : (events : List Event) (m i op : ℕ) → m ≤ length events → IsPendingFrom events m i op → m < number events i
pending_above events m i op there p = omega (arith, begin_number events i op p.begins, unended_above events m op there p.pending)

pub above_pending : (events : List Event) (m i : ℕ) → m ≤ length events → i < m → m < number events i →
    (op : ℕ) × IsPendingFrom events m i op × (number events i ≡ until events op)
above_pending events m i there before above =
    let h = number_begin events i (omega (arith, there, before)) (omega (arith, above)) in
    let high : m < until events h.op = omega (arith, above, h.until_then) in
    (h.op, record { begins = h.begins; before = before; pending = above_unended events m h.op high }, h.until_then)

none_pending : (events : List Event) (m : ℕ) → m ≤ length events → NoneAbove (numbers_of events) m → (i op : ℕ) → ¬ IsPendingFrom events m i op
none_pending events m there none i op p = omega (arith, none i p.before, pending_above events m i op there p)

none_above : (events : List Event) (m : ℕ) → m ≤ length events → ((i op : ℕ) → ¬ IsPendingFrom events m i op) → NoneAbove (numbers_of events) m
none_above events m there none i before = elim (cases_lt m (number events i)) [
  | inl above ↦ let p = above_pending events m i there before above in absurd (none i p.0 p.1)
  | inr low ↦ low
]

-- it overlaps no other
alone_overlaps_none : (events : List Event) (b e : ℕ) → b ≤ length events → IsAloneIn (numbers_of events) b e → OverlapsNone events b e
alone_overlaps_none events b e there a = record {
  none_pending = none_pending events b there a.none_above;
  none_begins = λ i op behind before begins.
      let zero_here : number events i ≡ 0 = a.none_within i behind before in
      omega (arith, zero_here, begin_number events i op begins, until_positive events op);
}

overlaps_none_alone : (events : List Event) (b e : ℕ) → b ≤ length events → e ≤ length events → OverlapsNone events b e → IsAloneIn (numbers_of events) b e
overlaps_none_alone events b e there inside o = record {
  none_above = none_above events b there o.none_pending;
  none_within = λ i behind before. elim (cases_lt 0 (number events i)) [
    | inl positive ↦
        let h = number_begin events i (omega (arith, before, inside)) positive in
        absurd (o.none_begins i h.op behind before h.begins)
    | inr low ↦ omega (arith, low)
  ];
}

pub window_itself : (events : List Event) (m : ℕ) → m ≤ length events → NoneAbove (numbers_of events) m → IsWindow events m Itself
window_itself events m there none = none_pending events m there none

-- the moment right after the End
end_number : (events : List Event) (i op e : ℕ) → number events i ≡ until events op → e ≡ min (number events i) (length events) → e ≡ end_moment events op
end_number events i op e is ends = ends ∙ ap (λ (n : ℕ). min n (length events)) is ∙ end_of_until events op

pub window_either : (events : List Event) (m b e : ℕ) → m ≤ length events → IsFirstAbove (numbers_of events) m b →
    e ≡ min (number events b) (length events) → IsAloneIn (numbers_of events) b e → IsWindow events m (Either b e)
window_either events m b e there f ends a =
    let p = above_pending events m b there f.before f.above in
    record {
      op = p.0;
      pending = p.1;
      ends = end_number events b p.0 e p.2 ends;
      alone = alone_overlaps_none events b e (omega (arith, there, f.before)) a;
    }

first_begin : (events : List Event) (m b : ℕ) → m ≤ length events → IsFirstAbove (numbers_of events) m b → (i op : ℕ) → IsPendingFrom events m i op → b ≤ i
first_begin events m b there f i op p = elim (cases_lt i b) [
  | inl before ↦ absurd (omega (arith, f.first i before, pending_above events m i op there p))
  | inr late ↦ late
]

-- where the first one overlaps another, none is alone
none_alone : (events : List Event) (m b : ℕ) → m ≤ length events → IsFirstAbove (numbers_of events) m b →
    ¬ IsAloneIn (numbers_of events) b (min (number events b) (length events)) → (i e : ℕ) → ¬ IsAlonePending events m i e
none_alone events m b there f overlaps i e a = elim (cases_lt b i) [
  | inl behind ↦
      let p = above_pending events m b there f.before f.above in
      let high : i < until events p.0 = omega (arith, a.pending.before, f.above, p.2) in
      a.alone.none_pending b p.0 (record { begins = p.1.begins; before = behind; pending = above_unended events i p.0 high })
  | inr not_behind ↦
      let same : i ≡ b = omega (arith, not_behind, first_begin events m b there f i a.op a.pending) in
      let ends : e ≡ min (number events b) (length events) =
      a.ends ∙ sym (end_of_until events a.op) ∙ ap (λ (n : ℕ). min n (length events)) (sym (begin_number events i a.op a.pending.begins) ∙ ap (number events) same) in
      let alone : OverlapsNone events b (min (number events b) (length events)) =
      subst (λ (n : ℕ). OverlapsNone events b n) ends (subst (λ (n : ℕ). OverlapsNone events n e) same a.alone) in
      overlaps (overlaps_none_alone events b (min (number events b) (length events)) (omega (arith, there, f.before)) (omega arith) alone)
]

-- the last End
highest_end : (events : List Event) (i op h : ℕ) → number events i ≡ h → number events i ≡ until events op → min h (length events) ≡ end_moment events op
highest_end events i op h is ends = ap (λ (n : ℕ). min n (length events)) (sym is ∙ ends) ∙ end_of_until events op

last_end : (events : List Event) (m b h : ℕ) → m ≤ length events → IsFirstAbove (numbers_of events) m b → IsHighest (numbers_of events) m h →
    IsLastEnd events m (min h (length events))
last_end events m b h there f highest =
    let above : m < h = omega (arith, f.above, highest.above b f.before) in
    let at = highest.among (omega (arith, above)) in
    let p = above_pending events m at.0 there at.1 (omega (arith, above, at.2)) in
    record {
      i = at.0;
      op = p.0;
      pending = p.1;
      ends = highest_end events at.0 p.0 h at.2 p.2;
      last = λ j other q.
          omega (arith, highest.above j q.before, begin_number events j other q.begins, end_of_until events other);
    }

pub window_through : (events : List Event) (m b h : ℕ) → m ≤ length events → IsFirstAbove (numbers_of events) m b →
    ¬ IsAloneIn (numbers_of events) b (min (number events b) (length events)) → IsHighest (numbers_of events) m h →
    IsWindow events m (Through b (min h (length events)))
window_through events m b h there f overlaps highest =
    let p = above_pending events m b there f.before f.above in (
      record { op = p.0; pending = p.1; first = first_begin events m b there f },
      last_end events m b h there f highest,
      none_alone events m b there f overlaps,
    )
