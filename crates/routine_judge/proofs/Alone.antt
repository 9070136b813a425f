-- A moment has one window.
use Rattle.std.proofs.Common.{◌≡◌, ℕ, ◌<◌, ◌≤◌, inl, inr, List, length, get_or, take, refl, sym, ap, ◌∙◌, subst, arith, Some}
use Rattle.std.specs.Prelude.{◌↔◌, min}
use Rattle.std.specs.List.{Contains}
use Rattle.std.proofs.lemmas.Bool.{cases_lt}
use Rattle.std.proofs.lemmas.List.{get_or-take, length-take}
use Rattle.std.proofs.lemmas.Option.{slice_get-get_or, get_or_from_slice_get}
use Rattle.store_trace.proofs.Marking.{open_true, open_unended}
use Rattle.store_trace.proofs.Members.{from_filter, from_mapped, in_filter, mapped_here}
use Rattle.store_trace.specs.Marks.{begun, begun_by, is_open, pending}
use Rattle.routine_judge.proofs.Ends.{above_unended, end_of_until, still_ended, unended_above}
use Rattle.routine_judge.proofs.Marked.{begin_of}
use Rattle.routine_judge.proofs.Spanning.{begin_inside, begin_op}
use Rattle.routine_judge.specs.MarkFaults.{AreSound}
use Rattle.routine_judge.specs.Spans.{until}
use Rattle.routine_judge.specs.Windows.{IsAlonePending, IsBegunAt, IsPendingFrom, IsWindow, end_moment}
use Rattle.routine_judge.specs.declared.history.fault.MarkFault.TheVariants.{Overlaps}
use Rattle.routine_judge.specs.declared.history.moments.Window.{Window}
use Rattle.routine_judge.specs.declared.history.moments.Window.TheVariants.{Itself, Either, Through}
use Rattle.store_trace.specs.declared.event.Event.{Event}
use Rattle.routine_judge.specs.declared.history.overlap.Overlap.TheVariants.{Never}
use Rattle.store_trace.specs.declared.event.Event.TheVariants.{Begin}

-- an operation that is pending later was pending from its Begin on
pending_earlier : (events : List Event) (m n i op : ℕ) → IsPendingFrom events m i op → i < n → n ≤ m → IsPendingFrom events n i op
pending_earlier events m n i op p before earlier = record {
  begins = p.begins;
  before = before;
  pending = λ c. p.pending (still_ended events n m op earlier c);
}

-- what is pending with an operation that overlaps no other didn't begin before it
not_earlier : (events : List Event) (m b e i op : ℕ) → IsAlonePending events m b e → IsPendingFrom events m i op → b ≤ i
not_earlier events m b e i op a p = elim (cases_lt i b) [
  | inl before ↦ absurd (a.alone.none_pending i op (pending_earlier events m b i op p before (omega (arith, a.pending.before))))
  | inr late ↦ late
]

pub alone_only : (events : List Event) (m b e : ℕ) → m ≤ length events → IsAlonePending events m b e → (i op : ℕ) → IsPendingFrom events m i op → i ≡ b
alone_only events m b e there a i op p = elim (cases_lt b i) [
  | inl behind ↦
      let ends : e ≡ min (until events a.op) (length events) = a.ends ∙ sym (end_of_until events a.op) in
      let high : m < until events a.op = unended_above events m a.op there a.pending.pending in
      absurd (a.alone.none_begins i op behind (omega (arith, ends, high, p.before, begin_inside events i op p.begins)) p.begins)
  | inr not_behind ↦ omega (arith, not_behind, not_earlier events m b e i op a p)
]

same_either : (b e c f : ℕ) → b ≡ c → e ≡ f → Either b e ≡ Either c f
same_either b e c f p q = cc

same_through : (b e c f : ℕ) → b ≡ c → e ≡ f → Through b e ≡ Through c f
same_through b e c f p q = cc

one_either : (events : List Event) (m b e c f : ℕ) → IsAlonePending events m b e → IsAlonePending events m c f → Either b e ≡ Either c f
one_either events m b e c f one other =
    let low : b ≤ c = not_earlier events m b e c other.op one other.pending in
    let high : c ≤ b = not_earlier events m c f b one.op other one.pending in
    let begins : b ≡ c = omega (arith, low, high) in
    let op : one.op ≡ other.op = begin_op events b one.op other.op one.pending.begins (subst (λ (i : ℕ). IsBegunAt events i other.op) (sym begins) other.pending.begins) in
    same_either b e c f begins (one.ends ∙ ap (end_moment events) op ∙ sym other.ends)

pub one_window : (events : List Event) (m : ℕ) (one other : Window) → IsWindow events m one → IsWindow events m other → one ≡ other
one_window events m Itself Itself w v = refl
one_window events m Itself (Either c f) w v = absurd (w c v.op v.pending)
one_window events m Itself (Through c f) w v = absurd (w c v.0.op v.0.pending)
one_window events m (Either b e) Itself w v = absurd (v b w.op w.pending)
one_window events m (Either b e) (Either c f) w v = one_either events m b e c f w v
one_window events m (Either b e) (Through c f) w v = absurd (v.2 b e w)
one_window events m (Through b e) Itself w v = absurd (v b w.0.op w.0.pending)
one_window events m (Through b e) (Either c f) w v = absurd (w.2 c f v)
one_window events m (Through b e) (Through c f) w v =
    let low : b ≤ c = w.0.first c v.0.op v.0.pending in
    let high : c ≤ b = v.0.first b w.0.op w.0.pending in
    let upper : e ≤ f = omega (arith, w.1.ends, v.1.last w.1.i w.1.op w.1.pending) in
    let lower : f ≤ e = omega (arith, v.1.ends, w.1.last v.1.i v.1.op v.1.pending) in
    same_through b e c f (omega (arith, low, high)) (omega (arith, upper, lower))

-- the pending operations are those that have begun and haven't ended
begun_at : (events : List Event) (m op : ℕ) → Contains (begun (take m events)) op → (i : ℕ) × (i < m) × IsBegunAt events i op
begun_at events m op c =
    let from = from_mapped begun_by (take m events) op c in
    let begins = begin_of from.0 op from.2 in
    let i : ℕ = from.1.0 in
    let size : length (take m events) ≡ min m (length events) = length-take m events in
    let before : i < m = omega (arith, from.1.1, size) in
    let inside : i < length events = omega (arith, from.1.1, size) in
    let here : get_or events i from.0 ≡ Begin begins.0 op = sym (get_or-take m events i from.0 before) ∙ from.1.2 ∙ begins.1 in
    (i, before, (begins.0, slice_get-get_or events i from.0 inside ∙ ap (λ (e : Event). Some e) here))

at_begun : (events : List Event) (m i op : ℕ) → i < m → IsBegunAt events i op → Contains (begun (take m events)) op
at_begun events m i op before b =
    let event : Event = Begin b.0 op in
    let size : length (take m events) ≡ min m (length events) = length-take m events in
    let inside : i < length events = begin_inside events i op b in
    let here : get_or (take m events) i event ≡ event = get_or-take m events i event before ∙ get_or_from_slice_get events i event event b.1 in
    mapped_here begun_by (take m events) i event op (omega (arith, before, inside, size)) (ap (λ (e : Event). begun_by e) here)

pub pending_iff : (events : List Event) (m op : ℕ) → Contains (pending (take m events)) op ↔ ((i : ℕ) × IsPendingFrom events m i op)
pending_iff events m op = (
  λ c.
      let kept = from_filter (is_open (take m events)) (begun (take m events)) op c in
      let at = begun_at events m op kept.0 in
      (at.0, record { begins = at.2; before = at.1; pending = open_unended (take m events) op kept.1 }),
  λ p.
      in_filter (is_open (take m events)) (begun (take m events)) op (at_begun events m p.0 op p.1.before p.1.begins) (open_true (take m events) op p.1.pending),
)

-- where operations don't overlap, none is pending at a Begin
apart : (events : List Event) (i op k other : ℕ) → AreSound Never events (length events) → IsBegunAt events i op → ¬ IsPendingFrom events i k other
apart events i op k other sound begins p =
    sound i (Begin begins.0 op) Overlaps (begin_inside events i op begins) begins.1 (other, (pending_iff events i other).1 (k, p))

alone_apart : (events : List Event) (m b op : ℕ) → AreSound Never events (length events) → IsPendingFrom events m b op → IsAlonePending events m b (end_moment events op)
alone_apart events m b op sound p = record {
  op = op;
  pending = p;
  ends = refl;
  alone = record {
    none_pending = λ i other. apart events b op i other sound p.begins;
    none_begins = λ i other behind before begins.
        let high : i < until events op = omega (arith, before, end_of_until events op) in
        apart events i other b op sound begins (record { begins = p.begins; before = behind; pending = above_unended events i op high });
  };
}

pub none_through : (events : List Event) (m b e : ℕ) → AreSound Never events (length events) → ¬ IsWindow events m (Through b e)
none_through events m b e sound w = w.2 b (end_moment events w.0.op) (alone_apart events m b w.0.op sound w.0.pending)

-- the moments of a window
ends_later : (events : List Event) (m i op : ℕ) → m ≤ length events → IsPendingFrom events m i op → m ≤ end_moment events op
ends_later events m i op there p = omega (arith, there, unended_above events m op there p.pending, end_of_until events op)

ends_inside : (events : List Event) (op : ℕ) → end_moment events op ≤ length events
ends_inside events op = omega (arith, end_of_until events op)

pub either_inside : (events : List Event) (m b e : ℕ) → m ≤ length events → IsWindow events m (Either b e) → (b < m) × (m ≤ e) × (e ≤ length events)
either_inside events m b e there w = (
  w.pending.before,
  omega (arith, w.ends, ends_later events m b w.op there w.pending),
  omega (arith, w.ends, ends_inside events w.op),
)

pub through_inside : (events : List Event) (m b e : ℕ) → m ≤ length events → IsWindow events m (Through b e) → (b < m) × (m ≤ e) × (e ≤ length events)
through_inside events m b e there w = (
  w.0.pending.before,
  omega (arith, w.1.ends, ends_later events m w.1.i w.1.op there w.1.pending),
  omega (arith, w.1.ends, ends_inside events w.1.op),
)
