-- An event that is no mark leaves what is pending, and so the window of the moment.
use Rattle.std.proofs.Common.{◌≡◌, ℕ, ◌+◌, ◌<◌, inl, inr, List, length, get_or, take, sym, ap, ◌∙◌, subst, arith, Some, None}
use Rattle.std.specs.List.{Contains}
use Rattle.std.proofs.lemmas.Bool.{cases_lt}
use Rattle.std.proofs.lemmas.List.{take_more}
use Rattle.std.proofs.lemmas.Option.{slice_get-get_or}
use Rattle.store_trace.proofs.Marking.{ended_kept}
use Rattle.store_trace.specs.Marks.{begun_by, ended, ended_by}
use Rattle.routine_judge.proofs.Marked.{no_number}
use Rattle.routine_judge.specs.Windows.{IsAlonePending, IsBegunAt, IsPendingFrom, IsWindow}
use Rattle.routine_judge.specs.declared.history.moments.Window.{Window}
use Rattle.routine_judge.specs.declared.history.moments.Window.TheVariants.{Itself, Either, Through}
use Rattle.store_trace.specs.declared.event.Event.{Event}
use Rattle.store_trace.specs.declared.event.Event.TheVariants.{Begin}

-- the event at this place is no mark
pub record IsNoMark (events : List Event) (m : ℕ) (d : Event) : Type 0 where
  pub there : m < length events
  pub none_begins : begun_by (get_or events m d) ≡ None
  pub none_ends : ended_by (get_or events m d) ≡ None

pub same_ended : (events : List Event) (m : ℕ) (d : Event) → IsNoMark events m d → ended (take (m + 1) events) ≡ ended (take m events)
same_ended events m d n =
    ap (λ (es : List Event). ended es) (take_more events m d n.there) ∙ ended_kept (take m events) (get_or events m d) n.none_ends

not_here : (events : List Event) (m op : ℕ) (d : Event) → IsNoMark events m d → ¬ IsBegunAt events m op
not_here events m op d n b =
    let found : Some (get_or events m d) ≡ Some (Begin b.0 op) = sym (slice_get-get_or events m d n.there) ∙ b.1 in
    let same : get_or events m d ≡ Begin b.0 op = cc in
    no_number op (sym n.none_begins ∙ ap begun_by same)

pending_later : (events : List Event) (m i op : ℕ) (d : Event) → IsNoMark events m d → IsPendingFrom events m i op → IsPendingFrom events (m + 1) i op
pending_later events m i op d n p = record {
  begins = p.begins;
  before = omega (arith, p.before);
  pending = λ c. p.pending (subst (λ (ops : List ℕ). Contains ops op) (same_ended events m d n) c);
}

pending_before : (events : List Event) (m i op : ℕ) (d : Event) → IsNoMark events m d → IsPendingFrom events (m + 1) i op → IsPendingFrom events m i op
pending_before events m i op d n p = record {
  begins = p.begins;
  before = elim (cases_lt i m) [
    | inl earlier ↦ earlier
    | inr late ↦
        let same : i ≡ m = omega (arith, late, p.before) in
        absurd (not_here events m op d n (subst (λ (j : ℕ). IsBegunAt events j op) same p.begins))
  ];
  pending = λ c. p.pending (subst (λ (ops : List ℕ). Contains ops op) (sym (same_ended events m d n)) c);
}

alone_later : (events : List Event) (m b e : ℕ) (d : Event) → IsNoMark events m d → IsAlonePending events m b e → IsAlonePending events (m + 1) b e
alone_later events m b e d n a = record { op = a.op; pending = pending_later events m b a.op d n a.pending; ends = a.ends; alone = a.alone }

alone_before : (events : List Event) (m b e : ℕ) (d : Event) → IsNoMark events m d → IsAlonePending events (m + 1) b e → IsAlonePending events m b e
alone_before events m b e d n a = record { op = a.op; pending = pending_before events m b a.op d n a.pending; ends = a.ends; alone = a.alone }

stays : (events : List Event) (m : ℕ) (d : Event) (window : Window) → IsNoMark events m d → IsWindow events m window → IsWindow events (m + 1) window
stays events m d Itself n w = λ i op p. w i op (pending_before events m i op d n p)
stays events m d (Either b e) n w = alone_later events m b e d n w
stays events m d (Through f l) n w = (
  record {
    op = w.0.op;
    pending = pending_later events m f w.0.op d n w.0.pending;
    first = λ i other p. w.0.first i other (pending_before events m i other d n p);
  },
  record {
    i = w.1.i;
    op = w.1.op;
    pending = pending_later events m w.1.i w.1.op d n w.1.pending;
    ends = w.1.ends;
    last = λ j other p. w.1.last j other (pending_before events m j other d n p);
  },
  λ b e a. w.2 b e (alone_before events m b e d n a),
)

pub window_stays : (events : List Event) (m : ℕ) (d : Event) (window : Window) → m < length events → begun_by (get_or events m d) ≡ None →
    ended_by (get_or events m d) ≡ None → IsWindow events m window → IsWindow events (m + 1) window
window_stays events m d window there begins ends w = stays events m d window (record { there = there; none_begins = begins; none_ends = ends }) w
