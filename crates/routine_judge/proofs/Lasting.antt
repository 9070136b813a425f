-- Which changes have to last, and from when on.
use Rattle.std.proofs.Common.{◌≡◌, ◌∙◌, ℕ, ◌+◌, ◌-◌, ◌<◌, ◌≤◌, Bool, true, false, inl, inr, List, length, get_or, slice_get, take, refl, sym, ap, subst, arith, Some, None}
use Rattle.std.specs.List.{Contains}
use Rattle.std.specs.Prelude.{◌↔◌, IsTrue, max}
use Rattle.std.proofs.lemmas.Option.{slice_get-get_or, get_or_from_slice_get}
use Rattle.routine_judge.proofs.Marked.{not_true, true_of}
use Rattle.routine_judge.proofs.Telling.{told_number}
use Rattle.std.proofs.lemmas.Bool.{cases_lt}
use Rattle.routine_judge.proofs.Ends.{above_unended, ended_until, still_ended, until_positive}
use Rattle.routine_judge.proofs.Gathering.{shows_once}
use Rattle.routine_judge.proofs.Spanning.{above_pending, begin_number, begin_op, numbers_of, pending_above}
use Rattle.routine_judge.proofs.Staying.{IsNoMark, same_ended}
use Rattle.routine_judge.specs.Images.{full_cut}
use Rattle.routine_judge.specs.RightAnswers.{IsChangeBy, IsFirstBehind, IsLasting, IsRightWindow, stored_by}
use Rattle.routine_judge.specs.SpanAnswers.{AreLasting, IsBehind, LastsFrom, TellsChange}
use Rattle.routine_judge.specs.Spans.{IsFreeFrom, until}
use Rattle.routine_judge.specs.Views.{JudgeView}
use Rattle.routine_judge.specs.Windows.{IsBegunAt, IsPendingFrom, IsPendingOn, IsWindow}
use Rattle.routine_judge.specs.declared.history.moments.Window.{Window}
use Rattle.routine_judge.specs.declared.history.moments.Window.TheVariants.{Itself, Either, Through}
use Rattle.store_trace.specs.Marks.{ended}
use Rattle.store_trace.specs.declared.event.Event.{Event}
use Rattle.store_trace.specs.declared.event.Event.TheVariants.{Begin}

-- of the operations that the hart began in the first `at` events, until when those are pending that are pending at moment m
pub record IsFreeUpTo (events : List Event) (numbers : List ℕ) (m hart at latest : ℕ) : Type 0 where
  each : (i op : ℕ) → i < at → slice_get events i ≡ Some (Begin hart op) → m < get_or numbers i 0 → get_or numbers i 0 ≤ latest
  some : 0 < latest → (i : ℕ) × (op : ℕ) × (i < at) × (slice_get events i ≡ Some (Begin hart op)) × (m < get_or numbers i 0) × (get_or numbers i 0 ≡ latest)

pub free_none : (events : List Event) (numbers : List ℕ) (m hart : ℕ) → IsFreeUpTo events numbers m hart 0 0
free_none events numbers m hart = record {
  each = λ i op before. absurd (omega (arith, before));
  some = λ positive. absurd (omega (arith, positive));
}

pub free_taken : (events : List Event) (numbers : List ℕ) (m hart at op latest next : ℕ) → IsFreeUpTo events numbers m hart at latest →
    slice_get events at ≡ Some (Begin hart op) → m < get_or numbers at 0 → next ≡ max latest (get_or numbers at 0) → IsFreeUpTo events numbers m hart (at + 1) next
free_taken events numbers m hart at op latest next f begins above is = record {
  each = λ i other before here high. elim (cases_lt i at) [
    | inl earlier ↦ omega (arith, f.each i other earlier here high, is)
    | inr late ↦
        let same : i ≡ at = omega (arith, late, before) in
        let number : get_or numbers i 0 ≡ get_or numbers at 0 = ap (λ (k : ℕ). get_or numbers k 0) same in
        omega (arith, number, is)
  ];
  some = λ positive. elim (cases_lt latest (get_or numbers at 0)) [
    | inl higher ↦ (at, op, omega arith, begins, above, omega (arith, higher, is))
    | inr not_higher ↦
        let s = f.some (omega (arith, not_higher, above)) in
        (s.0, s.1, omega (arith, s.2), s.3, s.4, omega (arith, s.5, not_higher, is))
  ];
}

pub free_left : (events : List Event) (numbers : List ℕ) (m hart at latest : ℕ) → IsFreeUpTo events numbers m hart at latest →
    ((op : ℕ) → slice_get events at ≡ Some (Begin hart op) → m < get_or numbers at 0 → ⊥) → IsFreeUpTo events numbers m hart (at + 1) latest
free_left events numbers m hart at latest f not_here = record {
  each = λ i op before begins high. elim (cases_lt i at) [
    | inl earlier ↦ f.each i op earlier begins high
    | inr late ↦
        let same : i ≡ at = omega (arith, late, before) in
        absurd (not_here op (subst (λ (k : ℕ). slice_get events k ≡ Some (Begin hart op)) same begins) (subst (λ (k : ℕ). m < get_or numbers k 0) same high))
  ];
  some = λ positive. let s = f.some positive in (s.0, s.1, omega (arith, s.2), s.3, s.4, s.5);
}

-- of all events before moment m it is that of the operations that are pending on the hart
pub free_all : (events : List Event) (numbers : List ℕ) (m hart latest : ℕ) → numbers ≡ numbers_of events → m ≤ length events →
    IsFreeUpTo events numbers m hart m latest → IsFreeFrom events m hart latest
free_all events numbers m hart latest are there f = free_of latest (subst (λ (ns : List ℕ). IsFreeUpTo events ns m hart m latest) are f) where
  free_of : (latest : ℕ) → IsFreeUpTo events (numbers_of events) m hart m latest → IsFreeFrom events m hart latest
  free_of latest f = record {
    each = λ op p.
        let number = begin_number events p.at op p.pending.begins in
        let above = pending_above events m p.at op there p.pending in
        let low = f.each p.at op p.pending.before p.begins above in
        omega (arith, number, low);
    some = λ positive.
        let s = f.some positive in
        let begins : IsBegunAt events s.0 s.1 = (hart, s.3) in
        let p = above_pending events m s.0 there s.2 s.4 in
        let same : p.0 ≡ s.1 = begin_op events s.0 p.0 s.1 p.1.begins begins in
        let number = begin_number events s.0 s.1 begins in
        let last = s.5 in (
          s.1,
          record { at = s.0; begins = s.3; pending = subst (λ (op : ℕ). IsPendingFrom events m s.0 op) same p.1 },
          omega (arith, number, last),
        );
  }

-- an operation that has ended by moment m
until_low : (events : List Event) (m op : ℕ) → Contains (ended (take m events)) op → until events op ≤ m
until_low events m op c = elim (cases_lt m (until events op)) [
  | inl high ↦ absurd (above_unended events m op high c)
  | inr low ↦ low
]

-- a change lasts from when the operations have ended that were pending on its hart
pub lasts_when : (view : JudgeView) (i hart n : ℕ) → IsChangeBy view i hart → IsFreeFrom view.events i hart n → LastsFrom view i n
lasts_when view i hart n changes free = λ m there. (
  λ h.
      let first = free.some h.0 in
      record {
        hart = hart;
        changes = changes;
        op = first.0;
        pending = first.1;
        all_ended = λ other p. let low = free.each other p in ended_until view.events m other there (omega (arith, low, h.1));
      },
  λ l.
      let both : Some l.hart ≡ Some hart =
      sym l.changes.is_store ∙ ap (λ (event : Event). stored_by event) (same_event l.changes.event changes.event (sym l.changes.is_event ∙ changes.is_event)) ∙ changes.is_store in
      let same : l.hart ≡ hart = cc in
      let pending : IsPendingOn view.events i hart l.op = subst (λ (h : ℕ). IsPendingOn view.events i h l.op) same l.pending in
      let low = free.each l.op pending in
      let positive = until_positive view.events l.op in (
        omega (arith, low, positive),
        elim (cases_lt 0 n) [
          | inl above ↦
              let s = free.some above in
              let ended_by_m = until_low view.events m s.0 (l.all_ended s.0 (subst (λ (h : ℕ). IsPendingOn view.events i h s.0) (sym same) s.1)) in
              let is = s.2 in
              omega (arith, ended_by_m, is)
          | inr zero ↦ omega (arith, zero)
        ],
      ),
) where
  same_event : (one other : Event) → Some one ≡ Some other → one ≡ other
  same_event one other e = cc

-- what is no change doesn't
pub lasts_never : (view : JudgeView) (i : ℕ) → ((hart : ℕ) → ¬ IsChangeBy view i hart) → LastsFrom view i 0
lasts_never view i none = λ m there. (λ h. absurd (let z = h.0 in omega (arith, z)), λ l. absurd (none l.hart l.changes))

pub no_store : (view : JudgeView) (i : ℕ) (event : Event) → slice_get view.events i ≡ Some event → stored_by event ≡ None → (hart : ℕ) → ¬ IsChangeBy view i hart
no_store view i event is none hart c =
    let both : Some c.event ≡ Some event = sym c.is_event ∙ is in
    let same : c.event ≡ event = cc in
    let stores : None ≡ Some hart = sym none ∙ ap (λ (e : Event). stored_by e) (sym same) ∙ c.is_store in
    cc

pub no_change : (view : JudgeView) (i : ℕ) → TellsChange view i false → (hart : ℕ) → ¬ IsChangeBy view i hart
no_change view i t hart c =
    c.differ
    (shows_once view i (full_cut view.events i) c.before t.before c.shows_before t.shows_before ∙ t.same refl
    ∙ shows_once view (i + 1) (full_cut view.events (i + 1)) t.after c.after t.shows_after c.shows_after)

pub change_by : (view : JudgeView) (i hart : ℕ) (event : Event) → TellsChange view i true → slice_get view.events i ≡ Some event → stored_by event ≡ Some hart →
    IsChangeBy view i hart
change_by view i hart event t is stores = record {
  event = event;
  is_event = is;
  is_store = stores;
  before = t.before;
  after = t.after;
  shows_before = t.shows_before;
  shows_after = t.shows_after;
  differ = t.differ refl;
}

-- what has to last at a moment is a change before it
lasting_before : (view : JudgeView) (m i : ℕ) → IsLasting view m i → i < m
lasting_before view m i l = elim (cases_lt i m) [
  | inl before ↦ before
  | inr late ↦ absurd (l.pending.pending.pending (still_ended view.events m i l.op late (l.all_ended l.op l.pending)))
]

-- the first moment behind all changes that have to last, by numbers
pub first_behind : (view : JudgeView) (m first from : ℕ) (lasts : List ℕ) → AreLasting view first lasts → first ≤ m → m ≤ first + length lasts →
    m ≤ length view.events → IsBehind lasts first m (m - first) from → IsFirstBehind view m first from
first_behind view m first from lasts are order within there b = record {
  order = elim b.least [
    | inl same ↦ omega (arith, same)
    | inr later ↦ let is = later.4 in omega (arith, is)
  ];
  behind = λ i l. elim (cases_lt i first) [
    | inl early ↦ elim b.least [
      | inl same ↦ omega (arith, same, early)
      | inr later ↦ let is = later.4 in omega (arith, is, early)
    ]
    | inr late ↦
        let before = lasting_before view m i l in
        let place : first + (i - first) ≡ i = omega (arith, late) in
        let inside : i - first < length lasts = omega (arith, late, before, within) in
        let counted : i - first < m - first = omega (arith, late, before) in
        let lasting : IsLasting view m (first + (i - first)) = subst (λ (k : ℕ). IsLasting view m k) (sym place) l in
        let tells = (are (i - first) inside m there).1 lasting in
        let high = b.behind (i - first) counted tells.0 tells.1 in
        omega (arith, high, place)
  ];
  least = λ n low all. elim b.least [
    | inl same ↦ omega (arith, same, low)
    | inr later ↦
        let counted = later.1 in
        let inside : later.0 < length lasts = omega (arith, counted, within) in
        let lasting = (are later.0 inside m there).0 (later.2, later.3) in
        let high = all (first + later.0) lasting in
        let is = later.4 in
        omega (arith, high, is)
  ];
}

-- behind an event that is no mark the same changes have to last
module _ (view : JudgeView) (m : ℕ) (d : Event) (n : IsNoMark view.events m d) where
  lasting_next : (i : ℕ) → IsLasting view m i → IsLasting view (m + 1) i
  lasting_next i l = record {
    hart = l.hart;
    changes = l.changes;
    op = l.op;
    pending = l.pending;
    all_ended = λ other p. subst (λ (ops : List ℕ). Contains ops other) (sym (same_ended view.events m d n)) (l.all_ended other p);
  }

  lasting_still : (i : ℕ) → IsLasting view (m + 1) i → IsLasting view m i
  lasting_still i l = record {
    hart = l.hart;
    changes = l.changes;
    op = l.op;
    pending = l.pending;
    all_ended = λ other p. subst (λ (ops : List ℕ). Contains ops other) (same_ended view.events m d n) (l.all_ended other p);
  }

  pub right_window_next : (window : Window) → ((w : Window) → IsWindow view.events m w → IsWindow view.events (m + 1) w) → IsRightWindow view m window →
      IsRightWindow view (m + 1) window
  right_window_next Itself next is = next Itself is
  right_window_next (Either before after) next is = next (Either before after) is
  right_window_next (Through from last) next is = (
    is.0,
    next (Through is.0 last) is.1,
    record {
      order = is.2.order;
      behind = λ i l. is.2.behind i (lasting_still i l);
      least = λ k low all. is.2.least k low (λ i l. all i (lasting_next i l));
    },
  )

-- one event more, where it is a Begin of the hart and its operation is pending, and where it isn't
pub taken_in : (events : List Event) (numbers : List ℕ) (m hart at : ℕ) (d : Event) (latest next u v : ℕ) (b : Bool) → at < length events → at < length numbers →
    IsFreeUpTo events numbers m hart at latest → IsTrue b ↔ ((op : ℕ) × (get_or events at d ≡ Begin hart op)) → b ≡ true → u ≡ get_or numbers at u → m < u →
    v ≡ get_or numbers at v → next ≡ max latest v → IsFreeUpTo events numbers m hart (at + 1) next
taken_in events numbers m hart at d latest next u v b there inside f says is one above other next_is =
    let begins = says.0 (true_of b is) in
    let here : u ≡ get_or numbers at 0 = told_number numbers at u inside one in
    let too : v ≡ get_or numbers at 0 = told_number numbers at v inside other in
    free_taken events numbers m hart at begins.0 latest next f (slice_get-get_or events at d there ∙ ap (λ (e : Event). Some e) begins.1) (omega (arith, here, above))
    (next_is ∙ ap (λ (n : ℕ). max latest n) too)

pub passed_other : (events : List Event) (numbers : List ℕ) (m hart at : ℕ) (d : Event) (latest : ℕ) (b : Bool) → at < length events →
    IsFreeUpTo events numbers m hart at latest → IsTrue b ↔ ((op : ℕ) × (get_or events at d ≡ Begin hart op)) → b ≡ false →
    IsFreeUpTo events numbers m hart (at + 1) latest
passed_other events numbers m hart at d latest b there f says isnt =
    free_left events numbers m hart at latest f (λ op begins above. not_true b isnt (says.1 (op, get_or_from_slice_get events at (Begin hart op) d begins)))

pub passed_ended : (events : List Event) (numbers : List ℕ) (m hart at latest u : ℕ) → at < length numbers → IsFreeUpTo events numbers m hart at latest →
    u ≡ get_or numbers at u → u ≤ m → IsFreeUpTo events numbers m hart (at + 1) latest
passed_ended events numbers m hart at latest u inside f one low =
    let here : u ≡ get_or numbers at 0 = told_number numbers at u inside one in
    free_left events numbers m hart at latest f (λ op begins above. omega (arith, here, low, above))

-- from when on the change lasts that a test tells of
pub lasting_told : (view : JudgeView) (events : List Event) (i hart n : ℕ) (d : Event) (changes : Bool) → view.events ≡ events → i < length events →
    TellsChange view i changes → changes ≡ true → Some hart ≡ stored_by (get_or events i d) → IsFreeFrom events i hart n → LastsFrom view i n
lasting_told view events i hart n d changes same there tells is stores free =
    let event : slice_get view.events i ≡ Some (get_or events i d) =
    ap (λ (es : List Event). slice_get es i) same ∙ slice_get-get_or events i d there in
    lasts_when view i hart n (change_by view i hart (get_or events i d) (subst (λ (b : Bool). TellsChange view i b) is tells) event (sym stores))
    (subst (λ (es : List Event). IsFreeFrom es i hart n) (sym same) free)

pub unchanged_told : (view : JudgeView) (i : ℕ) (changes : Bool) → TellsChange view i changes → changes ≡ false → LastsFrom view i 0
unchanged_told view i changes tells isnt = lasts_never view i (no_change view i (subst (λ (b : Bool). TellsChange view i b) isnt tells))
