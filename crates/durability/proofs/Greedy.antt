-- Going through a run, with the needless events left out: what is read in the whole run is read in what is left.
use Rattle.std.proofs.Common.{◌≡◌, ◌≢◌, ℕ, suc, ◌+◌, ◌<◌, ◌≤◌, ◌⊎◌, inl, inr, List, [], ◌∷◌, ◌++◌, Option, Some, None, length, take, max, arith, refl, ap, ◌∙◌, sym, subst}
use Rattle.std.specs.Prelude.{Contains}
use Rattle.store_trace.specs.Floor.{cleaned, floor}
use Rattle.store_trace.specs.Stores.{stores}
use Rattle.store_trace.specs.declared.crash_model.step.PersistenceStep.{PersistenceStep}
use Rattle.store_trace.specs.declared.crash_model.step.PersistenceStep.TheVariants as step
use Rattle.store_trace.specs.History.{history, steps_of}
use Rattle.store_trace.specs.declared.event.Event.{Event}
use Rattle.store_trace.specs.declared.event.Event.TheVariants.{Store, Clean, Fence, Begin, End}
use Rattle.durability.proofs.Alike.{but_back, but_clean, eq_or_not, own_clean, stores_store, test_of}
use Rattle.durability.proofs.Answers.{Answers, AnswersClean, AnswersFence, IsLeftOut, IsNeeded, clean_changes, cons_head, cons_tail, fence_changes, needless_from, out_by_reason, reason_from}
use Rattle.durability.proofs.Back.{back, history_back, history_more}
use Rattle.durability.proofs.Lacks.{no_head, no_tail}
use Rattle.durability.specs.Found.{AreFound, named, with_reasons}
use Rattle.durability.specs.Needless.{ChangesFloor, IsCleanOrFence, IsNeedless}
use Rattle.durability.specs.Reasons.{IsNextFence}
use Rattle.durability.specs.declared.redundant.reason.Reason.{Reason}
use Rattle.durability.specs.declared.redundant.reason.Reason.TheVariants.{NotFenced, NothingToComplete, CleanedAgain, AlreadyThere}

-- the steps kept so far have the floors of all steps so far, and will have them after each further event
pub record Tracks (p q : List PersistenceStep) (rest : List Event) : Type 0 where
  pub floors : (l m : ℕ) → floor l (back (take m rest) p) ≡ floor l (back (take m rest) q)
  pub counts : (l : ℕ) → stores l p ≡ stores l q

-- what the hart cleaned last of the line waits for its next fence, which needs it
pub record IsAwaited (p : List PersistenceStep) (h l : ℕ) (rest : List Event) : Type 0 where
  pub between : List Event
  pub later : List Event
  pub fence : IsNextFence h rest between later
  pub none : Contains between (Clean h l) → ⊥
  pub low : floor l (back between p) < cleaned l h p

-- what each hart cleaned of each line is in the floor, or waits for a fence that needs it
abbrev pub Settled : List PersistenceStep → List Event → Type 0
Settled p rest = (l h : ℕ) → (cleaned l h p ≤ floor l p) ⊎ IsAwaited p h l rest

awaited_past : (p : List PersistenceStep) (h l : ℕ) (event : Event) (rest between later : List Event) →
    event ∷ rest ≡ between ++ (Fence h ∷ later) → (Contains between (Fence h) → ⊥) → (Contains between (Clean h l) → ⊥) →
    floor l (back between p) < cleaned l h p → (event ≡ Fence h → ⊥) → cleaned l h (steps_of event ++ p) ≡ cleaned l h p →
    IsAwaited (steps_of event ++ p) h l rest
awaited_past p h l event rest [] later place fence none low other same = absurd (other (cons_head event (Fence h) rest later place))
awaited_past p h l event rest (b ∷ bs) later place fence none low other same =
    let head : b ≡ event = sym (cons_head event b rest (bs ++ (Fence h ∷ later)) place) in
    let under : floor l (back bs (steps_of event ++ p)) < cleaned l h p =
    subst (λ (e : Event). floor l (back bs (steps_of e ++ p)) < cleaned l h p) head low in
    record {
      between = bs;
      later = later;
      fence = record { place = cons_tail event b rest (bs ++ (Fence h ∷ later)) place; next = no_tail b bs (Fence h) fence };
      none = no_tail b bs (Clean h l) none;
      low = omega (arith, under, same);
    }

pub awaited_step : (p : List PersistenceStep) (h l : ℕ) (event : Event) (rest : List Event) → IsAwaited p h l (event ∷ rest) →
    (event ≡ Fence h → ⊥) → cleaned l h (steps_of event ++ p) ≡ cleaned l h p → IsAwaited (steps_of event ++ p) h l rest
awaited_step p h l event rest a other same =
    awaited_past p h l event rest a.between a.later a.fence.place a.fence.next a.none a.low other same

take_front : {X : Type 0} (xs ys : List X) → take (length xs) (xs ++ ys) ≡ xs
take_front [] ys = refl
take_front (x ∷ xs) ys = ap (λ (zs : List _). x ∷ zs) (take_front xs ys)

awaited_without : (p : List PersistenceStep) (h l : ℕ) (event : Event) (rest between later : List Event) →
    event ∷ rest ≡ between ++ (Fence h ∷ later) → (Contains between (Fence h) → ⊥) → (Contains between (Clean h l) → ⊥) →
    floor l (back between p) < cleaned l h p → IsLeftOut event p rest → IsAwaited p h l rest
awaited_without p h l event rest [] later place fence none low out =
    let e : event ≡ Fence h = cons_head event (Fence h) rest later place in
    let here : floor l (step.Fence h ∷ p) ≡ floor l p = rw e at (out.same l 0) in
    absurd (omega (arith, here, low))
awaited_without p h l event rest (b ∷ bs) later place fence none low out =
    let head : b ≡ event = sym (cons_head event b rest (bs ++ (Fence h ∷ later)) place) in
    let tail : rest ≡ bs ++ (Fence h ∷ later) = cons_tail event b rest (bs ++ (Fence h ∷ later)) place in
    let front : take (length bs) rest ≡ bs = rw tail (take_front bs (Fence h ∷ later)) in
    let same : floor l (back bs (steps_of event ++ p)) ≡ floor l (back bs p) =
    subst (λ (es : List Event). floor l (back es (steps_of event ++ p)) ≡ floor l (back es p)) front (out.same l (length bs)) in
    let under : floor l (back bs (steps_of event ++ p)) < cleaned l h p =
    subst (λ (e : Event). floor l (back bs (steps_of e ++ p)) < cleaned l h p) head low in
    record {
      between = bs;
      later = later;
      fence = record { place = tail; next = no_tail b bs (Fence h) fence };
      none = no_tail b bs (Clean h l) none;
      low = omega (arith, under, same);
    }

pub awaited_left : (p : List PersistenceStep) (h l : ℕ) (event : Event) (rest : List Event) → IsAwaited p h l (event ∷ rest) →
    IsLeftOut event p rest → IsAwaited p h l rest
awaited_left p h l event rest a out = awaited_without p h l event rest a.between a.later a.fence.place a.fence.next a.none a.low out

-- an event that is left out
pub settled_left : (p : List PersistenceStep) (event : Event) (rest : List Event) → Settled p (event ∷ rest) → IsLeftOut event p rest →
    Settled p rest
settled_left p event rest s out = λ l h. elim (s l h) [ inl low ↦ inl low | inr a ↦ inr (awaited_left p h l event rest a out) ]

pub tracks_left : (p q : List PersistenceStep) (event : Event) (rest : List Event) → Tracks p q (event ∷ rest) → IsCleanOrFence event →
    IsLeftOut event p rest → Tracks p (steps_of event ++ q) rest
tracks_left p q event rest t kind out = record {
  floors = λ l m. sym (out.same l m) ∙ t.floors l (suc m);
  counts = λ l. t.counts l ∙ sym (uncounted l q event kind);
}
  where
    uncounted : (l : ℕ) (q : List PersistenceStep) (event : Event) → IsCleanOrFence event → stores l (steps_of event ++ q) ≡ stores l q
    uncounted l q (Store h m o w v) kind = absurd kind
    uncounted l q (Clean h m) kind = refl
    uncounted l q (Fence h) kind = refl
    uncounted l q (Begin h op) kind = refl
    uncounted l q (End h op) kind = refl

-- an event that is kept
pub tracks_kept : (p q : List PersistenceStep) (event : Event) (rest : List Event) → Tracks p q (event ∷ rest) →
    Tracks (steps_of event ++ p) (steps_of event ++ q) rest
tracks_kept p q event rest t = record { floors = λ l m. t.floors l (suc m); counts = λ l. counted l p q event (t.counts l) }
  where
    counted : (l : ℕ) (p q : List PersistenceStep) (event : Event) → stores l p ≡ stores l q →
        stores l (steps_of event ++ p) ≡ stores l (steps_of event ++ q)
    counted l p q (Store h m o w v) e = stores_store l m (stores l p) (stores l q) e
    counted l p q (Clean h m) e = e
    counted l p q (Fence h) e = e
    counted l p q (Begin h op) e = e
    counted l p q (End h op) e = e

pub needed_is_awaited : (p : List PersistenceStep) (h l : ℕ) (rest : List Event) → IsNeeded p h l rest → IsAwaited (step.Clean h l ∷ p) h l rest
needed_is_awaited p h l rest n =
    let but = but_back h l n.between (step.Clean h l ∷ p) p n.fence.next (but_clean h l p) in
    record {
      between = n.between;
      later = n.later;
      fence = n.fence;
      none = n.none;
      low = rw (own_clean h l p) (omega (arith, but.level, n.low));
    }

pub hart_of : (g h : ℕ) → Fence g ≡ Fence h → g ≡ h
hart_of g h e = cc

pub settled_kept : (p : List PersistenceStep) (event : Event) (rest : List Event) → Settled p (event ∷ rest) → Answers p event rest None →
    Settled (steps_of event ++ p) rest
settled_kept p (Store g m o w v) rest s none = λ l h. elim (s l h) [
  | inl low ↦ inl low
  | inr a ↦ inr (awaited_step p h l (Store g m o w v) rest a (λ e. cc) refl)
]
settled_kept p (Clean g m) rest s needed = λ l h. elim (test_of g h m l) [
  | inl same ↦ rw (← same.0, ← same.1) (inr (needed_is_awaited p g m rest needed))
  | inr other ↦ elim (s l h) [
    | inl low ↦ inl (rw other low)
    | inr a ↦ inr (awaited_step p h l (Clean g m) rest a (λ e. cc) (rw other refl))
  ]
]
settled_kept p (Fence g) rest s rises = λ l h. elim (eq_or_not g h) [
  | inl e ↦ inl (rw e (omega arith))
  | inr ne ↦ elim (s l h) [
    | inl low ↦ inl (omega (arith, low))
    | inr a ↦ inr (awaited_step p h l (Fence g) rest a (λ e. ne (hart_of g h e)) refl)
  ]
]
settled_kept p (Begin g op) rest s none = λ l h. elim (s l h) [
  | inl low ↦ inl low
  | inr a ↦ inr (awaited_step p h l (Begin g op) rest a (λ e. cc) refl)
]
settled_kept p (End g op) rest s none = λ l h. elim (s l h) [
  | inl low ↦ inl low
  | inr a ↦ inr (awaited_step p h l (End g op) rest a (λ e. cc) refl)
]

-- no clean of the line by the hart waits where the next event is one
no_clean_waits : (p : List PersistenceStep) (h l : ℕ) (rest between later : List Event) → Clean h l ∷ rest ≡ between ++ (Fence h ∷ later) →
    (Contains between (Clean h l) → ⊥) → ⊥
no_clean_waits p h l rest [] later place none =
    let e : Clean h l ≡ Fence h = cons_head (Clean h l) (Fence h) rest later place in cc
no_clean_waits p h l rest (b ∷ bs) later place none =
    no_head b bs (Clean h l) none (sym (cons_head (Clean h l) b rest (bs ++ (Fence h ∷ later)) place))

pub clean_settled : (p : List PersistenceStep) (h l : ℕ) (rest : List Event) → Settled p (Clean h l ∷ rest) → cleaned l h p ≤ floor l p
clean_settled p h l rest s = elim (s l h) [
  | inl low ↦ low
  | inr a ↦ absurd (no_clean_waits p h l rest a.between a.later a.fence.place a.none)
]

-- an event without a reason changes a floor
changed : (kept : List Event) (event : Event) (rest : List Event) (l m : ℕ) →
    floor l (back (take m rest) (history kept)) ≢ floor l (back (take m rest) (steps_of event ++ history kept)) →
    ChangesFloor kept event rest
changed kept event rest l m other = record {
  line = l;
  further = m;
  changes = λ e. other (
      sym (ap (λ (p : List PersistenceStep). floor l p) (history_back kept (take m rest)))
      ∙ e
      ∙ ap (λ (p : List PersistenceStep). floor l p) (history_back kept (event ∷ take m rest))
      );
}

pub changes_from : (kept : List Event) (event : Event) (rest : List Event) → IsCleanOrFence event →
    Answers (history kept) event rest None →
    ((h l : ℕ) → event ≡ Clean h l → cleaned l h (history kept) ≤ floor l (history kept)) → ChangesFloor kept event rest
changes_from kept (Store h l o w v) rest kind a own = absurd kind
changes_from kept (Clean h l) rest kind a own =
    changed kept (Clean h l) rest l (suc (length a.between)) (clean_changes (history kept) h l rest a (own h l refl))
changes_from kept (Fence h) rest kind a own = changed kept (Fence h) rest a.0 0 (fence_changes (history kept) h a.0 rest a.1)
changes_from kept (Begin h op) rest kind a own = absurd kind
changes_from kept (End h op) rest kind a own = absurd kind

pub own_settled : (p : List PersistenceStep) (event : Event) (rest : List Event) → Settled p (event ∷ rest) →
    (h l : ℕ) → event ≡ Clean h l → cleaned l h p ≤ floor l p
own_settled p event rest s h l e = clean_settled p h l rest (subst (λ (x : Event). Settled p (x ∷ rest)) e s)

pub not_needless : (kept : List Event) (event : Event) (rest : List Event) → Answers (history kept) event rest None →
    Settled (history kept) (event ∷ rest) → IsNeedless kept event rest → ⊥
not_needless kept event rest a s needless =
    let c = changes_from kept event rest needless.kind a (own_settled (history kept) event rest s) in
    c.changes (sym (needless.same c.line c.further))

-- what is read in the whole run holds in what is kept
between_tracked : (p q : List PersistenceStep) (h l : ℕ) (rest between later : List Event) → Tracks p q (Clean h l ∷ rest) →
    IsNextFence h rest between later → floor l (back between p) ≡ floor l (back between q)
between_tracked p q h l rest between later t fence =
    let front : take (length between) rest ≡ between = rw fence.place (take_front between (Fence h ∷ later)) in
    let same : floor l (back between (step.Clean h l ∷ p)) ≡ floor l (back between (step.Clean h l ∷ q)) =
    subst (λ (es : List Event). floor l (back es (step.Clean h l ∷ p)) ≡ floor l (back es (step.Clean h l ∷ q))) front (t.floors l (suc (length between))) in
    sym (but_back h l between (step.Clean h l ∷ p) p fence.next (but_clean h l p)).level
    ∙ same
    ∙ (but_back h l between (step.Clean h l ∷ q) q fence.next (but_clean h l q)).level

tracked_clean : (p q : List PersistenceStep) (h l : ℕ) (rest : List Event) (reason : Option Reason) → Tracks p q (Clean h l ∷ rest) →
    AnswersClean q h l rest reason → AnswersClean p h l rest reason
tracked_clean p q h l rest (Some NotFenced) t a = a
tracked_clean p q h l rest (Some NothingToComplete) t a = a
tracked_clean p q h l rest (Some CleanedAgain) t a = a
tracked_clean p q h l rest (Some AlreadyThere) t a = record {
  between = a.between;
  later = a.later;
  fence = a.fence;
  none = a.none;
  there = omega (arith, a.there, t.counts l, between_tracked p q h l rest a.between a.later t a.fence);
}
tracked_clean p q h l rest None t a = record {
  between = a.between;
  later = a.later;
  fence = a.fence;
  none = a.none;
  low = omega (arith, a.low, t.counts l, between_tracked p q h l rest a.between a.later t a.fence);
}

none_rises : (f g c d : ℕ) → f ≡ g → max f c ≡ max g d → d ≤ g → c ≤ f
none_rises f g c d e i low = omega arith

one_rises : (f g c d : ℕ) → f ≡ g → max f c ≡ max g d → g < d → f < c
one_rises f g c d e i low = omega arith

tracked_fence : (p q : List PersistenceStep) (h : ℕ) (rest : List Event) (reason : Option Reason) → Tracks p q (Fence h ∷ rest) →
    AnswersFence q h reason → AnswersFence p h reason
tracked_fence p q h rest (Some NotFenced) t a = a
tracked_fence p q h rest (Some NothingToComplete) t a =
    λ l. none_rises (floor l p) (floor l q) (cleaned l h p) (cleaned l h q) (t.floors l 0) (t.floors l 1) (a l)
tracked_fence p q h rest (Some CleanedAgain) t a = a
tracked_fence p q h rest (Some AlreadyThere) t a = a
tracked_fence p q h rest None t a =
    (a.0, one_rises (floor a.0 p) (floor a.0 q) (cleaned a.0 h p) (cleaned a.0 h q) (t.floors a.0 0) (t.floors a.0 1) a.1)

tracked : (p q : List PersistenceStep) (event : Event) (rest : List Event) (reason : Option Reason) → Tracks p q (event ∷ rest) →
    Answers q event rest reason → Answers p event rest reason
tracked p q (Store h l o w v) rest reason t a = a
tracked p q (Clean h l) rest reason t a = tracked_clean p q h l rest reason t a
tracked p q (Fence h) rest reason t a = tracked_fence p q h rest reason t a
tracked p q (Begin h op) rest reason t a = a
tracked p q (End h op) rest reason t a = a

-- what is told of each of these events answers it, after the steps before them
abbrev pub AreAnswers : List PersistenceStep → List Event → List (Option Reason) → Type 0
AreAnswers q [] told = told ≡ []
AreAnswers q (event ∷ rest) told =
    (one : Option Reason) × (more : List (Option Reason)) × (told ≡ one ∷ more) × Answers q event rest one × AreAnswers (steps_of event ++ q) rest more

found_here : (kept : List Event) (event : Event) (rest : List Event) (n : ℕ) (more : List (Option Reason)) (q : List PersistenceStep) (reason : Option Reason) →
    Tracks (history kept) q (event ∷ rest) → Settled (history kept) (event ∷ rest) → Answers (history kept) event rest reason →
    ((now : List Event) → Tracks (history now) (steps_of event ++ q) rest → Settled (history now) rest → AreFound now rest (n + 1) (with_reasons (n + 1) more)) →
    AreFound kept (event ∷ rest) n (named n reason ++ with_reasons (n + 1) more)
found_here kept event rest n more q None t s a later =
    let p = history kept in
    inr (
      not_needless kept event rest a s,
      later (kept ++ event ∷ [])
          (subst (λ (r : List PersistenceStep). Tracks r (steps_of event ++ q) rest) (sym (history_more kept event)) (tracks_kept p q event rest t))
          (subst (λ (r : List PersistenceStep). Settled r rest) (sym (history_more kept event)) (settled_kept p event rest s a)),
    )
found_here kept event rest n more q (Some reason) t s a later =
    let p = history kept in
    let out = out_by_reason p event rest reason a in
    inl (
      with_reasons (n + 1) more,
      record {
        entry = record { event = n; reason = reason };
        place = refl;
        number = refl;
        needless = needless_from kept event rest out.0 out.1;
        reason = reason_from kept event rest reason a;
      },
      later kept (tracks_left p q event rest t out.0 out.1) (settled_left p event rest s out.1),
    )

pub found_from : (kept rest : List Event) (n : ℕ) (told : List (Option Reason)) (q : List PersistenceStep) →
    Tracks (history kept) q rest → Settled (history kept) rest → AreAnswers q rest told → AreFound kept rest n (with_reasons n told)
found_from kept [] n told q t s a = rw a refl
found_from kept (event ∷ rest) n told q t s a =
    rw a.2 (found_here kept event rest n a.1 q a.0 t s (tracked (history kept) q event rest a.0 t a.3)
    (λ now u v. found_from now rest (n + 1) a.1 (steps_of event ++ q) u v a.4))

-- the needless events of a whole run
pub needless_from_answers : (events : List Event) (told : List (Option Reason)) → AreAnswers [] events told → AreFound [] events 1 (with_reasons 1 told)
needless_from_answers events told a =
    found_from [] events 1 told [] (record { floors = λ l m. refl; counts = λ l. refl }) (λ l h. inl (omega arith)) a
