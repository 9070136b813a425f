-- What is known of the lines and the harts, one event further.
use Rattle.std.proofs.Common.{◌≡◌, ◌≢◌, ℕ, ◌+◌, ◌<◌, ◌≤◌, inl, inr, List, ◌∷◌, [], ◌++◌, Some, length, get_or, max, arith, refl, ap, ◌∙◌, sym, subst}
use Rattle.std.proofs.lemmas.Bool.Decides.{nat_tests}
use Rattle.std.proofs.lemmas.List.{get_or-set_other, get_or-set_same, length-set}
use Rattle.std.specs.Prelude.{slice_get, slice_set}
use Rattle.store_trace.specs.Floor.{cleaned, floor}
use Rattle.store_trace.specs.Stores.{stores}
use Rattle.store_trace.specs.declared.crash_model.step.PersistenceStep.{PersistenceStep}
use Rattle.store_trace.specs.declared.crash_model.step.PersistenceStep.TheVariants as step
use Rattle.store_trace.specs.History.{at_moment, steps_of}
use Rattle.store_trace.specs.declared.event.Event.{Event}
use Rattle.store_trace.specs.declared.event.Event.TheVariants.{Store, Clean, Fence}
use Rattle.durability.proofs.Alike.{cleaned_step, eq_or_not, floor_grows, own_clean}
use Rattle.durability.proofs.Back.{back}
use Rattle.durability.proofs.Moments.{cleaned_more, floor_more, none_empty, none_more, none_narrower, stores_more}
use Rattle.durability.specs.Reading.{AreLastFences, AreLines, IsCounted, IsLastClean, IsLastFence, IsLine}
use Rattle.durability.specs.declared.redundant.reading.LastClean.{LastClean}
use Rattle.durability.specs.declared.redundant.reading.LineState.{LineState}

-- the last clean of a line by a hart
pub last_clean_stays : (events : List Event) (at h l : ℕ) (event : Event) (clean : LastClean) → slice_get events at ≡ Some event →
    (event ≡ Clean h l → ⊥) → IsLastClean events at h l clean → IsLastClean events (at + 1) h l clean
last_clean_stays events at h l event clean here other c = record {
  within = omega (arith, c.within);
  last = none_more events clean.event at event (Clean h l) c.last here other;
  is = c.is;
  before = c.before;
  count = c.count ∙ sym (cleaned_more events at l h event here ∙ cleaned_step h l event (at_moment events at) other);
}

next_place : (n at place : ℕ) → n ≡ at + 1 → n ≡ place + 1 → at ≡ place
next_place n at place e f = omega arith

pub last_clean_here : (events : List Event) (at h l : ℕ) (clean : LastClean) → slice_get events at ≡ Some (Clean h l) →
    clean.event ≡ at + 1 → clean.stores ≡ stores l (at_moment events at) → IsLastClean events (at + 1) h l clean
last_clean_here events at h l clean here number count = record {
  within = omega (arith, number);
  last = none_empty events clean.event (at + 1) (Clean h l) (omega (arith, number));
  is = λ place e. subst (λ (i : ℕ). slice_get events i ≡ Some (Clean h l)) (next_place clean.event at place number e) here;
  before = λ place e.
      subst (λ (i : ℕ). stores l (at_moment events i) ≡ clean.stores) (next_place clean.event at place number e) (sym count);
  count = count ∙ sym (cleaned_more events at l h (Clean h l) here ∙ own_clean h l (at_moment events at));
}

-- a line that the event doesn't name
pub counted_stays : (events : List Event) (at l : ℕ) (event : Event) (state : LineState) → slice_get events at ≡ Some event →
    ((h : ℕ) → event ≡ Clean h l → ⊥) → stores l (steps_of event ++ at_moment events at) ≡ stores l (at_moment events at) →
    IsCounted events at l state → IsCounted events (at + 1) l state
counted_stays events at l event state here other same c = record {
  count = c.count ∙ sym (stores_more events at l event here ∙ same);
  few = omega (arith, c.few);
  harts = c.harts;
  cleans = λ h d low. last_clean_stays events at h l event (get_or state.cleans h d) here (other h) (c.cleans h d low);
}

pub line_stays : (events : List Event) (at l : ℕ) (event : Event) (state : LineState) → slice_get events at ≡ Some event →
    ((h : ℕ) → event ≡ Clean h l → ⊥) → stores l (steps_of event ++ at_moment events at) ≡ stores l (at_moment events at) →
    floor l (steps_of event ++ at_moment events at) ≡ floor l (at_moment events at) → IsLine events at l state → IsLine events (at + 1) l state
line_stays events at l event state here other same level c = record {
  counted = counted_stays events at l event state here other same c.counted;
  level = c.level ∙ sym (floor_more events at l event here ∙ level);
}

-- a line that the event stores to
stored_own : (l : ℕ) (o w v : ℕ) (p : List PersistenceStep) → stores l (step.Store l o w v ∷ p) ≡ stores l p + 1
stored_own l o w v p = grind (arith, nat_tests)

stored_other : (l m o w v : ℕ) (p : List PersistenceStep) → l ≢ m → stores l (step.Store m o w v ∷ p) ≡ stores l p
stored_other l m o w v p ne = grind (arith, nat_tests, ne)

pub line_stored : (events : List Event) (at h l o w v : ℕ) (state : LineState) → slice_get events at ≡ Some (Store h l o w v) →
    IsLine events at l state → IsLine events (at + 1) l (record state { stores = state.stores + 1 })
line_stored events at h l o w v state here c = record {
  counted = record {
    count = ap (λ (n : ℕ). n + 1) c.counted.count ∙ sym (stores_more events at l (Store h l o w v) here ∙ stored_own l o w v (at_moment events at));
    few = omega (arith, c.counted.few);
    harts = c.counted.harts;
    cleans = λ g d low.
        last_clean_stays events at g l (Store h l o w v) (get_or state.cleans g d) here (λ e. cc) (c.counted.cleans g d low);
  };
  level = c.level ∙ sym (floor_more events at l (Store h l o w v) here);
}

pub lines_stored : (events : List Event) (at h m o w v : ℕ) (lines : List LineState) (d : LineState) →
    slice_get events at ≡ Some (Store h m o w v) → m < length lines → AreLines events at lines →
    AreLines events (at + 1) (slice_set lines m (record (get_or lines m d) { stores = (get_or lines m d).stores + 1 }))
lines_stored events at h m o w v lines d here line a = λ l e within.
    let new : LineState = record (get_or lines m d) { stores = (get_or lines m d).stores + 1 } in
    let low : l < length lines = omega (arith, within, length-set lines m new) in
    elim (eq_or_not l m) [
      | inl same ↦
          rw same (subst (λ (s : LineState). IsLine events (at + 1) m s) (sym (get_or-set_same lines m new e line))
          (line_stored events at h m o w v (get_or lines m d) here (a m d line)))
      | inr ne ↦
          subst (λ (s : LineState). IsLine events (at + 1) l s) (sym (get_or-set_other lines m l new e ne))
          (line_stays events at l (Store h m o w v) (get_or lines l e) here (λ g same. cc)
          (stored_other l m o w v (at_moment events at) ne) refl (a l e low))
    ]

-- a line that the event cleans
pub line_cleaned : (events : List Event) (at h l : ℕ) (state : LineState) → slice_get events at ≡ Some (Clean h l) → h < 8 →
    IsLine events at l state →
    IsLine events (at + 1) l (record state { cleans = slice_set state.cleans h (record { event = at + 1; stores = state.stores }) })
line_cleaned events at h l state here hart c =
    let new : LastClean = record { event = at + 1; stores = state.stores } in
    let there : h < length state.cleans = omega (arith, hart, c.counted.harts) in
    record {
      counted = record {
        count = c.counted.count ∙ sym (stores_more events at l (Clean h l) here);
        few = omega (arith, c.counted.few);
        harts = length-set state.cleans h new ∙ c.counted.harts;
        cleans = λ g d low. elim (eq_or_not g h) [
          | inl same ↦
              rw same (subst (λ (last : LastClean). IsLastClean events (at + 1) h l last) (sym (get_or-set_same state.cleans h new d there))
              (last_clean_here events at h l new here refl c.counted.count))
          | inr ne ↦
              subst (λ (last : LastClean). IsLastClean events (at + 1) g l last) (sym (get_or-set_other state.cleans h g new d ne))
              (last_clean_stays events at g l (Clean h l) (get_or state.cleans g d) here (λ e. ne (clean_hart h g l e)) (c.counted.cleans g d low))
        ];
      };
      level = c.level ∙ sym (floor_more events at l (Clean h l) here);
    }
  where
    clean_hart : (h g l : ℕ) → Clean h l ≡ Clean g l → g ≡ h
    clean_hart h g l e = cc

clean_line : (h g m l : ℕ) → Clean h m ≡ Clean g l → l ≡ m
clean_line h g m l e = cc

pub lines_cleaned : (events : List Event) (at h m : ℕ) (lines : List LineState) (d : LineState) →
    slice_get events at ≡ Some (Clean h m) → h < 8 → m < length lines → AreLines events at lines →
    AreLines events (at + 1) (slice_set lines m
    (record (get_or lines m d) { cleans = slice_set (get_or lines m d).cleans h (record { event = at + 1; stores = (get_or lines m d).stores }) }))
lines_cleaned events at h m lines d here hart line a = λ l e within.
    let old : LineState = get_or lines m d in
    let new : LineState = record old { cleans = slice_set old.cleans h (record { event = at + 1; stores = old.stores }) } in
    let low : l < length lines = omega (arith, within, length-set lines m new) in
    elim (eq_or_not l m) [
      | inl same ↦
          rw same (subst (λ (s : LineState). IsLine events (at + 1) m s) (sym (get_or-set_same lines m new e line))
          (line_cleaned events at h m old here hart (a m d line)))
      | inr ne ↦
          subst (λ (s : LineState). IsLine events (at + 1) l s) (sym (get_or-set_other lines m l new e ne))
          (line_stays events at l (Clean h m) (get_or lines l e) here (λ g same. ne (clean_line h g m l same)) refl refl (a l e low))
    ]

-- a mark
pub lines_stay : (events : List Event) (at : ℕ) (event : Event) (lines : List LineState) → slice_get events at ≡ Some event →
    ((h l : ℕ) → event ≡ Clean h l → ⊥) → steps_of event ≡ [] → AreLines events at lines → AreLines events (at + 1) lines
lines_stay events at event lines here other none a = λ l d within.
    line_stays events at l event (get_or lines l d) here (λ h. other h l) (rw none refl) (rw none refl) (a l d within)

-- the last fence of a hart
pub last_fence_stays : (events : List Event) (at h n : ℕ) (event : Event) → slice_get events at ≡ Some event → (event ≡ Fence h → ⊥) →
    IsLastFence events at h n → IsLastFence events (at + 1) h n
last_fence_stays events at h n event here other f = record {
  within = omega (arith, f.within);
  last = none_more events n at event (Fence h) f.last here other;
  is = f.is;
  settled = λ l none.
      let p = at_moment events at in
      let before : cleaned l h p ≤ floor l p =
      f.settled l (none_narrower events n n (at + 1) at (Clean h l) none (omega arith) (omega arith)) in
      let no_clean : event ≡ Clean h l → ⊥ = λ e.
      none (record { place = at; from = f.within; below = omega arith; is = here ∙ ap (λ (x : Event). Some x) e }) in
      let same : cleaned l h (at_moment events (at + 1)) ≡ cleaned l h p =
      cleaned_more events at l h event here ∙ cleaned_step h l event p no_clean in
      let grown : floor l p ≤ floor l (back (event ∷ []) p) = floor_grows l (event ∷ []) p in
      omega (arith, before, same, grown, floor_more events at l event here);
}

fenced : (f c g d : ℕ) → g ≡ max f c → d ≡ c → d ≤ g
fenced f c g d e i = omega arith

pub last_fence_here : (events : List Event) (at h n : ℕ) → slice_get events at ≡ Some (Fence h) → n ≡ at + 1 →
    IsLastFence events (at + 1) h n
last_fence_here events at h n here number = record {
  within = omega (arith, number);
  last = none_empty events n (at + 1) (Fence h) (omega (arith, number));
  is = λ place e. subst (λ (i : ℕ). slice_get events i ≡ Some (Fence h)) (next_place n at place number e) here;
  settled = λ l none.
      let p = at_moment events at in
      fenced (floor l p) (cleaned l h p) (floor l (at_moment events (at + 1))) (cleaned l h (at_moment events (at + 1)))
      (floor_more events at l (Fence h) here) (cleaned_more events at l h (Fence h) here);
}

pub last_fences_stay : (events : List Event) (at : ℕ) (event : Event) (numbers : List ℕ) → slice_get events at ≡ Some event →
    ((h : ℕ) → event ≡ Fence h → ⊥) → AreLastFences events at numbers → AreLastFences events (at + 1) numbers
last_fences_stay events at event numbers here other a = λ h d low. last_fence_stays events at h (get_or numbers h d) event here (other h) (a h d low)

fence_hart : (g h : ℕ) → Fence g ≡ Fence h → h ≡ g
fence_hart g h e = cc

pub last_fences_here : (events : List Event) (at g : ℕ) (numbers : List ℕ) → slice_get events at ≡ Some (Fence g) → g < length numbers →
    AreLastFences events at numbers → AreLastFences events (at + 1) (slice_set numbers g (at + 1))
last_fences_here events at g numbers here there a = λ h d low. elim (eq_or_not h g) [
  | inl same ↦
      rw same (subst (λ (n : ℕ). IsLastFence events (at + 1) g n) (sym (get_or-set_same numbers g (at + 1) d there))
      (last_fence_here events at g (at + 1) here refl))
  | inr ne ↦
      subst (λ (n : ℕ). IsLastFence events (at + 1) h n) (sym (get_or-set_other numbers g h (at + 1) d ne))
      (last_fence_stays events at h (get_or numbers h d) (Fence g) here (λ e. ne (fence_hart g h e)) (a h d low))
]
