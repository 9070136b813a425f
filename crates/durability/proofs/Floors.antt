-- A line's floor reaches a store exactly where a clean of the line after it is complete.
use Rattle.std.proofs.Common.{◌≡◌, ℕ, zero, suc, ◌+◌, ◌<◌, ◌≤◌, ◌⊎◌, inl, inr, ◌==◌, ◌&&◌, false, List, ◌∷◌, [], ◌++◌, Some, length, get_or, take, arith, refl, ap, ◌∙◌}
use Rattle.std.specs.Prelude.{◌↔◌}
use Rattle.std.specs.List.{flat_map}
use Rattle.std.proofs.lemmas.Bool.{cases_Bool}
use Rattle.std.proofs.lemmas.Bool.Decides.{nat_tests}
use Rattle.std.proofs.lemmas.List.{reverse-append, take_more}
use Rattle.std.proofs.lemmas.Option.{get_or_from_slice_get, slice_get-get_or, slice_get_within}
use Rattle.store_trace.proofs.Bounds.{cleaned_le_stores}
use Rattle.store_trace.specs.Floor.{cleaned, floor}
use Rattle.store_trace.specs.Stores.{stores}
use Rattle.store_trace.specs.declared.crash_model.step.PersistenceStep.{PersistenceStep}
use Rattle.store_trace.specs.History.{at_moment, history, steps_of}
use Rattle.store_trace.specs.declared.event.Event.{Event}
use Rattle.store_trace.specs.declared.event.Event.TheVariants.{Store, Clean, Fence, Begin, End}
use Rattle.durability.specs.Causes.{IsCompletion}
use Rattle.durability.specs.Numbered.{event_at, IsCleanOf, IsFence, IsStore}

pub le_or_gt : (a b : ℕ) → (a ≤ b) ⊎ (b < a)
le_or_gt a b = grind (arith, nat_tests)

pub lt_itself : (a : ℕ) → a < a → ⊥
lt_itself a h = omega arith

pub no_event : (events : List Event) (event : Event) → event_at events zero ≡ Some event → ⊥
no_event events event e = cc

same_clean : (h g m l : ℕ) → (Clean h m ≡ Clean g l) ⊎ (((h == g) && (m == l)) ≡ false)
same_clean h g m l = elim (cases_Bool ((h == g) && (m == l))) [
  | inl same ↦
      let hart : h ≡ g = grind (arith, nat_tests, same) in
      let line : m ≡ l = grind (arith, nat_tests, same) in
      inl (rw (hart, line) refl)
  | inr other ↦ inr other
]

-- one event more
pub moment_more : (events : List Event) (i : ℕ) (event : Event) → event_at events (suc i) ≡ Some event →
    at_moment events (suc i) ≡ steps_of event ++ at_moment events i
moment_more events i event here =
    let there : i < length events = slice_get_within events i event here in
    let is : get_or events i event ≡ event = get_or_from_slice_get events i event event here in
    let one : suc i ≡ i + 1 = omega arith in
    rw one (
    ap (λ (es : List Event). history es) (take_more events i event there)
    ∙ ap (λ (es : List Event). flat_map steps_of es) (reverse-append (take i events) (get_or events i event ∷ []))
    ∙ ap (λ (e : Event). steps_of e ++ at_moment events i) is
    )

-- each place has an event
pub record Here (events : List Event) (i : ℕ) : Type 0 where
  pub event : Event
  pub is : event_at events (suc i) ≡ Some event

pub here_at : (events : List Event) (i : ℕ) → i < length events → Here events i
here_at events i h =
    let none : Event = Fence 0 in
    record { event = get_or events i none; is = slice_get-get_or events i none h }

stores_step : (l : ℕ) (event : Event) (p : List PersistenceStep) → stores l p ≤ stores l (steps_of event ++ p)
stores_step l (Store h m o w v) p = grind (arith, nat_tests)
stores_step l (Clean h m) p = omega arith
stores_step l (Fence h) p = omega arith
stores_step l (Begin h op) p = omega arith
stores_step l (End h op) p = omega arith

cleaned_step : (l g : ℕ) (event : Event) (p : List PersistenceStep) → cleaned l g p ≤ cleaned l g (steps_of event ++ p)
cleaned_step l g (Store h m o w v) p = omega arith
cleaned_step l g (Clean h m) p = grind (arith, nat_tests, cleaned_le_stores l g p)
cleaned_step l g (Fence h) p = omega arith
cleaned_step l g (Begin h op) p = omega arith
cleaned_step l g (End h op) p = omega arith

floor_step : (l : ℕ) (event : Event) (p : List PersistenceStep) → floor l p ≤ floor l (steps_of event ++ p)
floor_step l (Store h m o w v) p = omega arith
floor_step l (Clean h m) p = omega arith
floor_step l (Fence h) p = grind (arith, nat_tests)
floor_step l (Begin h op) p = omega arith
floor_step l (End h op) p = omega arith

pub stores_grow : (events : List Event) (l n m : ℕ) → n ≤ m → m ≤ length events →
    stores l (at_moment events n) ≤ stores l (at_moment events m)
stores_grow events l n zero low high = let e : n ≡ 0 = omega arith in rw e (omega arith)
stores_grow events l n (suc m) low high = elim (le_or_gt n m) [
  | inl less ↦
      let here = here_at events m (omega (arith, high)) in
      rw (moment_more events m here.event here.is)
      (omega (arith, stores_grow events l n m less (omega (arith, high)), stores_step l here.event (at_moment events m)))
  | inr more ↦ let e : n ≡ suc m = omega arith in rw e (omega arith)
]

-- a clean after event e counts the line's stores up to that event
cleaned_after : (events : List Event) (l h e c m : ℕ) → IsCleanOf events h l e c → c ≤ m → m ≤ length events →
    stores l (at_moment events e) ≤ cleaned l h (at_moment events m)
cleaned_after events l h e c zero clean low high = absurd (omega (arith, clean.later))
cleaned_after events l h e c (suc m) clean low high = elim (le_or_gt c m) [
  | inl less ↦
      let here = here_at events m (omega (arith, high)) in
      rw (moment_more events m here.event here.is)
      (omega (arith, cleaned_after events l h e c m clean less (omega (arith, high)), cleaned_step l h here.event (at_moment events m)))
  | inr more ↦
      let last : c ≡ suc m = omega arith in
      rw (moment_more events m (Clean h l) (rw last at clean.is))
      (grind (arith, nat_tests, stores_grow events l e m (omega (arith, clean.later)) (omega (arith, high))))
]

pub floor_after : (events : List Event) (l h e c n m : ℕ) → IsCleanOf events h l e c → IsFence events h c n → n ≤ m → m ≤ length events →
    stores l (at_moment events e) ≤ floor l (at_moment events m)
floor_after events l h e c n zero clean fence low high = absurd (omega (arith, fence.later))
floor_after events l h e c n (suc m) clean fence low high = elim (le_or_gt n m) [
  | inl less ↦
      let here = here_at events m (omega (arith, high)) in
      rw (moment_more events m here.event here.is)
      (omega (arith, floor_after events l h e c n m clean fence less (omega (arith, high)), floor_step l here.event (at_moment events m)))
  | inr more ↦
      let last : n ≡ suc m = omega arith in
      rw (moment_more events m (Fence h) (rw last at fence.is))
      (grind (arith, nat_tests, cleaned_after events l h e c m clean (omega (arith, fence.later)) (omega (arith, high))))
]

-- where it isn't a clean of the line by the hart
cleaned_stays : (l g : ℕ) (event : Event) (p : List PersistenceStep) → (event ≡ Clean g l → ⊥) → cleaned l g (steps_of event ++ p) ≡ cleaned l g p
cleaned_stays l g (Store h m o w v) p other = refl
cleaned_stays l g (Clean h m) p other = elim (same_clean h g m l) [
  | inl e ↦ absurd (other e)
  | inr test ↦ grind (arith, nat_tests, test)
]
cleaned_stays l g (Fence h) p other = refl
cleaned_stays l g (Begin h op) p other = refl
cleaned_stays l g (End h op) p other = refl

-- before a store of the line, and up to it, none of its cleans counts it
cleaned_before : (events : List Event) (l h k m o w v g : ℕ) → event_at events (suc k) ≡ Some (Store g l o w v) → m ≤ length events →
    ((n : ℕ) → IsCleanOf events h l (suc k) n → m < n) →
    cleaned l h (at_moment events m) < stores l (at_moment events (suc k))
cleaned_before events l h k zero o w v g store high none =
    rw (moment_more events k (Store g l o w v) store) (grind (arith, nat_tests))
cleaned_before events l h k (suc m) o w v g store high none = elim (le_or_gt (suc m) k) [
  | inl early ↦
      let there : k < length events = slice_get_within events k (Store g l o w v) store in
      rw (moment_more events k (Store g l o w v) store)
      (grind (arith, nat_tests, cleaned_le_stores l h (at_moment events (suc m)), stores_grow events l (suc m) k early (omega (arith, there))))
  | inr late ↦ elim (le_or_gt m k) [
    | inl here ↦
        let e : m ≡ k = omega (arith, here, late) in
        rw (e, moment_more events k (Store g l o w v) store) (grind (arith, nat_tests, cleaned_le_stores l h (at_moment events k)))
    | inr after ↦
        let now = here_at events m (omega (arith, high)) in
        let other : now.event ≡ Clean h l → ⊥ = λ is.
        let clean : IsCleanOf events h l (suc k) (suc m) = record { later = omega (arith, after); is = now.is ∙ ap (λ (x : Event). Some x) is } in
        lt_itself (suc m) (none (suc m) clean) in
        rw (moment_more events m now.event now.is, cleaned_stays l h now.event (at_moment events m) other)
        (cleaned_before events l h k m o w v g store (omega (arith, high)) (λ n clean. omega (arith, none n clean)))
  ]
]

floor_stays : (l : ℕ) (event : Event) (p : List PersistenceStep) → ((h : ℕ) → event ≡ Fence h → ⊥) → floor l (steps_of event ++ p) ≡ floor l p
floor_stays l (Store h m o w v) p other = refl
floor_stays l (Clean h m) p other = refl
floor_stays l (Fence h) p other = absurd (other h refl)
floor_stays l (Begin h op) p other = refl
floor_stays l (End h op) p other = refl

-- whether it is a fence
fence_or_not : (event : Event) → ((h : ℕ) × (event ≡ Fence h)) ⊎ ((h : ℕ) → event ≡ Fence h → ⊥)
fence_or_not (Store h m o w v) = inr (λ g e. cc)
fence_or_not (Clean h m) = inr (λ g e. cc)
fence_or_not (Fence h) = inl (h, refl)
fence_or_not (Begin h op) = inr (λ g e. cc)
fence_or_not (End h op) = inr (λ g e. cc)

floor_before : (events : List Event) (l k m o w v g : ℕ) → event_at events (suc k) ≡ Some (Store g l o w v) → m ≤ length events →
    ((n : ℕ) → IsCompletion events l (suc k) n → m < n) →
    floor l (at_moment events m) < stores l (at_moment events (suc k))
floor_before events l k zero o w v g store high none =
    rw (moment_more events k (Store g l o w v) store) (grind (arith, nat_tests))
floor_before events l k (suc m) o w v g store high none =
    let now = here_at events m (omega (arith, high)) in
    let before : floor l (at_moment events m) < stores l (at_moment events (suc k)) =
    floor_before events l k m o w v g store (omega (arith, high)) (λ n c. omega (arith, none n c)) in
    elim (fence_or_not now.event) [
      | inl fence ↦
          let is : event_at events (suc m) ≡ Some (Fence fence.0) = now.is ∙ ap (λ (x : Event). Some x) fence.1 in
          let low : cleaned l fence.0 (at_moment events m) < stores l (at_moment events (suc k)) =
          cleaned_before events l fence.0 k m o w v g store (omega (arith, high)) (λ n clean. elim (le_or_gt n m) [
            | inl early ↦
                let made : IsCompletion events l (suc k) (suc m) = record {
                  hart = fence.0;
                  clean = n;
                  cleans = clean;
                  fences = record { later = omega (arith, early); is = is };
                } in
                absurd (lt_itself (suc m) (none (suc m) made))
            | inr late ↦ late
          ]) in
          rw (moment_more events m (Fence fence.0) is) (grind (arith, nat_tests, before, low))
      | inr other ↦ rw (moment_more events m now.event now.is, floor_stays l now.event (at_moment events m) other) before
    ]

-- a store of the line that was made is past the floor exactly where no clean after it is complete by then
pub past_is_open : (events : List Event) (h l e m : ℕ) → IsStore events h l e → m ≤ length events →
    (floor l (at_moment events m) < stores l (at_moment events e)) ↔ ((n : ℕ) → IsCompletion events l e n → m < n)
past_is_open events h l zero m store high = absurd (no_event events (Store h l store.offset store.width store.value) store.is)
past_is_open events h l (suc k) m store high = (
  λ past n c. elim (le_or_gt n m) [
    | inl early ↦ absurd (lt_itself 0 (omega (arith, past, floor_after events l c.hart (suc k) c.clean n m c.cleans c.fences early high)))
    | inr late ↦ late
  ],
  λ late. floor_before events l k m store.offset store.width store.value h store.is high late,
)
