-- The tallies of the lines, one event further back each, and the bounds that they show in the end.
use Rattle.std.proofs.Common.{◌≡◌, ℕ, suc, ◌+◌, ◌-◌, ◌<◌, ◌≤◌, ◌==◌, ◌&&◌, nat_lt, Bool, true, false, Option, Some, None, List, [], ◌∷◌, ◌++◌, length, get_or, set, take, inl, inr, refl, ap, ◌∙◌, sym, subst, arith}
use Rattle.std.specs.Prelude.{if◌then◌else◌, unwrap_or, map, replicate, slice_set}
use Rattle.std.proofs.lemmas.Bool.{cases_Bool}
use Rattle.std.proofs.lemmas.Bool.Decides.{nat_tests}
use Rattle.std.proofs.lemmas.List.{get_or-replicate, length-replicate}
use Rattle.std.proofs.lemmas.Grind.{common_steps}
use Rattle.store_trace.proofs.Bounds.{cleaned_le_stores, floor_le_stores}
use Rattle.store_trace.specs.Floor.{cleaned, floor}
use Rattle.store_trace.specs.Stores.{stores}
use Rattle.store_trace.specs.declared.crash_model.step.PersistenceStep.{PersistenceStep}
use Rattle.store_trace.specs.declared.crash_model.step.PersistenceStep.TheVariants.{Store, Clean, Fence}
use Rattle.crash_image.proofs.Stored.{stored_among, stored_lines_among, AreBelow, history_more}
use Rattle.store_trace.specs.History.{history, steps_of}
use Rattle.store_trace.specs.declared.event.Event.{Event}
use Rattle.crash_image.specs.Bounds.{bounds_at, stored_bounds}
use Rattle.crash_image.specs.FloorScan.{IsReached, IsFree, IsTally, AreTallies, stored, cleaned_by, bounds_of, bounds_from}
use Rattle.crash_image.specs.declared.bounds.Tally.{Tally}

reached_store : (l m o w v : ℕ) (fenced : List Bool) (rest : List PersistenceStep) (c : ℕ) →
    IsReached l fenced (Store m o w v ∷ rest) c → IsReached l fenced rest c
reached_store l m o w v fenced rest c r = record { fences = r.fences; cleans = r.cleans; reached = r.reached }

free_store : (l m o w v : ℕ) (fenced : List Bool) (whole rest : List PersistenceStep) (free : Option ℕ) →
    IsFree l fenced whole (Store m o w v ∷ rest) free → IsFree l fenced whole rest free
free_store l m o w v fenced whole rest None r = reached_store l m o w v fenced rest (floor l whole) r
free_store l m o w v fenced whole rest (Some free) e = e

store_same : (whole rest : List PersistenceStep) (left : ℕ) (fenced : List Bool) (l o w v : ℕ) (t : Tally) →
    IsTally whole (Store l o w v ∷ rest) (left + 1) fenced l t → IsTally whole rest left fenced l (stored t)
store_same whole rest left fenced l o w v t s = record {
  few = omega (arith, s.few);
  seen = grind (arith, nat_tests, s.seen);
  free = free_store l l o w v fenced whole rest t.free s.free;
}

store_other : (whole rest : List PersistenceStep) (left : ℕ) (fenced : List Bool) (l m o w v : ℕ) (t : Tally) → (m == l) ≡ false →
    IsTally whole (Store m o w v ∷ rest) (left + 1) fenced l t → IsTally whole rest left fenced l t
store_other whole rest left fenced l m o w v t n s = record {
  few = omega (arith, s.few);
  seen = grind (arith, nat_tests, s.seen, n);
  free = free_store l m o w v fenced whole rest t.free s.free;
}

-- a clean that no fence completed, or of another line
reached_clean : (l h m : ℕ) (fenced : List Bool) (rest : List PersistenceStep) (c : ℕ) →
    ((m == l) && get_or fenced h false) ≡ false → IsReached l fenced (Clean h m ∷ rest) c → IsReached l fenced rest c
reached_clean l h m fenced rest c n r = record {
  fences = r.fences;
  cleans = λ g e. grind (arith, nat_tests, n, e, r.cleans g e);
  reached = elim r.reached [
    | inl fence ↦ inl fence
    | inr clean ↦ inr (clean.0, clean.1, grind (arith, nat_tests, n, clean.1, clean.2))
  ];
}

free_clean : (l h m : ℕ) (fenced : List Bool) (whole rest : List PersistenceStep) (free : Option ℕ) →
    ((m == l) && get_or fenced h false) ≡ false → IsFree l fenced whole (Clean h m ∷ rest) free → IsFree l fenced whole rest free
free_clean l h m fenced whole rest None n r = reached_clean l h m fenced rest (floor l whole) n r
free_clean l h m fenced whole rest (Some free) n e = e

clean_other : (whole rest : List PersistenceStep) (left : ℕ) (fenced : List Bool) (l h m : ℕ) (t : Tally) →
    ((m == l) && get_or fenced h false) ≡ false →
    IsTally whole (Clean h m ∷ rest) (left + 1) fenced l t → IsTally whole rest left fenced l t
clean_other whole rest left fenced l h m t n s = record {
  few = omega (arith, s.few);
  seen = s.seen;
  free = free_clean l h m fenced whole rest t.free n s.free;
}

-- a clean that a fence completed: what is left gives the line all its stores
reached_all : (l h : ℕ) (fenced : List Bool) (rest : List PersistenceStep) (c : ℕ) → get_or fenced h false ≡ true →
    IsReached l fenced (Clean h l ∷ rest) c → c ≡ stores l rest
reached_all l h fenced rest c e r =
    let low : stores l rest ≤ c = grind (arith, nat_tests, r.cleans h e) in
    let high : c ≤ stores l rest = elim r.reached [
      | inl fence ↦ omega (arith, fence, floor_le_stores l rest)
      | inr clean ↦ omega (arith, clean.2, cleaned_le_stores l clean.0 (Clean h l ∷ rest))
    ] in
    omega arith

free_all : (l h : ℕ) (fenced : List Bool) (whole rest : List PersistenceStep) (free : Option ℕ) (n : ℕ) → get_or fenced h false ≡ true →
    stores l whole ≡ n + stores l rest → IsFree l fenced whole (Clean h l ∷ rest) free →
    IsFree l fenced whole rest (Some (unwrap_or free n))
free_all l h fenced whole rest None n e seen r = omega (arith, seen, reached_all l h fenced rest (floor l whole) e r)
free_all l h fenced whole rest (Some free) n e seen f = f

clean_same : (whole rest : List PersistenceStep) (left : ℕ) (fenced : List Bool) (l h : ℕ) (by : Bool) (t : Tally) →
    by ≡ get_or fenced h false →
    IsTally whole (Clean h l ∷ rest) (left + 1) fenced l t → IsTally whole rest left fenced l (cleaned_by by t)
clean_same whole rest left fenced l h true t b s = record {
  few = omega (arith, s.few);
  seen = s.seen;
  free = free_all l h fenced whole rest t.free t.stores (sym b) s.seen s.free;
}
clean_same whole rest left fenced l h false t b s =
    clean_other whole rest left fenced l h l t (grind (arith, nat_tests, b)) s

reached_fence : (l h : ℕ) (fenced : List Bool) (rest : List PersistenceStep) (c : ℕ) → h < length fenced →
    IsReached l fenced (Fence h ∷ rest) c → IsReached l (slice_set fenced h true) rest c
reached_fence l h fenced rest c b r =
    let now : get_or (set fenced h true) h false ≡ true = grind (arith, common_steps, b) in
    let low : floor l rest ≤ c = omega (arith, r.fences) in
    let one : cleaned l h rest ≤ c = omega (arith, r.fences) in
    record {
      fences = low;
      cleans = λ g e. elim (cases_Bool (g == h)) [
        | inl same ↦ let is : g ≡ h = grind (arith, nat_tests, same) in rw is one
        | inr other ↦
            let before : get_or fenced g false ≡ true = grind (arith, common_steps, nat_tests, e, other) in
            r.cleans g before
      ];
      reached = elim r.reached [
        | inl fence ↦ elim (cases_Bool (nat_lt (floor l rest) (cleaned l h rest))) [
          | inl less ↦ inr (h, now, grind (arith, nat_tests, fence, less))
          | inr not_less ↦ inl (grind (arith, nat_tests, fence, not_less))
        ]
        | inr clean ↦ inr (clean.0, grind (arith, common_steps, nat_tests, clean.1, b), clean.2)
      ];
    }

free_fence : (l h : ℕ) (fenced : List Bool) (whole rest : List PersistenceStep) (free : Option ℕ) → h < length fenced →
    IsFree l fenced whole (Fence h ∷ rest) free → IsFree l (slice_set fenced h true) whole rest free
free_fence l h fenced whole rest None b r = reached_fence l h fenced rest (floor l whole) b r
free_fence l h fenced whole rest (Some free) b e = e

fence_line : (whole rest : List PersistenceStep) (left : ℕ) (fenced : List Bool) (l h : ℕ) (t : Tally) → h < length fenced →
    IsTally whole (Fence h ∷ rest) (left + 1) fenced l t → IsTally whole rest left (slice_set fenced h true) l t
fence_line whole rest left fenced l h t b s = record {
  few = omega (arith, s.few);
  seen = s.seen;
  free = free_fence l h fenced whole rest t.free b s.free;
}

fewer : (whole rest : List PersistenceStep) (left : ℕ) (fenced : List Bool) (l : ℕ) (t : Tally) →
    IsTally whole rest (left + 1) fenced l t → IsTally whole rest left fenced l t
fewer whole rest left fenced l t s = record { few = omega (arith, s.few); seen = s.seen; free = s.free }

-- the tallies of all lines, after one event more
tally_set : (ts : List Tally) (m : ℕ) (y : Tally) (l : ℕ) (d : Tally) → m < length ts →
    get_or (set ts m y) l d ≡ (if m == l then y else get_or ts l d)
tally_set ts m y l d h = elim (cases_Bool (m == l)) [
  | inl same ↦ rw same (let is : m ≡ l = grind (arith, nat_tests, same) in grind (arith, common_steps, nat_tests, is, h))
  | inr other ↦ rw other (grind (arith, common_steps, nat_tests, other))
]

pub after_store : (whole rest : List PersistenceStep) (left : ℕ) (fenced : List Bool) (ts : List Tally) (m o w v : ℕ) (y d : Tally) →
    m < length ts → y ≡ stored (get_or ts m d) → AreTallies whole (Store m o w v ∷ rest) (left + 1) fenced ts →
    AreTallies whole rest left fenced (slice_set ts m y)
after_store whole rest left fenced ts m o w v y d h e s = record {
  harts = s.harts;
  each = λ l f b. rw (tally_set ts m y l f h) (elim (cases_Bool (m == l)) [
    | inl same ↦ rw same (
        let is : m ≡ l = grind (arith, nat_tests, same) in
        rw (e, is) (store_same whole rest left fenced l o w v (get_or ts l d) (rw is at (s.each m d h))))
    | inr other ↦ rw other (store_other whole rest left fenced l m o w v (get_or ts l f) other (s.each l f (grind (arith, common_steps, b))))
  ]);
}

pub after_clean : (whole rest : List PersistenceStep) (left : ℕ) (fenced : List Bool) (ts : List Tally) (h m : ℕ) (by : Bool) (y d : Tally) →
    m < length ts → by ≡ get_or fenced h false → y ≡ cleaned_by by (get_or ts m d) →
    AreTallies whole (Clean h m ∷ rest) (left + 1) fenced ts → AreTallies whole rest left fenced (slice_set ts m y)
after_clean whole rest left fenced ts h m by y d b k e s = record {
  harts = s.harts;
  each = λ l f c. rw (tally_set ts m y l f b) (elim (cases_Bool (m == l)) [
    | inl same ↦ rw same (
        let is : m ≡ l = grind (arith, nat_tests, same) in
        rw (e, is) (clean_same whole rest left fenced l h by (get_or ts l d) k (rw is at (s.each m d b))))
    | inr other ↦ rw other (clean_other whole rest left fenced l h m (get_or ts l f) (grind (arith, nat_tests, other)) (s.each l f (grind (arith, common_steps, c))))
  ]);
}

pub after_fence : (whole rest : List PersistenceStep) (left : ℕ) (fenced : List Bool) (ts : List Tally) (h : ℕ) → h < 8 →
    AreTallies whole (Fence h ∷ rest) (left + 1) fenced ts → AreTallies whole rest left (slice_set fenced h true) ts
after_fence whole rest left fenced ts h b s = record {
  harts = grind (arith, common_steps, s.harts);
  each = λ l f c. fence_line whole rest left fenced l h (get_or ts l f) (omega (arith, s.harts, b)) (s.each l f c);
}

pub after_mark : (whole rest : List PersistenceStep) (left : ℕ) (fenced : List Bool) (ts : List Tally) →
    AreTallies whole rest (left + 1) fenced ts → AreTallies whole rest left fenced ts
after_mark whole rest left fenced ts s = record {
  harts = s.harts;
  each = λ l f c. fewer whole rest left fenced l (get_or ts l f) (s.each l f c);
}

-- before the first event that is read
reached_nothing : (l : ℕ) (p : List PersistenceStep) (fenced : List Bool) → ((h : ℕ) → get_or fenced h false ≡ false) →
    IsReached l fenced p (floor l p)
reached_nothing l p fenced none = record {
  fences = omega arith;
  cleans = λ h e. absurd (let f : true ≡ false = sym e ∙ none h in cc);
  reached = inl refl;
}

abbrev pub no_tally : Tally
no_tally = record { stores = 0; free = None }

pub first_tallies : (p : List PersistenceStep) (left : ℕ) (fenced : List Bool) (ts : List Tally) (count : ℕ) → left ≤ 65536 →
    fenced ≡ replicate 8 false → ts ≡ replicate count no_tally → AreTallies p p left fenced ts
first_tallies p left fenced ts count few f e = rw (e, f) (record {
  harts = refl;
  each = λ l d b.
      let inside : l < count = omega (arith, b, length-replicate count no_tally) in
      rw (get_or-replicate count l no_tally d inside) (record {
        few = omega (arith, few);
        seen = omega arith;
        free = reached_nothing l p (replicate 8 false) (λ h. grind (arith, common_steps));
      });
})

-- after the last one
last_floor : (l : ℕ) (p : List PersistenceStep) (fenced : List Bool) (left stored : ℕ) (free : Option ℕ) →
    stores l p ≡ stored + 0 → IsFree l fenced p [] free → stores l p ≡ floor l p + unwrap_or free stored
last_floor l p fenced left stored None seen r =
    let none : floor l p ≡ 0 = elim r.reached [ inl fence ↦ fence | inr clean ↦ clean.2 ] in
    omega (arith, none, seen)
last_floor l p fenced left stored (Some free) seen f = f

last_bounds : (p : List PersistenceStep) (left : ℕ) (fenced : List Bool) (l : ℕ) (t : Tally) → IsTally p [] left fenced l t →
    (t.stores ≡ stores l p) × (unwrap_or t.free t.stores ≤ t.stores) × (bounds_of l t ≡ bounds_at p l)
last_bounds p left fenced l t s =
    let all : stores l p ≡ t.stores = omega (arith, s.seen) in
    let free : stores l p ≡ floor l p + unwrap_or t.free t.stores = last_floor l p fenced left t.stores t.free s.seen s.free in
    let low : t.stores - unwrap_or t.free t.stores ≡ floor l p = omega (arith, all, free) in
    (sym all, omega (arith, all, free), grind (arith, all, low))

pub free_within : (p : List PersistenceStep) (left : ℕ) (fenced : List Bool) (ts : List Tally) → AreTallies p [] left fenced ts →
    (l : ℕ) (d : Tally) → l < length ts → unwrap_or (get_or ts l d).free (get_or ts l d).stores ≤ (get_or ts l d).stores
free_within p left fenced ts s l d b = (last_bounds p left fenced l (get_or ts l d) (s.each l d b)).1

bounds_among : (p : List PersistenceStep) (i : ℕ) (ts : List Tally) →
    ((k : ℕ) (d : Tally) → k < length ts → ((get_or ts k d).stores ≡ stores (i + k) p) × (bounds_of (i + k) (get_or ts k d) ≡ bounds_at p (i + k))) →
    bounds_from i ts ≡ map (λ l. bounds_at p l) (stored_among p i (length ts))
bounds_among p i [] each = refl
bounds_among p i (t ∷ ts) each =
    let first = each 0 t (omega arith) in
    let here : i + 0 ≡ i = omega arith in
    let many : t.stores ≡ stores i p = rw here at first.0 in
    let same : bounds_of i t ≡ bounds_at p i = rw here at first.1 in
    let rest : bounds_from (suc i) ts ≡ map (λ l. bounds_at p l) (stored_among p (suc i) (length ts)) =
    bounds_among p (suc i) ts (λ k d b. let e : suc i + k ≡ i + suc k = omega arith in rw e (each (suc k) d (omega (arith, b)))) in
    grind (arith, nat_tests, common_steps, many, same, rest)

pub last_tallies : (p : List PersistenceStep) (left : ℕ) (fenced : List Bool) (ts : List Tally) (count : ℕ) → length ts ≡ count →
    AreBelow count p → AreTallies p [] left fenced ts → bounds_from 0 ts ≡ stored_bounds p
last_tallies p left fenced ts count len below s =
    bounds_among p 0 ts (λ k d b.
    let e : 0 + k ≡ k = omega arith in
    let last = last_bounds p left fenced k (get_or ts k d) (s.each k d b) in
    rw e (last.0, last.2))
    ∙ ap (λ (ls : List ℕ). map (λ l. bounds_at p l) ls)
    (ap (λ (n : ℕ). stored_among p 0 n) len ∙ stored_lines_among count p below)

pub one_back : (whole : List PersistenceStep) (events : List Event) (at : ℕ) (d : Event) (fenced : List Bool) (ts : List Tally) →
    0 < at → at ≤ length events → AreTallies whole (history (take at events)) at fenced ts →
    AreTallies whole (steps_of (get_or events (at - 1) d) ++ history (take (at - 1) events)) (at - 1 + 1) fenced ts
one_back whole events at d fenced ts some within s =
    let e : at - 1 + 1 ≡ at = omega (arith, some) in
    let split : history (take at events) ≡ steps_of (get_or events (at - 1) d) ++ history (take (at - 1) events) =
    subst (λ (n : ℕ). history (take n events) ≡ steps_of (get_or events (at - 1) d) ++ history (take (at - 1) events)) e
    (history_more events (at - 1) d (omega (arith, some, within))) in
    rw (← split, e) s
