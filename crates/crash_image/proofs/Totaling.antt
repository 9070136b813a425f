-- The free lines, event by event, and in how many ways they stand together.
use Rattle.std.proofs.Common.{◌≡◌, ℕ, zero, suc, ◌+◌, ◌-◌, ◌*◌, ◌<◌, ◌≤◌, ◌==◌, nat_lt, true, false, List, [], ◌∷◌, ◌++◌, length, get_or, set, take, drop, inl, inr, refl, ap, ◌∙◌, sym, subst, arith}
use Rattle.std.specs.Prelude.{All, map, if◌then◌else◌, max, nat_le}
use Rattle.std.specs.List.{insert}
use Rattle.std.proofs.Math.Nat.{mul-pos, le-mul_of_pos_right}
use Rattle.std.proofs.Math.Seq.{drop-cons}
use Rattle.std.proofs.lemmas.Bool.{cases_Bool}
use Rattle.std.proofs.lemmas.Bool.Decides.{nat_tests}
use Rattle.std.proofs.lemmas.List.{drop_all, get_or_default}
use Rattle.std.proofs.lemmas.Grind.{common_steps}
use Rattle.std.proofs.lemmas.List.Edits.{map_over_more}
use Rattle.std.proofs.lemmas.List.Elements.{All-cons, All-nil}
use Rattle.std.proofs.lemmas.Bool.{cases_lt}
use Rattle.crash_image.proofs.Stored.{history_more}
use Rattle.store_trace.specs.History.{at_moment, history, steps_of}
use Rattle.store_trace.specs.declared.event.Event.{Event}
use Rattle.store_trace.specs.declared.event.Event.TheVariants as events
use Rattle.store_trace.proofs.Bounds.{cleaned_le_stores, floor_le_stores}
use Rattle.store_trace.proofs.Lines.{Upwards, has, has_stored_lines, upwards_stored_lines}
use Rattle.store_trace.specs.Cut.{count_of, cut_count, stored_lines, width_of, with_line}
use Rattle.store_trace.specs.Floor.{cleaned, floor}
use Rattle.store_trace.specs.Stores.{stores}
use Rattle.store_trace.specs.declared.crash_model.step.PersistenceStep.{PersistenceStep}
use Rattle.store_trace.specs.declared.crash_model.step.PersistenceStep.TheVariants.{Store, Clean, Fence, Evict}
use Rattle.crash_image.specs.Totals.{IsFreePlace, choices_of, cleaned_line, fenced_line, free_among, free_line, free_lines, harts, images_between, raised_line, still_free, stored_line, with_store}
use Rattle.crash_image.specs.declared.totals.FreeLine.{FreeLine}

-- the product
pub choices_some : (fs : List FreeLine) → 0 < choices_of fs
choices_some [] = omega arith
choices_some (f ∷ fs) = let some : 0 < f.above + 1 = omega arith in mul-pos some (choices_some fs)

pub choices_next : (fs : List FreeLine) (i count : ℕ) (d : FreeLine) → i < length fs →
    count * ((get_or fs i d).above + 1) * choices_of (drop (i + 1) fs) ≡ count * choices_of (drop i fs)
choices_next fs i count d h =
    let e : suc i ≡ i + 1 = omega arith in
    let next : drop i fs ≡ get_or fs i d ∷ drop (i + 1) fs = rw (← e) (drop-cons fs i d h) in
    rw next (omega arith)

pub choices_above : (fs : List FreeLine) (i count : ℕ) → count ≤ count * choices_of (drop i fs)
choices_above fs i count = le-mul_of_pos_right count (choices_some (drop i fs))

pub choices_pass : (fs : List FreeLine) (i count n : ℕ) (d : FreeLine) → i < length fs → n ≡ (get_or fs i d).above →
    count * choices_of (drop i fs) ≡ choices_of fs → 65536 < count * (n + 1) → 65536 < choices_of fs
choices_pass fs i count n d h e all more =
    let above : 65536 < count * ((get_or fs i d).above + 1) = rw e at more in
    omega (arith, above, all, choices_next fs i count d h, choices_above fs (i + 1) (count * ((get_or fs i d).above + 1)))

pub choices_all : (fs : List FreeLine) (i count : ℕ) → length fs ≤ i → count * choices_of (drop i fs) ≡ choices_of fs → count ≡ choices_of fs
choices_all fs i count h all =
    let none : drop i fs ≡ [] = drop_all i fs h in
    let one : count * 1 ≡ choices_of fs = rw none at all in
    omega (arith, one)

-- few stores
stores_few : (l : ℕ) (p : List PersistenceStep) → stores l p ≤ length p
stores_few l [] = omega arith
stores_few l (Store m o w v ∷ p) = grind (arith, stores_few l p)
stores_few l (Clean h m ∷ p) = omega (arith, stores_few l p)
stores_few l (Fence h ∷ p) = omega (arith, stores_few l p)
stores_few l (Evict m ∷ p) = omega (arith, stores_few l p)

few_among : (p : List PersistenceStep) (ls : List ℕ) (n : ℕ) → length p ≤ n → All (λ (f : FreeLine). f.above ≤ n) (free_among p ls)
few_among p [] n h = All-nil (λ (f : FreeLine). f.above ≤ n)
few_among p (l ∷ ls) n h = elim (cases_Bool (nat_lt (floor l p) (stores l p))) [
  | inl above ↦
      let here : stores l p - floor l p ≤ n = omega (arith, h, stores_few l p) in
      rw above (All-cons (λ (f : FreeLine). f.above ≤ n) (free_line p l) (free_among p ls) here (few_among p ls n h))
  | inr level ↦ rw level (few_among p ls n h)
]

steps_few : (event : Event) (p : List PersistenceStep) → length (steps_of event ++ p) ≤ length p + 1
steps_few (events.Store h l o w v) p = omega arith
steps_few (events.Clean h l) p = omega arith
steps_few (events.Fence h) p = omega arith
steps_few (events.Begin h op) p = omega arith
steps_few (events.End h op) p = omega arith

moment_few : (es : List Event) (i : ℕ) → i ≤ length es → length (at_moment es i) ≤ i
moment_few es zero h = omega arith
moment_few [] (suc i) h = absurd (omega (arith, h))
moment_few (first ∷ es) (suc i) h =
    let one : i + 1 ≡ suc i = omega arith in
    let more : length (at_moment (first ∷ es) (i + 1)) ≡ length (steps_of (get_or (first ∷ es) i first) ++ at_moment (first ∷ es) i) =
    ap (λ (p : List PersistenceStep). length p) (history_more (first ∷ es) i first (omega (arith, h))) in
    let few : length (at_moment (first ∷ es) (i + 1)) ≤ i + 1 =
    omega (arith, more, steps_few (get_or (first ∷ es) i first) (at_moment (first ∷ es) i), moment_few (first ∷ es) i (omega (arith, h))) in
    rw one at few

pub free_few : (es : List Event) (i : ℕ) (fs : List FreeLine) → i ≤ length es → length es ≤ 65536 → fs ≡ free_lines (at_moment es i) →
    All (λ (f : FreeLine). f.above ≤ 65536) fs
free_few es i fs h few e =
    rw e (few_among (at_moment es i) (stored_lines (at_moment es i)) 65536 (omega (arith, h, few, moment_few es i h)))

choices_among : (p : List PersistenceStep) (ls : List ℕ) → choices_of (free_among p ls) ≡ count_of p ls
choices_among p [] = refl
choices_among p (l ∷ ls) = elim (cases_Bool (nat_lt (floor l p) (stores l p))) [
  | inl above ↦ rw above (ap (λ (n : ℕ). width_of p l * n) (choices_among p ls))
  | inr level ↦
      let one : width_of p l ≡ 1 = grind (arith, nat_tests, level, floor_le_stores l p) in
      rw (level, one) (choices_among p ls ∙ omega arith)
]

pub choices_count : (p : List PersistenceStep) → choices_of (free_lines p) ≡ cut_count p
choices_count p = choices_among p (stored_lines p)

-- a store
numbers_same : (f g : ℕ → ℕ) (ls : List ℕ) → ((n : ℕ) → f n ≡ g n) → map f ls ≡ map g ls
numbers_same f g [] same = refl
numbers_same f g (l ∷ ls) same = rw (same l) (ap (λ (ns : List ℕ). g l ∷ ns) (numbers_same f g ls same))

first_line : (m o w v : ℕ) (p : List PersistenceStep) → stores m p ≡ floor m p → free_line (Store m o w v ∷ p) m ≡ stored_line m
first_line m o w v p level =
    let same : (m == m) ≡ true = grind (arith, nat_tests) in
    let one : stores m p + 1 - floor m p ≡ 1 = omega (arith, level) in
    let none : map (λ h. cleaned m h p - floor m p) harts ≡ map (λ h. 0) harts =
    numbers_same (λ h. cleaned m h p - floor m p) (λ h. 0) harts (λ h. omega (arith, level, cleaned_le_stores m h p)) in
    rw (same, one, none) refl

other_lines : (m o w v : ℕ) (p : List PersistenceStep) (n : ℕ) (ls : List ℕ) → Upwards n ls → m < n →
    free_among (Store m o w v ∷ p) ls ≡ free_among p ls
other_lines m o w v p n [] up h = refl
other_lines m o w v p n (l ∷ ls) up h =
    let other : (m == l) ≡ false = grind (arith, nat_tests, h, up.0) in
    let rest : free_among (Store m o w v ∷ p) ls ≡ free_among p ls = other_lines m o w v p (l + 1) ls up.1 (omega (arith, h, up.0)) in
    rw (other, rest) refl

store_first : (m : ℕ) (p : List PersistenceStep) (n : ℕ) (ls : List ℕ) → Upwards n ls → m < n →
    with_store m (free_among p ls) ≡ stored_line m ∷ free_among p ls
store_first m p n [] up h = refl
store_first m p n (l ∷ ls) up h =
    let less : nat_lt m l ≡ true = grind (arith, nat_tests, h, up.0) in
    let rest : with_store m (free_among p ls) ≡ stored_line m ∷ free_among p ls = store_first m p (l + 1) ls up.1 (omega (arith, h, up.0)) in
    elim (cases_Bool (nat_lt (floor l p) (stores l p))) [
      | inl above ↦ rw (above, less) refl
      | inr level ↦ rw level rest
    ]

not_there : (m n : ℕ) (ls : List ℕ) → Upwards n ls → m < n → has m ls ≡ false
not_there m n [] up h = refl
not_there m n (l ∷ ls) up h =
    let other : (l == m) ≡ false = grind (arith, nat_tests, h, up.0) in
    rw other (not_there m (l + 1) ls up.1 (omega (arith, h, up.0)))

store_among : (m o w v : ℕ) (p : List PersistenceStep) (n : ℕ) (ls : List ℕ) → Upwards n ls → (has m ls ≡ false → stores m p ≡ 0) →
    with_store m (free_among p ls) ≡ free_among (Store m o w v ∷ p) (with_line m ls)
store_among m o w v p n [] up none =
    let level : stores m p ≡ floor m p = omega (arith, none refl, floor_le_stores m p) in
    let same : (m == m) ≡ true = grind (arith, nat_tests) in
    let above : nat_lt (floor m p) (stores m p + 1) ≡ true = grind (arith, nat_tests, level) in
    ap (λ (f : FreeLine). f ∷ []) (sym (first_line m o w v p level)) ∙ rw (same, above) refl
store_among m o w v p n (l ∷ ls) up none = elim (cases_Bool (nat_lt m l)) [
  | inl less ↦
      let lower : m < l = grind (arith, nat_tests, less) in
      let here : Upwards l (l ∷ ls) = (omega arith, up.1) in
      let level : stores m p ≡ floor m p = omega (arith, none (not_there m l (l ∷ ls) here lower), floor_le_stores m p) in
      let same : (m == m) ≡ true = grind (arith, nat_tests) in
      let above : nat_lt (floor m p) (stores m p + 1) ≡ true = grind (arith, nat_tests, level) in
      store_first m p l (l ∷ ls) here lower
      ∙ rw less (
      ap (λ (f : FreeLine). f ∷ free_among p (l ∷ ls)) (sym (first_line m o w v p level))
      ∙ ap (λ (fs : List FreeLine). free_line (Store m o w v ∷ p) m ∷ fs) (sym (other_lines m o w v p l (l ∷ ls) here lower))
      ∙ rw (same, above) refl)
  | inr not_less ↦ rw not_less (elim (cases_Bool (m == l)) [
    | inl same ↦
        let is : m ≡ l = grind (arith, nat_tests, same) in
        let rest : free_among (Store m o w v ∷ p) ls ≡ free_among p ls = other_lines m o w v p (l + 1) ls up.1 (omega (arith, is)) in
        let more : nat_lt (floor l p) (stores l p + 1) ≡ true = grind (arith, nat_tests, floor_le_stores l p) in
        elim (cases_Bool (nat_lt (floor l p) (stores l p))) [
          | inl above ↦
              let one : stores l p + 1 - floor l p ≡ stores l p - floor l p + 1 = omega (arith, floor_le_stores l p) in
              let first : free_line (Store m o w v ∷ p) l ≡ raised_line (free_line p l) = rw (same, one) refl in
              rw (above, not_less, same, same, more) (
              ap (λ (fs : List FreeLine). raised_line (free_line p l) ∷ fs) (sym rest)
              ∙ ap (λ (f : FreeLine). f ∷ free_among (Store m o w v ∷ p) ls) (sym first)
              ∙ rw same refl)
          | inr flat ↦
              let level : stores m p ≡ floor m p = grind (arith, nat_tests, flat, is, floor_le_stores l p) in
              let first : free_line (Store m o w v ∷ p) l ≡ stored_line m =
              subst (λ (k : ℕ). free_line (Store m o w v ∷ p) k ≡ stored_line m) is (first_line m o w v p level) in
              rw (flat, same, same, more) (
              store_first m p (l + 1) ls up.1 (omega (arith, is))
              ∙ ap (λ (fs : List FreeLine). stored_line m ∷ fs) (sym rest)
              ∙ ap (λ (f : FreeLine). f ∷ free_among (Store m o w v ∷ p) ls) (sym first)
              ∙ rw same refl)
        ]
    | inr other ↦
        let rest : with_store m (free_among p ls) ≡ free_among (Store m o w v ∷ p) (with_line m ls) =
        store_among m o w v p (l + 1) ls up.1 (λ e. none (let apart : (l == m) ≡ false = grind (arith, nat_tests, other) in rw apart e)) in
        elim (cases_Bool (nat_lt (floor l p) (stores l p))) [
          | inl above ↦ rw (other, other, above, not_less, other) (ap (λ (fs : List FreeLine). free_line p l ∷ fs) rest)
          | inr flat ↦ rw (other, other, flat) rest
        ]
  ])
]

pub after_store : (m o w v : ℕ) (p : List PersistenceStep) → with_store m (free_lines p) ≡ free_lines (Store m o w v ∷ p)
after_store m o w v p =
    store_among m o w v p 0 (stored_lines p) (upwards_stored_lines p)
    (λ e. grind (arith, nat_tests, sym (has_stored_lines m p) ∙ e))

-- where the store's line is kept
pub set_store : (fs : List FreeLine) (m at : ℕ) (d : FreeLine) → at < length fs →
    ((i : ℕ) (e : FreeLine) → i < at → (get_or fs i e).line < m) → (get_or fs at d).line ≡ m →
    set fs at (raised_line (get_or fs at d)) ≡ with_store m fs
set_store [] m at d h below same = absurd (omega (arith, h))
set_store (f ∷ fs) m zero d h below same =
    let not_less : nat_lt m f.line ≡ false = grind (arith, nat_tests, same) in
    let is : (m == f.line) ≡ true = grind (arith, nat_tests, same) in
    rw (not_less, is) refl
set_store (f ∷ fs) m (suc at) d h below same =
    let less : f.line < m = below 0 f (omega arith) in
    let not_less : nat_lt m f.line ≡ false = grind (arith, nat_tests, less) in
    let other : (m == f.line) ≡ false = grind (arith, nat_tests, less) in
    rw (not_less, other) (ap (λ (gs : List FreeLine). f ∷ gs)
    (set_store fs m at d (omega (arith, h)) (λ i e b. below (suc i) e (omega (arith, b))) same))

pub insert_store : (fs : List FreeLine) (m at : ℕ) → at ≤ length fs →
    ((i : ℕ) (e : FreeLine) → i < at → (get_or fs i e).line < m) →
    ((d : FreeLine) → at < length fs → m < (get_or fs at d).line) → insert fs at (stored_line m) ≡ with_store m fs
insert_store [] m zero h below above = refl
insert_store [] m (suc at) h below above = absurd (omega (arith, h))
insert_store (f ∷ fs) m zero h below above =
    let less : nat_lt m f.line ≡ true = grind (arith, nat_tests, above f (omega arith)) in
    rw less refl
insert_store (f ∷ fs) m (suc at) h below above =
    let less : f.line < m = below 0 f (omega arith) in
    let not_less : nat_lt m f.line ≡ false = grind (arith, nat_tests, less) in
    let other : (m == f.line) ≡ false = grind (arith, nat_tests, less) in
    rw (not_less, other) (ap (λ (gs : List FreeLine). f ∷ gs)
    (insert_store fs m at (omega (arith, h)) (λ i e b. below (suc i) e (omega (arith, b))) (λ e b. above e (omega (arith, b)))))

-- a clean
set_hart : (f : ℕ → ℕ) (h n : ℕ) → h < 8 → set (map f harts) h n ≡ map (λ k. if h == k then n else f k) harts
set_hart f zero n b = refl
set_hart f (suc zero) n b = refl
set_hart f (suc (suc zero)) n b = refl
set_hart f (suc (suc (suc zero))) n b = refl
set_hart f (suc (suc (suc (suc zero)))) n b = refl
set_hart f (suc (suc (suc (suc (suc zero))))) n b = refl
set_hart f (suc (suc (suc (suc (suc (suc zero)))))) n b = refl
set_hart f (suc (suc (suc (suc (suc (suc (suc zero))))))) n b = refl
set_hart f (suc (suc (suc (suc (suc (suc (suc (suc h)))))))) n b = absurd (omega (arith, b))

clean_line : (h m : ℕ) (p : List PersistenceStep) (l : ℕ) → h < 8 → cleaned_line h m (free_line p l) ≡ free_line (Clean h m ∷ p) l
clean_line h m p l b = elim (cases_Bool (m == l)) [
  | inl same ↦
      let back : (l == m) ≡ true = grind (arith, nat_tests, same) in
      let each : map (λ k. if h == k then stores l p - floor l p else cleaned l k p - floor l p) harts
      ≡ map (λ k. cleaned l k (Clean h m ∷ p) - floor l p) harts =
      numbers_same (λ k. if h == k then stores l p - floor l p else cleaned l k p - floor l p) (λ k. cleaned l k (Clean h m ∷ p) - floor l p) harts
      (λ k. elim (cases_Bool (h == k)) [ inl one ↦ rw (one, same) refl | inr two ↦ rw two refl ]) in
      rw back (
      ap (λ (ns : List ℕ). record { line = l; above = stores l p - floor l p; cleaned = ns })
      (set_hart (λ k. cleaned l k p - floor l p) h (stores l p - floor l p) b ∙ each))
  | inr other ↦
      let back : (l == m) ≡ false = grind (arith, nat_tests, other) in
      let each : map (λ k. cleaned l k p - floor l p) harts ≡ map (λ k. cleaned l k (Clean h m ∷ p) - floor l p) harts =
      numbers_same (λ k. cleaned l k p - floor l p) (λ k. cleaned l k (Clean h m ∷ p) - floor l p) harts
      (λ k. elim (cases_Bool (h == k)) [ inl one ↦ rw (one, other) refl | inr two ↦ rw two refl ]) in
      rw back (ap (λ (ns : List ℕ). record { line = l; above = stores l p - floor l p; cleaned = ns }) each)
]

clean_among : (h m : ℕ) (p : List PersistenceStep) (ls : List ℕ) → h < 8 →
    map (cleaned_line h m) (free_among p ls) ≡ free_among (Clean h m ∷ p) ls
clean_among h m p [] b = refl
clean_among h m p (l ∷ ls) b =
    let rest : map (cleaned_line h m) (free_among p ls) ≡ free_among (Clean h m ∷ p) ls = clean_among h m p ls b in
    elim (cases_Bool (nat_lt (floor l p) (stores l p))) [
      | inl above ↦ rw above (
          ap (λ (f : FreeLine). f ∷ map (cleaned_line h m) (free_among p ls)) (clean_line h m p l b)
          ∙ ap (λ (fs : List FreeLine). free_line (Clean h m ∷ p) l ∷ fs) rest)
      | inr level ↦ rw level rest
    ]

pub after_clean : (h m : ℕ) (p : List PersistenceStep) → h < 8 → map (cleaned_line h m) (free_lines p) ≡ free_lines (Clean h m ∷ p)
after_clean h m p b = clean_among h m p (stored_lines p) b

-- a fence
get_hart : (f : ℕ → ℕ) (h : ℕ) → h < 8 → get_or (map f harts) h 0 ≡ f h
get_hart f zero b = refl
get_hart f (suc zero) b = refl
get_hart f (suc (suc zero)) b = refl
get_hart f (suc (suc (suc zero))) b = refl
get_hart f (suc (suc (suc (suc zero)))) b = refl
get_hart f (suc (suc (suc (suc (suc zero))))) b = refl
get_hart f (suc (suc (suc (suc (suc (suc zero)))))) b = refl
get_hart f (suc (suc (suc (suc (suc (suc (suc zero))))))) b = refl
get_hart f (suc (suc (suc (suc (suc (suc (suc (suc h)))))))) b = absurd (omega (arith, b))

lower_more : (n a b : ℕ) → n - a - (b - a) ≡ n - max a b
lower_more n a b = grind arith

fence_line : (h : ℕ) (p : List PersistenceStep) (l : ℕ) → h < 8 → fenced_line h (free_line p l) ≡ free_line (Fence h ∷ p) l
fence_line h p l b =
    let rise : get_or (map (λ k. cleaned l k p - floor l p) harts) h 0 ≡ cleaned l h p - floor l p = get_hart (λ k. cleaned l k p - floor l p) h b in
    let each : map (λ k. cleaned l k p - floor l p - (cleaned l h p - floor l p)) harts ≡ map (λ k. cleaned l k p - max (floor l p) (cleaned l h p)) harts =
    numbers_same (λ k. cleaned l k p - floor l p - (cleaned l h p - floor l p)) (λ k. cleaned l k p - max (floor l p) (cleaned l h p)) harts
    (λ k. lower_more (cleaned l k p) (floor l p) (cleaned l h p)) in
    rw (rise, lower_more (stores l p) (floor l p) (cleaned l h p)) (
    ap (λ (ns : List ℕ). record { line = l; above = stores l p - max (floor l p) (cleaned l h p); cleaned = ns }) each)

fence_among : (h : ℕ) (p : List PersistenceStep) (ls : List ℕ) → h < 8 →
    still_free (map (fenced_line h) (free_among p ls)) ≡ free_among (Fence h ∷ p) ls
fence_among h p [] b = refl
fence_among h p (l ∷ ls) b =
    let rest : still_free (map (fenced_line h) (free_among p ls)) ≡ free_among (Fence h ∷ p) ls = fence_among h p ls b in
    elim (cases_Bool (nat_lt (floor l p) (stores l p))) [
      | inl above ↦
          let tests : nat_lt 0 (stores l p - max (floor l p) (cleaned l h p)) ≡ nat_lt (max (floor l p) (cleaned l h p)) (stores l p) = grind (arith, nat_tests) in
          rw above (
          ap (λ (f : FreeLine). still_free (f ∷ map (fenced_line h) (free_among p ls))) (fence_line h p l b)
          ∙ rw tests (ap (λ (fs : List FreeLine). if nat_lt (max (floor l p) (cleaned l h p)) (stores l p) then free_line (Fence h ∷ p) l ∷ fs else fs) rest))
      | inr level ↦
          let still : nat_lt (max (floor l p) (cleaned l h p)) (stores l p) ≡ false = grind (arith, nat_tests, level) in
          rw (level, still) rest
    ]

pub after_fence : (h : ℕ) (p : List PersistenceStep) → h < 8 → still_free (map (fenced_line h) (free_lines p)) ≡ free_lines (Fence h ∷ p)
after_fence h p b = fence_among h p (stored_lines p) b

-- a loop that changes each element
pub map_step : {X : Type 0} (f : X → X) (xs ys : List X) (i : ℕ) (y d : X) → i < length xs → length ys ≡ length xs →
    ys ≡ map f (take i xs) ++ drop i xs → y ≡ f (get_or ys i d) → set ys i y ≡ map f (take (i + 1) xs) ++ drop (i + 1) xs
map_step {X} f xs ys i y d h len so e =
    ap (λ (z : X). set ys i z) e
    ∙ map_over_more f xs ys i (get_or ys i d) h so (get_or_default ys i d (get_or ys i d) (omega (arith, h, len)))

pub kept_store : (fs : List FreeLine) (m at : ℕ) (x y : FreeLine) → at < length fs → IsFreePlace fs m at →
    x ≡ get_or fs at x → x.line ≡ m → y ≡ get_or fs at y → set fs at (raised_line y) ≡ with_store m fs
kept_store fs m at x y h place e same g =
    let here : get_or fs at y ≡ x = get_or_default fs at y x h ∙ sym e in
    ap (λ (f : FreeLine). set fs at (raised_line f)) g
    ∙ set_store fs m at y h place.below (ap (λ (f : FreeLine). f.line) here ∙ same)

pub new_store : (fs : List FreeLine) (m at : ℕ) (x : FreeLine) → IsFreePlace fs m at → x ≡ get_or fs at x → (at < length fs → ¬ (x.line ≡ m)) →
    insert fs at (stored_line m) ≡ with_store m fs
new_store fs m at x place e other =
    insert_store fs m at place.within place.below
    (λ d h.
    let same : (get_or fs at d).line ≡ x.line = ap (λ (f : FreeLine). f.line) (get_or_default fs at d x h ∙ sym e) in
    let least : m ≤ (get_or fs at d).line = place.above d h in
    omega (arith, same, least, other h))

pub end_store : (fs : List FreeLine) (m at : ℕ) → IsFreePlace fs m at → length fs ≤ at → insert fs at (stored_line m) ≡ with_store m fs
end_store fs m at place h = insert_store fs m at place.within place.below (λ d b. absurd (omega (arith, h, b)))

-- from moment to moment
pub free_more : (es : List Event) (i : ℕ) (d : Event) (fs gs : List FreeLine) → i < length es → fs ≡ free_lines (at_moment es i) →
    ((p : List PersistenceStep) → fs ≡ free_lines p → gs ≡ free_lines (steps_of (get_or es i d) ++ p)) → gs ≡ free_lines (at_moment es (i + 1))
free_more es i d fs gs h e more = more (at_moment es i) e ∙ ap (λ (p : List PersistenceStep). free_lines p) (sym (history_more es i d h))

pub free_end : (es : List Event) (i : ℕ) → length es ≤ i → free_lines (at_moment es (i + 1)) ≡ free_lines (at_moment es i)
free_end es i h =
    let all : take i es ≡ take (i + 1) es = grind (arith, common_steps) in
    ap (λ (taken : List Event). free_lines (history taken)) (sym all)

pub free_count : (es : List Event) (i n : ℕ) (fs gs : List FreeLine) → fs ≡ gs → gs ≡ free_lines (at_moment es i) → n ≡ choices_of fs →
    n ≡ cut_count (at_moment es i)
free_count es i n fs gs s e c =
    c ∙ ap (λ (xs : List FreeLine). choices_of xs) (s ∙ e) ∙ choices_count (at_moment es i)

none_before : (es : List Event) (first i : ℕ) → i ≤ first → images_between es first i ≡ 0
none_before es first zero h = refl
none_before es first (suc i) h = let later : nat_le first i ≡ false = grind (arith, nat_tests, h) in rw later refl

pub sum_skips : (es : List Event) (first i total : ℕ) → i < first → total ≡ images_between es first i → total ≡ images_between es first (i + 1)
sum_skips es first i total h t = t ∙ none_before es first i (omega (arith, h)) ∙ sym (none_before es first (i + 1) (omega (arith, h)))

pub sum_adds : (es : List Event) (first i total n : ℕ) → first ≤ i → total ≡ images_between es first i → n ≡ cut_count (at_moment es i) →
    total + n ≡ images_between es first (i + 1)
sum_adds es first i total n h t c =
    let one : i + 1 ≡ suc i = omega arith in
    let there : nat_le first i ≡ true = grind (arith, nat_tests, h) in
    rw (one, there, t, c) refl

pub few_more : (es : List Event) (first i n : ℕ) → ((m : ℕ) → first ≤ m → m < i → cut_count (at_moment es m) ≤ 65536) →
    n ≡ cut_count (at_moment es i) → n ≤ 65536 → (m : ℕ) → first ≤ m → m < i + 1 → cut_count (at_moment es m) ≤ 65536
few_more es first i n few c small m from h = elim (cases_lt m i) [
  | inl before ↦ few m from before
  | inr last ↦ let e : m ≡ i = omega (arith, h, last) in rw (e, ← c) small
]
