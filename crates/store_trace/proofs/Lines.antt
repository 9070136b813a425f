-- The stored lines: each once, upwards, and exactly those that have a store.
use Rattle.std.proofs.Common.{◌≡◌, ℕ, zero, suc, ◌+◌, ◌<◌, ◌≤◌, Bool, true, false, ◌==◌, ◌||◌, nat_lt, List, [], ◌∷◌, length, get_or, arith, refl, ap, sym, inl, inr}
use Rattle.std.specs.Prelude.{All, Contains, map, ◌↔◌, if◌then◌else◌}
use Rattle.std.specs.List.Sorted.{IsStrictlyIncreasing}
use Rattle.std.proofs.lemmas.Bool.{cases_Bool}
use Rattle.std.proofs.lemmas.Bool.Decides.{nat_tests}
use Rattle.std.proofs.lemmas.List.Elements.{All-map}
use Rattle.store_trace.proofs.Bounds.{floor_le_stores}
use Rattle.store_trace.proofs.Images.{image_same}
use Rattle.store_trace.specs.Image.{image}
use Rattle.store_trace.specs.Cut.{IsCut, IsWithin, IsCutImage, with_line, stored_lines, number_in, numbered}
use Rattle.store_trace.specs.Floor.{floor}
use Rattle.store_trace.specs.Stores.{stores}
use Rattle.store_trace.specs.declared.crash_model.step.PersistenceStep.{PersistenceStep}
use Rattle.store_trace.specs.declared.crash_model.step.PersistenceStep.TheVariants.{Store, Clean, Fence, Evict}

-- whether line l is in the list
abbrev pub has : ℕ → List ℕ → Bool
has l [] = false
has l (m ∷ ls) = (m == l) || has l ls

pub has_with_line : (l m : ℕ) (ls : List ℕ) → has l (with_line m ls) ≡ ((m == l) || has l ls)
has_with_line l m [] = refl
has_with_line l m (x ∷ ls) = grind (arith, nat_tests, has_with_line l m ls)

pub has_stored_lines : (l : ℕ) (p : List PersistenceStep) → has l (stored_lines p) ≡ nat_lt 0 (stores l p)
has_stored_lines l [] = refl
has_stored_lines l (Store m o w v ∷ p) = grind (arith, nat_tests, has_with_line l m (stored_lines p), has_stored_lines l p)
has_stored_lines l (Clean h m ∷ p) = has_stored_lines l p
has_stored_lines l (Fence h ∷ p) = has_stored_lines l p
has_stored_lines l (Evict m ∷ p) = has_stored_lines l p

-- the lines are at least n and go upwards
abbrev pub Upwards : ℕ → List ℕ → Type 0
Upwards n [] = Unit {0}
Upwards n (l ∷ ls) = (n ≤ l) × Upwards (l + 1) ls

upwards_with_line : (n m : ℕ) (ls : List ℕ) → n ≤ m → Upwards n ls → Upwards n (with_line m ls)
upwards_with_line n m [] b up = (b, tt)
upwards_with_line n m (l ∷ ls) b up = elim (cases_Bool (nat_lt m l)) [
  | inl less ↦
      let under : m + 1 ≤ l = grind (arith, nat_tests, less) in
      rw less (b, (under, up.1))
  | inr not_less ↦ rw not_less (elim (cases_Bool (m == l)) [
    | inl same ↦ rw same up
    | inr other ↦
        let above : l + 1 ≤ m = grind (arith, nat_tests, not_less, other) in
        rw other (up.0, upwards_with_line (l + 1) m ls above up.1)
  ])
]

pub upwards_stored_lines : (p : List PersistenceStep) → Upwards 0 (stored_lines p)
upwards_stored_lines [] = tt
upwards_stored_lines (Store m o w v ∷ p) = upwards_with_line 0 m (stored_lines p) (omega arith) (upwards_stored_lines p)
upwards_stored_lines (Clean h m ∷ p) = upwards_stored_lines p
upwards_stored_lines (Fence h ∷ p) = upwards_stored_lines p
upwards_stored_lines (Evict m ∷ p) = upwards_stored_lines p

increasing_from_upwards : (n : ℕ) (ls : List ℕ) → Upwards n ls → IsStrictlyIncreasing ls
increasing_from_upwards n [] up k h = absurd (omega arith)
increasing_from_upwards n (x ∷ []) up k h = absurd (omega arith)
increasing_from_upwards n (x ∷ (y ∷ ls)) up zero h = omega (arith, up.1.0)
increasing_from_upwards n (x ∷ (y ∷ ls)) up (suc k) h =
    let e : suc k + 1 ≡ suc (k + 1) = omega arith in
    rw e (increasing_from_upwards (x + 1) (y ∷ ls) up.1 k (omega arith))

pub stored_lines_increasing : (p : List PersistenceStep) → IsStrictlyIncreasing (stored_lines p)
stored_lines_increasing p = increasing_from_upwards 0 (stored_lines p) (upwards_stored_lines p)

has_at : (l : ℕ) (ls : List ℕ) (k : ℕ) → k < length ls → get_or ls k l ≡ l → has l ls ≡ true
has_at l [] k h e = absurd (omega arith)
has_at l (m ∷ ls) zero h e = grind (arith, nat_tests, e)
has_at l (m ∷ ls) (suc k) h e = grind (arith, nat_tests, has_at l ls k (omega arith) e)

has_from_Contains : (l : ℕ) (ls : List ℕ) → Contains ls l → has l ls ≡ true
has_from_Contains l ls c = has_at l ls c.0 c.1 c.2

Contains_from_has : (l : ℕ) (ls : List ℕ) → has l ls ≡ true → Contains ls l
Contains_from_has l [] h = cc
Contains_from_has l (m ∷ ls) h = elim (cases_Bool (m == l)) [
  | inl same ↦ (0, omega arith, grind (arith, nat_tests, same))
  | inr other ↦
      let c : Contains ls l = Contains_from_has l ls (grind (arith, nat_tests, h, other)) in
      (suc c.0, omega (arith, c.1), c.2)
]

pub stored_lines_exact : (l : ℕ) (p : List PersistenceStep) → Contains (stored_lines p) l ↔ (0 < stores l p)
stored_lines_exact l p = (
  λ c. grind (arith, nat_tests, has_from_Contains l (stored_lines p) c, has_stored_lines l p),
  λ h. Contains_from_has l (stored_lines p) (grind (arith, nat_tests, h, has_stored_lines l p)),
)

pub number_in_numbered : (k : ℕ → ℕ) (ls : List ℕ) (l : ℕ) → number_in (numbered k ls) l ≡ (if has l ls then k l else 0)
number_in_numbered k [] l = refl
number_in_numbered k (m ∷ ls) l = grind (arith, nat_tests, number_in_numbered k ls l)

-- every choice of numbers within the bounds is a cut
numbered_lines : (k : ℕ → ℕ) (ls : List ℕ) → map (λ entry. entry.0) (numbered k ls) ≡ ls
numbered_lines k [] = refl
numbered_lines k (l ∷ ls) = ap (λ (m : List ℕ). l ∷ m) (numbered_lines k ls)

pub cut_from_within : (p : List PersistenceStep) (k : ℕ → ℕ) → IsWithin p k → IsCut p (numbered k (stored_lines p))
cut_from_within p k w = record {
  lines = numbered_lines k (stored_lines p);
  low = All-map (λ (entry : ℕ × ℕ). floor entry.0 p ≤ entry.1) (λ l. (l, k l)) (stored_lines p) (λ i d h. w.low (get_or (stored_lines p) i d));
  high = All-map (λ (entry : ℕ × ℕ). entry.1 ≤ stores entry.0 p) (λ l. (l, k l)) (stored_lines p) (λ i d h. w.high (get_or (stored_lines p) i d));
}

pub number_in_within : (p : List PersistenceStep) (k : ℕ → ℕ) → IsWithin p k → (l : ℕ) →
    number_in (numbered k (stored_lines p)) l ≡ k l
number_in_within p k w l =
    grind (arith, nat_tests, number_in_numbered k (stored_lines p) l, has_stored_lines l p, w.high l)

-- and every cut is such a choice
number_low : (p : List PersistenceStep) (cut : List (ℕ × ℕ)) (l : ℕ) → All (λ entry. floor entry.0 p ≤ entry.1) cut →
    has l (map (λ entry. entry.0) cut) ≡ true → floor l p ≤ number_in cut l
number_low p [] l low h = cc
number_low p (entry ∷ cut) l low h =
    let first : floor entry.0 p ≤ entry.1 = low 0 entry (omega arith) in
    let rest : All (λ e. floor e.0 p ≤ e.1) cut = λ i d b. low (suc i) d (omega arith) in
    grind (arith, nat_tests, h, first, number_low p cut l rest)

number_high : (p : List PersistenceStep) (cut : List (ℕ × ℕ)) (l : ℕ) → All (λ entry. entry.1 ≤ stores entry.0 p) cut →
    number_in cut l ≤ stores l p
number_high p [] l high = omega arith
number_high p (entry ∷ cut) l high =
    let first : entry.1 ≤ stores entry.0 p = high 0 entry (omega arith) in
    let rest : All (λ e. e.1 ≤ stores e.0 p) cut = λ i d b. high (suc i) d (omega arith) in
    grind (arith, nat_tests, first, number_high p cut l rest)

pub within_from_cut : (p : List PersistenceStep) (cut : List (ℕ × ℕ)) → IsCut p cut → IsWithin p (number_in cut)
within_from_cut p cut c = record {
  low = λ l. grind (arith, nat_tests, number_low p cut l c.low, c.lines, has_stored_lines l p, floor_le_stores l p);
  high = λ l. number_high p cut l c.high;
}

pub cut_image : (start : List (List ℕ)) (p : List PersistenceStep) (k : ℕ → ℕ) → IsWithin p k → IsCutImage start p (image start k p)
cut_image start p k w = record {
  cut = numbered k (stored_lines p);
  bounds = cut_from_within p k w;
  bytes = image_same start k (number_in (numbered k (stored_lines p))) p (λ l. sym (number_in_within p k w l));
}
