-- The images of boxes: what cuts leave of them, and a box within another.
use Rattle.std.proofs.Common.{◌≡◌, ℕ, zero, suc, ◌+◌, ◌<◌, ◌≤◌, ◌==◌, List, [], ◌∷◌, refl, sym, ap, subst, ◌∙◌, inl, inr, arith}
use Rattle.std.specs.Prelude.{if◌then◌else◌}
use Rattle.std.specs.List.{Contains}
use Rattle.std.proofs.lemmas.Bool.{cases_Bool, cases_lt}
use Rattle.std.proofs.lemmas.Bool.Decides.{nat_tests}
use Rattle.std.proofs.lemmas.List.Elements.{All-contains, Contains-append_cases, Contains-append_left, Contains-append_right}
use Rattle.store_trace.proofs.Bounds.{floor_le_stores}
use Rattle.store_trace.specs.Cut.{IsWithin, width_of}
use Rattle.store_trace.specs.Floor.{floor}
use Rattle.store_trace.specs.Image.{image, line_after, lines_after}
use Rattle.store_trace.specs.Stores.{stores}
use Rattle.store_trace.specs.declared.crash_model.step.PersistenceStep.{PersistenceStep}
use Rattle.store_trace.specs.declared.crash_model.step.PersistenceStep.TheVariants.{Store, Clean, Fence, Evict}
use Rattle.recovery.specs.Boxes.{IsIn, LiesWithin, after_each, left_from, left_of, left_of_line}

-- an element of a list
pub first_of : {X : Type 0} (x : X) (xs : List X) → Contains (x ∷ xs) x
first_of x xs = (0, omega arith, refl)

pub later_of : {X : Type 0} (x y : X) (xs : List X) → Contains xs y → Contains (x ∷ xs) y
later_of x y xs c = (suc c.0, omega (arith, c.1), c.2)

-- the contents of a line
among_after : (bytes : List ℕ) (l : ℕ) (p : List PersistenceStep) (k low more : ℕ) → low ≤ k → k < low + more
    → Contains (after_each bytes l p low more) (line_after bytes l k p)
among_after bytes l p k low zero from below = absurd (omega (arith, from, below))
among_after bytes l p k low (suc more) from below = elim (cases_lt low k) [
  | inl less ↦ later_of (line_after bytes l low p) (line_after bytes l k p) (after_each bytes l p (low + 1) more)
      (among_after bytes l p k (low + 1) more (omega (arith, less)) (omega (arith, below)))
  | inr not_less ↦
      let same : k ≡ low = omega (arith, from, not_less) in
      rw same (first_of (line_after bytes l low p) (after_each bytes l p (low + 1) more))
]

pub record StandsAt (bytes : List ℕ) (l : ℕ) (p : List PersistenceStep) (low end : ℕ) (line : List ℕ) : Type 0 where
  pub number : ℕ
  pub from : low ≤ number
  pub below : number < end
  pub same : line ≡ line_after bytes l number p

one_later : (bytes : List ℕ) (l : ℕ) (p : List PersistenceStep) (low more : ℕ) (line : List ℕ) → StandsAt bytes l p (low + 1) (low + 1 + more) line
    → StandsAt bytes l p low (low + suc more) line
one_later bytes l p low more line s = record { number = s.number; from = (let h = s.from in omega arith); below = (let h = s.below in omega arith); same = s.same }

after_some : (bytes : List ℕ) (l : ℕ) (p : List PersistenceStep) (low more : ℕ) (line : List ℕ) → Contains (after_each bytes l p low more) line
    → StandsAt bytes l p low (low + more) line
after_some bytes l p low zero line (i, h, e) = absurd (omega (arith, h))
after_some bytes l p low (suc more) line (zero, h, e) = record { number = low; from = omega arith; below = omega arith; same = sym e }
after_some bytes l p low (suc more) line (suc i, h, e) = one_later bytes l p low more line (after_some bytes l p (low + 1) more line (i, omega (arith, h), e))

among_left : (l : ℕ) (p : List PersistenceStep) (contents : List (List ℕ)) (bytes : List ℕ) (k : ℕ) → Contains contents bytes → floor l p ≤ k → k ≤ stores l p
    → Contains (left_of_line l p contents) (line_after bytes l k p)
among_left l p [] bytes k (i, h, e) low high = absurd (omega (arith, h))
among_left l p (first ∷ contents) bytes k (zero, h, e) low high =
    let here = among_after first l p k (floor l p) (width_of p l) low (omega (arith, low, high)) in
    Contains-append_left (after_each first l p (floor l p) (width_of p l)) (left_of_line l p contents) (line_after bytes l k p)
    (subst (λ (b : List ℕ). Contains (after_each first l p (floor l p) (width_of p l)) (line_after b l k p)) e here)
among_left l p (first ∷ contents) bytes k (suc i, h, e) low high =
    Contains-append_right (after_each first l p (floor l p) (width_of p l)) (left_of_line l p contents) (line_after bytes l k p)
    (among_left l p contents bytes k (i, omega (arith, h), e) low high)

pub record ComesFrom (l : ℕ) (p : List PersistenceStep) (contents : List (List ℕ)) (line : List ℕ) : Type 0 where
  pub bytes : List ℕ
  pub among : Contains contents bytes
  pub number : ℕ
  pub low : floor l p ≤ number
  pub high : number ≤ stores l p
  pub same : line ≡ line_after bytes l number p

from_later : (l : ℕ) (p : List PersistenceStep) (first : List ℕ) (contents : List (List ℕ)) (line : List ℕ) → ComesFrom l p contents line
    → ComesFrom l p (first ∷ contents) line
from_later l p first contents line c = record {
  bytes = c.bytes;
  among = later_of first c.bytes contents c.among;
  number = c.number;
  low = c.low;
  high = c.high;
  same = c.same;
}

left_some : (l : ℕ) (p : List PersistenceStep) (contents : List (List ℕ)) (line : List ℕ) → Contains (left_of_line l p contents) line → ComesFrom l p contents line
left_some l p [] line (i, h, e) = absurd (omega (arith, h))
left_some l p (first ∷ contents) line c =
    elim (Contains-append_cases (after_each first l p (floor l p) (width_of p l)) (left_of_line l p contents) line c) [
      | inl here ↦
          let s = after_some first l p (floor l p) (width_of p l) line here in
          let bound = floor_le_stores l p in
          record {
            bytes = first;
            among = first_of first contents;
            number = s.number;
            low = s.from;
            high = (let h = s.below in omega arith);
            same = s.same;
          }
      | inr there ↦ from_later l p first contents line (left_some l p contents line there)
    ]

-- an image of a cut over an image of a box is one of the box that is left, by line
cut_in : (l : ℕ) (p : List PersistenceStep) (box : List (List (List ℕ))) (lines : List (List ℕ)) (k : ℕ → ℕ) → IsWithin p k → IsIn box lines
    → IsIn (left_from l p box) (lines_after l lines k p)
cut_in l p [] [] k w h = h
cut_in l p [] (line ∷ lines) k w h = absurd h
cut_in l p (contents ∷ box) [] k w h = absurd h
cut_in l p (contents ∷ box) (line ∷ lines) k w h = (among_left l p contents line (k l) h.0 (w.low l) (w.high l), cut_in (suc l) p box lines k w h.1)

pub cut_is_left : (p : List PersistenceStep) (box : List (List (List ℕ))) (lines : List (List ℕ)) (k : ℕ → ℕ) → IsWithin p k → IsIn box lines
    → IsIn (left_of p box) (image lines k p)
cut_is_left p box lines k w h = cut_in 0 p box lines k w h

-- and each image of that box is such a one
pub record IsCutFrom (l : ℕ) (p : List PersistenceStep) (box : List (List (List ℕ))) (left : List (List ℕ)) : Type 0 where
  pub lines : List (List ℕ)
  pub cut : ℕ → ℕ
  pub inside : IsIn box lines
  pub within : IsWithin p cut
  pub leaves : left ≡ lines_after l lines cut p

abbrev with_number : ℕ → ℕ → (ℕ → ℕ) → ℕ → ℕ
with_number l k cut m = if m == l then k else cut m

number_here : (l k : ℕ) (cut : ℕ → ℕ) → with_number l k cut l ≡ k
number_here l k cut = grind (arith, nat_tests)

number_there : (l k : ℕ) (cut : ℕ → ℕ) (m : ℕ) → l < m → with_number l k cut m ≡ cut m
number_there l k cut m h = grind (arith, nat_tests)

within_with : (p : List PersistenceStep) (l k : ℕ) (cut : ℕ → ℕ) → IsWithin p cut → floor l p ≤ k → k ≤ stores l p → IsWithin p (with_number l k cut)
within_with p l k cut w low high = record {
  low = λ m. elim (cases_Bool (m == l)) [
    | inl e ↦ let same : m ≡ l = grind (arith, nat_tests, e) in rw (e, same) low
    | inr e ↦ rw e (w.low m)
  ];
  high = λ m. elim (cases_Bool (m == l)) [
    | inl e ↦ let same : m ≡ l = grind (arith, nat_tests, e) in rw (e, same) high
    | inr e ↦ rw e (w.high m)
  ];
}

same_later : (l : ℕ) (lines : List (List ℕ)) (j k : ℕ → ℕ) (p : List PersistenceStep) → ((m : ℕ) → l ≤ m → j m ≡ k m) → lines_after l lines j p ≡ lines_after l lines k p
same_later l [] j k p same = refl
same_later l (line ∷ lines) j k p same =
    rw (same l (omega arith), same_later (suc l) lines j k p (λ m h. same m (omega (arith, h)))) refl

cut_from : (l : ℕ) (p : List PersistenceStep) (box : List (List (List ℕ))) (left : List (List ℕ)) → IsIn (left_from l p box) left → IsCutFrom l p box left
cut_from l p [] [] h = record {
  lines = [];
  cut = λ m. floor m p;
  inside = h;
  within = record { low = λ m. omega arith; high = λ m. floor_le_stores m p };
  leaves = refl;
}
cut_from l p [] (line ∷ left) h = absurd h
cut_from l p (contents ∷ box) [] h = absurd h
cut_from l p (contents ∷ box) (line ∷ left) h =
    let c = left_some l p contents line h.0 in
    let rest = cut_from (suc l) p box left h.1 in
    record {
      lines = c.bytes ∷ rest.lines;
      cut = with_number l c.number rest.cut;
      inside = (c.among, rest.inside);
      within = within_with p l c.number rest.cut rest.within c.low c.high;
      leaves =
          ap (λ (first : List ℕ). first ∷ left) (c.same ∙ ap (λ (k : ℕ). line_after c.bytes l k p) (sym (number_here l c.number rest.cut)))
          ∙ ap (λ (later : List (List ℕ)). line_after c.bytes l (with_number l c.number rest.cut l) p ∷ later)
          (rest.leaves ∙ sym (same_later (suc l) rest.lines (with_number l c.number rest.cut) rest.cut p (λ m h. number_there l c.number rest.cut m (omega (arith, h)))));
    }

pub left_is_cut : (p : List PersistenceStep) (box : List (List (List ℕ))) (left : List (List ℕ)) → IsIn (left_of p box) left → IsCutFrom 0 p box left
left_is_cut p box left h = cut_from 0 p box left h

-- a step that isn't a fence takes no content away
abbrev pub KeepsFloors : PersistenceStep → Type 0
KeepsFloors (Store m offset width value) = Unit {0}
KeepsFloors (Clean h m) = Unit {0}
KeepsFloors (Fence h) = ⊥
KeepsFloors (Evict m) = Unit {0}

floor_kept : (l : ℕ) (step : PersistenceStep) (p : List PersistenceStep) → KeepsFloors step → floor l (step ∷ p) ≡ floor l p
floor_kept l (Store m o w v) p n = refl
floor_kept l (Clean h m) p n = refl
floor_kept l (Fence h) p n = absurd n
floor_kept l (Evict m) p n = refl

stores_kept : (l : ℕ) (step : PersistenceStep) (p : List PersistenceStep) → stores l p ≤ stores l (step ∷ p)
stores_kept l (Store m o w v) p = grind (arith, nat_tests)
stores_kept l (Clean h m) p = omega arith
stores_kept l (Fence h) p = omega arith
stores_kept l (Evict m) p = omega arith

line_kept : (bytes : List ℕ) (l k : ℕ) (step : PersistenceStep) (p : List PersistenceStep) → k ≤ stores l p → line_after bytes l k (step ∷ p) ≡ line_after bytes l k p
line_kept bytes l k (Store m o w v) p few = grind (arith, nat_tests)
line_kept bytes l k (Clean h m) p few = refl
line_kept bytes l k (Fence h) p few = refl
line_kept bytes l k (Evict m) p few = refl

line_grows : (l : ℕ) (step : PersistenceStep) (p : List PersistenceStep) (contents : List (List ℕ)) (line : List ℕ) → KeepsFloors step
    → Contains (left_of_line l p contents) line → Contains (left_of_line l (step ∷ p) contents) line
line_grows l step p contents line n h =
    let c = left_some l p contents line h in
    let same = floor_kept l step p n in
    let more = stores_kept l step p in
    let low = c.low in
    let high = c.high in
    subst (λ (bytes : List ℕ). Contains (left_of_line l (step ∷ p) contents) bytes) (line_kept c.bytes l c.number step p c.high ∙ sym c.same)
    (among_left l (step ∷ p) contents c.bytes c.number c.among (omega arith) (omega arith))

from_grows : (l : ℕ) (step : PersistenceStep) (p : List PersistenceStep) (box : List (List (List ℕ))) (left : List (List ℕ)) → KeepsFloors step
    → IsIn (left_from l p box) left → IsIn (left_from l (step ∷ p) box) left
from_grows l step p [] [] n h = h
from_grows l step p [] (line ∷ left) n h = absurd h
from_grows l step p (contents ∷ box) [] n h = absurd h
from_grows l step p (contents ∷ box) (line ∷ left) n h = (line_grows l step p contents line n h.0, from_grows (suc l) step p box left n h.1)

pub left_grows : (step : PersistenceStep) (p : List PersistenceStep) (box : List (List (List ℕ))) (left : List (List ℕ)) → KeepsFloors step
    → IsIn (left_of p box) left → IsIn (left_of (step ∷ p) box) left
left_grows step p box left n h = from_grows 0 step p box left n h

-- a box within another
pub in_wider : (box other : List (List (List ℕ))) (lines : List (List ℕ)) → LiesWithin box other → IsIn box lines → IsIn other lines
in_wider [] [] lines w h = h
in_wider [] (others ∷ other) lines w h = absurd w
in_wider (contents ∷ box) [] lines w h = absurd w
in_wider (contents ∷ box) (others ∷ other) [] w h = absurd h
in_wider (contents ∷ box) (others ∷ other) (line ∷ lines) w h =
    (All-contains (Contains others) contents line w.0 h.0, in_wider box other lines w.1 h.1)

pub left_some_cut : (p : List PersistenceStep) (box : List (List (List ℕ))) (left : List (List ℕ)) → IsIn (left_of p box) left
    → (lines : List (List ℕ)) × (cut : ℕ → ℕ) × IsIn box lines × IsWithin p cut × (left ≡ image lines cut p)
left_some_cut p box left h = let c = left_is_cut p box left h in (c.lines, c.cut, c.inside, c.within, c.leaves)
