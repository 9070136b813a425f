-- What cuts leave of a box, line by line.
use Rattle.std.proofs.Common.{◌≡◌, ◌⊎◌, ℕ, zero, suc, ◌+◌, ◌<◌, ◌≤◌, List, [], ◌∷◌, ◌++◌, length, get_or, take, refl, sym, ap, subst, ◌∙◌, inl, inr, arith}
use Rattle.std.specs.Prelude.{All, slice_set}
use Rattle.std.specs.List.{Contains}
use Rattle.std.proofs.lemmas.Bool.{cases_eq, cases_lt}
use Rattle.std.proofs.lemmas.List.{get_or-map, get_or-set_other, get_or-set_same, length-map, length-set, take_all, take_more}
use Rattle.std.proofs.lemmas.List.Elements.{All-take, Contains-push_cases}
use Rattle.crash_image.proofs.Stored.{cut_below}
use Rattle.store_trace.proofs.Lines.{stored_lines_exact}
use Rattle.store_trace.proofs.Members.{no_members}
use Rattle.store_trace.specs.Cut.{IsCut, numbered, stored_lines}
use Rattle.store_trace.specs.History.{at_moment}
use Rattle.store_trace.specs.Stores.{stores}
use Rattle.store_trace.specs.TraceView.{NamesLine}
use Rattle.store_trace.specs.declared.crash_model.step.PersistenceStep.{PersistenceStep}
use Rattle.store_trace.specs.declared.event.Event.{Event}
use Rattle.recovery.specs.Boxes.{LiesWithin, contents_of, left_from, left_of, left_of_line}
use Rattle.routine_judge.proofs.Afters.{nothing_stored}
use Rattle.routine_judge.proofs.Boxing.{within_by_line}
use Rattle.routine_judge.proofs.Unions.{all_among, all_back, same_as, same_itself}
use Rattle.routine_judge.specs.LeftContents.{HaveSame}

-- the lines that were looked at have what cuts leave, and the others have it or are as they were
pub record AreLeftSoFar (p : List PersistenceStep) (box left : List (List (List ℕ))) (lines : List ℕ) : Type 0 where
  pub size : length left ≡ length box
  pub either : (l : ℕ) → l < length box → (contents_of left l ≡ contents_of box l) ⊎ HaveSame (contents_of left l) (left_of_line l p (contents_of box l))
  pub looked : (l : ℕ) → l < length box → Contains lines l → HaveSame (contents_of left l) (left_of_line l p (contents_of box l))

pub left_start : (p : List PersistenceStep) (box left : List (List (List ℕ))) → left ≡ box → AreLeftSoFar p box left []
left_start p box left same = record {
  size = ap (λ (b : List (List (List ℕ))). length b) same;
  either = λ l there. inl (ap (λ (b : List (List (List ℕ))). contents_of b l) same);
  looked = λ l there none. absurd (no_members l none);
}

pub left_next : (p : List PersistenceStep) (box left next : List (List (List ℕ))) (lines : List ℕ) (m : ℕ) (contents : List (List ℕ)) → m < length box
    → next ≡ slice_set left m contents → HaveSame contents (left_of_line m p (contents_of box m)) → AreLeftSoFar p box left lines
    → AreLeftSoFar p box next (lines ++ m ∷ [])
left_next p box left next lines m contents inside put same s =
    let long : m < length left = omega (arith, inside, s.size) in
    let here : contents_of next m ≡ contents = ap (λ (b : List (List (List ℕ))). contents_of b m) put ∙ get_or-set_same left m contents [] long in
    let own : HaveSame (contents_of next m) (left_of_line m p (contents_of box m)) =
    subst (λ (c : List (List ℕ)). HaveSame c (left_of_line m p (contents_of box m))) (sym here) same in
    let other : (l : ℕ) → (l ≡ m → ⊥) → contents_of next l ≡ contents_of left l =
    λ l apart. ap (λ (b : List (List (List ℕ))). contents_of b l) put ∙ get_or-set_other left m l contents [] apart in
    let at : (l : ℕ) → l ≡ m → HaveSame (contents_of next l) (left_of_line l p (contents_of box l)) =
    λ l e. subst (λ (n : ℕ). HaveSame (contents_of next n) (left_of_line n p (contents_of box n))) (sym e) own in
    record {
      size = ap (λ (b : List (List (List ℕ))). length b) put ∙ length-set left m contents ∙ s.size;
      either = λ l there. elim (cases_eq l m) [
        | inl e ↦ inr (at l e)
        | inr apart ↦ elim (s.either l there) [
          | inl was ↦ inl (other l apart ∙ was)
          | inr done ↦ inr (subst (λ (c : List (List ℕ)). HaveSame c (left_of_line l p (contents_of box l))) (sym (other l apart)) done)
        ]
      ];
      looked = λ l there among. elim (cases_eq l m) [
        | inl e ↦ at l e
        | inr apart ↦ elim (Contains-push_cases lines m l among) [
          | inl before ↦ subst (λ (c : List (List ℕ)). HaveSame c (left_of_line l p (contents_of box l))) (sym (other l apart)) (s.looked l there before)
          | inr e ↦ absurd (apart (sym e))
        ]
      ];
    }

-- all lines that have a store were looked at
left_each : (p : List PersistenceStep) (box left : List (List (List ℕ))) → AreLeftSoFar p box left (stored_lines p)
    → (l : ℕ) → l < length box → HaveSame (contents_of left l) (left_of_line l p (contents_of box l))
left_each p box left s l there = elim (cases_lt 0 (stores l p)) [
  | inl some ↦ s.looked l there ((stored_lines_exact l p).1 some)
  | inr none ↦ elim (s.either l there) [
    | inl was ↦
        let zero_stores : stores l p ≡ 0 = omega (arith, none) in
        same_as (contents_of left l) (contents_of left l) (left_of_line l p (contents_of box l)) (was ∙ sym (nothing_stored l p (contents_of box l) zero_stores))
        (same_itself (contents_of left l))
    | inr done ↦ done
  ]
]

-- by line
left_at_line : (k : ℕ) (p : List PersistenceStep) (box : List (List (List ℕ))) (i : ℕ) → i < length box → contents_of (left_from k p box) i ≡ left_of_line (k + i) p (contents_of box i)
left_at_line k p [] i there = absurd (omega (arith, there))
left_at_line k p (contents ∷ box) zero there = let none : k + 0 ≡ k = omega arith in rw none refl
left_at_line k p (contents ∷ box) (suc i) there =
    let next : suc k + i ≡ k + suc i = omega arith in
    left_at_line (suc k) p box i (omega (arith, there)) ∙ ap (λ (n : ℕ). left_of_line n p (contents_of box i)) next

pub length_left : (k : ℕ) (p : List PersistenceStep) (box : List (List (List ℕ))) → length (left_from k p box) ≡ length box
length_left k p [] = refl
length_left k p (contents ∷ box) = ap suc (length_left (suc k) p box)

same_line : (p : List PersistenceStep) (box left : List (List (List ℕ))) → AreLeftSoFar p box left (stored_lines p)
    → (l : ℕ) → l < length box → HaveSame (contents_of left l) (contents_of (left_of p box) l)
same_line p box left s l there =
    let none : 0 + l ≡ l = omega arith in
    same_as (contents_of left l) (left_of_line l p (contents_of box l)) (contents_of (left_of p box) l)
    (ap (λ (n : ℕ). left_of_line n p (contents_of box l)) (sym none) ∙ sym (left_at_line 0 p box l there))
    (left_each p box left s l there)

pub left_within : (p : List PersistenceStep) (box left : List (List (List ℕ))) (lines : List ℕ) → lines ≡ stored_lines p → AreLeftSoFar p box left lines
    → LiesWithin left (left_of p box)
left_within p box left lines all s =
    let whole = subst (λ (ls : List ℕ). AreLeftSoFar p box left ls) all s in
    within_by_line left (left_of p box) (length_left 0 p box ∙ sym s.size)
    (λ l there. all_among (contents_of left l) (contents_of (left_of p box) l) (same_line p box left whole l (omega (arith, there, s.size))))

pub left_covers : (p : List PersistenceStep) (box left : List (List (List ℕ))) (lines : List ℕ) → lines ≡ stored_lines p → AreLeftSoFar p box left lines
    → LiesWithin (left_of p box) left
left_covers p box left lines all s =
    let whole = subst (λ (ls : List ℕ). AreLeftSoFar p box left ls) all s in
    let size : length (left_of p box) ≡ length box = length_left 0 p box in
    within_by_line (left_of p box) left (s.size ∙ sym size)
    (λ l there. all_back (contents_of left l) (contents_of (left_of p box) l) (same_line p box left whole l (omega (arith, there, size))))

-- the entries of the floors, one after the other
pub entry_line : (low : ℕ → ℕ) (lines : List ℕ) (entries : List (ℕ × ℕ)) (i : ℕ) (d : ℕ × ℕ) → entries ≡ numbered low lines → i < length entries
    → (get_or entries i d).0 ≡ get_or lines i 0
entry_line low lines entries i d e there =
    let size : length entries ≡ length lines = ap (λ (es : List (ℕ × ℕ)). length es) e ∙ length-map lines (λ (l : ℕ). (l, low l)) in
    ap (λ (es : List (ℕ × ℕ)). (get_or es i d).0) e ∙ ap (λ (entry : ℕ × ℕ). entry.0) (get_or-map (λ (l : ℕ). (l, low l)) lines i 0 d (omega (arith, there, size)))

pub entry_low : (low : ℕ → ℕ) (lines : List ℕ) (entries : List (ℕ × ℕ)) (i : ℕ) (d : ℕ × ℕ) → entries ≡ numbered low lines → i < length entries
    → (get_or entries i d).1 ≡ low (get_or entries i d).0
entry_low low lines entries i d e there =
    let size : length entries ≡ length lines = ap (λ (es : List (ℕ × ℕ)). length es) e ∙ length-map lines (λ (l : ℕ). (l, low l)) in
    ap (λ (es : List (ℕ × ℕ)). (get_or es i d).1) e
    ∙ ap (λ (entry : ℕ × ℕ). entry.1) (get_or-map (λ (l : ℕ). (l, low l)) lines i 0 d (omega (arith, there, size)))
    ∙ ap (λ (l : ℕ). low l) (sym (entry_line low lines entries i d e there))

pub lines_more : (low : ℕ → ℕ) (lines : List ℕ) (entries : List (ℕ × ℕ)) (i : ℕ) (d : ℕ × ℕ) → entries ≡ numbered low lines → i < length entries
    → take i lines ++ (get_or entries i d).0 ∷ [] ≡ take (i + 1) lines
lines_more low lines entries i d e there =
    let size : length entries ≡ length lines = ap (λ (es : List (ℕ × ℕ)). length es) e ∙ length-map lines (λ (l : ℕ). (l, low l)) in
    ap (λ (l : ℕ). take i lines ++ l ∷ []) (entry_line low lines entries i d e there) ∙ sym (take_more lines i 0 (omega (arith, there, size)))

pub lines_all : (low : ℕ → ℕ) (lines : List ℕ) (entries : List (ℕ × ℕ)) (i : ℕ) → entries ≡ numbered low lines → length entries ≤ i → take i lines ≡ lines
lines_all low lines entries i e past =
    let size : length entries ≡ length lines = ap (λ (es : List (ℕ × ℕ)). length es) e ∙ length-map lines (λ (l : ℕ). (l, low l)) in
    take_all i lines (omega (arith, past, size))

-- the lines of a cut of a moment are there
pub floors_below : (count moment : ℕ) (events : List Event) (cut : List (ℕ × ℕ)) → All (NamesLine count) events → IsCut (at_moment events moment) cut
    → All (λ entry. entry.0 < count) cut
floors_below count moment events cut named c = cut_below count (take moment events) cut (All-take (NamesLine count) moment events named) c
