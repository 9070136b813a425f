-- The least numbers of all lines are the least cut with the image, and a line without a number means that there is none.
use Rattle.std.proofs.Common.{◌≡◌, ℕ, zero, suc, ◌+◌, ◌<◌, ◌≤◌, ◌==◌, nat_lt, false, Option, Some, None, List, [], ◌∷◌, length, get_or, inl, inr, refl, ap, ◌∙◌, sym, subst, arith}
use Rattle.std.specs.Prelude.{if◌then◌else◌, ◌⊎◌, All, map, unwrap_or}
use Rattle.std.proofs.lemmas.Bool.{cases_Bool, cases_lt}
use Rattle.std.proofs.lemmas.Bool.Decides.{nat_tests}
use Rattle.std.proofs.lemmas.Grind.{common_steps}
use Rattle.store_trace.proofs.Bounds.{floor_le_stores}
use Rattle.store_trace.proofs.Images.{image_line, image_from_lines, length_image}
use Rattle.store_trace.proofs.Lines.{Upwards, upwards_stored_lines, cut_from_within, number_in_within, within_from_cut}
use Rattle.store_trace.specs.Cut.{IsBefore, IsCut, IsWithin, IsCutImage, number_in, numbered, stored_lines}
use Rattle.store_trace.specs.Floor.{floor}
use Rattle.store_trace.specs.Image.{image, line_after}
use Rattle.store_trace.specs.Stores.{stores}
use Rattle.store_trace.specs.declared.crash_model.step.PersistenceStep.{PersistenceStep}
use Rattle.store_trace.specs.declared.crash_model.step.PersistenceStep.TheVariants as step
use Rattle.line_memory.specs.Lines.{line_at}
use Rattle.crash_image.proofs.Stored.{stored_among, stored_lines_among, AreBelow, below_history, cut_below}
use Rattle.crash_image.specs.View.{CutsView, NamesLine}
use Rattle.store_trace.specs.History.{history}
use Rattle.store_trace.specs.declared.event.Event.{Event}
use Rattle.crash_image.specs.Bounds.{bounds_at, stored_bounds}
use Rattle.crash_image.specs.LeastCut.{IsLeastCut, AreSought, AreLeast, IsNowhere, AreNumbers, with_number, chosen_from}
use Rattle.crash_image.specs.declared.bounds.LineBounds.{LineBounds}
use Rattle.crash_image.specs.declared.search.Sought.{Sought}

abbrev no_line : Sought
no_line = record { floor = 0; stores = 0; number = None }

-- where every line has a number, the entries are those of the stored lines
record IsChosen (p : List PersistenceStep) (f : ℕ → ℕ) (i : ℕ) (number : Option ℕ) (rest : Option (List (ℕ × ℕ))) (entries : List (ℕ × ℕ)) : Type 0 where
  more : List (ℕ × ℕ)
  rest_is : rest ≡ Some more
  number_is : number ≡ Some (f i)
  entries_are : entries ≡ (if nat_lt 0 (stores i p) then (i, f i) ∷ more else more)

one_chosen : (p : List PersistenceStep) (f : ℕ → ℕ) (i made : ℕ) (number : Option ℕ) (rest : Option (List (ℕ × ℕ))) (entries : List (ℕ × ℕ)) →
    made ≡ stores i p → ((n : ℕ) → number ≡ Some n → f i ≡ n) → with_number i made number rest ≡ Some entries →
    IsChosen p f i number rest entries
one_chosen p f i made None rest entries m is e = cc
one_chosen p f i made (Some n) None entries m is e = cc
one_chosen p f i made (Some n) (Some more) entries m is e =
    let same : f i ≡ n = is n refl in
    let given : (if nat_lt 0 made then (i, n) ∷ more else more) ≡ entries = cc in
    record {
      more = more;
      rest_is = refl;
      number_is = ap (λ (x : ℕ). Some x) (sym same);
      entries_are = rw (← m, same) (sym given);
    }

record AreChosen (p : List PersistenceStep) (f : ℕ → ℕ) (i : ℕ) (all : List Sought) (entries : List (ℕ × ℕ)) : Type 0 where
  entries_are : entries ≡ numbered f (stored_among p i (length all))
  numbers : (k : ℕ) → k < length all → (get_or all k no_line).number ≡ Some (f (i + k))

more_numbers : (p : List PersistenceStep) (f : ℕ → ℕ) (i : ℕ) (t : Sought) (all : List Sought) (entries : List (ℕ × ℕ)) →
    t.number ≡ Some (f i) → AreChosen p f (suc i) all entries →
    (k : ℕ) → k < length (t ∷ all) → (get_or (t ∷ all) k no_line).number ≡ Some (f (i + k))
more_numbers p f i t all entries e c zero h = let here : i + 0 ≡ i = omega arith in rw here e
more_numbers p f i t all entries e c (suc k) h =
    let next : suc i + k ≡ i + suc k = omega arith in
    rw (← next) (c.numbers k (omega (arith, h)))

all_chosen : (p : List PersistenceStep) (f : ℕ → ℕ) (i : ℕ) (all : List Sought) (entries : List (ℕ × ℕ)) →
    ((k : ℕ) → k < length all → (get_or all k no_line).stores ≡ stores (i + k) p) →
    ((k n : ℕ) → k < length all → (get_or all k no_line).number ≡ Some n → f (i + k) ≡ n) →
    chosen_from i all ≡ Some entries → AreChosen p f i all entries
all_chosen p f i [] entries made is e = record { entries_are = cc; numbers = λ k h. absurd (omega (arith, h)) }
all_chosen p f i (t ∷ all) entries made is e =
    let here : i + 0 ≡ i = omega arith in
    let one : IsChosen p f i t.number (chosen_from (suc i) all) entries =
    one_chosen p f i t.stores t.number (chosen_from (suc i) all) entries (rw here at (made 0 (omega arith)))
    (λ n h. rw here at (is 0 n (omega arith) h)) e in
    let next : (k : ℕ) → suc i + k ≡ i + suc k = λ k. omega arith in
    let rest : AreChosen p f (suc i) all one.more =
    all_chosen p f (suc i) all one.more
    (λ k h. rw (next k) (made (suc k) (omega (arith, h))))
    (λ k n h g. rw (next k) (is (suc k) n (omega (arith, h)) g)) one.rest_is in
    record {
      entries_are = one.entries_are ∙ grind (arith, nat_tests, common_steps, rest.entries_are);
      numbers = λ k. more_numbers p f i t all one.more one.number_is rest k;
    }

-- else some line has none
record IsMissing (all : List Sought) : Type 0 where
  line : ℕ
  there : line < length all
  none : (get_or all line no_line).number ≡ None

rest_missing : (i made n : ℕ) (rest : Option (List (ℕ × ℕ))) → with_number i made (Some n) rest ≡ None → rest ≡ None
rest_missing i made n None e = refl
rest_missing i made n (Some entries) e = cc

missing_in : (i : ℕ) (t : Sought) (all : List Sought) (number : Option ℕ) → t.number ≡ number →
    (chosen_from (suc i) all ≡ None → IsMissing all) → with_number i t.stores number (chosen_from (suc i) all) ≡ None → IsMissing (t ∷ all)
missing_in i t all None e rest h = record { line = 0; there = omega arith; none = e }
missing_in i t all (Some n) e rest h =
    let m : IsMissing all = rest (rest_missing i t.stores n (chosen_from (suc i) all) h) in
    record { line = suc m.line; there = omega (arith, m.there); none = m.none }

one_missing : (i : ℕ) (all : List Sought) → chosen_from i all ≡ None → IsMissing all
one_missing i [] e = cc
one_missing i (t ∷ all) e = missing_in i t all t.number refl (one_missing (suc i) all) e

-- the numbers that a search found
pub found_numbers : (start wanted : List (List ℕ)) (low : ℕ → ℕ) (made : ℕ) (p : List PersistenceStep) (shown : List (List ℕ)) (all : List Sought)
    (found : Option (List (ℕ × ℕ))) → AreBelow (length start) p → AreSought start wanted low made p shown all →
    chosen_from 0 all ≡ found → AreNumbers start wanted low p found
found_numbers start wanted low made p shown all None below s e =
    let m : IsMissing all = one_missing 0 all e in
    let there : m.line < length start = omega (arith, m.there, s.size) in
    record {
      line = m.line;
      there = there;
      nowhere = rw m.none at (s.each m.line no_line there).number_is;
    }
found_numbers start wanted low made p shown all (Some entries) below s e =
    let f : ℕ → ℕ = λ l. unwrap_or (get_or all l no_line).number 0 in
    let c : AreChosen p f 0 all entries =
    all_chosen p f 0 all entries
    (λ k h. let here : 0 + k ≡ k = omega arith in rw here (s.each k no_line (omega (arith, h, s.size))).stores_is)
    (λ k n h g. let here : 0 + k ≡ k = omega arith in rw (here, g) refl) e in
    record {
      number = f;
      numbers = c.entries_are ∙ ap (λ (ls : List ℕ). numbered f ls) (ap (λ (n : ℕ). stored_among p 0 n) s.size ∙ stored_lines_among (length start) p below);
      each = λ l h.
          let here : 0 + l ≡ l = omega arith in
          let is : (get_or all l no_line).number ≡ Some (f l) = rw here at (c.numbers l (omega (arith, h, s.size))) in
          rw is at (s.each l no_line h).number_is;
      past = λ l h. let out : get_or all l no_line ≡ no_line = grind (arith, common_steps, h, s.size) in rw out refl;
    }

-- lines past the last have no store
stores_past : (count : ℕ) (p : List PersistenceStep) (l : ℕ) → AreBelow count p → count ≤ l → stores l p ≡ 0
stores_past count [] l below h = refl
stores_past count (step.Store m o w v ∷ p) l below h =
    let rest : stores l p ≡ 0 = stores_past count p l below.1 h in
    let other : (m == l) ≡ false = grind (arith, nat_tests, below.0, h) in
    grind (arith, nat_tests, rest, other)
stores_past count (step.Clean g m ∷ p) l below h = stores_past count p l below h
stores_past count (step.Fence g ∷ p) l below h = stores_past count p l below h
stores_past count (step.Evict m ∷ p) l below h = stores_past count p l below h

-- cuts of the same lines, one nowhere above the other
number_past : (n m : ℕ) (c : List (ℕ × ℕ)) → Upwards n (map (λ e. e.0) c) → m < n → number_in c m ≡ 0
number_past n m [] up h = refl
number_past n m (e ∷ c) up h =
    let rest : number_in c m ≡ 0 = number_past (e.0 + 1) m c up.1 (omega (arith, up.0)) in
    let other : (e.0 == m) ≡ false = grind (arith, nat_tests, up.0, h) in
    rw other rest

same_pair : (a b x y : ℕ) → a ≡ x → b ≡ y → ◌≡◌ {A = ℕ × ℕ} (a, b) (x, y)
same_pair a b x y e f = rw (e, f) refl

same_or_before : (n : ℕ) (c d : List (ℕ × ℕ)) → Upwards n (map (λ e. e.0) c) → map (λ e. e.0) c ≡ map (λ e. e.0) d →
    ((l : ℕ) → number_in c l ≤ number_in d l) → (c ≡ d) ⊎ IsBefore c d
same_or_before n [] [] up e le = inl refl
same_or_before n [] (y ∷ d) up e le = cc
same_or_before n (x ∷ c) [] up e le = cc
same_or_before n (x ∷ c) (y ∷ d) up e le =
    let line : x.0 ≡ y.0 = cc in
    let lines : map (λ (e : ℕ × ℕ). e.0) c ≡ map (λ (e : ℕ × ℕ). e.0) d = cc in
    let first : x.1 ≤ y.1 = grind (arith, nat_tests, le x.0, line) in
    let last : number_in c x.0 ≡ 0 = number_past (x.0 + 1) x.0 c up.1 (omega arith) in
    let rest : (l : ℕ) → number_in c l ≤ number_in d l = λ l. elim (cases_Bool (x.0 == l)) [
      | inl same ↦
          let is : x.0 ≡ l = grind (arith, nat_tests, same) in
          let none : number_in c l ≡ 0 = rw is at last in
          omega (arith, none)
      | inr other ↦ grind (arith, nat_tests, le l, other, line)
    ] in
    elim (cases_lt x.1 y.1) [
      | inl less ↦ inr (inl less)
      | inr more ↦
          let level : x.1 ≡ y.1 = omega (arith, first, more) in
          elim (same_or_before (x.0 + 1) c d up.1 lines rest) [
            | inl same ↦ inl (let one : x ≡ y = same_pair x.0 x.1 y.0 y.1 line level in rw (one, same) refl)
            | inr before ↦ inr (inr (level, before))
          ]
    ]

-- each line of an image of a cut stands at a number within its bounds
image_at : (start : List (List ℕ)) (p : List PersistenceStep) (medium : List (List ℕ)) (cut : List (ℕ × ℕ)) (l : ℕ) → l < length start →
    medium ≡ image start (number_in cut) p → line_after (line_at start l) l (number_in cut l) p ≡ line_at medium l
image_at start p medium cut l h e =
    sym (image_line start (number_in cut) p l [] [] h) ∙ ap (λ (m : List (List ℕ)). line_at m l) (sym e)

nowhere_is_none : (start medium : List (List ℕ)) (low : ℕ → ℕ) (p : List PersistenceStep) → ((l : ℕ) → low l ≡ floor l p) →
    IsNowhere start medium low p → ¬ IsCutImage start p medium
nowhere_is_none start medium low p floors n c =
    let w : IsWithin p (number_in c.cut) = within_from_cut p c.cut c.bounds in
    n.nowhere (number_in c.cut n.line) (rw (floors n.line) (w.low n.line)) (w.high n.line)
    (image_at start p medium c.cut n.line n.there c.bytes)

numbers_within : (start medium : List (List ℕ)) (low : ℕ → ℕ) (p : List PersistenceStep) (entries : List (ℕ × ℕ)) → AreBelow (length start) p →
    ((l : ℕ) → low l ≡ floor l p) → (a : AreLeast start medium low p entries) → IsWithin p a.number
numbers_within start medium low p entries below floors a = record {
  low = λ l. elim (cases_lt l (length start)) [
    | inl inside ↦ rw (floors l) at ((a.each l inside).0)
    | inr past ↦ omega (arith, floor_le_stores l p, stores_past (length start) p l below past)
  ];
  high = λ l. elim (cases_lt l (length start)) [
    | inl inside ↦ (a.each l inside).1
    | inr past ↦ omega (arith, a.past l past)
  ];
}

least_is_least : (start medium : List (List ℕ)) (low : ℕ → ℕ) (p : List PersistenceStep) (entries : List (ℕ × ℕ)) → AreBelow (length start) p →
    length medium ≡ length start → ((l : ℕ) → low l ≡ floor l p) → AreLeast start medium low p entries →
    IsLeastCut start p medium (Some entries)
least_is_least start medium low p entries below len floors a =
    let w : IsWithin p a.number = numbers_within start medium low p entries below floors a in
    let cut : IsCut p entries = rw a.numbers (cut_from_within p a.number w) in
    let same : (l : ℕ) → number_in entries l ≡ a.number l = λ l. rw a.numbers (number_in_within p a.number w l) in
    let up : Upwards 0 (map (λ (e : ℕ × ℕ). e.0) entries) = rw cut.lines (upwards_stored_lines p) in (
      cut,
      image_from_lines start (number_in entries) p medium len (λ l h. rw (same l) (sym ((a.each l h).2))),
      λ other c e.
          let v : IsWithin p (number_in other) = within_from_cut p other c in
          let le : (l : ℕ) → number_in entries l ≤ number_in other l = λ l. rw (same l) (elim (cases_lt l (length start)) [
            | inl inside ↦ elim (cases_lt (number_in other l) (a.number l)) [
              | inl less ↦
                  absurd ((a.each l inside).3 (number_in other l) (rw (floors l) (v.low l)) less (image_at start p medium other l inside e))
              | inr more ↦ more
            ]
            | inr past ↦ omega (arith, a.past l past)
          ]) in
          same_or_before 0 entries other up (cut.lines ∙ sym c.lines) le,
    )

-- the floors as a cut's entries
floors_are : (p : List PersistenceStep) (ls : List ℕ) →
    map (λ (b : LineBounds). (b.line, b.floor)) (map (λ l. bounds_at p l) ls) ≡ numbered (λ l. floor l p) ls
floors_are p [] = refl
floors_are p (l ∷ ls) = ap (λ (c : List (ℕ × ℕ)). (l, floor l p) ∷ c) (floors_are p ls)

floors_within : (p : List PersistenceStep) → IsWithin p (λ l. floor l p)
floors_within p = record { low = λ l. omega arith; high = λ l. floor_le_stores l p }

pub floors_cut : (p : List PersistenceStep) (floors : List (ℕ × ℕ)) → floors ≡ map (λ (b : LineBounds). (b.line, b.floor)) (stored_bounds p) →
    IsCut p floors
floors_cut p floors e = rw (e, floors_are p (stored_lines p)) (cut_from_within p (λ l. floor l p) (floors_within p))

floors_number : (p : List PersistenceStep) (floors : List (ℕ × ℕ)) (l : ℕ) →
    floors ≡ map (λ (b : LineBounds). (b.line, b.floor)) (stored_bounds p) → number_in floors l ≡ floor l p
floors_number p floors l e = rw (e, floors_are p (stored_lines p)) (number_in_within p (λ l. floor l p) (floors_within p) l)

-- what the search answers
least_cut : (start medium : List (List ℕ)) (p : List PersistenceStep) (floors : List (ℕ × ℕ)) (found : Option (List (ℕ × ℕ))) →
    AreBelow (length start) p → length medium ≡ length start →
    floors ≡ map (λ (b : LineBounds). (b.line, b.floor)) (stored_bounds p) →
    AreNumbers start medium (number_in floors) p found → IsLeastCut start p medium found
least_cut start medium p floors None below len e a =
    nowhere_is_none start medium (number_in floors) p (λ l. floors_number p floors l e) a
least_cut start medium p floors (Some entries) below len e a =
    least_is_least start medium (number_in floors) p entries below len (λ l. floors_number p floors l e) a

other_length : (start medium : List (List ℕ)) (p : List PersistenceStep) → (length medium ≡ length start → ⊥) → IsLeastCut start p medium None
other_length start medium p n c = n (ap (λ (m : List (List ℕ)). length m) c.bytes ∙ length_image start (number_in c.cut) p)

-- the same for a moment of a trace
pub least_cut_at : (start medium : List (List ℕ)) (events : List Event) (v : CutsView) (floors : List (ℕ × ℕ))
    (found : Option (List (ℕ × ℕ))) → All (NamesLine (length start)) events → record { start = start; steps = history events } ≡ v →
    length medium ≡ length v.start → floors ≡ map (λ (b : LineBounds). (b.line, b.floor)) (stored_bounds v.steps) →
    AreNumbers start medium (number_in floors) (history events) found → IsLeastCut v.start v.steps medium found
least_cut_at start medium events v floors found named is len e a =
    subst (λ (w : CutsView). IsLeastCut w.start w.steps medium found) is
    (least_cut start medium (history events) floors found (below_history (length start) events named)
    (subst (λ (w : CutsView). length medium ≡ length w.start) (sym is) len)
    (subst (λ (w : CutsView). floors ≡ map (λ (b : LineBounds). (b.line, b.floor)) (stored_bounds w.steps)) (sym is) e) a)

pub floors_below : (start : List (List ℕ)) (events : List Event) (v : CutsView) (floors : List (ℕ × ℕ)) → All (NamesLine (length start)) events →
    record { start = start; steps = history events } ≡ v → floors ≡ map (λ (b : LineBounds). (b.line, b.floor)) (stored_bounds v.steps) →
    All (λ entry. entry.0 < length start) floors
floors_below start events v floors named is e =
    cut_below (length start) events floors named
    (floors_cut (history events) floors
    (subst (λ (w : CutsView). floors ≡ map (λ (b : LineBounds). (b.line, b.floor)) (stored_bounds w.steps)) (sym is) e))

pub other_length_at : (start medium : List (List ℕ)) (p : List PersistenceStep) (v : CutsView) → (length medium ≡ length start → ⊥) →
    record { start = start; steps = p } ≡ v → IsLeastCut v.start v.steps medium None
other_length_at start medium p v n is = subst (λ (w : CutsView). IsLeastCut w.start w.steps medium None) is (other_length start medium p n)
