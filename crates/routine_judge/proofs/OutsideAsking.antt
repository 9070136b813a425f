-- Images that are asked for: those of a moment on which no reply is.
use Rattle.std.proofs.Common.{◌≡◌, ◌⊎◌, ℕ, zero, suc, ◌+◌, ◌<◌, ◌≤◌, inl, inr, List, [], ◌∷◌, length, map, take, refl, sym, ap, subst, ◌∙◌, arith}
use Rattle.std.specs.Prelude.{All, slice_index}
use Rattle.std.specs.List.{AllByRecursion, Contains}
use Rattle.std.proofs.lemmas.Bool.Decides.{nat_tests}
use Rattle.std.proofs.lemmas.List.{get_or_past}
use Rattle.std.proofs.lemmas.List.Elements.{All-take}
use Rattle.crash_image.proofs.Queries.{line_at_moment}
use Rattle.crash_image.proofs.Stored.{AreBelow, below_history, cut_below}
use Rattle.crash_image.proofs.Telling.{named_once, told_names}
use Rattle.crash_image.specs.Named.{IsNameOf, IsNamed}
use Rattle.crash_image.specs.View.{HasLines, NamesLine}
use Rattle.image_check.specs.Verdicts.{whole_line}
use Rattle.line_memory.specs.Lines.{line_at}
use Rattle.routine_judge.specs.Images.{full_cut}
use Rattle.routine_judge.specs.Outside.{HasNoneOn, IsAskedFor}
use Rattle.routine_judge.specs.OutsideJudging.{AreAllStores, AreNumbersOf, LacksFull}
use Rattle.routine_judge.specs.OutsideViews.{AreNumbersAt, AreNumbersIn, KnownView, known_image}
use Rattle.store_trace.proofs.Bounds.{floor_le_stores}
use Rattle.store_trace.proofs.Images.{image_from_lines, image_line, length_image}
use Rattle.store_trace.proofs.Lines.{within_from_cut}
use Rattle.store_trace.proofs.Members.{contains_first, contains_later}
use Rattle.store_trace.proofs.Radix.{cut_of_number, cuts_at}
use Rattle.store_trace.specs.Cut.{IsCut, IsWithin, number_in}
use Rattle.store_trace.specs.History.{at_moment, history}
use Rattle.store_trace.specs.Image.{line_after}
use Rattle.store_trace.specs.Stores.{stores}
use Rattle.store_trace.specs.declared.crash_model.step.PersistenceStep.{PersistenceStep}
use Rattle.store_trace.specs.declared.crash_model.step.PersistenceStep.TheVariants as step
use Rattle.store_trace.specs.declared.event.Event.{Event}
use Rattle.text.specs.declared.image_name.name.ImageName.{ImageName}
use Rattle.text.specs.declared.image_name.name.ImageName.TheVariants.{Number, Cut}
use Rattle.verdict.proofs.CutLines.{stores_at_moment}
use Rattle.verdict.specs.CutImages.{image_at}

-- what holds by the starting lines, the events and a moment holds by those that are the same
pub carried : (Holds : List (List ℕ) → List Event → ℕ → Type 0) (start other : List (List ℕ)) (events more : List Event) (m n : ℕ) → start ≡ other → events ≡ more →
    m ≡ n → Holds start events m → Holds other more n
carried Holds start other events more m n s e i h =
    subst (λ (x : ℕ). Holds other more x) i
    (subst (λ (x : List Event). Holds other x m) e (subst (λ (x : List (List ℕ)). Holds x events m) s h))

-- the image of a moment's cut is the image in which each line has so many of all its stores
pub moment_image : (start : List (List ℕ)) (events : List Event) (m : ℕ) (numbers : List ℕ) (k : ℕ → ℕ) →
    ((l : ℕ) → l < length start → slice_index numbers l ≡ k l) → ((l : ℕ) → k l ≤ stores l (at_moment events m)) →
    image_at start events m k ≡ known_image start events numbers
moment_image start events m numbers k same within =
    image_from_lines start (λ l. slice_index numbers l) (history events) (image_at start events m k) (length_image start k (at_moment events m))
    (λ l there. image_line start k (at_moment events m) l [] [] there
    ∙ sym (line_at_moment (line_at start l) l (k l) m events (within l))
    ∙ ap (λ (n : ℕ). line_after (line_at start l) l n (history events)) (sym (same l there)))

-- a line that the index gives is that of the image
pub known_line : (start medium : List (List ℕ)) (events : List Event) (numbers : List ℕ) (line number : ℕ) (bytes : List ℕ) → start ≡ medium → line < length medium →
    number ≡ slice_index numbers line → bytes ≡ line_after (line_at start line) line number (history events) →
    bytes ≡ line_at (known_image medium events numbers) line
known_line start medium events numbers line number bytes s there n b =
    b
    ∙ ap (λ (lines : List (List ℕ)). line_after (line_at lines line) line number (history events)) s
    ∙ ap (λ (k : ℕ). line_after (line_at medium line) line k (history events)) n
    ∙ sym (image_line medium (λ l. slice_index numbers l) (history events) line [] [] there)

-- the numbers of a moment's image are ones of all stores
pub numbers_in : (start : List (List ℕ)) (events : List Event) (m : ℕ) (numbers : List ℕ) → AreNumbersAt start events m numbers → AreNumbersIn start events numbers
numbers_in start events m numbers are = record {
  size = are.size;
  most = λ l. let here = are.within.high l in let later = stores_at_moment l events m in omega (arith, here, later);
}

within_too : (p : List PersistenceStep) (k j : ℕ → ℕ) → ((l : ℕ) → j l ≡ k l) → IsWithin p k → IsWithin p j
within_too p k j same is = record {
  low = λ l. let h = is.low l in let e = same l in omega (arith, h, e);
  high = λ l. let h = is.high l in let e = same l in omega (arith, h, e);
}

-- a name is that of a cut, whose lines are there
pub cut_of_name : (p : List PersistenceStep) (name : ImageName) (cut : List (ℕ × ℕ)) → IsNamed p name cut → IsCut p cut
cut_of_name p (Number n) cut is = subst (λ (c : List (ℕ × ℕ)). IsCut p c) (sym (is.2 ∙ cuts_at p n is.1)) (cut_of_number p n is.1)
cut_of_name p (Cut lines) cut is = is.0

pub named_below : (start : List (List ℕ)) (events : List Event) (m : ℕ) (name : ImageName) (cut : List (ℕ × ℕ)) → HasLines start events →
    IsNamed (at_moment events m) name cut → All (λ (entry : ℕ × ℕ). entry.0 < length start) cut
named_below start events m name cut named is =
    cut_below (length start) (take m events) cut (All-take (NamesLine (length start)) m events named) (cut_of_name (at_moment events m) name cut is)

-- a line past the medium has no store
none_past : (count l : ℕ) (p : List PersistenceStep) → AreBelow count p → count ≤ l → stores l p ≡ 0
none_past count l [] below past = refl
none_past count l (step.Store m o w v ∷ p) below past = grind (arith, nat_tests, below.0, none_past count l p below.1 past)
none_past count l (step.Clean h m ∷ p) below past = none_past count l p below past
none_past count l (step.Fence h ∷ p) below past = none_past count l p below past
none_past count l (step.Evict m ∷ p) below past = none_past count l p below past

none_stored : (start : List (List ℕ)) (events : List Event) (m l : ℕ) → HasLines start events → length start ≤ l → stores l (at_moment events m) ≡ 0
none_stored start events m l named past =
    none_past (length start) l (at_moment events m) (below_history (length start) (take m events) (All-take (NamesLine (length start)) m events named)) past

split : (l n : ℕ) → (l < n) ⊎ (n ≤ l)
split l n = grind arith

-- numbers of the lines that there are, as ones of every line
numbers_each : (start : List (List ℕ)) (events : List Event) (m : ℕ) (numbers : List ℕ) (k : ℕ → ℕ) (l : ℕ) → HasLines start events → length numbers ≡ length start →
    ((i : ℕ) → i < length start → slice_index numbers i ≡ k i) → ((i : ℕ) → k i ≤ stores i (at_moment events m)) → slice_index numbers l ≡ k l
numbers_each start events m numbers k l named size each within = elim (split l (length start)) [
  | inl there ↦ each l there
  | inr past ↦
      let none = none_stored start events m l named past in
      let most = within l in
      let here : 0 ≡ k l = omega (arith, none, most) in
      get_or_past numbers l 0 (omega (arith, past, size)) ∙ here
]

-- an image of a moment on which no reply is, is one to ask for
asked_cut : (start : List (List ℕ)) (events : List Event) (replies : List KnownView) (m : ℕ) (numbers : List ℕ) (k : ℕ → ℕ) → HasLines start events → m ≤ length events →
    length numbers ≡ length start → ((l : ℕ) → l < length start → slice_index numbers l ≡ k l) → IsWithin (at_moment events m) k →
    HasNoneOn start events replies (image_at start events m k) → IsAskedFor start events replies m numbers
asked_cut start events replies m numbers k named there size each within none = record {
  there = there;
  numbers_are = record {
    size = size;
    within = within_too (at_moment events m) k (λ l. slice_index numbers l) (λ l. numbers_each start events m numbers k l named size each within.high) within;
  };
  none_known = subst (λ (medium : List (List ℕ)). HasNoneOn start events replies medium) (moment_image start events m numbers k each within.high) none;
}

pub asked_named : (start : List (List ℕ)) (events : List Event) (replies : List KnownView) (m : ℕ) (name : ImageName) (cut : List (ℕ × ℕ)) (numbers : List ℕ) →
    HasLines start events → m ≤ length events → IsCut (at_moment events m) cut → IsNameOf (at_moment events m) cut name →
    HasNoneOn start events replies (image_at start events m (number_in cut)) → AreNumbersOf start events m name numbers →
    IsAskedFor start events replies m numbers
asked_named start events replies m name cut numbers named there is told none are =
    let p : List PersistenceStep = at_moment events m in
    let one : are.cut ≡ cut = named_once p name are.cut cut are.named (told_names p cut name is told) in
    asked_cut start events replies m numbers (number_in cut) named there are.size
    (λ l less. are.each l less ∙ ap (λ (c : List (ℕ × ℕ)). number_in c l) one) (within_from_cut p cut is) none

pub asked_full : (start : List (List ℕ)) (events : List Event) (replies : List KnownView) (m : ℕ) (numbers : List ℕ) → HasLines start events →
    LacksFull start events replies m → AreAllStores start events m numbers → IsAskedFor start events replies m numbers
asked_full start events replies m numbers named lacks are =
    asked_cut start events replies m numbers (full_cut events m) named lacks.0 are.size are.each
    (record { low = λ l. floor_le_stores l (at_moment events m); high = λ l. omega arith }) lacks.1

-- lines that are there, asked as wholes
pub whole_below : (count : ℕ) (lines : List ℕ) → ((l : ℕ) → Contains lines l → l < count) → AllByRecursion (λ q. q.line < count) (map whole_line lines)
whole_below count [] there = tt
whole_below count (x ∷ xs) there = (there x (contains_first x xs x refl), whole_below count xs (λ l c. there l (contains_later x xs l c)))
