-- In the least failing cut a line that recovery doesn't read stands at its floor: else the cut in which it does fails too.
use Rattle.std.proofs.Common.{◌≡◌, ℕ, ◌<◌, ◌≤◌, true, false, ◌==◌, List, [], ◌∷◌, get_or, length, refl, sym, ap, ◌∙◌, arith, inl, inr}
use Rattle.std.specs.Prelude.{if◌then◌else◌, map, Some}
use Rattle.std.proofs.lemmas.Bool.{cases_Bool}
use Rattle.std.proofs.lemmas.Bool.Decides.{nat_tests}
use Rattle.verdict.specs.Branches.{Agree, same_number}
use Rattle.verdict.specs.ByLine.{line_decides}
use Rattle.verdict.specs.CutImages.{AreByLine}
use Rattle.store_trace.proofs.Bounds.{floor_le_stores}
use Rattle.store_trace.proofs.Images.{length_image}
use Rattle.std.proofs.lemmas.List.Elements.{All-map}
use Rattle.store_trace.specs.Cut.{IsBefore, IsCut, number_in}
use Rattle.store_trace.specs.Floor.{floor}
use Rattle.store_trace.specs.Image.{image}
use Rattle.store_trace.specs.Stores.{stores}
use Rattle.store_trace.specs.declared.crash_model.step.PersistenceStep.{PersistenceStep}
use Rattle.image_check.specs.Alike.{found_alike}
use Rattle.image_check.specs.Images.{IsGood, IsSpoilt, Passes, image_after}
use Rattle.image_check.specs.Verdicts.{IsLeastBad, whole_line}
use Rattle.image_check.specs.declared.cause.Cause.{Cause}
use Rattle.image_check.specs.declared.cause.Cause.TheVariants.{Fault, Illegal}
use Rattle.nova_log.specs.Volumes.{asked_lines}
use Rattle.plan.specs.declared.operation.Operation.{Operation}
use Rattle.store_trace.specs.History.{history}
use Rattle.store_trace.specs.declared.event.Event.{Event}
use Rattle.crash_test.specs.Told.{is_among}

-- the cut with this line at its floor
abbrev lowered : List PersistenceStep → ℕ → ℕ × ℕ → ℕ × ℕ
lowered p line entry = (entry.0, if entry.0 == line then floor entry.0 p else entry.1)

abbrev lower_in : List PersistenceStep → ℕ → List (ℕ × ℕ) → List (ℕ × ℕ)
lower_in p line cut = map (lowered p line) cut

same_lines : (p : List PersistenceStep) (line : ℕ) (cut : List (ℕ × ℕ))
    → map (λ (entry : ℕ × ℕ). entry.0) (lower_in p line cut) ≡ map (λ (entry : ℕ × ℕ). entry.0) cut
same_lines p line [] = refl
same_lines p line (entry ∷ cut) = ap (λ (ls : List ℕ). entry.0 ∷ ls) (same_lines p line cut)

low_one : (p : List PersistenceStep) (line : ℕ) (entry : ℕ × ℕ) → floor entry.0 p ≤ entry.1 → floor (lowered p line entry).0 p ≤ (lowered p line entry).1
low_one p line entry low = grind (arith, nat_tests, low)

high_one : (p : List PersistenceStep) (line : ℕ) (entry : ℕ × ℕ) → entry.1 ≤ stores entry.0 p → (lowered p line entry).1 ≤ stores (lowered p line entry).0 p
high_one p line entry high = grind (arith, nat_tests, high, floor_le_stores entry.0 p)

lowered_cut : (p : List PersistenceStep) (line : ℕ) (cut : List (ℕ × ℕ)) → IsCut p cut → IsCut p (lower_in p line cut)
lowered_cut p line cut c = record {
  lines = same_lines p line cut ∙ c.lines;
  low = All-map (λ (entry : ℕ × ℕ). floor entry.0 p ≤ entry.1) (lowered p line) cut (λ i d h. low_one p line (get_or cut i d) (c.low i d h));
  high = All-map (λ (entry : ℕ × ℕ). entry.1 ≤ stores entry.0 p) (lowered p line) cut (λ i d h. high_one p line (get_or cut i d) (c.high i d h));
}

-- it comes before the cut, where the line stands above its floor there
before : (p : List PersistenceStep) (line : ℕ) (cut : List (ℕ × ℕ)) → floor line p < number_in cut line → IsBefore (lower_in p line cut) cut
before p line [] above = absurd (omega (arith, above))
before p line (entry ∷ cut) above = elim (cases_Bool (entry.0 == line)) [
  | inl here ↦ inl (grind (arith, nat_tests, here, above))
  | inr other ↦
      let rest : floor line p < number_in cut line = rw other at above in
      inr (rw other refl, before p line cut rest)
]

-- and gives other lines the same numbers
elsewhere : (p : List PersistenceStep) (line : ℕ) (cut : List (ℕ × ℕ)) (l : ℕ) → (l == line) ≡ false → number_in (lower_in p line cut) l ≡ number_in cut l
elsewhere p line [] l other = refl
elsewhere p line (entry ∷ cut) l other = grind (arith, nat_tests, other, elsewhere p line cut l other)

same_whole : (l n m : ℕ) → n ≡ m → same_number (whole_line l) n m ≡ true
same_whole l n m e = grind (arith, e)

agree : (p : List PersistenceStep) (line : ℕ) (cut : List (ℕ × ℕ)) (ls : List ℕ) → is_among ls line ≡ false
    → Agree same_number (number_in (lower_in p line cut)) (number_in cut) (map whole_line ls)
agree p line cut [] none = tt
agree p line cut (l ∷ ls) none = elim (cases_Bool (l == line)) [
  | inl here ↦ absurd (grind (arith, here, none))
  | inr other ↦ (
    same_whole l (number_in (lower_in p line cut) l) (number_in cut l) (elsewhere p line cut l other),
    agree p line cut ls (rw other at none),
  )
]

images_by_line : (start : List (List ℕ)) (p : List PersistenceStep) → AreByLine (length start) (λ (k : ℕ → ℕ). image start k p)
images_by_line start p = record { count = λ k. length_image start k p; decides = λ c k l same. line_decides start c k p l same }

-- no image is both good and bad
one_judgement : (plan : List Operation) (start : List (List ℕ)) (events : List Event) (medium : List (List ℕ)) (cause : Cause)
    → IsGood plan start events medium → IsSpoilt plan start events medium cause → ⊥
one_judgement plan start events medium (Fault fault) good bad = absurd (let e = sym good.recovers ∙ bad in cc)
one_judgement plan start events medium Illegal good bad =
    let e = sym good.recovers ∙ bad.1 in
    let same : good.volume ≡ bad.0 = cc in
    bad.2 (rw same at good.legal)

pub kept_is_read : (plan : List Operation) (start : List (List ℕ)) (events : List Event) (cut : List (ℕ × ℕ)) (cause : Cause) (line : ℕ)
    → IsLeastBad plan start events cut cause → floor line (history events) < number_in cut line
    → is_among (asked_lines (image_after start events cut)) line ≡ true
kept_is_read plan start events cut cause line bad above =
    let p : List PersistenceStep = history events in
    let other : List (ℕ × ℕ) = lower_in p line cut in
    let ls : List ℕ = asked_lines (image_after start events cut) in
    elim (cases_Bool (is_among ls line)) [
      | inl asked ↦ asked
      | inr unasked ↦
          let good : Passes plan start events other = bad.least other (lowered_cut p line cut bad.there) (before p line cut above) in
          absurd (one_judgement plan start events (image_after start events other) cause good
          (found_alike plan start events (length start) (λ (k : ℕ → ℕ). image start k p) (images_by_line start p) (number_in cut) (number_in other) (map whole_line ls)
          (Some cause) refl (agree p line cut ls unasked) bad.bad))
    ]
