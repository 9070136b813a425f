-- The image of a cut, one store further each.
use Rattle.std.proofs.Common.{◌≡◌, ℕ, suc, ◌+◌, ◌-◌, ◌%◌, ◌<◌, ◌≤◌, ◌==◌, List, [], ◌∷◌, length, get_or, drop, inl, inr, refl, ap, ◌∙◌, arith}
use Rattle.std.specs.Prelude.{slice_index_or, slice_set}
use Rattle.std.proofs.lemmas.Bool.{cases_Bool}
use Rattle.std.proofs.lemmas.Bool.Decides.{nat_tests}
use Rattle.std.proofs.lemmas.Grind.{common_steps}
use Rattle.std.proofs.Math.Seq.{drop-cons}
use Rattle.store_trace.proofs.Images.{image_from_lines}
use Rattle.store_trace.specs.Cut.{number_in}
use Rattle.store_trace.specs.Image.{image}
use Rattle.store_trace.specs.declared.crash_model.step.PersistenceStep.{PersistenceStep}
use Rattle.store_trace.specs.TraceView.{IsWidth}
use Rattle.crash_image.specs.ImageScan.{IsImaged}

pub aligned_fits : (offset width : ℕ) → IsWidth width → offset % width ≡ 0 → offset < 64 → (width ≤ 8) × (offset + width ≤ 64)
aligned_fits offset width w a h = (grind (arith, w), grind (arith, w, a))

-- one entry more in the table of numbers
pub table_more : (entries : List (ℕ × ℕ)) (at lines : ℕ) (d : ℕ × ℕ) (numbers : List ℕ) → 0 < at → at ≤ length entries →
    (get_or entries (at - 1) d).0 < lines → length numbers ≡ lines →
    ((m f : ℕ) → m < lines → slice_index_or numbers m f ≡ number_in (drop at entries) m) →
    (m f : ℕ) → m < lines →
    slice_index_or (slice_set numbers (get_or entries (at - 1) d).0 (get_or entries (at - 1) d).1) m f ≡ number_in (drop (at - 1) entries) m
table_more entries at lines d numbers some within there len before m f b =
    let up : suc (at - 1) ≡ at = omega (arith, some) in
    let next : drop (at - 1) entries ≡ get_or entries (at - 1) d ∷ drop at entries =
    drop-cons entries (at - 1) d (omega (arith, some, within)) ∙ ap (λ (k : ℕ). get_or entries (at - 1) d ∷ drop k entries) up in
    rw next (elim (cases_Bool ((get_or entries (at - 1) d).0 == m)) [
      | inl same ↦ rw same (
          let is : (get_or entries (at - 1) d).0 ≡ m = grind (arith, nat_tests, same) in
          grind (arith, common_steps, is, there, len))
      | inr other ↦ rw other (grind (arith, common_steps, nat_tests, other, before m f b))
    ])

-- before the first store, and after the last
pub imaged_none : (start : List (List ℕ)) (k : ℕ → ℕ) (left : List ℕ) → length left ≡ length start →
    ((l d : ℕ) → l < length start → slice_index_or left l d ≡ k l) → IsImaged start k [] left start
imaged_none start k left len each = record {
  size = refl;
  counts = len;
  lines = λ l h. refl;
  due = λ l d h. omega (arith, each l d h);
}

pub imaged_all : (start : List (List ℕ)) (k : ℕ → ℕ) (p : List PersistenceStep) (left : List ℕ) (medium : List (List ℕ)) →
    IsImaged start k p left medium → medium ≡ image start k p
imaged_all start k p left medium s = image_from_lines start k p medium s.size s.lines
