-- The schedule of a cut leaves that cut, and evictions move neither floors nor stores.
use Rattle.std.proofs.Common.{◌≡◌, ℕ, ◌≤◌, List, [], ◌∷◌, get_or, arith, refl, ap, sym, ◌∙◌}
use Rattle.std.specs.Prelude.{slice_index_or, ◌↔◌}
use Rattle.std.proofs.lemmas.Bool.Decides.{nat_tests}
use Rattle.store_trace.proofs.Bounds.{written_back_le_stores}
use Rattle.store_trace.proofs.Images.{image_from_lines, image_line, image_same, length_image}
use Rattle.store_trace.specs.Cut.{IsCut, IsCutImage, IsWithin, number_in, stored_lines, with_line}
use Rattle.store_trace.specs.Image.{image, line_after}
use Rattle.store_trace.specs.Floor.{floor, cleaned}
use Rattle.store_trace.specs.Schedule.{explained, without_evictions}
use Rattle.store_trace.specs.Stores.{stores, writes}
use Rattle.store_trace.specs.WrittenBack.{written_back}
use Rattle.store_trace.specs.declared.crash_model.step.PersistenceStep.{PersistenceStep}
use Rattle.store_trace.specs.declared.crash_model.step.PersistenceStep.TheVariants.{Store, Clean, Fence, Evict}

pub explained_stores : (k : ℕ → ℕ) (l : ℕ) (p : List PersistenceStep) → stores l (explained k p) ≡ stores l p
explained_stores k l [] = refl
explained_stores k l (Store m o w v ∷ p) = grind (arith, nat_tests, explained_stores k l p)
explained_stores k l (Clean h m ∷ p) = explained_stores k l p
explained_stores k l (Fence h ∷ p) = explained_stores k l p
explained_stores k l (Evict m ∷ p) = explained_stores k l p

pub explained_cleaned : (k : ℕ → ℕ) (l h : ℕ) (p : List PersistenceStep) → cleaned l h (explained k p) ≡ cleaned l h p
explained_cleaned k l h [] = refl
explained_cleaned k l h (Store m o w v ∷ p) = grind (arith, nat_tests, explained_cleaned k l h p)
explained_cleaned k l h (Clean g m ∷ p) = grind (arith, nat_tests, explained_stores k l p, explained_cleaned k l h p)
explained_cleaned k l h (Fence g ∷ p) = explained_cleaned k l h p
explained_cleaned k l h (Evict m ∷ p) = explained_cleaned k l h p

pub explained_written_back : (k : ℕ → ℕ) (l : ℕ) (p : List PersistenceStep) →
    floor l p ≤ k l → k l ≤ stores l p → written_back l (explained k p) ≡ k l
explained_written_back k l [] low high = omega arith
explained_written_back k l (Store m o w v ∷ p) low high =
    grind (arith, nat_tests, explained_written_back k l p, explained_stores k l p, explained_stores k m p, written_back_le_stores l (explained k p))
explained_written_back k l (Clean h m ∷ p) low high = explained_written_back k l p low high
explained_written_back k l (Fence h ∷ p) low high =
    grind (arith, nat_tests, explained_written_back k l p, explained_stores k l p, explained_cleaned k l h p)
explained_written_back k l (Evict m ∷ p) low high = explained_written_back k l p low high

pub explained_floor : (k : ℕ → ℕ) (l : ℕ) (p : List PersistenceStep) → floor l (explained k p) ≡ floor l p
explained_floor k l [] = refl
explained_floor k l (Store m o w v ∷ p) = grind (arith, nat_tests, explained_floor k l p)
explained_floor k l (Clean g m ∷ p) = explained_floor k l p
explained_floor k l (Fence g ∷ p) = grind (arith, nat_tests, explained_cleaned k l g p, explained_floor k l p)
explained_floor k l (Evict m ∷ p) = explained_floor k l p

pub explained_is_of_harts : (p : List PersistenceStep) (k : ℕ → ℕ) →
    without_evictions (explained k p) ≡ without_evictions p
explained_is_of_harts [] k = refl
explained_is_of_harts (Store m o w v ∷ p) k = grind (arith, nat_tests, explained_is_of_harts p k)
explained_is_of_harts (Clean h m ∷ p) k = ap (λ (q : List PersistenceStep). Clean h m ∷ q) (explained_is_of_harts p k)
explained_is_of_harts (Fence h ∷ p) k = ap (λ (q : List PersistenceStep). Fence h ∷ q) (explained_is_of_harts p k)
explained_is_of_harts (Evict m ∷ p) k = explained_is_of_harts p k

pub stores_without_evictions : (l : ℕ) (p : List PersistenceStep) → stores l (without_evictions p) ≡ stores l p
stores_without_evictions l [] = refl
stores_without_evictions l (Store m o w v ∷ p) = grind (arith, nat_tests, stores_without_evictions l p)
stores_without_evictions l (Clean h m ∷ p) = stores_without_evictions l p
stores_without_evictions l (Fence h ∷ p) = stores_without_evictions l p
stores_without_evictions l (Evict m ∷ p) = stores_without_evictions l p

pub writes_without_evictions : (l : ℕ) (p : List PersistenceStep) → writes l (without_evictions p) ≡ writes l p
writes_without_evictions l [] = refl
writes_without_evictions l (Store m o w v ∷ p) = rw (writes_without_evictions l p) refl
writes_without_evictions l (Clean h m ∷ p) = writes_without_evictions l p
writes_without_evictions l (Fence h ∷ p) = writes_without_evictions l p
writes_without_evictions l (Evict m ∷ p) = writes_without_evictions l p

pub cleaned_without_evictions : (l h : ℕ) (p : List PersistenceStep) →
    cleaned l h (without_evictions p) ≡ cleaned l h p
cleaned_without_evictions l h [] = refl
cleaned_without_evictions l h (Store m o w v ∷ p) = cleaned_without_evictions l h p
cleaned_without_evictions l h (Clean g m ∷ p) =
    grind (arith, nat_tests, stores_without_evictions l p, cleaned_without_evictions l h p)
cleaned_without_evictions l h (Fence g ∷ p) = cleaned_without_evictions l h p
cleaned_without_evictions l h (Evict m ∷ p) = cleaned_without_evictions l h p

pub floor_without_evictions : (l : ℕ) (p : List PersistenceStep) → floor l (without_evictions p) ≡ floor l p
floor_without_evictions l [] = refl
floor_without_evictions l (Store m o w v ∷ p) = floor_without_evictions l p
floor_without_evictions l (Clean h m ∷ p) = floor_without_evictions l p
floor_without_evictions l (Fence h ∷ p) =
    grind (arith, nat_tests, floor_without_evictions l p, cleaned_without_evictions l h p)
floor_without_evictions l (Evict m ∷ p) = floor_without_evictions l p

pub explained_leaves : (p : List PersistenceStep) (k : ℕ → ℕ) → IsWithin p k → (l : ℕ) → written_back l (explained k p) ≡ k l
explained_leaves p k w l = explained_written_back k l p (w.low l) (w.high l)

stored_lines_without_evictions : (p : List PersistenceStep) → stored_lines (without_evictions p) ≡ stored_lines p
stored_lines_without_evictions [] = refl
stored_lines_without_evictions (Store m o w v ∷ p) = ap (λ (ls : List ℕ). with_line m ls) (stored_lines_without_evictions p)
stored_lines_without_evictions (Clean h m ∷ p) = stored_lines_without_evictions p
stored_lines_without_evictions (Fence h ∷ p) = stored_lines_without_evictions p
stored_lines_without_evictions (Evict m ∷ p) = stored_lines_without_evictions p

line_after_without_evictions : (start : List ℕ) (l k : ℕ) (p : List PersistenceStep) →
    line_after start l k (without_evictions p) ≡ line_after start l k p
line_after_without_evictions start l k [] = refl
line_after_without_evictions start l k (Store m o w v ∷ p) =
    rw (stores_without_evictions l p, line_after_without_evictions start l k p) refl
line_after_without_evictions start l k (Clean h m ∷ p) = line_after_without_evictions start l k p
line_after_without_evictions start l k (Fence h ∷ p) = line_after_without_evictions start l k p
line_after_without_evictions start l k (Evict m ∷ p) = line_after_without_evictions start l k p

pub image_without_evictions : (start : List (List ℕ)) (k : ℕ → ℕ) (p : List PersistenceStep) →
    image start k (without_evictions p) ≡ image start k p
image_without_evictions start k p = image_from_lines start k p (image start k (without_evictions p))
    (length_image start k (without_evictions p))
    (λ l h. image_line start k (without_evictions p) l [] [] h ∙ line_after_without_evictions (slice_index_or start l []) l (k l) p)

-- two lists with the same stored lines, floors and numbers of stores have the same cuts
cuts_same : (p q : List PersistenceStep) (cut : List (ℕ × ℕ)) → stored_lines p ≡ stored_lines q →
    ((l : ℕ) → floor l q ≡ floor l p) → ((l : ℕ) → stores l q ≡ stores l p) → IsCut p cut → IsCut q cut
cuts_same p q cut lines floors counts c = record {
  lines = c.lines ∙ lines;
  low = λ i d h. rw (floors (get_or cut i d).0) (c.low i d h);
  high = λ i d h. rw (counts (get_or cut i d).0) (c.high i d h);
}

pub cuts_without_evictions : (p : List PersistenceStep) (cut : List (ℕ × ℕ)) → IsCut p cut ↔ IsCut (without_evictions p) cut
cuts_without_evictions p cut = (
  cuts_same p (without_evictions p) cut (sym (stored_lines_without_evictions p))
      (λ l. floor_without_evictions l p) (λ l. stores_without_evictions l p),
  cuts_same (without_evictions p) p cut (stored_lines_without_evictions p)
      (λ l. sym (floor_without_evictions l p)) (λ l. sym (stores_without_evictions l p)),
)

pub cut_image_without_evictions : (start : List (List ℕ)) (p : List PersistenceStep) (medium : List (List ℕ)) →
    IsCutImage start p medium → IsCutImage start (without_evictions p) medium
cut_image_without_evictions start p medium c = record {
  cut = c.cut;
  bounds = (cuts_without_evictions p c.cut).0 c.bounds;
  bytes = c.bytes ∙ sym (image_without_evictions start (number_in c.cut) p);
}

-- what the schedule of a cut leaves is the cut's image
pub explained_image : (start : List (List ℕ)) (p : List PersistenceStep) (k : ℕ → ℕ) → IsWithin p k →
    image start (λ l. written_back l (explained k p)) (explained k p) ≡ image start k p
explained_image start p k w =
    image_same start (λ l. written_back l (explained k p)) k (explained k p) (explained_leaves p k w)
    ∙ sym (image_without_evictions start k (explained k p))
    ∙ ap (λ (q : List PersistenceStep). image start k q) (explained_is_of_harts p k)
    ∙ image_without_evictions start k p
