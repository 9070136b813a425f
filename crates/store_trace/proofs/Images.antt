-- Images by recursion over the steps, by writes in order, and line by line.
use Rattle.std.proofs.Common.{◌≡◌, ℕ, zero, suc, ◌+◌, ◌<◌, ◌≤◌, List, [], ◌∷◌, ◌++◌, length, get_or, take, arith, refl, ap, ◌∙◌, sym}
use Rattle.std.specs.Prelude.{slice_index_or}
use Rattle.std.proofs.lemmas.Bool.Decides.{nat_tests}
use Rattle.std.proofs.lemmas.Grind.{common_steps}
use Rattle.std.proofs.lemmas.List.{same_lists}
use Rattle.word_bits.specs.Bytes.{stored}
use Rattle.store_trace.specs.Image.{applied, line_after, lines_after, image, memory_after}
use Rattle.store_trace.specs.Stores.{Write, writes, stores}
use Rattle.store_trace.specs.declared.crash_model.step.PersistenceStep.{PersistenceStep}
use Rattle.store_trace.specs.declared.crash_model.step.PersistenceStep.TheVariants.{Store, Clean, Fence, Evict}

pub length_writes : (l : ℕ) (p : List PersistenceStep) → length (writes l p) ≡ stores l p
length_writes l [] = refl
length_writes l (Store m o w v ∷ p) = grind (arith, common_steps, nat_tests, length_writes l p)
length_writes l (Clean h m ∷ p) = length_writes l p
length_writes l (Fence h ∷ p) = length_writes l p
length_writes l (Evict m ∷ p) = length_writes l p

applied_append : (start : List ℕ) (ws : List Write) (w : Write) →
    applied start (ws ++ w ∷ []) ≡ stored (applied start ws) w.offset w.width w.value
applied_append start [] w = refl
applied_append start (x ∷ ws) w = applied_append (stored start x.offset x.width x.value) ws w

pub line_after_applied : (start : List ℕ) (l k : ℕ) (p : List PersistenceStep) →
    line_after start l k p ≡ applied start (take k (writes l p))
line_after_applied start l k [] = grind (arith, common_steps)
line_after_applied start l k (Store m o w v ∷ p) =
    grind (
      arith,
      common_steps,
      nat_tests,
      line_after_applied start l k p,
      length_writes l p,
      applied_append start (writes l p) (record { offset = o; width = w; value = v }),
    )
line_after_applied start l k (Clean h m ∷ p) = line_after_applied start l k p
line_after_applied start l k (Fence h ∷ p) = line_after_applied start l k p
line_after_applied start l k (Evict m ∷ p) = line_after_applied start l k p

pub line_after_none : (start : List ℕ) (l : ℕ) (p : List PersistenceStep) → line_after start l 0 p ≡ start
line_after_none start l [] = refl
line_after_none start l (Store m o w v ∷ p) = grind (arith, nat_tests, line_after_none start l p)
line_after_none start l (Clean h m ∷ p) = line_after_none start l p
line_after_none start l (Fence h ∷ p) = line_after_none start l p
line_after_none start l (Evict m ∷ p) = line_after_none start l p

-- numbers past the last store change nothing
pub line_after_same : (start : List ℕ) (l k j : ℕ) (p : List PersistenceStep) →
    stores l p ≤ k → stores l p ≤ j → line_after start l k p ≡ line_after start l j p
line_after_same start l k j [] a b = refl
line_after_same start l k j (Store m o w v ∷ p) a b = grind (arith, nat_tests, line_after_same start l k j p)
line_after_same start l k j (Clean h m ∷ p) a b = line_after_same start l k j p a b
line_after_same start l k j (Fence h ∷ p) a b = line_after_same start l k j p a b
line_after_same start l k j (Evict m ∷ p) a b = line_after_same start l k j p a b

-- one store more
pub line_after_store : (start : List ℕ) (l o w v : ℕ) (p : List PersistenceStep) →
    line_after start l (stores l p + 1) (Store l o w v ∷ p) ≡ stored (line_after start l (stores l p) p) o w v
line_after_store start l o w v p = grind (arith, nat_tests, line_after_same start l (stores l p + 1) (stores l p) p)

pub length_lines_after : (i : ℕ) (lines : List (List ℕ)) (k : ℕ → ℕ) (p : List PersistenceStep) →
    length (lines_after i lines k p) ≡ length lines
length_lines_after i [] k p = refl
length_lines_after i (line ∷ lines) k p = ap suc (length_lines_after (suc i) lines k p)

pub lines_after_at : (i : ℕ) (lines : List (List ℕ)) (k : ℕ → ℕ) (p : List PersistenceStep) (j : ℕ) (d e : List ℕ) →
    j < length lines → slice_index_or (lines_after i lines k p) j d ≡ line_after (slice_index_or lines j e) (i + j) (k (i + j)) p
lines_after_at i [] k p j d e h = absurd (omega arith)
lines_after_at i (line ∷ lines) k p zero d e h = let s : i + 0 ≡ i = omega arith in rw s refl
lines_after_at i (line ∷ lines) k p (suc j) d e h =
    let s : i + suc j ≡ suc i + j = omega arith in
    rw s (lines_after_at (suc i) lines k p j d e (omega arith))

pub length_image : (start : List (List ℕ)) (k : ℕ → ℕ) (p : List PersistenceStep) → length (image start k p) ≡ length start
length_image start k p = length_lines_after 0 start k p

pub image_line : (start : List (List ℕ)) (k : ℕ → ℕ) (p : List PersistenceStep) (l : ℕ) (d e : List ℕ) →
    l < length start → slice_index_or (image start k p) l d ≡ line_after (slice_index_or start l e) l (k l) p
image_line start k p l d e h =
    let s : 0 + l ≡ l = omega arith in
    rw s at (lines_after_at 0 start k p l d e h)

-- the default of a read within the list doesn't matter
any_default : (xs : List (List ℕ)) (l : ℕ) (d : List ℕ) → l < length xs → get_or xs l d ≡ get_or xs l []
any_default [] l d h = absurd (omega arith)
any_default (x ∷ xs) zero d h = refl
any_default (x ∷ xs) (suc l) d h = any_default xs l d (omega arith)

-- a medium with these lines is the image
pub image_from_lines : (start : List (List ℕ)) (k : ℕ → ℕ) (p : List PersistenceStep) (medium : List (List ℕ)) →
    length medium ≡ length start →
    ((l : ℕ) → l < length start → slice_index_or medium l [] ≡ line_after (slice_index_or start l []) l (k l) p) →
    medium ≡ image start k p
image_from_lines start k p medium len each =
    same_lists medium (image start k p) (len ∙ sym (length_image start k p))
    (λ l d h. let b : l < length start = omega (arith, len) in
    grind (arith, common_steps, each l b, image_line start k p l [] [] b, any_default medium l d, any_default (image start k p) l d, length_image start k p))

pub image_none : (start : List (List ℕ)) (p : List PersistenceStep) → image start (λ l. 0) p ≡ start
image_none start p = sym (image_from_lines start (λ l. 0) p start refl (λ l h. sym (line_after_none _ l p)))

pub length_memory_after : (start : List (List ℕ)) (p : List PersistenceStep) → length (memory_after start p) ≡ length start
length_memory_after start [] = refl
length_memory_after start (Store m o w v ∷ p) = grind (arith, common_steps, length_memory_after start p)
length_memory_after start (Clean h m ∷ p) = length_memory_after start p
length_memory_after start (Fence h ∷ p) = length_memory_after start p
length_memory_after start (Evict m ∷ p) = length_memory_after start p

-- what loads see of a line is the line after all its stores
memory_after_line : (start : List (List ℕ)) (p : List PersistenceStep) (l : ℕ) → l < length start →
    slice_index_or (memory_after start p) l [] ≡ line_after (slice_index_or start l []) l (stores l p) p
memory_after_line start [] l h = refl
memory_after_line start (Store m o w v ∷ p) l h =
    grind (
      arith,
      common_steps,
      nat_tests,
      memory_after_line start p l h,
      length_memory_after start p,
      line_after_store (slice_index_or start l []) l o w v p,
    )
memory_after_line start (Clean g m ∷ p) l h = memory_after_line start p l h
memory_after_line start (Fence g ∷ p) l h = memory_after_line start p l h
memory_after_line start (Evict m ∷ p) l h = memory_after_line start p l h

pub image_memory : (start : List (List ℕ)) (p : List PersistenceStep) → image start (λ l. stores l p) p ≡ memory_after start p
image_memory start p =
    sym (image_from_lines start (λ l. stores l p) p (memory_after start p) (length_memory_after start p) (memory_after_line start p))

-- images by numbers that are the same
pub image_same : (start : List (List ℕ)) (k j : ℕ → ℕ) (p : List PersistenceStep) → ((l : ℕ) → k l ≡ j l) →
    image start k p ≡ image start j p
image_same start k j p same = image_from_lines start j p (image start k p) (length_image start k p)
    (λ l h. image_line start k p l [] [] h ∙ ap (λ (n : ℕ). line_after (slice_index_or start l []) l n p) (same l))
