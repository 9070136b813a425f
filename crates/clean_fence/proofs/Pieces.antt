-- What a step makes of the lines, said of the lists that a cache and its medium are made of.
use Rattle.std.proofs.Common.{◌+◌, ◌≡◌, ℕ, true, false, eqb, ◌||◌, ◌&&◌, List, ◌∷◌, arith, ◌∙◌}
use Rattle.std.proofs.lemmas.Bool.Decides.{nat_tests}
use Rattle.word_bits.specs.Bytes.{stored}
use Rattle.store_trace.specs.Stores.{stores}
use Rattle.store_trace.proofs.Bounds.{written_back_le_stores}
use Rattle.store_trace.proofs.Images.{line_after_same}
use Rattle.store_trace.proofs.Pendings.{pends_clean, pends_fence, pends_evict}
use Rattle.store_trace.specs.declared.crash_model.step.PersistenceStep.{PersistenceStep}
use Rattle.store_trace.specs.declared.crash_model.step.PersistenceStep.TheVariants.{Store, Clean, Fence, Evict}
use Rattle.clean_fence.specs.Represents.{LineView, RepresentsLine}

-- a line as it was
pub record Same (x y : LineView) : Type 0 where
  pub medium : y.medium ≡ x.medium
  pub shown : y.shown ≡ x.shown
  pub dirty : y.dirty ≡ x.dirty
  pub pends : (h : ℕ) → y.pends h ≡ x.pends h

-- a line that was written back
pub record Written (x y : LineView) : Type 0 where
  pub medium : y.medium ≡ x.shown
  pub shown : y.shown ≡ x.shown
  pub dirty : y.dirty ≡ false
  pub pends : (h : ℕ) → y.pends h ≡ false

-- a line that was stored to
pub record StoredTo (offset width value : ℕ) (x y : LineView) : Type 0 where
  pub medium : y.medium ≡ x.medium
  pub shown : y.shown ≡ stored x.shown offset width value
  pub dirty : y.dirty ≡ true
  pub pends : (h : ℕ) → y.pends h ≡ x.pends h

-- a line that a hart cleaned
pub record CleanedBy (hart : ℕ) (x y : LineView) : Type 0 where
  pub medium : y.medium ≡ x.medium
  pub shown : y.shown ≡ x.shown
  pub dirty : y.dirty ≡ x.dirty
  pub pends : (h : ℕ) → y.pends h ≡ ((eqb hart h && x.dirty) || x.pends h)

pub same_stands : (start : List ℕ) (l : ℕ) (p : List PersistenceStep) (x y : LineView) →
    Same x y → RepresentsLine start l p x → RepresentsLine start l p y
same_stands start l p x y e s = record {
  medium = e.medium ∙ s.medium;
  shown = e.shown ∙ s.shown;
  dirty = e.dirty ∙ s.dirty;
  pends = λ h. e.pends h ∙ s.pends h;
}

pub stored_stands : (start : List ℕ) (l m o w v : ℕ) (p : List PersistenceStep) (x y : LineView) → eqb m l ≡ true →
    StoredTo o w v x y → RepresentsLine start l p x → RepresentsLine start l (Store m o w v ∷ p) y
stored_stands start l m o w v p x y t e s = record {
  medium = grind (arith, nat_tests, t, e.medium, s.medium, written_back_le_stores l p);
  shown = grind (arith, nat_tests, t, e.shown, s.shown, line_after_same start l (stores l p + 1) (stores l p) p);
  dirty = grind (arith, nat_tests, t, e.dirty, written_back_le_stores l p);
  pends = λ h. e.pends h ∙ s.pends h;
}

pub other_store : (start : List ℕ) (l m o w v : ℕ) (p : List PersistenceStep) (x y : LineView) → eqb m l ≡ false →
    Same x y → RepresentsLine start l p x → RepresentsLine start l (Store m o w v ∷ p) y
other_store start l m o w v p x y n e s = record {
  medium = grind (arith, nat_tests, n, e.medium, s.medium);
  shown = grind (arith, nat_tests, n, e.shown, s.shown);
  dirty = grind (arith, nat_tests, n, e.dirty, s.dirty);
  pends = λ h. e.pends h ∙ s.pends h;
}

pub cleaned_stands : (start : List ℕ) (l m g : ℕ) (p : List PersistenceStep) (x y : LineView) → eqb m l ≡ true →
    CleanedBy g x y → RepresentsLine start l p x → RepresentsLine start l (Clean g m ∷ p) y
cleaned_stands start l m g p x y t e s = record {
  medium = e.medium ∙ s.medium;
  shown = e.shown ∙ s.shown;
  dirty = e.dirty ∙ s.dirty;
  pends = λ h. grind (arith, nat_tests, t, e.pends h, s.pends h, s.dirty, pends_clean l h g m p);
}

pub other_clean : (start : List ℕ) (l m g : ℕ) (p : List PersistenceStep) (x y : LineView) → eqb m l ≡ false →
    Same x y → RepresentsLine start l p x → RepresentsLine start l (Clean g m ∷ p) y
other_clean start l m g p x y n e s = record {
  medium = e.medium ∙ s.medium;
  shown = e.shown ∙ s.shown;
  dirty = e.dirty ∙ s.dirty;
  pends = λ h. grind (arith, nat_tests, n, e.pends h, s.pends h, pends_clean l h g m p);
}

pub evicted_stands : (start : List ℕ) (l m : ℕ) (p : List PersistenceStep) (x y : LineView) → eqb m l ≡ true →
    Written x y → RepresentsLine start l p x → RepresentsLine start l (Evict m ∷ p) y
evicted_stands start l m p x y t e s = record {
  medium = grind (arith, nat_tests, t, e.medium, s.shown);
  shown = grind (arith, nat_tests, e.shown, s.shown);
  dirty = grind (arith, nat_tests, t, e.dirty);
  pends = λ h. grind (arith, nat_tests, t, e.pends h, pends_evict l h m p);
}

pub other_evict : (start : List ℕ) (l m : ℕ) (p : List PersistenceStep) (x y : LineView) → eqb m l ≡ false →
    Same x y → RepresentsLine start l p x → RepresentsLine start l (Evict m ∷ p) y
other_evict start l m p x y n e s = record {
  medium = grind (arith, nat_tests, n, e.medium, s.medium);
  shown = grind (arith, nat_tests, n, e.shown, s.shown);
  dirty = grind (arith, nat_tests, n, e.dirty, s.dirty);
  pends = λ h. grind (arith, nat_tests, n, e.pends h, s.pends h, pends_evict l h m p);
}

-- a fence writes back a line that pends for its hart
pub fenced_stands : (start : List ℕ) (l g : ℕ) (p : List PersistenceStep) (x y : LineView) → x.pends g ≡ true →
    Written x y → RepresentsLine start l p x → RepresentsLine start l (Fence g ∷ p) y
fenced_stands start l g p x y t e s = record {
  medium = grind (arith, nat_tests, t, s.pends g, e.medium, s.shown);
  shown = grind (arith, nat_tests, e.shown, s.shown);
  dirty = grind (arith, nat_tests, t, s.pends g, e.dirty);
  pends = λ h. grind (arith, nat_tests, t, s.pends g, e.pends h, pends_fence l h g p);
}

-- and leaves another one as it is
pub other_fence : (start : List ℕ) (l g : ℕ) (p : List PersistenceStep) (x : LineView) → x.pends g ≡ false →
    RepresentsLine start l p x → RepresentsLine start l (Fence g ∷ p) x
other_fence start l g p x t s = record {
  medium = grind (arith, nat_tests, t, s.pends g, s.medium);
  shown = s.shown;
  dirty = grind (arith, nat_tests, t, s.pends g, s.dirty);
  pends = λ h. grind (arith, nat_tests, t, s.pends g, s.pends h, pends_fence l h g p);
}
