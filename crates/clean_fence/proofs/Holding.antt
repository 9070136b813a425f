-- What a step makes of all the lines: said of the medium's lines, of the lines that loads find, of the dirty lines
-- and of the lists of marks.
use Rattle.std.proofs.Common.{inl, inr, ◌≡◌, ℕ, ◌<◌, true, false, eqb, cond, List, [], ◌∷◌, map, length, arith, refl, ap, ◌∙◌}
use Rattle.std.specs.Prelude.{slice_index_or, slice_set, if◌then◌else◌}
use Rattle.std.proofs.lemmas.Bool.{cases_Bool}
use Rattle.std.proofs.lemmas.Bool.Decides.{nat_tests}
use Rattle.std.proofs.lemmas.Grind.{common_steps}
use Rattle.index_list.specs.Lists.{has, without, IsDistinct}
use Rattle.index_list.proofs.Members.{has-without}
use Rattle.word_bits.specs.Bytes.{stored}
use Rattle.line_memory.specs.Lines.{line_at}
use Rattle.lru_cache.specs.Order.{list_with}
use Rattle.lru_cache.proofs.Places.{at_put, at_map_without, has-list_with}
use Rattle.store_trace.specs.declared.crash_model.step.PersistenceStep.{PersistenceStep}
use Rattle.store_trace.specs.declared.crash_model.step.PersistenceStep.TheVariants.{Store, Clean, Fence, Evict}
use Rattle.clean_fence.specs.Represents.{LineView, RepresentsLine}
use Rattle.clean_fence.proofs.Pieces.{Same, Written, StoredTo, CleanedBy, stored_stands, other_store, cleaned_stands, other_clean, evicted_stands, other_evict, fenced_stands, other_fence, same_stands}

-- the lists that the lines are told from
pub record Told : Type 0 where
  pub lines : List (List ℕ)
  pub shown : List (List ℕ)
  pub dirty : List ℕ
  pub marked : List (List ℕ)

abbrev pub marks : Told → ℕ → List ℕ
marks t h = slice_index_or t.marked h []

abbrev pub line_from : Told → ℕ → LineView
line_from t l = record {
  medium = line_at t.lines l;
  shown = line_at t.shown l;
  dirty = has l t.dirty;
  pends = λ h. has l (marks t h);
}

pub record Holds (start : List (List ℕ)) (p : List PersistenceStep) (t : Told) : Type 0 where
  pub count : length t.lines ≡ length start
  pub shown_count : length t.shown ≡ length start
  pub each : (l : ℕ) → l < length start → RepresentsLine (line_at start l) l p (line_from t l)

-- no line stands twice, and there are eight lists of marks
pub record IsTold (t : Told) : Type 0 where
  pub dirty_once : IsDistinct t.dirty
  pub marked_once : (h : ℕ) → IsDistinct (marks t h)
  pub lists : length t.marked ≡ 8

-- line m is written back
abbrev pub told_written : ℕ → Told → Told
told_written m t = record t {
  lines = slice_set t.lines m (line_at t.shown m);
  dirty = without m t.dirty;
  marked = map (without m) t.marked;
}

-- line m gets other bytes
abbrev pub told_stored : ℕ → List ℕ → Told → Told
told_stored m bytes t = record t { shown = slice_set t.shown m bytes; dirty = list_with m t.dirty }

abbrev pub told_marked : ℕ → ℕ → Told → Told
told_marked h m t = record t { marked = slice_set t.marked h (list_with m (marks t h)) }

written_line : (m l : ℕ) (t : Told) → IsTold t → l < length t.lines → eqb m l ≡ true → Written (line_from t l) (line_from (told_written m t) l)
written_line m l t k b e = record {
  medium = grind (arith, nat_tests, e, at_put [] (line_at t.shown m) t.lines m l);
  shown = refl;
  dirty = grind (arith, nat_tests, e, has-without l m t.dirty k.dirty_once);
  pends = λ h. ap (has l) (at_map_without m t.marked h) ∙ grind (arith, nat_tests, e, has-without l m (marks t h) (k.marked_once h));
}

unwritten_line : (m l : ℕ) (t : Told) → IsTold t → l < length t.lines → eqb m l ≡ false → Same (line_from t l) (line_from (told_written m t) l)
unwritten_line m l t k b e = record {
  medium = grind (arith, nat_tests, common_steps, e);
  shown = refl;
  dirty = grind (arith, nat_tests, e, has-without l m t.dirty k.dirty_once);
  pends = λ h. ap (has l) (at_map_without m t.marked h) ∙ grind (arith, nat_tests, e, has-without l m (marks t h) (k.marked_once h));
}

pub holds_evict : (start : List (List ℕ)) (p : List PersistenceStep) (m : ℕ) (t : Told) → IsTold t → Holds start p t →
    Holds start (Evict m ∷ p) (told_written m t)
holds_evict start p m t k s = record {
  count = grind (arith, common_steps, s.count);
  shown_count = s.shown_count;
  each = λ l b. let c : l < length t.lines = omega (arith, s.count) in elim (cases_Bool (eqb m l)) [
    | inl e ↦ evicted_stands _ l m p (line_from t l) _ e (written_line m l t k c e) (s.each l b)
    | inr e ↦ other_evict _ l m p (line_from t l) _ e (unwritten_line m l t k c e) (s.each l b)
  ];
}

stored_line : (m l o w v : ℕ) (t : Told) → l < length t.shown → eqb m l ≡ true →
    StoredTo o w v (line_from t l) (line_from (told_stored m (stored (line_at t.shown m) o w v) t) l)
stored_line m l o w v t b e = let i : m ≡ l = grind (arith, nat_tests) in record {
  medium = refl;
  shown = rw i (grind (arith, nat_tests, at_put [] (stored (line_at t.shown l) o w v) t.shown l l));
  dirty = grind (arith, nat_tests, e, has-list_with l m t.dirty);
  pends = λ h. refl;
}

unstored_line : (m l : ℕ) (bytes : List ℕ) (t : Told) → eqb m l ≡ false → Same (line_from t l) (line_from (told_stored m bytes t) l)
unstored_line m l bytes t e = record {
  medium = refl;
  shown = grind (arith, nat_tests, common_steps, e);
  dirty = grind (arith, nat_tests, e, has-list_with l m t.dirty);
  pends = λ h. refl;
}

pub holds_store : (start : List (List ℕ)) (p : List PersistenceStep) (m o w v : ℕ) (t : Told) → Holds start p t →
    Holds start (Store m o w v ∷ p) (told_stored m (stored (line_at t.shown m) o w v) t)
holds_store start p m o w v t s = record {
  count = s.count;
  shown_count = grind (arith, common_steps, s.shown_count);
  each = λ l b. let c : l < length t.shown = omega (arith, s.shown_count) in elim (cases_Bool (eqb m l)) [
    | inl e ↦ stored_stands _ l m o w v p (line_from t l) _ e (stored_line m l o w v t c e) (s.each l b)
    | inr e ↦ other_store _ l m o w v p (line_from t l) _ e (unstored_line m l (stored (line_at t.shown m) o w v) t e) (s.each l b)
  ];
}

marks_marked : (g m h : ℕ) (t : Told) → IsTold t → g < 8 → marks (told_marked g m t) h ≡ cond (eqb h g) (list_with m (marks t g)) (marks t h)
marks_marked g m h t k b = at_put [] (list_with m (marks t g)) t.marked g h (omega (arith, k.lists))

marked_line : (m l g : ℕ) (t : Told) → IsTold t → g < 8 → eqb m l ≡ true → has m t.dirty ≡ true →
    CleanedBy g (line_from t l) (line_from (told_marked g m t) l)
marked_line m l g t k b e d = record {
  medium = refl;
  shown = refl;
  dirty = refl;
  pends = λ h. ap (has l) (marks_marked g m h t k b) ∙ grind (arith, nat_tests, e, d, has-list_with l m (marks t g));
}

unmarked_line : (m l g : ℕ) (t : Told) → IsTold t → g < 8 → eqb m l ≡ false → Same (line_from t l) (line_from (told_marked g m t) l)
unmarked_line m l g t k b e = record {
  medium = refl;
  shown = refl;
  dirty = refl;
  pends = λ h. ap (has l) (marks_marked g m h t k b) ∙ grind (arith, nat_tests, e, has-list_with l m (marks t g));
}

-- a clean of a dirty line
pub holds_clean : (start : List (List ℕ)) (p : List PersistenceStep) (g m : ℕ) (t : Told) → IsTold t → g < 8 → has m t.dirty ≡ true →
    Holds start p t → Holds start (Clean g m ∷ p) (told_marked g m t)
holds_clean start p g m t k b d s = record {
  count = s.count;
  shown_count = s.shown_count;
  each = λ l c. elim (cases_Bool (eqb m l)) [
    | inl e ↦ cleaned_stands _ l m g p (line_from t l) _ e (marked_line m l g t k b e d) (s.each l c)
    | inr e ↦ other_clean _ l m g p (line_from t l) _ e (unmarked_line m l g t k b e) (s.each l c)
  ];
}

-- a clean of a line that isn't dirty
pub holds_idle_clean : (start : List (List ℕ)) (p : List PersistenceStep) (g m : ℕ) (t : Told) → has m t.dirty ≡ false →
    Holds start p t → Holds start (Clean g m ∷ p) t
holds_idle_clean start p g m t d s = record {
  count = s.count;
  shown_count = s.shown_count;
  each = λ l c. elim (cases_Bool (eqb m l)) [
    | inl e ↦ cleaned_stands _ l m g p (line_from t l) _ e (record { medium = refl; shown = refl; dirty = refl; pends = λ h. grind (arith, nat_tests, e, d) }) (s.each l c)
    | inr e ↦ other_clean _ l m g p (line_from t l) _ e (record { medium = refl; shown = refl; dirty = refl; pends = λ h. refl }) (s.each l c)
  ];
}

-- in the midst of a fence: the lines that pend for its hart still stand as before it, and the others as after it
pub record Fencing (start : List (List ℕ)) (g : ℕ) (p : List PersistenceStep) (t : Told) : Type 0 where
  pub count : length t.lines ≡ length start
  pub shown_count : length t.shown ≡ length start
  pub each : (l : ℕ) → l < length start → RepresentsLine (line_at start l) l (if has l (marks t g) then p else (Fence g ∷ p)) (line_from t l)

pub fencing_begins : (start : List (List ℕ)) (g : ℕ) (p : List PersistenceStep) (t : Told) → Holds start p t → Fencing start g p t
fencing_begins start g p t s = record {
  count = s.count;
  shown_count = s.shown_count;
  each = λ l b. elim (cases_Bool (has l (marks t g))) [
    | inl e ↦ rw e (s.each l b)
    | inr e ↦ rw e (other_fence _ l g p (line_from t l) e (s.each l b))
  ];
}

pub fencing_goes : (start : List (List ℕ)) (g m : ℕ) (p : List PersistenceStep) (t : Told) → IsTold t → has m (marks t g) ≡ true →
    Fencing start g p t → Fencing start g p (told_written m t)
fencing_goes start g m p t k i s = record {
  count = grind (arith, common_steps, s.count);
  shown_count = s.shown_count;
  each = λ l b. let c : l < length t.lines = omega (arith, s.count) in elim (cases_Bool (eqb m l)) [
    | inl e ↦
        let w : Written (line_from t l) (line_from (told_written m t) l) = written_line m l t k c e in
        let n : has l (marks (told_written m t) g) ≡ false = w.pends g in
        let q : has l (marks t g) ≡ true = grind (arith, nat_tests, e, i) in
        rw n (fenced_stands _ l g p (line_from t l) _ q w (rw q at (s.each l b)))
    | inr e ↦
        let w : Same (line_from t l) (line_from (told_written m t) l) = unwritten_line m l t k c e in
        let n : has l (marks (told_written m t) g) ≡ has l (marks t g) = w.pends g in
        rw n (same_stands _ l _ (line_from t l) _ w (s.each l b))
  ];
}

pub fencing_ends : (start : List (List ℕ)) (g : ℕ) (p : List PersistenceStep) (t : Told) → marks t g ≡ [] →
    Fencing start g p t → Holds start (Fence g ∷ p) t
fencing_ends start g p t n s = record {
  count = s.count;
  shown_count = s.shown_count;
  each = λ l b. let e : has l (marks t g) ≡ false = ap (has l) n in rw e at (s.each l b);
}
