-- A fence, one write-back after another.
use Rattle.std.proofs.Common.{◌≡◌, ℕ, ◌<◌, true, eqb, List, [], ◌∷◌, length, arith, refl, ap, sym, ◌∙◌, inl, inr}
use Rattle.std.specs.Prelude.{Some, None}
use Rattle.std.proofs.lemmas.Bool.{cases_Bool}
use Rattle.std.proofs.lemmas.Bool.Decides.{nat_tests}
use Rattle.std.proofs.lemmas.List.{length-set}
use Rattle.index_list.specs.Lists.{has, without, first}
use Rattle.index_list.proofs.Members.{length-without}
use Rattle.lru_cache.specs.Cache.{IsCache, is_leaving}
use Rattle.lru_cache.specs.Order.{marked_in}
use Rattle.lru_cache.proofs.Places.{at_map_without}
use Rattle.store_trace.specs.declared.crash_model.step.PersistenceStep.{PersistenceStep}
use Rattle.store_trace.specs.declared.crash_model.step.PersistenceStep.TheVariants.{Fence}
use Rattle.clean_fence.specs.Rules.{PmView, HasRoom, SameSizes, memory_of, after_completion, after_completions, after_fence}
use Rattle.clean_fence.specs.Represents.{CacheSteps, Represents}
use Rattle.clean_fence.proofs.Holding.{Told, Fencing, told_written, fencing_begins, fencing_goes, fencing_ends}
use Rattle.clean_fence.proofs.Views.{Tells, told_of, is_told, holds_from, stands_from}
use Rattle.clean_fence.proofs.Crowding.{completion_room, one_step}

-- where a fence of hart h that began before is now
pub record FenceSoFar (h : ℕ) (before now : PmView) : Type 0 where
  pub exact : after_fence h now ≡ after_fence h before
  pub sizes : SameSizes before now
  pub memory : memory_of now ≡ memory_of before
  pub fencing : (start : List (List ℕ)) (p : List PersistenceStep) → Represents start p before → Fencing start h p (told_of now)
  pub room : (touched : List ℕ) → HasRoom touched before → HasRoom touched now

pub fence_begins : (h : ℕ) (v : PmView) → FenceSoFar h v v
fence_begins h v = record {
  exact = refl;
  sizes = record { harts = refl; capacity = refl; lines = refl };
  memory = refl;
  fencing = λ start p s. fencing_begins start h p (told_of v) (holds_from start p v s);
  room = λ touched r. r;
}

marked_completion : (line h : ℕ) (v : PmView) → marked_in (after_completion line v).cache.orders h ≡ without line (marked_in v.cache.orders h)
marked_completion line h v = elim (cases_Bool (is_leaving v.cache line)) [
  | inl t ↦ rw t (at_map_without line v.cache.orders.marked h)
  | inr f ↦ rw f (at_map_without line v.cache.orders.marked h)
]

told_completion : (line : ℕ) (v w : PmView) → w ≡ after_completion line v → memory_of w ≡ memory_of v → Tells (told_written line (told_of v)) w
told_completion line v w e m = elim (cases_Bool (is_leaving v.cache line)) [
  | inl t ↦ let f : w ≡ _ = rw t at e in record {
    lines = ap (λ (x : PmView). x.lines) f;
    shown = m;
    dirty = ap (λ (x : PmView). x.cache.orders.dirty) f;
    marked = ap (λ (x : PmView). x.cache.orders.marked) f;
  }
  | inr n ↦ let f : w ≡ _ = rw n at e in record {
    lines = ap (λ (x : PmView). x.lines) f;
    shown = m;
    dirty = ap (λ (x : PmView). x.cache.orders.dirty) f;
    marked = ap (λ (x : PmView). x.cache.orders.marked) f;
  }
]

fencing_from : (start : List (List ℕ)) (h : ℕ) (p : List PersistenceStep) (t : Told) (w : PmView) → Tells t w → Fencing start h p t →
    Fencing start h p (told_of w)
fencing_from start h p t w e f =
    let same : told_of w ≡ t =
    ap (λ (x : List (List ℕ)). record (told_of w) { lines = x }) e.lines
    ∙ ap (λ (x : List (List ℕ)). record t { shown = x; dirty = w.cache.orders.dirty; marked = w.cache.orders.marked }) e.shown
    ∙ ap (λ (x : List ℕ). record t { dirty = x; marked = w.cache.orders.marked }) e.dirty
    ∙ ap (λ (x : List (List ℕ)). record t { marked = x }) e.marked in
    rw same f

completions_next : (line : ℕ) (ls : List ℕ) (v : PmView) → first ls ≡ Some line →
    after_completions (without line ls) (after_completion line v) ≡ after_completions ls v
completions_next line [] v h = cc
completions_next line (x ∷ ls) v h =
    let e : x ≡ line = cc in
    let t : eqb line x ≡ true = grind (arith, nat_tests, e) in
    rw (t, e) refl

sizes_completion : (line : ℕ) (v w : PmView) → w ≡ after_completion line v → SameSizes v w
sizes_completion line v w e = elim (cases_Bool (is_leaving v.cache line)) [
  | inl t ↦ let f : w ≡ _ = rw t at e in rw f (record { harts = refl; capacity = refl; lines = length-set _ _ _ })
  | inr n ↦ let f : w ≡ _ = rw n at e in rw f (record { harts = refl; capacity = refl; lines = length-set _ _ _ })
]

sizes_chain : (u v w : PmView) → SameSizes u v → SameSizes v w → SameSizes u w
sizes_chain u v w a b = record { harts = b.harts ∙ a.harts; capacity = b.capacity ∙ a.capacity; lines = b.lines ∙ a.lines }

has_first : (line : ℕ) (ls : List ℕ) → first ls ≡ Some line → has line ls ≡ true
has_first line [] h = cc
has_first line (x ∷ ls) h = let e : x ≡ line = cc in grind (arith, nat_tests, e)

none_first : (ls : List ℕ) → first ls ≡ None → ls ≡ []
none_first [] h = refl
none_first (x ∷ ls) h = cc

pub fence_goes : (h line : ℕ) (before now next : PmView) → first (marked_in now.cache.orders h) ≡ Some line → next ≡ after_completion line now →
    memory_of next ≡ memory_of now → IsCache now.cache → FenceSoFar h before now → FenceSoFar h before next
fence_goes h line before now next i e m k f = record {
  exact =
      let fewer : marked_in next.cache.orders h ≡ without line (marked_in now.cache.orders h) =
      ap (λ (x : PmView). marked_in x.cache.orders h) e ∙ marked_completion line h now in
      ap (λ (ls : List ℕ). after_completions ls next) fewer
      ∙ ap (λ (x : PmView). after_completions (without line (marked_in now.cache.orders h)) x) e
      ∙ completions_next line (marked_in now.cache.orders h) now i
      ∙ f.exact;
  sizes = sizes_chain before now next f.sizes (sizes_completion line now next e);
  memory = m ∙ f.memory;
  fencing = λ start p s. fencing_from start h p (told_written line (told_of now)) next (told_completion line now next e m)
      (fencing_goes start h line p (told_of now) (is_told now k) (has_first line (marked_in now.cache.orders h) i) (f.fencing start p s));
  room = λ touched r. completion_room now next line e touched (f.room touched r);
}

-- each write-back leaves fewer lines that pend
pub fence_shortens : (h line : ℕ) (now next : PmView) → first (marked_in now.cache.orders h) ≡ Some line → next ≡ after_completion line now →
    length (marked_in next.cache.orders h) < length (marked_in now.cache.orders h)
fence_shortens h line now next i e =
    let fewer : marked_in next.cache.orders h ≡ without line (marked_in now.cache.orders h) =
    ap (λ (x : PmView). marked_in x.cache.orders h) e ∙ marked_completion line h now in
    rw fewer (omega (arith, length-without line (marked_in now.cache.orders h) (has_first line (marked_in now.cache.orders h) i)))

pub fence_exact : (h : ℕ) (before now : PmView) → first (marked_in now.cache.orders h) ≡ None → FenceSoFar h before now →
    now ≡ after_fence h before
fence_exact h before now n f =
    sym (ap (λ (ls : List ℕ). after_completions ls now) (none_first (marked_in now.cache.orders h) n)) ∙ f.exact

fence_stands : (h : ℕ) (before now : PmView) → first (marked_in now.cache.orders h) ≡ None → FenceSoFar h before now →
    (start : List (List ℕ)) (p : List PersistenceStep) → Represents start p before → Represents start (Fence h ∷ p) now
fence_stands h before now n f start p s =
    stands_from start (Fence h ∷ p) (told_of now) now (record { lines = refl; shown = refl; dirty = refl; marked = refl })
    (fencing_ends start h p (told_of now) (none_first (marked_in now.cache.orders h) n) (f.fencing start p s))

pub fence_steps : (h : ℕ) (before now : PmView) → first (marked_in now.cache.orders h) ≡ None → FenceSoFar h before now →
    CacheSteps before now (Fence h ∷ []) [] []
fence_steps h before now n f = one_step before now (Fence h) f.sizes (fence_stands h before now n f) f.room
