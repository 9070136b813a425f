-- What each call makes of what a cache represents.
use Rattle.std.proofs.Common.{zero, suc, replicate, ◌≡◌, ℕ, ◌<◌, true, false, List, [], ◌∷◌, ◌++◌, length, map, refl, ap, sym, ◌∙◌}
use Rattle.std.specs.Prelude.{slice_index_or, slice_set, Option, Some, None}
use Rattle.std.specs.Option.{option_to_list}
use Rattle.index_list.specs.Lists.{has}
use Rattle.word_bits.specs.Bytes.{stored}
use Rattle.line_memory.specs.Lines.{line_at}
use Rattle.lru_cache.specs.Cache.{CacheView, IsCache, shown, is_dirty, after_eviction, after_forced, after_change, written_by_forced, after_load as after_line_load, written_back as line_written_back}
use Rattle.lru_cache.specs.Order.{LineOrders, list_with, order_after_mark}
use Rattle.lru_cache.proofs.Shows.{length_shown, shown_empty}
use Rattle.store_trace.specs.Cut.{IsCutImage}
use Rattle.store_trace.specs.Image.{image, memory_after}
use Rattle.store_trace.specs.Stores.{stores}
use Rattle.store_trace.specs.WrittenBack.{write_back_state, written_back}
use Rattle.store_trace.proofs.Images.{image_from_lines, image_memory, image_same}
use Rattle.store_trace.proofs.Leaving.{written_back_image}
use Rattle.store_trace.proofs.Pendings.{back_count}
use Rattle.store_trace.specs.declared.crash_model.step.PersistenceStep.{PersistenceStep}
use Rattle.store_trace.specs.declared.crash_model.step.PersistenceStep.TheVariants.{Store, Clean, Evict}
use Rattle.clean_fence.specs.Rules.{PmView, memory_of, victim, started}
use Rattle.clean_fence.specs.Represents.{RepresentsLine, Represents}
use Rattle.clean_fence.proofs.Holding.{Told, IsTold, Holds, told_written, told_stored, told_marked, holds_evict, holds_store, holds_clean, holds_idle_clean}

abbrev pub told_of : PmView → Told
told_of v = record { lines = v.lines; shown = memory_of v; dirty = v.cache.orders.dirty; marked = v.cache.orders.marked }

pub is_told : (v : PmView) → IsCache v.cache → IsTold (told_of v)
is_told v k = record {
  dirty_once = k.ordered.dirty_once;
  marked_once = λ h. k.ordered.marked_once h;
  lists = k.ordered.marks;
}

pub holds_from : (start : List (List ℕ)) (p : List PersistenceStep) (v : PmView) → Represents start p v → Holds start p (told_of v)
holds_from start p v s = record {
  count = s.count;
  shown_count = length_shown v.cache.copies v.lines ∙ s.count;
  each = s.each;
}

-- a cache with the lists that are told
pub record Tells (t : Told) (w : PmView) : Type 0 where
  pub lines : w.lines ≡ t.lines
  pub shown : memory_of w ≡ t.shown
  pub dirty : w.cache.orders.dirty ≡ t.dirty
  pub marked : w.cache.orders.marked ≡ t.marked

pub stands_from : (start : List (List ℕ)) (p : List PersistenceStep) (t : Told) (w : PmView) → Tells t w → Holds start p t → Represents start p w
stands_from start p t w e h = record {
  count = ap (λ (x : List (List ℕ)). length x) e.lines ∙ h.count;
  each = λ l b. let s : RepresentsLine (line_at start l) l p _ = h.each l b in record {
    medium = ap (λ (x : List (List ℕ)). line_at x l) e.lines ∙ s.medium;
    shown = ap (λ (x : List (List ℕ)). line_at x l) e.shown ∙ s.shown;
    dirty = ap (λ (x : List ℕ). has l x) e.dirty ∙ s.dirty;
    pends = λ g. ap (λ (x : List (List ℕ)). has l (slice_index_or x g [])) e.marked ∙ s.pends g;
  };
}

abbrev pub with_parts : PmView → CacheView → List (List ℕ) → PmView
with_parts v cache lines = record v { cache = cache; lines = lines }

-- an eviction
pub evict_stands : (v : PmView) (cache : CacheView) (lines : List (List ℕ)) (m : ℕ) → cache ≡ after_eviction m v.cache →
    lines ≡ line_written_back m v.cache v.lines → shown cache lines ≡ memory_of v → IsCache v.cache →
    (start : List (List ℕ)) (p : List PersistenceStep) → Represents start p v → Represents start (Evict m ∷ p) (with_parts v cache lines)
evict_stands v cache lines m e f same k start p s =
    stands_from start (Evict m ∷ p) (told_written m (told_of v)) (with_parts v cache lines)
    (record {
      lines = f;
      shown = same;
      dirty = ap (λ (x : CacheView). x.orders.dirty) e;
      marked = ap (λ (x : CacheView). x.orders.marked) e;
    })
    (holds_evict start p m (told_of v) (is_told v k) (holds_from start p v s))

-- an eviction that another line forces, if there is one
abbrev pub told_forced : Option ℕ → Told → Told
told_forced None t = t
told_forced (Some m) t = told_written m t

holds_forced : (start : List (List ℕ)) (p : List PersistenceStep) (forced : Option ℕ) (t : Told) → IsTold t → Holds start p t →
    Holds start (map (λ line. Evict line) (option_to_list forced) ++ p) (told_forced forced t)
holds_forced start p None t k h = h
holds_forced start p (Some m) t k h = holds_evict start p m t k h

forced_lines : (forced : Option ℕ) (v : PmView) → written_by_forced forced v.cache v.lines ≡ (told_forced forced (told_of v)).lines
forced_lines None v = refl
forced_lines (Some m) v = refl

forced_shown : (forced : Option ℕ) (t : Told) → t.shown ≡ (told_forced forced t).shown
forced_shown None t = refl
forced_shown (Some m) t = refl

forced_dirty : (forced : Option ℕ) (v : PmView) → (after_forced forced v.cache).orders.dirty ≡ (told_forced forced (told_of v)).dirty
forced_dirty None v = refl
forced_dirty (Some m) v = refl

forced_marked : (forced : Option ℕ) (v : PmView) → (after_forced forced v.cache).orders.marked ≡ (told_forced forced (told_of v)).marked
forced_marked None v = refl
forced_marked (Some m) v = refl

pub load_stands : (v : PmView) (cache : CacheView) (lines : List (List ℕ)) (line : ℕ) → cache ≡ after_line_load line v.cache v.lines →
    lines ≡ written_by_forced (victim v line) v.cache v.lines → shown cache lines ≡ memory_of v → IsCache v.cache →
    (start : List (List ℕ)) (p : List PersistenceStep) → Represents start p v →
    Represents start (map (λ m. Evict m) (option_to_list (victim v line)) ++ p) (with_parts v cache lines)
load_stands v cache lines line e f same k start p s =
    stands_from start (map (λ m. Evict m) (option_to_list (victim v line)) ++ p) (told_forced (victim v line) (told_of v)) (with_parts v cache lines)
    (record {
      lines = f ∙ forced_lines (victim v line) v;
      shown = same ∙ forced_shown (victim v line) (told_of v);
      dirty = ap (λ (x : CacheView). x.orders.dirty) e ∙ forced_dirty (victim v line) v;
      marked = ap (λ (x : CacheView). x.orders.marked) e ∙ forced_marked (victim v line) v;
    })
    (holds_forced start p (victim v line) (told_of v) (is_told v k) (holds_from start p v s))

pub store_stands : (v : PmView) (cache : CacheView) (lines : List (List ℕ)) (line o n value : ℕ) →
    cache ≡ after_change line (stored (line_at (memory_of v) line) o n value) (after_line_load line v.cache v.lines) →
    lines ≡ written_by_forced (victim v line) v.cache v.lines →
    shown cache lines ≡ slice_set (memory_of v) line (stored (line_at (memory_of v) line) o n value) → IsCache v.cache →
    (start : List (List ℕ)) (p : List PersistenceStep) → Represents start p v →
    Represents start (Store line o n value ∷ map (λ m. Evict m) (option_to_list (victim v line)) ++ p) (with_parts v cache lines)
store_stands v cache lines line o n value e f changed k start p s =
    let t : Told = told_forced (victim v line) (told_of v) in
    stands_from start (Store line o n value ∷ map (λ m. Evict m) (option_to_list (victim v line)) ++ p) (told_stored line (stored (line_at t.shown line) o n value) t)
    (with_parts v cache lines)
    (record {
      lines = f ∙ forced_lines (victim v line) v;
      shown = changed ∙ ap (λ (x : List (List ℕ)). slice_set x line (stored (line_at x line) o n value)) (forced_shown (victim v line) (told_of v));
      dirty = ap (λ (x : CacheView). x.orders.dirty) e ∙ ap (list_with line) (forced_dirty (victim v line) v);
      marked = ap (λ (x : CacheView). x.orders.marked) e ∙ forced_marked (victim v line) v;
    })
    (holds_store start (map (λ m. Evict m) (option_to_list (victim v line)) ++ p) line o n value t
    (holds_forced start p (victim v line) (told_of v) (is_told v k) (holds_from start p v s)))

-- a clean, or a flush, of a dirty line
pub marked_stands : (v w : PmView) (h line : ℕ) → w.lines ≡ v.lines → memory_of w ≡ memory_of v →
    w.cache.orders ≡ order_after_mark h line v.cache.orders → is_dirty v.cache line ≡ true → IsCache v.cache → h < 8 →
    (start : List (List ℕ)) (p : List PersistenceStep) → Represents start p v → Represents start (Clean h line ∷ p) w
marked_stands v w h line lines shown orders d k b start p s =
    stands_from start (Clean h line ∷ p) (told_marked h line (told_of v)) w
    (record {
      lines = lines;
      shown = shown;
      dirty = ap (λ (o : LineOrders). o.dirty) orders;
      marked = ap (λ (o : LineOrders). o.marked) orders;
    })
    (holds_clean start p h line (told_of v) (is_told v k) b d (holds_from start p v s))

-- a clean, or a flush, of another line
pub kept_stands : (v w : PmView) (h line : ℕ) → w.lines ≡ v.lines → memory_of w ≡ memory_of v → w.cache.orders.dirty ≡ v.cache.orders.dirty →
    w.cache.orders.marked ≡ v.cache.orders.marked → is_dirty v.cache line ≡ false →
    (start : List (List ℕ)) (p : List PersistenceStep) → Represents start p v → Represents start (Clean h line ∷ p) w
kept_stands v w h line lines shown dirty marked d start p s =
    stands_from start (Clean h line ∷ p) (told_of v) w (record { lines = lines; shown = shown; dirty = dirty; marked = marked })
    (holds_idle_clean start p h line (told_of v) d (holds_from start p v s))

none_marked : (n h l : ℕ) → has l (slice_index_or (replicate n []) h []) ≡ false
none_marked zero h l = refl
none_marked (suc n) zero l = refl
none_marked (suc n) (suc h) l = none_marked n h l

-- a cache just made represents its medium and no step
pub new_stands : (capacity harts : ℕ) (lines : List (List ℕ)) → Represents lines [] (started capacity harts lines)
new_stands capacity harts lines = record {
  count = refl;
  each = λ l b. record {
    medium = refl;
    shown = ap (λ (x : List (List ℕ)). line_at x l) (shown_empty (length lines) lines);
    dirty = refl;
    pends = λ h. none_marked 8 h l;
  };
}

-- the medium is the image of what was written back
pub leaves_back : (start : List (List ℕ)) (p : List PersistenceStep) (v : PmView) → Represents start p v →
    v.lines ≡ image start (λ l. (write_back_state l p).count) p
leaves_back start p v s =
    image_from_lines start (λ l. written_back l p) p v.lines s.count (λ l b. (s.each l b).medium)
    ∙ image_same start (λ l. written_back l p) (λ l. (write_back_state l p).count) p (λ l. sym (back_count l p))

-- and so the image of a cut
pub leaves_cut : (start : List (List ℕ)) (p : List PersistenceStep) (v : PmView) → Represents start p v → IsCutImage start p v.lines
leaves_cut start p v s =
    let e : v.lines ≡ image start (λ l. written_back l p) p = image_from_lines start (λ l. written_back l p) p v.lines s.count (λ l b. (s.each l b).medium) in
    rw e (written_back_image start p)

-- what loads find is the flat memory
pub memory_flat : (start : List (List ℕ)) (p : List PersistenceStep) (v : PmView) → Represents start p v → memory_of v ≡ memory_after start p
memory_flat start p v s =
    image_from_lines start (λ l. stores l p) p (memory_of v) (length_shown v.cache.copies v.lines ∙ s.count) (λ l b. (s.each l b).shown)
    ∙ image_memory start p
