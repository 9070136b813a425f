-- A cache over its medium represents a start and a list of persistence steps, the newest first: the steps of its calls,
-- with an eviction for each line that had to leave for another.
use Rattle.std.specs.Prelude.{◌≡◌, ℕ, ◌<◌, Bool, true, List, [], ◌++◌, length, map}
use Rattle.index_list.specs.Lists.{has}
use Rattle.line_memory.specs.Lines.{line_at}
use Rattle.lru_cache.specs.Cache as lru
use Rattle.store_trace.specs.Image.{line_after}
use Rattle.store_trace.specs.Stores.{stores}
use Rattle.store_trace.specs.WrittenBack.{written_back, is_dirty, is_pending}
use Rattle.store_trace.specs.declared.crash_model.step.PersistenceStep.{PersistenceStep}
use Rattle.store_trace.specs.declared.crash_model.step.PersistenceStep.TheVariants.{Evict}
use Rattle.clean_fence.specs.Rules.{PmView, HasRoom, SameSizes, memory_of}

-- what there is of one line: its bytes in the medium and as loads find them, whether it is dirty, and for which harts it pends
pub record LineView : Type 0 where
  pub medium : List ℕ
  pub shown : List ℕ
  pub dirty : Bool
  pub pends : ℕ → Bool

abbrev pub line_of : PmView → ℕ → LineView
line_of v l = record {
  medium = line_at v.lines l;
  shown = line_at (memory_of v) l;
  dirty = lru.is_dirty v.cache l;
  pends = λ h. lru.is_marked v.cache h l;
}

-- Line l, from its bytes at the start: the medium has its stores up to its last write-back, and loads find all of them.
-- It is dirty where the two differ in number, and pends for the harts whose clean of it came after a store that wasn't
-- written back since.
pub record RepresentsLine (start : List ℕ) (l : ℕ) (p : List PersistenceStep) (x : LineView) : Type 0 where
  pub medium : x.medium ≡ line_after start l (written_back l p) p
  pub shown : x.shown ≡ line_after start l (stores l p) p
  pub dirty : x.dirty ≡ is_dirty l p
  pub pends : (h : ℕ) → x.pends h ≡ is_pending l h p

pub record Represents (start : List (List ℕ)) (p : List PersistenceStep) (v : PmView) : Type 0 where
  pub count : length v.lines ≡ length start
  pub each : (l : ℕ) → l < length start → RepresentsLine (line_at start l) l p (line_of v l)

-- It represents these steps and has room for all the lines `touched`, with no others in it. Loads and stores of these lines
-- force no eviction, so the steps can be those of its calls alone.
pub record RepresentsUnforced (start : List (List ℕ)) (touched : List ℕ) (p : List PersistenceStep) (v : PmView) : Type 0 where
  pub represents : Represents start p v
  pub room : HasRoom touched v

-- each of these lines is among the others
pub record AreAmong (lines others : List ℕ) : Type 0 where
  pub each : (line : ℕ) → has line lines ≡ true → has line others ≡ true

-- What calls make of all that a cache represents: the steps `made`, the newest first, are made after evictions of the lines
-- `forced`, which have to leave for the lines used. A cache with room for all the lines that are used still has it, and none is
-- forced to leave.
pub record CacheSteps (old new : PmView) (made : List PersistenceStep) (forced used : List ℕ) : Type 0 where
  pub sizes : SameSizes old new
  pub represents : (start : List (List ℕ)) (p : List PersistenceStep) → Represents start p old →
      Represents start (made ++ (map (λ line. Evict line) forced ++ p)) new
  pub room : (lines : List ℕ) → HasRoom lines old → AreAmong used lines → HasRoom lines new
  pub unforced : (lines : List ℕ) → HasRoom lines old → AreAmong used lines → forced ≡ []
