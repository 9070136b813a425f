-- The rules of a write-back cache with cleans and fences: what each call makes of the cache and of its medium.
-- Source: RISC-V Cache Management Operations 1.0, chapter 2 (cbo.clean, cbo.flush); that a fence completes the cleans
-- of its own hart alone, and that a line flushed leaves with its write-back, are this model's own rules.
use Rattle.std.specs.Prelude.{◌≡◌, ℕ, ◌≤◌, true, if◌then◌else◌, Option, List, [], ◌∷◌, length}
use Rattle.index_list.specs.Lists.{has}
use Rattle.word_bits.specs.Bytes.{stored}
use Rattle.line_memory.specs.Lines.{line_at}
use Rattle.lru_cache.specs.Cache.{CacheView, IsCache, IsOver, is_dirty, is_leaving, is_resident, shown, written_back, written_by_forced}
use Rattle.lru_cache.specs.Cache as lru
use Rattle.lru_cache.specs.Order.{marked_in}

-- how many harts there are; the cache, in whose list of marks h the lines stand that pend for hart h; and the medium's lines
pub record PmView : Type 0 where
  pub harts : ℕ
  pub cache : CacheView
  pub lines : List (List ℕ)

-- the memory that loads find, by lines
abbrev pub memory_of : PmView → List (List ℕ)
memory_of v = shown v.cache v.lines

-- the line that a load from `line`, or a store to it, evicts first: none where `line` is resident, or the cache isn't full
abbrev pub victim : PmView → ℕ → Option ℕ
victim v line = lru.victim v.cache line

-- a cache just made over a medium: nothing is resident
abbrev pub started : ℕ → ℕ → List (List ℕ) → PmView
started capacity harts lines = record { harts = harts; cache = lru.empty_cache capacity (length lines); lines = lines }

-- a load from the line brings it in, and its victim leaves before that
abbrev pub after_load : ℕ → PmView → PmView
after_load line v = record v {
  cache = lru.after_load line v.cache v.lines;
  lines = written_by_forced (victim v line) v.cache v.lines;
}

-- a store brings its line in, writes the low `width` bytes of the value there, and makes the line dirty
abbrev pub after_store : ℕ → ℕ → ℕ → ℕ → PmView → PmView
after_store line offset width value v = record v {
  cache = lru.after_change line (stored (line_at (memory_of v) line) offset width value) (lru.after_load line v.cache v.lines);
  lines = written_by_forced (victim v line) v.cache v.lines;
}

-- a clean of a dirty line pends for the hart; one of another line does nothing
abbrev pub after_clean : ℕ → ℕ → PmView → PmView
after_clean h line v = if is_dirty v.cache line then record v { cache = lru.after_mark h line v.cache } else v

-- a flush of a dirty line pends for the hart, and the line leaves with its write-back; one that isn't dirty leaves at once
abbrev pub after_flush : ℕ → ℕ → PmView → PmView
after_flush h line v =
    if is_dirty v.cache line
    then record v { cache = lru.after_mark_leaving line (lru.after_mark h line v.cache) }
    else record v { cache = lru.after_drop line v.cache }

-- an eviction writes the line back, which ends all that pends of it, and the line leaves
abbrev pub after_evict : ℕ → PmView → PmView
after_evict line v = record v { cache = lru.after_eviction line v.cache; lines = written_back line v.cache v.lines }

-- a fence writes a line back, which ends all that pends of it; a line that was flushed leaves then
abbrev pub after_completion : ℕ → PmView → PmView
after_completion line v =
    if is_leaving v.cache line
    then after_evict line v
    else record v { cache = lru.after_write_back line v.cache; lines = written_back line v.cache v.lines }

-- these lines, one after another
abbrev pub after_completions : List ℕ → PmView → PmView
after_completions [] v = v
after_completions (line ∷ ls) v = after_completions ls (after_completion line v)

-- a fence writes back the lines that pend for its hart, in the order in which they came to pend
abbrev pub after_fence : ℕ → PmView → PmView
after_fence h v = after_completions (marked_in v.cache.orders h) v

-- what holds of every such cache: it can stand over its lines, and there are at most eight harts
pub record IsSound (v : PmView) : Type 0 where
  pub cache : IsCache v.cache
  pub over : IsOver v.cache v.lines
  pub harts : v.harts ≤ 8

-- there are as many harts, places in the cache, and lines as before
pub record SameSizes (old new : PmView) : Type 0 where
  pub harts : new.harts ≡ old.harts
  pub capacity : new.cache.capacity ≡ old.cache.capacity
  pub lines : length new.lines ≡ length old.lines

-- the cache has room for all of these lines at once, and no others are resident
pub record HasRoom (touched : List ℕ) (v : PmView) : Type 0 where
  pub room : length touched ≤ v.cache.capacity
  pub among : (line : ℕ) → is_resident v.cache line ≡ true → has line touched ≡ true
