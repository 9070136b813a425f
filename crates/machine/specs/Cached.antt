-- The cache behind persistent memory: what requests make of it, and of all that it represents.
-- Source: RISC-V Cache Management Operations 1.0, chapter 2; that cbo.inval acts as cbo.flush is this project's own choice.
use Rattle.std.specs.Prelude.{◌≡◌, ℕ, zero, List, [], ◌∷◌, nat_le, if◌then◌else◌}
use Rattle.line_memory.specs.declared.TheConstants.{PERSISTENT_BASE}
use Rattle.store_trace.specs.Schedule.{without_evictions}
use Rattle.store_trace.specs.declared.crash_model.step.PersistenceStep.{PersistenceStep}
use Rattle.clean_fence.specs.Rules.{PmView, after_clean, after_evict, after_fence, after_flush, after_load, after_store, started}
use Rattle.clean_fence.specs.Represents.{Represents}
use Rattle.isa_table.specs.declared.instruction.CacheOp.{CacheOp}
use Rattle.isa_table.specs.declared.instruction.CacheOp.TheVariants as ops
use Rattle.hart.specs.Memory.{amo_result}
use Rattle.hart.specs.declared.need.Request.{Request}
use Rattle.hart.specs.declared.need.Request.TheVariants.{Load, Store, Lr, Sc, Amo, Cbo, Fence}
use Rattle.hart.specs.declared.need.Reply.{Reply}
use Rattle.hart.specs.declared.need.Reply.TheVariants.{Value, Done}
use Rattle.machine.specs.declared.shared_memory.history.Entry.{Entry}
use Rattle.machine.specs.declared.shared_memory.history.Entry.TheVariants.{Asked, Evicted}
use Rattle.machine.specs.Replies.{line_of, offset_of}

-- the cache after a load from an address, and after a store to it: one of text or data leaves it as it is
abbrev pub after_load_at : ℕ → PmView → PmView
after_load_at address cache = if nat_le PERSISTENT_BASE address then after_load (line_of address) cache else cache

abbrev pub after_store_at : ℕ → ℕ → ℕ → PmView → PmView
after_store_at address width value cache =
    if nat_le PERSISTENT_BASE address then after_store (line_of address) (offset_of address) width value cache else cache

-- after a hart's cache-block operation on a line
abbrev pub after_operation : ℕ → CacheOp → ℕ → PmView → PmView
after_operation h ops.Clean line cache = after_clean h line cache
after_operation h ops.Flush line cache = after_flush h line cache
after_operation h ops.Inval line cache = after_flush h line cache

abbrev pub after_operation_at : ℕ → CacheOp → ℕ → PmView → PmView
after_operation_at h op address cache =
    if nat_le PERSISTENT_BASE address then after_operation h op (line_of address) cache else cache

-- after a request of hart h, by the reply to it: an LR loads, an atomic operation loads and stores, and an SC that failed
-- leaves the cache as it is
abbrev pub cache_after : ℕ → Request → Reply → PmView → PmView
cache_after h (Load a w) (Value value) cache = after_load_at a cache
cache_after h (Store a w v) Done cache = after_store_at a w v cache
cache_after h (Lr a w) (Value value) cache = after_load_at a cache
cache_after h (Sc a w v) (Value zero) cache = after_store_at a w v cache
cache_after h (Amo op a w operand) (Value old) cache = after_store_at a w (amo_result op w old operand) (after_load_at a cache)
cache_after h (Cbo op a) Done cache = after_operation_at h op a cache
cache_after h Fence Done cache = after_fence h cache
cache_after h request reply cache = cache

-- the one cache that a history leaves, whose newest entry is first: each of its requests and evictions, by the rules, from
-- an empty cache of this capacity for eight harts over the lines at the start
abbrev pub cache_left : ℕ → List (List ℕ) → List Entry → PmView
cache_left capacity start [] = started capacity 8 start
cache_left capacity start (Asked h request reply ∷ before) = cache_after h request reply (cache_left capacity start before)
cache_left capacity start (Evicted line ∷ before) = after_evict line (cache_left capacity start before)

-- the medium behind that cache, which a power cut then leaves
abbrev pub medium_left : ℕ → List (List ℕ) → List Entry → List (List ℕ)
medium_left capacity start entries = (cache_left capacity start entries).lines

-- It represents steps which are these ones but for evictions, wherever those came.
pub record RepresentsEvicting (start : List (List ℕ)) (p : List PersistenceStep) (cache : PmView) : Type 0 where
  pub steps : List PersistenceStep
  pub others : without_evictions steps ≡ p
  pub represents : Represents start steps cache
