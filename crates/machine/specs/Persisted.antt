-- What a history does to persistent memory: its persistence steps, and the lines that it loads and stores.
-- Source: Vinter, USENIX ATC 2022 (the trace of stores, flushes and fences); RISC-V Cache Management Operations 1.0.
use Rattle.std.specs.Prelude.{ℕ, zero, List, [], ◌∷◌, nat_le, if◌then◌else◌, flat_map}
use Rattle.line_memory.specs.declared.TheConstants.{PERSISTENT_BASE}
use Rattle.store_trace.specs.declared.crash_model.step.PersistenceStep.{PersistenceStep}
use Rattle.store_trace.specs.declared.crash_model.step.PersistenceStep.TheVariants as step
use Rattle.store_trace.specs.History.{history}
use Rattle.hart.specs.declared.need.Request.{Request}
use Rattle.hart.specs.declared.need.Request.TheVariants.{Load, Store, Lr, Sc, Amo}
use Rattle.hart.specs.declared.need.Reply.{Reply}
use Rattle.hart.specs.declared.need.Reply.TheVariants.{Value, Done}
use Rattle.machine.specs.declared.shared_memory.history.Entry.{Entry}
use Rattle.machine.specs.declared.shared_memory.history.Entry.TheVariants.{Asked, Evicted}
use Rattle.machine.specs.Replies.{events_of, line_of}

-- the persistence steps of an entry: those of its events, or the eviction
abbrev pub persisted_by : Entry → List PersistenceStep
persisted_by (Asked h request reply) = history (events_of h request reply)
persisted_by (Evicted line) = step.Evict line ∷ []

-- the persistence steps of a history, the newest first
abbrev pub persisted : List Entry → List PersistenceStep
persisted entries = flat_map persisted_by entries

-- the line that an access to an address uses, if it is one of persistent memory
abbrev pub line_used : ℕ → List ℕ
line_used address = if nat_le PERSISTENT_BASE address then line_of address ∷ [] else []

-- the lines that a request loads or stores, by the reply to it: one that met a fault uses none, nor does an SC that failed
abbrev pub lines_used : Request → Reply → List ℕ
lines_used (Load address width) (Value value) = line_used address
lines_used (Store address width value) Done = line_used address
lines_used (Lr address width) (Value value) = line_used address
lines_used (Sc address width value) (Value zero) = line_used address
lines_used (Amo op address width operand) (Value old) = line_used address
lines_used request reply = []

abbrev pub touched_by : Entry → List ℕ
touched_by (Asked h request reply) = lines_used request reply
touched_by (Evicted line) = []

-- the lines of persistent memory that a history loads or stores
abbrev pub touched : List Entry → List ℕ
touched entries = flat_map touched_by entries
