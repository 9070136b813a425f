-- What the medium holds where each line stands after a number of its first stores.
-- Source: Vinter, USENIX ATC 2022 (crash images), with the numbers of the lines free of each other.
use Rattle.std.specs.Prelude.{ℕ, suc, ◌==◌, ◌&&◌, nat_lt, List, [], ◌∷◌, if◌then◌else◌, slice_index_or, slice_set}
use Rattle.word_bits.specs.Bytes.{stored}
use Rattle.store_trace.specs.Stores.{Write, stores}
use Rattle.store_trace.specs.declared.crash_model.step.PersistenceStep.{PersistenceStep}
use Rattle.store_trace.specs.declared.crash_model.step.PersistenceStep.TheVariants.{Store, Clean, Fence, Evict}

-- the bytes of a line after some writes, the first of the list first
abbrev pub applied : List ℕ → List Write → List ℕ
applied bytes [] = bytes
applied bytes (w ∷ ws) = applied (stored bytes w.offset w.width w.value) ws

-- the bytes of line l after its first k stores, over its starting bytes
abbrev pub line_after : List ℕ → ℕ → ℕ → List PersistenceStep → List ℕ
line_after start l k [] = start
line_after start l k (Store m offset width value ∷ p) =
    if (m == l) && nat_lt (stores l p) k
    then stored (line_after start l k p) offset width value
    else line_after start l k p
line_after start l k (Clean h m ∷ p) = line_after start l k p
line_after start l k (Fence h ∷ p) = line_after start l k p
line_after start l k (Evict m ∷ p) = line_after start l k p

-- the same for all lines from number i on, line l after its first `k l` stores
abbrev pub lines_after : ℕ → List (List ℕ) → (ℕ → ℕ) → List PersistenceStep → List (List ℕ)
lines_after i [] k p = []
lines_after i (line ∷ lines) k p = line_after line i (k i) p ∷ lines_after (suc i) lines k p

-- the image over the starting lines in which each line l stands after its first `k l` stores
abbrev pub image : List (List ℕ) → (ℕ → ℕ) → List PersistenceStep → List (List ℕ)
image start k p = lines_after 0 start k p

-- what loads see: every store has been made, in order, in a flat memory of lines
abbrev pub memory_after : List (List ℕ) → List PersistenceStep → List (List ℕ)
memory_after start [] = start
memory_after start (Store m offset width value ∷ p) =
    slice_set (memory_after start p) m (stored (slice_index_or (memory_after start p) m []) offset width value)
memory_after start (Clean h m ∷ p) = memory_after start p
memory_after start (Fence h ∷ p) = memory_after start p
memory_after start (Evict m ∷ p) = memory_after start p
