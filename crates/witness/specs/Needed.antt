-- Which evictions a cut needs.
use Rattle.std.specs.Prelude.{ℕ, ◌==◌, List, if◌then◌else◌}
use Rattle.store_trace.specs.Cut.{number_in}
use Rattle.store_trace.specs.WrittenBack.{written_back}
use Rattle.store_trace.specs.declared.crash_model.step.PersistenceStep.{PersistenceStep}

-- The store, by its number, behind which a line has to be evicted after these steps, which evict nothing: its store of the
-- cut's number, or none, 0, where so many of its stores are written back by themselves.
abbrev pub needed : List (ℕ × ℕ) → List PersistenceStep → ℕ → ℕ
needed cut p line = if written_back line p == number_in cut line then 0 else number_in cut line

-- the same of an entry of a cut
abbrev pub needed_entry : List PersistenceStep → ℕ × ℕ → ℕ × ℕ
needed_entry p entry = (entry.0, if written_back entry.0 p == entry.1 then 0 else entry.1)
