-- The cleans that wait for a fence of their hart, while the events are read.
use Rattle.std.specs.Prelude.{◌≡◌, ℕ, ◌<◌, ◌≤◌, List, length, max, slice_index_or}
use Rattle.store_trace.specs.Floor.{cleaned, floor}
use Rattle.store_trace.specs.declared.crash_model.step.PersistenceStep.{PersistenceStep}
use Rattle.line_memory.specs.Lines.{line_at}
use Rattle.std.specs.Prelude.{All}
use Rattle.crash_image.specs.Lines.{AreLines, IsLine, LineView, last_floor}
use Rattle.crash_image.specs.declared.trace_index.build.Clean.{Clean}
use Rattle.std.specs.declared.alloc.Global.{Global}
use Rattle.std.specs.declared.vec.Vec.{Vec}

-- These cleans of a hart are made, and what it cleaned besides them is below the floor already.
pub record IsHartPending (count : ℕ) (p : List PersistenceStep) (hart : ℕ) (cleans : List Clean) : Type 0 where
  pub there : All (λ clean. clean.line < count) cleans
  pub made : All (λ clean. clean.stores ≤ cleaned clean.line hart p) cleans
  pub rest : (l bound : ℕ) → ((i : ℕ) (d : Clean) → i < length cleans → (slice_index_or cleans i d).line ≡ l → (slice_index_or cleans i d).stores ≤ bound) →
      floor l p ≤ bound → cleaned l hart p ≤ bound

-- those of all harts
pub record ArePending (count : ℕ) (p : List PersistenceStep) (pending : List (Vec Clean Global)) : Type 0 where
  pub harts : length pending ≡ 8
  pub each : (hart : ℕ) (d : Vec Clean Global) → hart < 8 → IsHartPending count p hart (slice_index_or pending hart d).items

-- the index after the first n events
pub record AreIndexed (start : List (List ℕ)) (past : ℕ → List PersistenceStep) (n : ℕ) (lines : List LineView) (pending : List (Vec Clean Global)) : Type 0 where
  pub lines_are : AreLines start past n lines
  pub pending_are : ArePending (length start) (past n) pending

-- while event n, a fence of this hart, raises the floors: its first `read` cleans are met
pub record IsRaising (start : List (List ℕ)) (past : ℕ → List PersistenceStep) (n hart : ℕ) (cleans : List Clean) (read : ℕ) (lines : List LineView) : Type 0 where
  pub size : length start ≤ length lines
  pub each : (l : ℕ) (d : LineView) → l < length start → IsLine (line_at start l) l past n (slice_index_or lines l d)
  pub low : (l : ℕ) (d : LineView) → l < length start → floor l (past n) ≤ last_floor (slice_index_or lines l d).raises
  pub high : (l : ℕ) (d : LineView) → l < length start →
      last_floor (slice_index_or lines l d).raises ≤ max (floor l (past n)) (cleaned l hart (past n))
  pub met : (i : ℕ) (c : Clean) (d : LineView) → i < read →
      (slice_index_or cleans i c).stores ≤ last_floor (slice_index_or lines (slice_index_or cleans i c).line d).raises
