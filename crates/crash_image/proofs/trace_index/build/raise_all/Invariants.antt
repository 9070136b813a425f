use Rattle.std.proofs.Common.{◌≡◌, ℕ, List, length}
use Rattle.store_trace.specs.declared.crash_model.step.PersistenceStep.{PersistenceStep}
use Rattle.crash_image.specs.Lines.{AreLines}
use Rattle.crash_image.specs.Pendings.{IsHartPending, IsRaising}
use Rattle.crash_image.proofs.trace_index.build.raise_all.Given as goal

abbrev pub invariant-loop-clean : goal.invariant-loop-clean
invariant-loop-clean l =
    (length l.lines ≡ length l.initial.lines) × ((start : List (List ℕ)) (past : ℕ → List PersistenceStep) (hart : ℕ) →
    IsHartPending (length start) (past l.event) hart l.cleans →
    AreLines start past l.event l.initial.lines →
    IsRaising start past l.event hart l.cleans l.clean-index l.lines)
