-- What is written back is a cut.
use Rattle.std.proofs.Common.{ℕ, List}
use Rattle.store_trace.proofs.Bounds.{floor_le_written_back, written_back_le_stores}
use Rattle.store_trace.proofs.Lines.{cut_image}
use Rattle.store_trace.specs.Cut.{IsWithin, IsCutImage}
use Rattle.store_trace.specs.Image.{image}
use Rattle.store_trace.specs.WrittenBack.{written_back}
use Rattle.store_trace.specs.declared.crash_model.step.PersistenceStep.{PersistenceStep}

pub written_back_within : (p : List PersistenceStep) → IsWithin p (λ l. written_back l p)
written_back_within p = record { low = λ l. floor_le_written_back l p; high = λ l. written_back_le_stores l p }

pub written_back_image : (start : List (List ℕ)) (p : List PersistenceStep) →
    IsCutImage start p (image start (λ l. written_back l p) p)
written_back_image start p = cut_image start p (λ l. written_back l p) (written_back_within p)
