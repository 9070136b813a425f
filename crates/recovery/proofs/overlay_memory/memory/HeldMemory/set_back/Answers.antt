use Rattle.std.proofs.Common.{List, ℕ, ap, sym, ◌∙◌}
use Rattle.line_memory.specs.declared.TheConstants.{DATA_SIZE, TEXT_SIZE}
use Rattle.line_memory.specs.Lines.{line_bytes}
use Rattle.recovery.specs.Memory.{HeldView}
use Rattle.recovery.proofs.Placing.{at_start, region_kept}
use Rattle.recovery.proofs.overlay_memory.memory.HeldMemory.set_back.Goals as goal

pub returns-clause-start : goal.returns-clause-start
returns-clause-start c =
    at_start _ _
    (region_kept _ _ _ TEXT_SIZE c.self.invariant.text c.set_back.ensures.kept)
    (region_kept _ _ _ DATA_SIZE c.self.invariant.bytes c.set_back-2.ensures.kept)
    (c.set_back.ensures.start ∙ ap (λ (lines : List (List ℕ)). line_bytes lines) (sym c.set_back.ensures.kept.start))
    (c.set_back-2.ensures.start ∙ ap (λ (lines : List (List ℕ)). line_bytes lines) (sym c.set_back-2.ensures.kept.start))
    (rw (ap (λ (h : HeldView). h.image) c.self.view_is) at c.set_back-3.ensures.fresh)
