use Rattle.std.proofs.Common.{ℕ, subst}
use Rattle.line_memory.specs.Lines.{IsMedium}
use Rattle.schedule_states.proofs.Imaging.{image_is_medium}
use Rattle.schedule_states.specs.Images.{image_in}
use Rattle.schedule_states.specs.Memories.{MemoryView}
use Rattle.schedule_states.proofs.state_images.StateImages.are_media.Goals as goal

pub returns : goal.returns
returns c = subst (λ (m : MemoryView). (k : ℕ → ℕ) → IsMedium (image_in m k)) c.self.view_is
    (λ k. image_is_medium c.self.inside.memory k c.self.invariant.0 c.self.invariant.1)
