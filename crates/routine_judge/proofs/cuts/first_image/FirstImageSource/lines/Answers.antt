use Rattle.std.proofs.Common.{List, ℕ, subst}
use Rattle.line_memory.specs.Lines.{IsMedium}
use Rattle.routine_judge.proofs.Boxing.{first_medium}
use Rattle.routine_judge.proofs.cuts.first_image.FirstImageSource.lines.Goals as goal

pub returns-clause-whole : goal.returns-clause-whole
returns-clause-whole c = subst (λ (image : List (List ℕ)). IsMedium image) c.self.view_is (first_medium c.self.inside.images.now c.lines.ensures.whole)
