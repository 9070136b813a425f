use Rattle.witness.proofs.Existing.{cut_explained}
use Rattle.witness.proofs.laws.every_cut_has_a_schedule.Goals as goal

pub returns : goal.returns
returns c = cut_explained
