use Rattle.nova_log.proofs.Keeping.{below_named}
use Rattle.nova_log.proofs.kept.LogReading.keep.Goals as goal

pub returns-clause-below : goal.returns-clause-below
returns-clause-below g c = λ kept. below_named _ _ _ _ c.lines.ensures.count c.deref.ensures.value (c.are_fixed-self.ensures.below kept)
