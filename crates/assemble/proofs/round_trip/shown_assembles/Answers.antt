use Rattle.assemble.proofs.Assembled.{assembled}
use Rattle.assemble.proofs.round_trip.shown_assembles.Goals as goal

pub returns : goal.returns
returns c = assembled
