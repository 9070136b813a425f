use Rattle.text.proofs.Upwards.{UpwardBelow}
use Rattle.text.proofs.image_name.reader.is_upward.Given as goal

abbrev pub invariant-loop-at : goal.invariant-loop-at
invariant-loop-at l = UpwardBelow l.entries l.at
