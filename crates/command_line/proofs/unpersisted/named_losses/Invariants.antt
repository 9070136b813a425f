use Rattle.std.proofs.Common.{◌≡◌, map, take}
use Rattle.command_line.specs.Persisting.{named_loss}
use Rattle.command_line.specs.Traces.{name_in}
use Rattle.command_line.proofs.unpersisted.named_losses.Given as goal

abbrev pub invariant-loop-lost : goal.invariant-loop-lost
invariant-loop-lost l = l.named.items ≡ map (named_loss (name_in l.opened)) (take l.lost-index l.losses)
