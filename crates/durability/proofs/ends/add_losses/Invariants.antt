use Rattle.std.proofs.Common.{◌≡◌, ◌++◌, take}
use Rattle.std.specs.Prelude.{map}
use Rattle.durability.proofs.Endings.{loss_of}
use Rattle.durability.proofs.ends.add_losses.Given as goal

abbrev pub invariant-loop-one : goal.invariant-loop-one
invariant-loop-one l = l.told.items ≡ l.fn.told.items ++ map (loss_of l.ended) (take l.one-index l.lost)
