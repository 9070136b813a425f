use Rattle.std.proofs.Common.{◌≡◌, length}
use Rattle.recovery.proofs.Holding.{AreLeft}
use Rattle.recovery.proofs.overlay.held.Held.set_back.Given as goal

abbrev pub invariant-loop-at : goal.invariant-loop-at
invariant-loop-at l = (length l.self-inside.copies.items ≡ length l.fn.self) × AreLeft l.self-inside.copies.items l.self-inside.touched.items l.at
