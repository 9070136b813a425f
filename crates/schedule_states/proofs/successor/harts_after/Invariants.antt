use Rattle.std.proofs.Common.{◌≡◌, length}
use Rattle.schedule_states.proofs.Changing.{AreGivenUp}
use Rattle.schedule_states.proofs.successor.harts_after.Given as goal

abbrev pub invariant-loop-at : goal.invariant-loop-at
invariant-loop-at l = (length l.after.items ≡ length l.harts) × AreGivenUp l.request l.reply l.harts l.at l.after.items
