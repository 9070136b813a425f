use Rattle.std.proofs.Common.{◌≡◌, take}
use Rattle.routine_judge.proofs.cuts.image_box.all_copied.Given as goal

abbrev pub invariant-loop-each : goal.invariant-loop-each
invariant-loop-each l = l.copies.items ≡ take l.each-index l.table
