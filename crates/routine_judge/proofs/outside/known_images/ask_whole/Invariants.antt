use Rattle.std.proofs.Common.{◌≡◌, ◌++◌, map, take}
use Rattle.image_check.specs.Verdicts.{whole_line}
use Rattle.routine_judge.proofs.outside.known_images.ask_whole.Given as goal

abbrev pub invariant-loop-line : goal.invariant-loop-line
invariant-loop-line l = l.asked.items ≡ l.fn.asked.items ++ map whole_line (take l.line-index l.lines)
