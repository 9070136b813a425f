use Rattle.std.proofs.Common.{◌≡◌, string_bytes, take}
use Rattle.arguments.specs.Codes.{lines, texts_of_families}
use Rattle.arguments.proofs.codes.showing.lines_of.Given as goal

abbrev pub invariant-loop-rows : goal.invariant-loop-rows
invariant-loop-rows l = string_bytes l.text ≡ lines (texts_of_families (take l.rows-index l.families))
