use Rattle.std.proofs.Common.{◌≡◌, take}
use Rattle.command_line.specs.ImageFiles.{with_lines}
use Rattle.command_line.specs.Traces.{name_in}
use Rattle.command_line.proofs.image.put_lines.Given as goal

abbrev pub invariant-loop-line : goal.invariant-loop-line
invariant-loop-line l = l.bytes ≡ with_lines (name_in l.events) l.initial.bytes (take l.line-index l.lines)
