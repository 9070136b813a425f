use Rattle.std.proofs.Common.{◌*◌}
use Rattle.machine.specs.Decoded.{AreMixed}
use Rattle.machine.proofs.text_copy.decode_changed.Given as goal

abbrev pub invariant-loop-line : goal.invariant-loop-line
invariant-loop-line l = AreMixed l.text l.before (16 * l.line) l.decoded
