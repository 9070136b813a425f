use Rattle.std.proofs.Common.{◌≡◌, drop}
use Rattle.schedule_states.specs.HeldLines.{number_of}
use Rattle.schedule_states.proofs.held_lines.state_of.Given as goal

abbrev pub invariant-loop-one : goal.invariant-loop-one
invariant-loop-one l = number_of l.held l.line ≡ number_of (drop l.one-index l.held) l.line
