use Rattle.std.proofs.Common.{◌≡◌}
use Rattle.command_line.specs.Requests.{raised_below}
use Rattle.command_line.specs.Traces.{name_in}
use Rattle.command_line.proofs.requesting.raised.Given as goal

abbrev pub invariant-loop-line : goal.invariant-loop-line
invariant-loop-line l = l.entries.items ≡ raised_below (name_in l.events) l.wanted l.line
