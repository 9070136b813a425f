use Rattle.std.proofs.Common.{◌≡◌, string_bytes}
use Rattle.command_line.specs.Requests.{changed_below}
use Rattle.command_line.specs.Traces.{name_in}
use Rattle.command_line.proofs.requesting.changed.Given as goal

abbrev pub invariant-loop-line : goal.invariant-loop-line
invariant-loop-line l = string_bytes l.text ≡ changed_below (name_in l.events) l.wanted l.line
