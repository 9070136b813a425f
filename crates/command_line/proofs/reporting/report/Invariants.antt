use Rattle.std.proofs.Common.{◌≡◌, string_bytes}
use Rattle.command_line.proofs.Loops.{harts_below}
use Rattle.command_line.proofs.reporting.report.Given as goal

abbrev pub invariant-loop-hart : goal.invariant-loop-hart
invariant-loop-hart l = string_bytes l.text ≡ harts_below l.harts l.hart
